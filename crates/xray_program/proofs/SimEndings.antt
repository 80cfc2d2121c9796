-- `sim`: how its work ends.
use Rattle.std.proofs.Common.{◌≡◌, ℕ, List, Option, Some, None, Err, option_map, refl, codes}
use Rattle.fault_words.specs.Words.{words_text}
use Rattle.machine_step.specs.declared.setup.Setup.{Setup}
use Rattle.patch_script.specs.Plans.{Plan, waiting_line}
use Rattle.step_sim.specs.FaultWords.{sim_words, waits_words}
use Rattle.step_sim.specs.declared.sim_fault.SimFault.{SimFault}
use Rattle.step_sim.specs.declared.sim_fault.SimFault.TheVariants as replaying
use Rattle.step_sim.specs.declared.turns.Turns.{Turns}
use Rattle.xray_image.specs.Program.{Program}
use Rattle.xray_io.specs.Calls.{CallMade, Went}
use Rattle.xray_io.specs.World.{DeskView, SinkView}
use Rattle.xray_program.specs.Doings.{MayLeave}
use Rattle.xray_program.specs.Order.{IsNoCall}
use Rattle.xray_program.specs.Outcomes.{Outcome, Refused}
use Rattle.xray_program.specs.Sim.{left_of_replay}
use Rattle.xray_program.specs.Taking.{RefuseIf}
use Rattle.xray_program.specs.private.Takes.{IsFaultStop}
use Rattle.xray_program.specs.private.Works.{Finishes}
use Rattle.xray_program.specs.declared.stop.Stop.{Stop}
use Rattle.xray_program.specs.declared.stop.Stop.TheVariants as stops

-- a script that waits is refused, and if memory runs out nothing is written
pub sim_refuses : (s t a : List ℕ) (setup : Setup) (program : Program) (plan : Plan) (turns : List Turns) (desk : DeskView) (out : SinkView)
    (Way : List CallMade → Type 0) → Went Way IsNoCall → (fault : SimFault) (stop : Stop) → ((line : ℕ) → fault ≡ replaying.Waits line → waiting_line plan.lines ≡ Some line)
    → IsFaultStop s (codes "script") (sim_words fault) stop → Finishes (MayLeave (left_of_replay s t a setup program plan turns)) desk desk out out Way (Err stop)
sim_refuses s t a setup program plan turns desk out Way none fault stops.BadLine waits is = is
sim_refuses s t a setup program plan turns desk out Way none fault (stops.Unread n) waits is = is
sim_refuses s t a setup program plan turns desk out Way none fault (stops.TooLong n) waits is = is
sim_refuses s t a setup program plan turns desk out Way none (replaying.Waits line) (stops.Refused n kind words) waits (same, of_kind, is) =
    (rw (waits line refl) refused, (refl, refl), none)
  where
    worded : (a b : List ℕ) → Some a ≡ Some b → b ≡ a
    worded a b e = cc

    refused : Refused n.now kind.now (words_text words) ≡ Refused s (codes "script") (waits_words line)
    refused = rw (same, of_kind, worded (waits_words line) (words_text words) is) refl
sim_refuses s t a setup program plan turns desk out Way none replaying.NoMemory (stops.Refused n kind words) waits (same, of_kind, is) = absurd (never is)
  where
    never : None ≡ Some (words_text words) → ⊥
    never e = cc
sim_refuses s t a setup program plan turns desk out Way none fault (stops.Fell words) waits is = absurd is
sim_refuses s t a setup program plan turns desk out Way none fault (stops.Unwritten n) waits is = absurd is
sim_refuses s t a setup program plan turns desk out Way none fault stops.NoMemory waits is = ((refl, refl), none)

-- if nothing waits, what is left comes
pub sim_leaves : (s : List ℕ) (line : Option ℕ) (next : Outcome → Type 0) (outcome : Outcome)
    → ((n : ℕ) → line ≡ Some n → ⊥) → next outcome → RefuseIf (option_map waits_words line) s (codes "script") next outcome
sim_leaves s None next outcome still is = is
sim_leaves s (Some n) next outcome still is = absurd (still n refl)
