-- A script in which nothing waits.
use Rattle.std.proofs.Common.{◌≡◌, ℕ, ◌+◌, Bool, true, false, cond, List, [], ◌∷◌, Option, None, Some, refl, sym, ap, ◌∙◌, arith, length}
use Rattle.std.specs.Prelude.{filter, find, not, option_map}
use Rattle.xray_image.specs.Program.{Program}
use Rattle.patch_script.specs.declared.command.PatchCommand.{PatchCommand}
use Rattle.patch_script.specs.declared.command.PatchCommand.TheVariants as commands
use Rattle.patch_script.specs.declared.micro.Micro.{Micro}
use Rattle.patch_script.specs.Micros.{micros}
use Rattle.patch_script.specs.Plans.{is_waiting, waiting_line}
use Rattle.patch_script.specs.Refusals.{Lines, commands_of}
use Rattle.run_order.specs.FreeScripts.{free_commands, is_free}
use Rattle.run_order.specs.private.Waits.{waits_from, waits_of}
use Rattle.run_order.proofs.FreeMicros.{AllRelease, Releases, free_micros}

-- the first line isn't one at which something waits, and neither is a later one
none_first : (number : ℕ) (command : PatchCommand) (lines : Lines) → waiting_line ((number, command) ∷ lines) ≡ None
    → (is_waiting command ≡ false) × (waiting_line lines ≡ None)
none_first number command lines none = by_waiting (is_waiting command) refl none
  where
    line_of : Bool → Option ℕ
    line_of b = option_map (λ (line : ℕ × PatchCommand). line.0) (cond b (Some (number, command)) (find (λ (line : ℕ × PatchCommand). is_waiting line.1) lines))

    by_waiting : (b : Bool) → is_waiting command ≡ b → line_of (is_waiting command) ≡ None → (b ≡ false) × (waiting_line lines ≡ None)
    by_waiting true is none =
        let some : Some number ≡ None = sym (ap line_of is) ∙ none in
        absurd cc
    by_waiting false is none = (refl, sym (ap line_of is) ∙ none)

all_stay : (lines : Lines) → waiting_line lines ≡ None → free_commands (commands_of lines) ≡ commands_of lines
all_stay [] none = refl
all_stay ((number, command) ∷ lines) none =
    let first = none_first number command lines none in
    ap (λ b. cond (not b) (command ∷ free_commands (commands_of lines)) (free_commands (commands_of lines))) first.0
    ∙ ap (λ (cs : List PatchCommand). command ∷ cs) (all_stay lines first.1)

no_releases : (threads : ℕ) (lines : Lines) → waiting_line lines ≡ None → AllRelease threads (commands_of lines)
no_releases threads [] none = tt
no_releases threads ((number, command) ∷ lines) none =
    let first = none_first number command lines none in
    (no_release command first.0, no_releases threads lines first.1)
  where
    no_release : (command : PatchCommand) → is_waiting command ≡ false → Releases threads command
    no_release (commands.Release thread) free = absurd cc
    no_release _ free = tt

-- the micro steps are those that wait, and those that stay
waits_and_others : (program : Program) (threads place : ℕ) (steps : List Micro)
    → length (waits_from program threads place steps) + length (filter (is_free program threads) steps) ≡ length steps
waits_and_others program threads place [] = omega arith
waits_and_others program threads place (step ∷ steps) =
    by (is_free program threads step) (waits_from program threads (place + 1) steps) (filter (is_free program threads) steps)
    (waits_and_others program threads (place + 1) steps)
  where
    by : (free : Bool) (waits : List ℕ) (stay : List Micro) → length waits + length stay ≡ length steps
        → length (cond free waits (place ∷ waits)) + length (cond free (step ∷ stay) stay) ≡ length (step ∷ steps)
    by true waits stay all = omega (arith, all)
    by false waits stay all = omega (arith, all)

none_of_none : (waits : List ℕ) → length waits ≡ 0 → waits ≡ []
none_of_none [] none = refl
none_of_none (wait ∷ waits) none = absurd (omega (arith, none))

-- micro steps that all stay have no waits
pub stay_waits : (program : Program) (threads place : ℕ) (steps : List Micro) → filter (is_free program threads) steps ≡ steps → waits_from program threads place steps ≡ []
stay_waits program threads place steps stay =
    none_of_none (waits_from program threads place steps) (omega (arith, waits_and_others program threads place steps, ap length stay))

pub no_waits : (program : Program) (threads : ℕ) (lines : Lines) → waiting_line lines ≡ None → waits_of program threads (commands_of lines) ≡ []
no_waits program threads lines none =
    let steps : List Micro = micros program threads (commands_of lines) in
    stay_waits program threads 0 steps
    (sym (free_micros program threads (commands_of lines) (no_releases threads lines none)) ∙ ap (micros program threads) (all_stay lines none))
