-- Limits with the same fuel and as many passings have the same runs but for the stamps of their passings.
use Rattle.std.proofs.Common.{◌≡◌, ℕ, zero, suc, ◌+◌, ◌==◌, Bool, true, false, if◌then◌else◌, List, [], ◌∷◌, ◌++◌, refl, sym, ap, subst, ◌∙◌, inl, inr}
use Rattle.std.proofs.lemmas.List.{map-append}
use Rattle.xray_image.specs.Program.{IsAccepted, Program}
use Rattle.xray_image.specs.declared.sled.SledKind.{SledKind}
use Rattle.xray_image.specs.declared.sled.SledKind.TheVariants.{Entry, Exit, Tail, Args}
use Rattle.xray_image.specs.declared.unit.What.{What}
use Rattle.xray_image.specs.declared.unit.What.TheVariants as whats
use Rattle.machine_step.specs.declared.end.End.{End}
use Rattle.machine_step.specs.declared.end.End.TheVariants as ends
use Rattle.machine_step.specs.declared.limits.Limits.{Limits}
use Rattle.machine_step.specs.PlainStep.{Ends, Goes, Next, Passing, PlainRun, PlainStep, RunsTo, State, UnitStep, after_passing, fuelled, passing_at, returns}
use Rattle.machine_step.specs.Traced.{sleds_passed}
use Rattle.machine_step.proofs.OneEnd.{Passes, same_run}
use Rattle.machine_step.proofs.OneUnit.{accepted_units}

module _ (program : Program) (limits other : Limits) (fuel : limits.fuel ≡ other.fuel) (passings : limits.passings ≡ other.passings) (thread : ℕ) where
  same_fuel : (s : State) (next : Next) → fuelled limits s next ≡ fuelled other s next
  same_fuel s next = ap (λ f. if s.instructions == f then Ends ends.Fuel s else next) fuel

  same_after : (s : State) (kind : SledKind) → after_passing limits s kind ≡ after_passing other s kind
  same_after s Entry = refl
  same_after s Exit = same_fuel s (returns s s.stack)
  same_after s Tail = refl
  same_after s Args = refl

  -- the same step makes passings of the same sleds
  abbrev Stamped : (List Passing → Type 0) → List Passing → Type 0
  Stamped Makes made = (others : List Passing) × Makes others × (sleds_passed made ≡ sleds_passed others)

  stamped_passing : (s : State) (k : ℕ) (spent : Bool) (made : List Passing) (next : Next) → Passes program limits thread s k spent made next
      → Stamped (λ others. Passes program other thread s k spent others next) made
  stamped_passing s k true made next (none, e) = ([], (refl, e), ap sleds_passed none)
  stamped_passing s k false made next (sled, found, one, e) = (
    passing_at other thread s k sled ∷ [],
    (sled, found, refl, e ∙ same_after (record s { passings = s.passings + 1 }) sled.kind),
    ap sleds_passed one,
  )

  stamped_unit : (s : State) (what : What) (made : List Passing) (next : Next) → UnitStep program limits thread s what made next
      → Stamped (λ others. UnitStep program other thread s what others next) made
  stamped_unit s (whats.Plain instr) made next (none, e) = ([], (refl, e ∙ same_fuel s _), ap sleds_passed none)
  stamped_unit s (whats.Sled k) made next step =
      subst (λ count. Stamped (λ others. Passes program other thread s k (s.passings == count) others next) made) passings
      (stamped_passing s k (s.passings == limits.passings) made next step)
  stamped_unit s whats.Pad made next (none, e) = ([], (refl, e), ap sleds_passed none)

  stamped_step : (s : State) (made : List Passing) (next : Next) → PlainStep program limits thread s made next
      → Stamped (λ others. PlainStep program other thread s others next) made
  stamped_step s made next (inl (far, none, e)) = ([], inl (far, refl, e), ap sleds_passed none)
  stamped_step s made next (inr (u, among, at, step)) =
      let its = stamped_unit s u.what made next step in (its.0, inr (u, among, at, its.1), its.2)

  stamped_run : (n : ℕ) (s : State) (passed : List Passing) (end : End) (last : State) → RunsTo program limits thread n s passed end last
      → Stamped (λ others. RunsTo program other thread n s others end last) passed
  stamped_run zero s passed end last step = stamped_step s passed (Ends end last) step
  stamped_run (suc n) s passed end last (made, later, mid, step, rest, joined) =
      let first = stamped_step s made (Goes mid) step in
      let others = stamped_run n mid later end last rest in
      let of_sled : Passing → ℕ = λ p. p.sled in
      let split : sleds_passed passed ≡ sleds_passed made ++ sleds_passed later = ap sleds_passed joined ∙ map-append of_sled made later in
      let parts : sleds_passed made ++ sleds_passed later ≡ sleds_passed first.0 ++ sleds_passed others.0 = λ i. first.2 i ++ others.2 i in
      (first.0 ++ others.0, (first.0, others.0, mid, first.1, others.1, refl), split ∙ (parts ∙ sym (map-append of_sled first.0 others.0)))

pub runs_alike : (bytes : List ℕ) (program : Program) (limits other : Limits) (thread : ℕ) (passed passed' : List Passing) (end end' : End) (last last' : State)
    → IsAccepted bytes program → limits.fuel ≡ other.fuel → limits.passings ≡ other.passings
    → PlainRun program limits thread passed end last → PlainRun program other thread passed' end' last'
    → (end ≡ end') × (last ≡ last') × (sleds_passed passed ≡ sleds_passed passed')
runs_alike bytes program limits other thread passed passed' end end' last last' a fuel passings (n, run) (n', run') =
    let its = stamped_run program limits other fuel passings thread n _ passed end last run in
    let same = same_run program (accepted_units bytes program a) other thread n n' _ its.0 passed' end end' last last' its.1 run' in
    (same.ends, same.lasts, its.2 ∙ ap sleds_passed same.passings)
