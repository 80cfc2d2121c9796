-- Plain runs of one thread reach the same end.
use Rattle.std.proofs.Common.{◌≡◌, ℕ, zero, suc, ◌+◌, ◌==◌, Bool, true, false, List, [], ◌∷◌, Some, sym, ap, ◌∙◌, subst, inl, inr, MatchBool}
use Rattle.std.specs.Prelude.{slice_get}
use Rattle.xray_image.specs.declared.sled.Sled.{Sled}
use Rattle.xray_image.specs.declared.unit.Unit.{Unit}
use Rattle.xray_image.specs.declared.unit.What.{What}
use Rattle.xray_image.specs.declared.unit.What.TheVariants as whats
use Rattle.xray_image.specs.Program.{Program}
use Rattle.machine_step.specs.declared.limits.Limits.{Limits}
use Rattle.machine_step.specs.declared.end.End.{End}
use Rattle.machine_step.specs.declared.end.End.TheVariants as ends
use Rattle.machine_step.specs.PlainStep.{State, Next, Goes, Ends, Passing, passing_at, after_passing, UnitStep, PlainStep, RunsTo}
use Rattle.machine_step.proofs.OneUnit.{OneUnit}

-- what a passing of a sled does, or the end before it
abbrev pub Passes : Program → Limits → ℕ → State → ℕ → Bool → List Passing → Next → Type 0
Passes program limits thread s k spent made next =
    MatchBool spent
    ((made ≡ []) × (next ≡ Ends ends.Passings s))
    ((sled : Sled) × (slice_get program.sleds k ≡ Some sled)
    × (made ≡ passing_at limits thread s k sled ∷ [])
    × (next ≡ after_passing limits (record s { passings = s.passings + 1 }) sled.kind))

same_passing : (program : Program) (limits : Limits) (thread : ℕ) (s : State) (k : ℕ) (spent : Bool)
    (made made' : List Passing) (next next' : Next)
    → Passes program limits thread s k spent made next → Passes program limits thread s k spent made' next'
    → (made ≡ made') × (next ≡ next')
same_passing program limits thread s k true made made' next next' (m, n) (m', n') = (cc, cc)
same_passing program limits thread s k false made made' next next' (sled, found, m, n) (sled', found', m', n') =
    let same : sled ≡ sled' = cc in (
      m ∙ (ap (λ x. passing_at limits thread s k x ∷ []) same ∙ sym m'),
      n ∙ (ap (λ (x : Sled). after_passing limits (record s { passings = s.passings + 1 }) x.kind) same ∙ sym n'),
    )

same_unit_step : (program : Program) (limits : Limits) (thread : ℕ) (s : State) (what : What)
    (made made' : List Passing) (next next' : Next)
    → UnitStep program limits thread s what made next → UnitStep program limits thread s what made' next'
    → (made ≡ made') × (next ≡ next')
same_unit_step program limits thread s (whats.Plain instr) made made' next next' (m, n) (m', n') = (m ∙ sym m', n ∙ sym n')
same_unit_step program limits thread s (whats.Sled k) made made' next next' step step' =
    same_passing program limits thread s k (s.passings == limits.passings) made made' next next' step step'
same_unit_step program limits thread s whats.Pad made made' next next' (m, n) (m', n') = (m ∙ sym m', n ∙ sym n')

-- if no two units begin at one address, a thread's step depends only on its state
pub same_step : (program : Program) → OneUnit program → (limits : Limits) (thread : ℕ) (s : State)
    (made made' : List Passing) (next next' : Next)
    → PlainStep program limits thread s made next → PlainStep program limits thread s made' next'
    → (made ≡ made') × (next ≡ next')
same_step program one limits thread s made made' next next' (inl (none, m, n)) (inl (none', m', n')) = (m ∙ sym m', n ∙ sym n')
same_step program one limits thread s made made' next next' (inl (none, m, n)) (inr (u, is, at, step)) = absurd (none u is at)
same_step program one limits thread s made made' next next' (inr (u, is, at, step)) (inl (none, m, n)) = absurd (none u is at)
same_step program one limits thread s made made' next next' (inr (u, is, at, step)) (inr (v, is', at', step')) =
    let same = one.same u v is is' (at ∙ sym at') in
    same_unit_step program limits thread s v.what made made' next next'
    (subst (λ (w : Unit). UnitStep program limits thread s w.what made next) same step) step'

-- what two runs say in common
pub record SameEnd (passed passed' : List Passing) (end end' : End) (last last' : State) : Type 0 where
  pub passings : passed ≡ passed'
  pub ends : end ≡ end'
  pub lasts : last ≡ last'

pub same_run : (program : Program) → OneUnit program → (limits : Limits) (thread n n' : ℕ) (s : State)
    (passed passed' : List Passing) (end end' : End) (last last' : State)
    → RunsTo program limits thread n s passed end last → RunsTo program limits thread n' s passed' end' last'
    → SameEnd passed passed' end end' last last'
same_run program one limits thread zero zero s passed passed' end end' last last' step step' =
    let same = same_step program one limits thread s passed passed' (Ends end last) (Ends end' last') step step' in
    record { passings = same.0; ends = cc; lasts = cc }
same_run program one limits thread zero (suc n') s passed passed' end end' last last' step (made, later, mid, step', rest, joined) =
    let same = same_step program one limits thread s passed made (Ends end last) (Goes mid) step step' in
    absurd cc
same_run program one limits thread (suc n) zero s passed passed' end end' last last' (made, later, mid, step, rest, joined) step' =
    let same = same_step program one limits thread s made passed' (Goes mid) (Ends end' last') step step' in
    absurd cc
same_run program one limits thread (suc n) (suc n') s passed passed' end end' last last' (made, later, mid, step, rest, joined) (made', later', mid', step', rest', joined') =
    let same = same_step program one limits thread s made made' (Goes mid) (Goes mid') step step' in
    let mids : mid ≡ mid' = cc in
    let others = same_run program one limits thread n n' mid' later later' end end' last last'
    (subst (λ (t : State). RunsTo program limits thread n t later end last) mids rest) rest' in
    record { passings = cc (same.0, others.passings); ends = others.ends; lasts = others.lasts }
