-- Plain runs of one thread are in the same state before the same passing.
use Rattle.std.proofs.Common.{◌≡◌, ℕ, zero, suc, List, [], ◌∷◌, ◌++◌, length, sym, ap, ◌∙◌, subst, length-append, arith}
use Rattle.xray_image.specs.Program.{Program}
use Rattle.machine_step.specs.declared.limits.Limits.{Limits}
use Rattle.machine_step.specs.PlainStep.{State, Next, Goes, Passing, PlainStep, opening}
use Rattle.machine_step.specs.Course.{Reaches, ComesTo}
use Rattle.machine_step.proofs.OneUnit.{OneUnit}
use Rattle.machine_step.proofs.OneEnd.{same_step}

-- what two ways to a passing have in common
pub record SameState (passed passed' : List Passing) (s s' : State) : Type 0 where
  pub passings : passed ≡ passed'
  pub states : s ≡ s'

same_way : (program : Program) → OneUnit program → (limits : Limits) (thread n n' : ℕ) (s t t' : State) (passed passed' : List Passing)
    (next next' : Passing) (following after' : Next)
    → Reaches program limits thread n s passed t → PlainStep program limits thread t (next ∷ []) following
    → Reaches program limits thread n' s passed' t' → PlainStep program limits thread t' (next' ∷ []) after'
    → length passed ≡ length passed' → SameState passed passed' t t'
same_way program one limits thread zero zero s t t' passed passed' next next' following after' (none, here) step (none', here') step' count =
    record { passings = none ∙ sym none'; states = here ∙ sym here' }
same_way program one limits thread zero (suc n') s t t' passed passed' next next' following after' (none, here) step (made, later, mid, first, rest, joined) step' count =
    let there = subst (λ (x : State). PlainStep program limits thread x (next ∷ []) following) here step in
    let one_made = (same_step program one limits thread s (next ∷ []) made following (Goes mid) there first).0 in
    absurd (omega (arith, count, ap length none, ap length joined, length-append made later, ap length one_made))
same_way program one limits thread (suc n) zero s t t' passed passed' next next' following after' (made, later, mid, first, rest, joined) step (none', here') step' count =
    let there = subst (λ (x : State). PlainStep program limits thread x (next' ∷ []) after') here' step' in
    let one_made = (same_step program one limits thread s (next' ∷ []) made after' (Goes mid) there first).0 in
    absurd (omega (arith, count, ap length none', ap length joined, length-append made later, ap length one_made))
same_way program one limits thread (suc n) (suc n') s t t' passed passed' next next' following after' (made, later, mid, first, rest, joined) step
    (made', later', mid', first', rest', joined') step' count =
    let same = same_step program one limits thread s made made' (Goes mid) (Goes mid') first first' in
    let mids : mid' ≡ mid = cc in
    let others = same_way program one limits thread n n' mid t t' later later' next next' following after' rest step
    (subst (λ (x : State). Reaches program limits thread n' x later' t') mids rest') step'
    (omega (arith, count, ap length joined, ap length joined', length-append made later, length-append made' later', ap length same.0)) in
    record {
      passings = joined ∙ ap (λ (ps : List Passing). ps ++ later) same.0 ∙ ap (λ (ps : List Passing). made' ++ ps) others.passings ∙ sym joined';
      states = others.states;
    }

pub one_state : (program : Program) → OneUnit program → (limits : Limits) (thread : ℕ) (passed passed' : List Passing) (s s' : State)
    (next next' : Passing) → ComesTo program limits thread passed s next → ComesTo program limits thread passed' s' next'
    → length passed ≡ length passed' → (passed ≡ passed') × (s ≡ s') × (next ≡ next')
one_state program one limits thread passed passed' s s' next next' comes comes' count =
    let same = same_way program one limits thread comes.steps comes'.steps (opening program thread) s s' passed passed' next next'
    comes.following comes'.following comes.reached comes.passes comes'.reached comes'.passes count in
    let there = subst (λ (x : State). PlainStep program limits thread x (next' ∷ []) comes'.following) (sym same.states) comes'.passes in
    let made : next ∷ [] ≡ next' ∷ [] = (same_step program one limits thread s (next ∷ []) (next' ∷ []) comes.following comes'.following comes.passes there).0 in
    (same.passings, same.states, cc)
