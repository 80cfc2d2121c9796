use Rattle.std.proofs.Common.{◌≡◌, ◌+◌, ◌++◌, ◌∷◌, [], ℕ, List, length, arith, sym, ap, subst, ◌∙◌}
use Rattle.std.proofs.lemmas.Bool.{not-true}
use Rattle.audit_check.specs.private.Turns.{IsTurned, is_odd}
use Rattle.audit_check.proofs.TurnLemmas.{apart_sides, not_false, noted, same_sides, turns}
use Rattle.audit_check.proofs.turns.Turns.note.Goals as goal

pub returns-in_ok-push : goal.returns-in_ok-push
returns-in_ok-push c = λ values last turned place on.
    let places = c.args.self.now.places.items in
    let count : c.len.result ≡ length places = omega arith in
    let new : IsTurned values (last + 1) (places ++ (last + 1) ∷ []) =
    turns values last places turned (λ e. apart_sides c.args.on c.is_odd.result (not-true _ c.if-on-is_odd.true)
    (sym on ∙ (ap values place ∙ (e ∙ sym (c.is_odd.ensures ∙ ap is_odd count))))) in
    subst (λ (l : List ℕ). IsTurned values c.args.place l) (sym c.in_ok-push.ensures.items)
    (subst (λ n. IsTurned values n (places ++ n ∷ [])) (sym place) new)

pub returns-else-on-is_odd : goal.returns-else-on-is_odd
returns-else-on-is_odd c = λ values last turned place on.
    let places = c.args.self.now.places.items in
    let count : c.len.result ≡ length places = omega arith in
    let same = same_sides c.args.on c.is_odd.result (not_false _ c.if-on-is_odd.false) in
    subst (λ n. IsTurned values n places) (sym place)
    (noted values last places turned (sym (ap values place) ∙ (on ∙ (same ∙ (c.is_odd.ensures ∙ ap is_odd count)))))
