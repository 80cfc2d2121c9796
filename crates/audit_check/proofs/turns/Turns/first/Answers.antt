use Rattle.std.proofs.Common.{◌≡◌, ℕ, Some, arith, sym, subst, ◌∙◌}
use Rattle.audit_check.specs.private.Turns.{AreMade, IsLeast, IsMet, is_odd}
use Rattle.audit_check.proofs.TurnLemmas.{apart_sides, at_once, at_turn, past_bound, same_sides, turn_past, turn_read}
use Rattle.audit_check.proofs.turns.Turns.first.Goals.{then-is_odd-on, else-is_odd-on+in_ok-at}
use Rattle.audit_check.proofs.turns.Turns.first.Goals as goal

pub returns-then-at-bound : goal.returns-then-at-bound
returns-then-at-bound c = λ values last turned low.
    let places = c.args.self.now.places.items in
    let made = c.made_at-made.result in
    let are : AreMade places c.args.from made = c.made_at-made.ensures.made values last turned in
    elim c.if-is_odd-on.branch [
      | then-is_odd-on w ↦
          let is : is_odd made ≡ c.args.on = sym c.is_odd.ensures ∙ same_sides c.is_odd.result c.args.on w.if-is_odd-on.true in
          let at : c.if-is_odd-on.at ≡ c.args.from = w.at-is in
          subst (λ n. IsLeast (IsMet values c.args.on c.args.from c.args.bound) (Some n)) (sym at)
          (at_once values last places turned c.args.on c.args.from c.args.bound made low are is (omega (arith, at, c.if-at-bound.true)))
      | else-is_odd-on+in_ok-at w ↦
          let look = w.in_ok-at.ensures.lookup in
          let found = turn_read places w.deref.result.now made w.in_ok-at.field-0.now c.if-is_odd-on.at w.deref.ensures.value (omega (arith, look.0)) look.1 w.at-is in
          at_turn values last places turned c.args.on c.args.from c.args.bound made low are
          (λ e. apart_sides c.is_odd.result c.args.on w.if-is_odd-on.false (c.is_odd.ensures ∙ e)) c.if-is_odd-on.at found c.if-at-bound.true
    ]

pub returns-else-at-bound : goal.returns-else-at-bound
returns-else-at-bound c = λ values last turned low.
    let places = c.args.self.now.places.items in
    let made = c.made_at-made.result in
    let are : AreMade places c.args.from made = c.made_at-made.ensures.made values last turned in
    elim c.if-is_odd-on.branch [
      | then-is_odd-on w ↦
          let at : c.if-is_odd-on.at ≡ c.args.from = w.at-is in
          past_bound values last places turned c.args.on c.args.from c.args.bound made low are (omega (arith, at, c.if-at-bound.false))
      | else-is_odd-on+in_ok-at w ↦
          let look = w.in_ok-at.ensures.lookup in
          let found = turn_read places w.deref.result.now made w.in_ok-at.field-0.now c.if-is_odd-on.at w.deref.ensures.value (omega (arith, look.0)) look.1 w.at-is in
          turn_past values last places turned c.args.on c.args.from c.args.bound made low are
          (λ e. apart_sides c.is_odd.result c.args.on w.if-is_odd-on.false (c.is_odd.ensures ∙ e))
          (λ next is. let same : next ≡ c.if-is_odd-on.at = one next c.if-is_odd-on.at (sym is ∙ found) in omega (arith, same, c.if-at-bound.false))
    ]
  where
    one : (a b : ℕ) → Some a ≡ Some b → a ≡ b
    one a b e = cc
