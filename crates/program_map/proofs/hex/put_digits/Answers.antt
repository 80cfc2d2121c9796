use Rattle.std.proofs.Common.{◌≡◌, ◌-◌, ◌/◌, ◌%◌, ◌∷◌, List, ℕ, true, drop, length, sym, ap, ◌∙◌, arith, rules, length-set, length-drop}
use Rattle.std.specs.Fmt.{digits, digit_glyph}
use Rattle.std.proofs.lemmas.List.{drop_all}
use Rattle.program_map.proofs.HexDigits.{digits_left, left_all, left_last, left_next, shorter, has_digit, drop_put}
use Rattle.program_map.proofs.hex.put_digits.Goals as goal

pub more-init : goal.more-init
more-init c = record {
  size = search rules;
  within = omega arith;
  some = omega arith;
  short = c.ranges.n.fits;
  left = ap (λ (t : List ℕ). digits_left 16 c.args.n t) (drop_all 16 c.args.buffer.now (omega arith)) ∙ left_all c.args.n;
}

pub returns-then-rest-eq0-clause-digits : goal.returns-then-rest-eq0-clause-digits
returns-then-rest-eq0-clause-digits c =
    let kept = c.more.invariant in
    drop_put c.more.buffer c.more.start c.digit.result kept.some (omega arith)
    ∙ ap (λ (d : ℕ). d ∷ drop c.more.start c.more.buffer) c.digit.ensures
    ∙ sym (left_last c.more.start c.more.rest _ kept.some (omega arith)) ∙ kept.left

pub returns-then-rest-eq0-clause-start : goal.returns-then-rest-eq0-clause-start
returns-then-rest-eq0-clause-start c =
    let kept = c.more.invariant in
    let is : digits 16 true c.args.n ≡ digit_glyph true (c.more.rest % 16) ∷ drop c.more.start c.more.buffer =
    sym kept.left ∙ left_last c.more.start c.more.rest _ kept.some (omega arith) in
    omega (arith, ap length is, length-drop c.more.start c.more.buffer)

pub more-preserved : goal.more-preserved
more-preserved c =
    let kept = c.more.invariant in
    let fewer = shorter c.more.start c.more.rest kept.short kept.some in
    record {
      size = omega (arith, length-set c.more.buffer (c.more.start - 1) c.digit.result);
      within = omega arith;
      some = has_digit (c.more.start - 1) (c.more.rest / 16) fewer (omega arith);
      short = fewer;
      left = ap (λ (t : List ℕ). digits_left (c.more.start - 1) (c.more.rest / 16) t)
          (drop_put c.more.buffer c.more.start c.digit.result kept.some (omega arith)
          ∙ ap (λ (d : ℕ). d ∷ drop c.more.start c.more.buffer) c.digit.ensures)
          ∙ sym (left_next c.more.start c.more.rest _ kept.some (omega arith)) ∙ kept.left;
    }
