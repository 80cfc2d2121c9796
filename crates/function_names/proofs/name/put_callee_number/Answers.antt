use Rattle.std.proofs.Common.{◌≡◌, ◌≤◌, ◌∙◌, ◌+◌, ◌++◌, ◌∷◌, ℕ, List, ap, arith, drop, length, length-take}
use Rattle.std.specs.Fmt.{decimal}
use Rattle.function_names.proofs.Digits.{few_digits, two_before}
use Rattle.function_names.proofs.name.put_callee_number.Goals as goal

pub write_digits-start-requires : goal.write_digits-start-requires
write_digits-start-requires c = (
  omega (arith, c.requires.0, few_digits c.from.result (omega (arith, c.ranges.id, c.from.ensures))),
  omega (arith, c.requires.1, c.told-words),
)

pub overflow_sub-start : goal.overflow_sub-start
overflow_sub-start c =
    omega (arith, c.requires.0, c.write_digits-start.ensures.start, few_digits c.from.result (omega (arith, c.ranges.id, c.from.ensures)))

pub returns : goal.returns
returns c =
    let place = c.write_digits-start.result in
    let words = c.write_digits-start.new.buf in
    let few : length (decimal c.from.result) ≤ 10 = few_digits c.from.result (omega (arith, c.ranges.id, c.from.ensures)) in
    let ends : place + length (decimal c.from.result) ≡ c.args.end = c.write_digits-start.ensures.start in
    let long : place ≤ length words =
    omega (arith, ends, c.requires.1, c.told-words, length-take place words, length-take place c.args.words.now, ap {B = ℕ} length c.write_digits-start.ensures.before) in
    record {
      within = (omega (arith, few, ends, c.requires.0), omega (arith, ends, c.requires.1));
      text = two_before words place 59 35 (omega (arith, few, ends, c.requires.0)) long
          ∙ ap (λ (rest : List ℕ). 59 ∷ 35 ∷ rest) (c.write_digits-start.ensures.written
          ∙ ap (λ (n : ℕ). decimal n ++ drop c.args.end c.args.words.now) c.from.ensures);
    }
