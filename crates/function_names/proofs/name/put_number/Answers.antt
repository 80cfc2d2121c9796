use Rattle.std.proofs.Common.{◌≡◌, ◌≤◌, ◌<◌, ◌∙◌, ◌+◌, ◌-◌, ◌++◌, ◌∷◌, ℕ, List, ap, arith, refl, drop, length, length-take}
use Rattle.std.specs.Fmt.{decimal}
use Rattle.std.proofs.lemmas.Grind.{drop-set_at}
use Rattle.std.proofs.lemmas.List.{append-nil, drop_all}
use Rattle.function_names.proofs.Digits.{few_digits}
use Rattle.function_names.proofs.name.put_number.Goals as goal

pub write_digits-start-requires : goal.write_digits-start-requires
write_digits-start-requires c =
    (omega (arith, few_digits c.from.result (omega (arith, c.ranges.id, c.from.ensures))), omega (arith, c.told-word))

pub overflow_sub-start : goal.overflow_sub-start
overflow_sub-start c =
    omega (arith, c.write_digits-start.ensures.start, few_digits c.from.result (omega (arith, c.ranges.id, c.from.ensures)))

pub returns : goal.returns
returns c =
    let start = c.write_digits-start.result in
    let word = c.write_digits-start.new.buf in
    let short : length (decimal c.from.result) ≤ 10 = few_digits c.from.result (omega (arith, c.ranges.id, c.from.ensures)) in
    let ends : start + length (decimal c.from.result) ≡ 12 = c.write_digits-start.ensures.start in
    let next : start - 1 + 1 ≡ start = omega (arith, short, ends) in
    let within : start - 1 < length word =
    omega (arith, short, ends, c.told-word, length-take start word, length-take start c.args.word.now, ap {B = ℕ} length c.write_digits-start.ensures.before) in
    let digits : drop start word ≡ decimal c.args.id =
    c.write_digits-start.ensures.written
    ∙ (ap (λ (rest : List ℕ). decimal c.from.result ++ rest) (drop_all 12 c.args.word.now (omega (arith, c.told-word)))
    ∙ (append-nil (decimal c.from.result) ∙ ap decimal c.from.ensures)) in record {
      within = (omega (arith, short, ends), omega (arith, ends));
      text = drop-set_at word (start - 1) (start - 1) 35 refl within
          ∙ ap (λ (rest : List ℕ). 35 ∷ rest) (ap (λ (k : ℕ). drop k word) next ∙ digits);
    }
