use Rattle.std.proofs.Common.{◌≡◌, ◌+◌, drop, length}
use Rattle.std.specs.List.{position_or_len}
use Rattle.std.specs.Str.{bytes_eq}
use Rattle.asm_text.specs.Layout.{functions}
use Rattle.asm_text.specs.private.Laying.{placed_in}
use Rattle.asm_text.proofs.write.function_number.Given as goal

abbrev pub invariant-loop-line : goal.invariant-loop-line
invariant-loop-line l = record {
  number : position_or_len (λ f. bytes_eq f.name l.name) (functions 0 (placed_in l.lines)) ≡ l.number + position_or_len (λ f. bytes_eq f.name l.name) (functions 0 (placed_in (drop l.line-index l.lines)));
  counted : length (functions 0 (placed_in l.lines)) ≡ l.number + length (functions 0 (placed_in (drop l.line-index l.lines)));
}
