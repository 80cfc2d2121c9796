-- The line of a sled, with the name that is known of its function.
use Rattle.std.proofs.Common.{◌≡◌, ◌∙◌, ℕ, List, ap, subst}
use Rattle.std.specs.Prelude.{Option}
use Rattle.xray_io.specs.Calls.{Write}
use Rattle.xray_io.specs.Text.{AddsText}
use Rattle.xray_io.specs.Writes.{Answer}
use Rattle.xray_io.specs.declared.text.Text.{Text}
use Rattle.elf_file.specs.Symbols.{SymbolNames}
use Rattle.program_map.specs.declared.numbering.NumberedSled.{NumberedSled}
use Rattle.program_map.specs.MapText.{line_name_at, map_line, named_line}

pub adds_named : {S : Type 0} {written : S → Option (List ℕ)} {faults : S → ℕ} {along : S → S → List Write → Type 0} {first second : Text S}
    {answer : Answer} → (names : SymbolNames) (name : List ℕ) (sled : NumberedSled) (function : ℕ) → name ≡ line_name_at names function
    → function ≡ sled.sled.function → AddsText written faults along first second (named_line name sled) answer
    → AddsText written faults along first second (map_line names sled) answer
adds_named {written = written} {faults = faults} {along = along} {first = first} {second = second} {answer = answer} names name sled function p q adds =
    let P : List ℕ → Type 0 = λ n. AddsText written faults along first second (named_line n sled) answer in
    subst P (p ∙ ap (line_name_at names) q) adds
