-- Sections, with one more behind them.
use Rattle.std.proofs.Common.{◌≡◌, ◌+◌, ◌*◌, ◌++◌, ◌∷◌, [], ℕ, List, arith}
use Rattle.std.proofs.lemmas.List.FromFn.{map-range_with_len_more}
use Rattle.elf_file.specs.Sections.{section_at, sections_at}

pub sections_more : (file : List ℕ) (at count : ℕ)
    → sections_at file (record { at = at; count = count + 1 }) ≡ sections_at file (record { at = at; count = count }) ++ section_at file (at + 64 * count) ∷ []
sections_more file at count = map-range_with_len_more (λ (i : ℕ). section_at file (at + 64 * i)) 0 count count (omega arith)
