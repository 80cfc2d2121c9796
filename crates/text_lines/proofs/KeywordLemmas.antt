-- Keywords in a table of references.
use Rattle.std.proofs.Common.{◌≡◌, true, false, cond, List, [], ◌∷◌, Some, ℕ, refl, map, Bor}
use Rattle.std.specs.Prelude.{find, option_map}
use Rattle.text_lines.specs.Keywords.{is_word, in_table}

pub find_map : {K : Type 0} (word : List ℕ) (table : List (Bor (List ℕ) × K))
    → in_table (map (λ (e : Bor (List ℕ) × K). (e.0.now, e.1)) table) word ≡ option_map (λ (e : Bor (List ℕ) × K). e.1) (find (λ e. is_word e.0.now word) table)
find_map word [] = refl
find_map {K} word (e ∷ table) =
    elim (is_word e.0.now word) as (λ t. option_map (λ (e : List ℕ × K). e.1) (cond t (Some (e.0.now, e.1)) (find (λ e. is_word e.0 word) (map (λ (e : Bor (List ℕ) × K). (e.0.now, e.1)) table)))
    ≡ option_map (λ (e : Bor (List ℕ) × K). e.1) (cond t (Some e) (find (λ e. is_word e.0.now word) table))) [
      | true ↦ refl
      | false ↦ find_map word table
    ]
