-- The line of a sled, as it is put together.
use Rattle.std.proofs.Common.{◌≡◌, ◌==◌, ◌||◌, ℕ, Bool, true, false, List, [], ◌∷◌, ◌++◌, sym, ap, ◌∙◌, append_assoc, refl, if◌then◌else◌}
use Rattle.std.specs.Prelude.{codes, decimal}
use Rattle.std.specs.Fmt.{digits}
use Rattle.std.specs.List.{flat_map, list_any}
use Rattle.std.proofs.lemmas.List.{append-nil}
use Rattle.map_names.specs.Spelling.{single_byte}
use Rattle.program_map.specs.declared.numbering.NumberedSled.{NumberedSled}
use Rattle.program_map.specs.MapText.{map_kind_word, map_truth_word, named_line}

-- the parts of a line, one after the other
line_parts : (a b c d e f g h z m id x y k t q v : List ℕ)
    → a ++ (id ++ (b ++ (z ++ (x ++ (c ++ (z ++ (y ++ (d ++ (k ++ (e ++ (t ++ (f ++ (m ++ (q ++ (m ++ (g ++ (v ++ h)))))))))))))))))
    ≡ a ++ id ++ b ++ (z ++ x) ++ c ++ (z ++ y) ++ d ++ k ++ e ++ t ++ f ++ (m ++ q ++ m) ++ g ++ v ++ h
line_parts a b c d e f g h z m id x y k t q v = sym (simp append_assoc)

-- the line of a sled, with these numbers, words and name
abbrev line_with : NumberedSled → (id version : ℕ) → (kind truth name : List ℕ) → List ℕ
line_with numbered id version k t n =
    codes "- { id: " ++ decimal id ++ codes ", address: " ++ (codes "0x" ++ digits 16 true numbered.sled.address) ++ codes ", function: "
    ++ (codes "0x" ++ digits 16 true numbered.sled.function) ++ codes ", kind: " ++ k ++ codes ", always-instrument: " ++ t
    ++ codes ", function-name: " ++ (39 ∷ flat_map single_byte n ++ 39 ∷ []) ++ codes ", version: " ++ decimal version ++ codes " }\n"

pub pieces_line : (numbered : NumberedSled) (id version : ℕ) (kind truth name : List ℕ) → id ≡ numbered.id
    → version ≡ numbered.sled.version → kind ≡ map_kind_word numbered.sled.kind → truth ≡ map_truth_word numbered.sled.always
    → codes "- { id: " ++ (decimal id ++ (codes ", address: 0x" ++ (digits 16 true numbered.sled.address ++ (codes ", function: 0x"
    ++ (digits 16 true numbered.sled.function ++ (codes ", kind: " ++ (kind ++ (codes ", always-instrument: "
    ++ (truth ++ (codes ", function-name: '" ++ (flat_map single_byte name ++ (codes "', version: " ++ (decimal version ++ (codes " }\n" ++ []))))))))))))))
    ≡ named_line name numbered
pieces_line numbered id version kind truth name i v p q =
    line_parts (codes "- { id: ") (codes ", address: ") (codes ", function: ") (codes ", kind: ") (codes ", always-instrument: ") (codes ", function-name: ")
    (codes ", version: ") (codes " }\n") (codes "0x") (39 ∷ []) (decimal id) (digits 16 true numbered.sled.address) (digits 16 true numbered.sled.function) kind truth
    (flat_map single_byte name) (decimal version)
    ∙ with_words id version kind truth i v p q
  where
    with_words : (id version : ℕ) (k t : List ℕ) → id ≡ numbered.id → version ≡ numbered.sled.version → k ≡ map_kind_word numbered.sled.kind
        → t ≡ map_truth_word numbered.sled.always
        → line_with numbered id version k t name
        ≡ line_with numbered numbered.id numbered.sled.version (map_kind_word numbered.sled.kind) (map_truth_word numbered.sled.always) name
    with_words id version k t i v p q =
        ap (λ w. line_with numbered w version k t name) i ∙ ap (λ w. line_with numbered numbered.id w k t name) v
        ∙ ap (λ w. line_with numbered numbered.id numbered.sled.version w t name) p
        ∙ ap (λ w. line_with numbered numbered.id numbered.sled.version (map_kind_word numbered.sled.kind) w name) q

-- a name without marks is spelled as it is
pub no_marks : (name : List ℕ) → list_any (λ b. b == 39) name ≡ false → flat_map single_byte name ≡ name
no_marks [] none = refl
no_marks (b ∷ name) none = by_byte (b == 39) refl none (no_marks name)
  where
    by_byte : (here : Bool) → (b == 39) ≡ here → (here || list_any (λ b. b == 39) name) ≡ false
        → (list_any (λ b. b == 39) name ≡ false → flat_map single_byte name ≡ name) → flat_map single_byte (b ∷ name) ≡ b ∷ name
    by_byte true here rest again = absurd cc
    by_byte false here rest again =
        ap (λ (t : Bool). (if t then 39 ∷ 39 ∷ [] else b ∷ []) ++ flat_map single_byte name) here ∙ ap (λ (t : List ℕ). b ∷ t) (again rest)

-- four texts, one after the other
pub four_texts : (a b c d : List ℕ) → a ++ (b ++ (c ++ (d ++ []))) ≡ a ++ b ++ c ++ d
four_texts a b c d = ap (λ t. a ++ (b ++ (c ++ t))) (append-nil d) ∙ sym (simp append_assoc)
