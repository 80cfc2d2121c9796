-- The lines of a sled map, as they are put together.
use Rattle.std.proofs.Common.{◌≡◌, ◌≤◌, ℕ, zero, suc, List, [], ◌∷◌, ◌++◌, take, drop, length, Some, sym, ap, ◌∙◌, append_assoc}
use Rattle.std.specs.Prelude.{slice_get, codes, decimal}
use Rattle.std.specs.Option.{unwrap_or}
use Rattle.std.specs.List.{flat_map}
use Rattle.std.proofs.lemmas.List.{append-nil, take-append-drop, take_all}
use Rattle.std.proofs.lemmas.Option.{same_Some}
use Rattle.std.proofs.lemmas.Grind.{flat_map-append}
use Rattle.xray_io.specs.Piece.{hexadecimal}
use Rattle.xray_image.specs.declared.sled.Sled.{Sled}
use Rattle.xray_image.specs.Program.{Program}
use Rattle.xray_image.specs.Ids.{name_of}
use Rattle.xray_image.specs.Extract.{sled_line, kind_text, truth_text}

-- the lines so far, and one more
pub lines_more : {X : Type 0} (line : X → List ℕ) (xs : List X) (i : ℕ) (x : X) → slice_get xs i ≡ Some x → flat_map line (take i xs) ++ line x ≡ flat_map line (take (suc i) xs)
lines_more line [] i x found = absurd cc
lines_more line (y ∷ xs) zero x found = ap line (sym (same_Some _ _ found)) ∙ sym (append-nil (line y))
lines_more line (y ∷ xs) (suc i) x found = append_assoc (line y) (flat_map line (take i xs)) (line x) ∙ ap (λ t. line y ++ t) (lines_more line xs i x found)

-- the lines so far, and what follows them
pub lines_split : {X : Type 0} (line : X → List ℕ) (xs : List X) (head tail : List ℕ) (i : ℕ)
    → (head ++ flat_map line (take i xs)) ++ (flat_map line (drop i xs) ++ tail) ≡ head ++ flat_map line xs ++ tail
lines_split line xs head tail i =
    let whole : flat_map line (take i xs) ++ flat_map line (drop i xs) ≡ flat_map line xs =
    sym (flat_map-append line (take i xs) (drop i xs)) ∙ ap (flat_map line) (take-append-drop i xs) in
    append_assoc head (flat_map line (take i xs)) (flat_map line (drop i xs) ++ tail)
    ∙ ap (λ t. head ++ t) (sym (append_assoc (flat_map line (take i xs)) (flat_map line (drop i xs)) tail) ∙ ap (λ t. t ++ tail) whole)
    ∙ sym (append_assoc head (flat_map line xs) tail)

-- the parts of a line, one after the other
line_parts : (a b c d e f g h i j k l m : List ℕ)
    → a ++ (b ++ (c ++ (d ++ (e ++ (f ++ (g ++ (h ++ (i ++ (j ++ (k ++ (l ++ m))))))))))) ≡ a ++ b ++ c ++ d ++ e ++ f ++ g ++ h ++ i ++ j ++ k ++ l ++ m
line_parts a b c d e f g h i j k l m = sym (simp append_assoc)

-- the line of a sled, as pieces print it
pub pieces_line : (program : Program) (sled : Sled) (id : ℕ) (kind truth name : List ℕ) → id ≡ sled.id → kind ≡ kind_text sled.kind → truth ≡ truth_text sled.always → name ≡ unwrap_or (name_of program sled.id) []
    → codes "- { id: " ++ (decimal id ++ (codes ", address: 0x" ++ (hexadecimal sled.address 16 ++ (codes ", function: 0x" ++ (hexadecimal sled.function 16 ++ (codes ", kind: "
    ++ (kind ++ (codes ", always-instrument: " ++ (truth ++ (codes ", function-name: '" ++ (name ++ (codes "' }\n" ++ []))))))))))))
    ≡ sled_line program sled
pieces_line program sled id kind truth name same_id same_kind same_truth same_name =
    rw (same_id, same_kind, same_truth, same_name)
    (line_parts (codes "- { id: ") (decimal sled.id) (codes ", address: ") (codes "0x" ++ hexadecimal sled.address 16) (codes ", function: ") (codes "0x" ++ hexadecimal sled.function 16)
    (codes ", kind: ") (kind_text sled.kind) (codes ", always-instrument: ") (truth_text sled.always) (codes ", function-name: '") (unwrap_or (name_of program sled.id) []) (codes "' }\n"))

-- all lines, and what follows them
pub lines_all : {X : Type 0} (line : X → List ℕ) (xs : List X) (head tail : List ℕ) (i : ℕ) → length xs ≤ i
    → head ++ flat_map line (take i xs) ++ tail ≡ head ++ flat_map line xs ++ tail
lines_all line xs head tail i past = ap (λ ys. head ++ flat_map line ys ++ tail) (take_all i xs past)
