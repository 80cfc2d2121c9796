-- The lines of the plain text, as they are put together.
use Rattle.std.proofs.Common.{◌≡◌, ℕ, zero, suc, ◌-◌, take, drop, Bool, false, List, [], ◌∷◌, ◌++◌, length, replicate, ap, sym, ◌∙◌, arith, append_assoc}
use Rattle.std.specs.Prelude.{codes, decimal, slice_index, slice_get, Some}
use Rattle.std.specs.Fmt.{digits}
use Rattle.std.specs.List.{flat_map}
use Rattle.std.proofs.lemmas.List.{append-nil, take-append-drop}
use Rattle.std.proofs.lemmas.Grind.{flat_map-append}
use Rattle.machine_step.specs.declared.end.End.{End}
use Rattle.machine_step.specs.Texts.{counts_text, end_text, registers_line, register_text, printed_registers, flag_text, line_feed}
use Rattle.xray_io.specs.Piece.{hexadecimal}

-- the pieces of the counts' line are its text
pub counts_pieces : (thread : ℕ) (name : List ℕ) (end : End) (n i p instructions passings : ℕ)
    → n ≡ thread → name ≡ end_text end → i ≡ instructions → p ≡ passings
    → codes "thread " ++ (decimal n ++ (codes " " ++ (name ++ (codes " instructions " ++ (decimal i ++ (codes " passings " ++ (decimal p ++ (line_feed ++ []))))))))
    ≡ counts_text thread end instructions passings
counts_pieces thread name end n i p instructions passings same_n same_name same_i same_p =
    rw (same_n, same_name, same_i, same_p) (simp append_assoc)

-- hexadecimal digits without leading zeros
pub unpadded : (n : ℕ) → replicate (0 - length (digits 16 false n)) 48 ++ digits 16 false n ≡ digits 16 false n
unpadded n = let none : 0 - length (digits 16 false n) ≡ 0 = omega arith in rw none

-- the registers so far, and one more, as pieces print it
pub registers_more : (r : List ℕ) (rows : List (List ℕ × ℕ)) (i : ℕ) (name : List ℕ) (n : ℕ) → slice_get rows i ≡ Some (name, n)
    → flat_map (register_text r) (take i rows) ++ (name ++ (hexadecimal (slice_index r n) 0 ++ 32 ∷ []))
    ≡ flat_map (register_text r) (take (suc i) rows)
registers_more r [] i name n found = absurd cc
registers_more r (row ∷ rows) zero name n found =
    let same : row ≡ (name, n) = cc in
    rw (same, unpadded (slice_index r n)) (simp (append-nil, append_assoc))
registers_more r (row ∷ rows) (suc i) name n found =
    append_assoc (register_text r row) (flat_map (register_text r) (take i rows)) (name ++ (hexadecimal (slice_index r n) 0 ++ 32 ∷ []))
    ∙ ap (λ t. register_text r row ++ t) (registers_more r rows i name n found)

-- the registers so far, and what follows them
pub registers_split : (r : List ℕ) (zero_flag : Bool) (i : ℕ)
    → flat_map (register_text r) (take i printed_registers) ++ (flat_map (register_text r) (drop i printed_registers) ++ (flag_text zero_flag ++ line_feed))
    ≡ registers_line r zero_flag
registers_split r zero_flag i =
    let rows : flat_map (register_text r) (take i printed_registers) ++ flat_map (register_text r) (drop i printed_registers) ≡ flat_map (register_text r) printed_registers =
    sym (flat_map-append (register_text r) (take i printed_registers) (drop i printed_registers)) ∙ ap (flat_map (register_text r)) (take-append-drop i printed_registers) in
    sym (append_assoc (flat_map (register_text r) (take i printed_registers)) (flat_map (register_text r) (drop i printed_registers)) (flag_text zero_flag ++ line_feed))
    ∙ (ap (λ t. t ++ (flag_text zero_flag ++ line_feed)) rows ∙ sym (append_assoc (flat_map (register_text r) printed_registers) (flag_text zero_flag) line_feed))

-- all registers, and what follows them
pub registers_all : (r : List ℕ) (zero_flag : Bool) (i : ℕ) (flag : List ℕ) → i ≡ 14 → flag ≡ flag_text zero_flag ++ line_feed
    → flat_map (register_text r) (take i printed_registers) ++ flag ≡ registers_line r zero_flag
registers_all r zero_flag i flag all same =
    let rows : List ℕ = flat_map (register_text r) printed_registers in
    ap (λ n. flat_map (register_text r) (take n printed_registers) ++ flag) all
    ∙ (ap (λ t. rows ++ t) same ∙ sym (append_assoc rows (flag_text zero_flag) line_feed))
