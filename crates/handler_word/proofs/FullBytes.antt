-- Bytes whose two marks are the same.
use Rattle.std.proofs.Common.{◌≡◌, ◌<◌, ◌≤◌, ◌+◌, ◌*◌, ◌/◌, ◌%◌, ◌^◌, ℕ, zero, suc, List, ◌∷◌, ◌++◌, drop, get_or, replicate, refl, sym, ap, ◌∙◌, arith, append_assoc}
use Rattle.std.specs.Prelude.{slice_get, Some}
use Rattle.std.proofs.lemmas.List.{replicate-append-replicate}
use Rattle.handler_word.specs.declared.mark.Mark.{Mark}
use Rattle.handler_word.specs.private.Bits.{mark_of, bits_of, marks_from}
use Rattle.handler_word.proofs.MarkBits.{mark_there}
use Rattle.handler_word.proofs.MarkRuns.{mark_in_front}

-- both places of such a byte have the bits of the mark
bits_everywhere : (bits place : ℕ) → bits < 16 → place < 2 → bits * 17 / 2 ^ (place * 4) % 16 ≡ bits
bits_everywhere bits zero small below = omega arith
bits_everywhere bits (suc zero) small below = omega arith
bits_everywhere bits (suc (suc place)) small below = absurd (omega arith)

-- so both of its marks are that mark
alike_there : (bytes : List ℕ) (count n bits i : ℕ) → n % 2 ≡ 0 → n + 2 ≤ count → bits < 16 → get_or bytes (n / 2) 0 ≡ bits * 17
    → n ≤ i → i < n + 2 → slice_get (marks_from bytes 0 count) i ≡ Some (mark_of bits)
alike_there bytes count n bits i first room small is from to =
    let byte : (0 + i) / 2 ≡ n / 2 = omega arith in
    let read : bits_of bytes (0 + i) ≡ bits = rw (byte, is) (bits_everywhere bits ((0 + i) % 2) small (omega arith)) in
    mark_there bytes 0 count i (omega arith) ∙ ap (λ (b : ℕ). Some (mark_of b)) read

-- the marks from its first one on
pub two_there : (bytes : List ℕ) (count n bits : ℕ) → n % 2 ≡ 0 → n + 2 ≤ count → bits < 16 → get_or bytes (n / 2) 0 ≡ bits * 17
    → drop n (marks_from bytes 0 count) ≡ mark_of bits ∷ mark_of bits ∷ drop (n + 2) (marks_from bytes 0 count)
two_there bytes count n bits first room small is =
    let marks = marks_from bytes 0 count in
    let mark = mark_of bits in
    let one = mark_in_front marks n mark (alike_there bytes count n bits n first room small is (omega arith) (omega arith)) in
    let two = mark_in_front marks (n + 1) mark (alike_there bytes count n bits (n + 1) first room small is (omega arith) (omega arith)) in
    let following : n + 1 + 1 ≡ n + 2 = omega arith in
    one ∙ ap (λ (rest : List Mark). mark ∷ rest) (two ∙ ap (λ (k : ℕ). mark ∷ drop k marks) following)

-- the marks of several such bytes, one after the other
pub bytes_there : (bytes : List ℕ) (count n bits more : ℕ) → n % 2 ≡ 0 → n + more * 2 ≤ count → bits < 16
    → ((i : ℕ) → n / 2 ≤ i → i < n / 2 + more → get_or bytes i 0 ≡ bits * 17)
    → drop n (marks_from bytes 0 count) ≡ replicate (more * 2) (mark_of bits) ++ drop (n + more * 2) (marks_from bytes 0 count)
bytes_there bytes count n bits zero first room small alike = let none : n + 0 * 2 ≡ n = omega arith in rw none refl
bytes_there bytes count n bits (suc more) first room small alike =
    let marks = marks_from bytes 0 count in
    let mark = mark_of bits in
    let half : (n + 2) / 2 ≡ n / 2 + 1 = omega arith in
    let rest = bytes_there bytes count (n + 2) bits more (omega arith) (omega arith) small
    (λ i from to. alike i (omega (arith, half)) (omega (arith, half))) in
    let following : (n + 2) + more * 2 ≡ n + suc more * 2 = omega arith in
    let size : suc more * 2 ≡ 2 + more * 2 = omega arith in
    let all : replicate (suc more * 2) mark ≡ replicate 2 mark ++ replicate (more * 2) mark =
    ap (λ (k : ℕ). replicate k mark) size ∙ sym (replicate-append-replicate 2 (more * 2) mark) in
    two_there bytes count n bits first (omega arith) small (alike (n / 2) (omega arith) (omega arith))
    ∙ (ap (λ (l : List Mark). mark ∷ mark ∷ l) (rest ∙ ap (λ (k : ℕ). replicate (more * 2) mark ++ drop k marks) following)
    ∙ ap (λ (l : List Mark). l ++ drop (n + suc more * 2) marks) (sym all))

-- two runs of the same mark are one
pub runs_joined : (mark : Mark) (count more : ℕ) (rest : List Mark) → replicate count mark ++ (replicate more mark ++ rest) ≡ replicate (count + more) mark ++ rest
runs_joined mark count more rest =
    sym (append_assoc (replicate count mark) (replicate more mark) rest) ∙ ap (λ (front : List Mark). front ++ rest) (replicate-append-replicate count more mark)
