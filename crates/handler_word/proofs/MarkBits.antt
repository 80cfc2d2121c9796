-- Marks as bits: what is read from them, and what one more mark changes.
use Rattle.std.proofs.Common.{◌≡◌, ◌≢◌, ◌<◌, ◌+◌, ◌*◌, ◌/◌, ◌%◌, ◌^◌, ℕ, zero, suc, List, [], ◌∷◌, ◌++◌, length, get_or, set, refl, sym, ap, ◌∙◌, inl, inr, arith, add-one, get_or-set_other, get_or-set_same}
use Rattle.std.specs.Prelude.{slice_get, bit_or, Some}
use Rattle.std.proofs.lemmas.Grind.{get_or_default_zero}
use Rattle.std.proofs.lemmas.List.{get_or_append_left, length-set}
use Rattle.std.proofs.lemmas.Bool.Decides.{eqb_tells}
use Rattle.std.proofs.lemmas.Nat.{or_comm, or_shifted}
use Rattle.std.proofs.Math.Seq.{get_or-append_seam}
use Rattle.handler_word.specs.private.Bits.{mark_of, bits_of, marks_from, IsFilledTo}
use Rattle.handler_word.specs.MarkList.{MarkList}

length-marks_from : (bytes : List ℕ) (n count : ℕ) → length (marks_from bytes n count) ≡ count
length-marks_from bytes n zero = refl
length-marks_from bytes n (suc count) = ap suc (length-marks_from bytes (n + 1) count)

-- how many marks are seen, and how many there may be
pub seen_counts : (bytes : List ℕ) (len room : ℕ) (seen : MarkList) → record { items = marks_from bytes 0 len; room = room } ≡ seen → (len ≡ length seen.items) × (room ≡ seen.room)
seen_counts bytes len room seen is =
    (sym (length-marks_from bytes 0 len) ∙ ap (λ (m : MarkList). length m.items) is, ap (λ (m : MarkList). m.room) is)

-- the n-th mark is that of its bits
pub mark_there : (bytes : List ℕ) (n count i : ℕ) → i < count → slice_get (marks_from bytes n count) i ≡ Some (mark_of (bits_of bytes (n + i)))
mark_there bytes n zero i below = absurd (omega arith)
mark_there bytes n (suc count) zero below = let same : n ≡ n + zero = omega arith in ap (λ k. Some (mark_of (bits_of bytes k))) same
mark_there bytes n (suc count) (suc i) below =
    let same : (n + 1) + i ≡ n + suc i = omega arith in
    mark_there bytes (n + 1) count i (omega arith) ∙ ap (λ k. Some (mark_of (bits_of bytes k))) same

-- bytes with equal bits have equal marks
same_marks : (xs ys : List ℕ) (n count : ℕ) → ((i : ℕ) → i < n + count → bits_of xs i ≡ bits_of ys i) → marks_from xs n count ≡ marks_from ys n count
same_marks xs ys n zero same = refl
same_marks xs ys n (suc count) same =
    let first : mark_of (bits_of xs n) ≡ mark_of (bits_of ys n) = ap mark_of (same n (omega arith)) in
    let rest : marks_from xs (n + 1) count ≡ marks_from ys (n + 1) count = same_marks xs ys (n + 1) count (λ i below. same i (omega arith)) in
    cc

-- one more mark
marks_more : (bytes : List ℕ) (n count : ℕ) → marks_from bytes n (suc count) ≡ marks_from bytes n count ++ mark_of (bits_of bytes (n + count)) ∷ []
marks_more bytes n zero = let same : n ≡ n + zero = omega arith in ap (λ k. mark_of (bits_of bytes k) ∷ []) same
marks_more bytes n (suc count) =
    let same : (n + 1) + count ≡ n + suc count = omega arith in
    ap (λ marks. mark_of (bits_of bytes n) ∷ marks) (marks_more bytes (n + 1) count ∙ ap (λ k. marks_from bytes (n + 1) count ++ mark_of (bits_of bytes k) ∷ []) same)

-- if the bits before a number stay, so do the marks before it, and the mark of the number follows them
pub marks_and_one : (old new : List ℕ) (n bits : ℕ) → ((i : ℕ) → i < n → bits_of new i ≡ bits_of old i) → bits_of new n ≡ bits
    → marks_from new 0 (n + 1) ≡ marks_from old 0 n ++ mark_of bits ∷ []
marks_and_one old new n bits kept last =
    let more : marks_from new 0 (suc n) ≡ marks_from new 0 n ++ mark_of (bits_of new (0 + n)) ∷ [] = marks_more new 0 n in
    let none : 0 + n ≡ n = omega arith in
    let same : marks_from new 0 n ≡ marks_from old 0 n = same_marks new old 0 n (λ i below. kept i (omega arith)) in
    rw (add-one, more, none, last, same) refl

-- the bits of a mark fit a byte at each of its two places
shifted_small : (bits place : ℕ) → bits < 16 → place < 2 → bits * 2 ^ (place * 4) < 256
shifted_small bits zero small below = omega arith
shifted_small bits (suc zero) small below = omega arith
shifted_small bits (suc (suc place)) small below = absurd (omega arith)

-- bits put at a place from which on a byte has none
byte_put : (byte bits place : ℕ) → byte < 2 ^ (place * 4) → bits < 16 → place < 2
    → bit_or byte (bits * 2 ^ (place * 4) % 256) ≡ bits * 2 ^ (place * 4) + byte
byte_put byte bits place free small below =
    let whole : bits * 2 ^ (place * 4) % 256 ≡ bits * 2 ^ (place * 4) = omega (arith, shifted_small bits place small below) in
    rw whole (or_comm byte (bits * 2 ^ (place * 4)) ∙ or_shifted bits (place * 4) byte free)

-- bits put into the last byte, after those of its marks
pub put_there : (bytes : List ℕ) (n bits byte : ℕ) → IsFilledTo bytes n → n % 2 ≢ 0 → bits < 16 → byte ≡ get_or bytes (n / 2) byte
    → bit_or byte (bits * 2 ^ (n % 2 * 4) % 256) ≡ bits * 2 ^ (n % 2 * 4) + get_or bytes (n / 2) 0
put_there bytes n bits byte filled begun small is =
    let read : byte ≡ get_or bytes (n / 2) 0 = is ∙ get_or_default_zero bytes (n / 2) byte (omega (arith, filled.count)) in
    rw read (byte_put (get_or bytes (n / 2) 0) bits (n % 2) (filled.free begun) small (omega arith))

-- the bits are read from there
bits_put : (byte bits place : ℕ) → byte < 2 ^ (place * 4) → bits < 16 → place < 2 → (bits * 2 ^ (place * 4) + byte) / 2 ^ (place * 4) % 16 ≡ bits
bits_put byte bits zero free small below = omega arith
bits_put byte bits (suc zero) free small below = omega arith
bits_put byte bits (suc (suc place)) free small below = absurd (omega arith)

-- the place before them keeps its bits
bits_kept : (byte bits place other : ℕ) → other < place → place < 2 → (bits * 2 ^ (place * 4) + byte) / 2 ^ (other * 4) % 16 ≡ byte / 2 ^ (other * 4) % 16
bits_kept byte bits zero other before below = absurd (omega arith)
bits_kept byte bits (suc zero) zero before below = omega arith
bits_kept byte bits (suc zero) (suc other) before below = absurd (omega arith)
bits_kept byte bits (suc (suc place)) other before below = absurd (omega arith)

-- and no bits come after them
bits_below : (byte bits place : ℕ) → byte < 2 ^ (place * 4) → bits < 16 → place < 1 → bits * 2 ^ (place * 4) + byte < 2 ^ ((place + 1) * 4)
bits_below byte bits zero free small below = omega arith
bits_below byte bits (suc place) free small below = absurd (omega arith)

-- one more byte after full ones
pub marks_in_byte : (bytes : List ℕ) (n bits : ℕ) → IsFilledTo bytes n → n % 2 ≡ 0 → bits < 16
    → marks_from (bytes ++ bits ∷ []) 0 (n + 1) ≡ marks_from bytes 0 n ++ mark_of bits ∷ []
marks_in_byte bytes n bits filled full small =
    let here : n / 2 ≡ length bytes = omega (arith, filled.count) in
    let kept : (i : ℕ) → i < n → bits_of (bytes ++ bits ∷ []) i ≡ bits_of bytes i =
    λ i before. ap (λ (byte : ℕ). byte / 2 ^ (i % 2 * 4) % 16) (get_or_append_left bytes (bits ∷ []) 0 (i / 2) (omega (arith, filled.count))) in
    let last : bits_of (bytes ++ bits ∷ []) n ≡ bits =
    rw (here, full, get_or-append_seam bytes bits [] 0) (omega arith) in
    marks_and_one bytes (bytes ++ bits ∷ []) n bits kept last

-- more bits in the last byte, after those of its marks, leave the bits of each earlier mark as they are
bits_before : (bytes : List ℕ) (n bits byte i : ℕ) → n / 2 < length bytes → byte ≡ bits * 2 ^ (n % 2 * 4) + get_or bytes (n / 2) 0 → i < n
    → bits_of (set bytes (n / 2) byte) i ≡ bits_of bytes i
bits_before bytes n bits byte i within is before =
    let read : get_or (set bytes (n / 2) byte) (n / 2) 0 ≡ bits * 2 ^ (n % 2 * 4) + get_or bytes (n / 2) 0 =
    get_or-set_same bytes (n / 2) byte 0 within ∙ is in
    elim (eqb_tells (i / 2) (n / 2)) [
      | inl same ↦ rw (same.1, read) (bits_kept (get_or bytes (n / 2) 0) bits (n % 2) (i % 2) (omega (arith, same.1)) (omega arith))
      | inr other ↦ ap (λ (b : ℕ). b / 2 ^ (i % 2 * 4) % 16) (get_or-set_other bytes (n / 2) (i / 2) byte 0 other.1)
    ]

-- more bits in the last byte
pub marks_in_place : (bytes : List ℕ) (n bits byte : ℕ) → IsFilledTo bytes n → n % 2 ≢ 0 → bits < 16
    → byte ≡ bits * 2 ^ (n % 2 * 4) + get_or bytes (n / 2) 0
    → marks_from (set bytes (n / 2) byte) 0 (n + 1) ≡ marks_from bytes 0 n ++ mark_of bits ∷ []
marks_in_place bytes n bits byte filled begun small is =
    let within : n / 2 < length bytes = omega (arith, filled.count) in
    let read : get_or (set bytes (n / 2) byte) (n / 2) 0 ≡ bits * 2 ^ (n % 2 * 4) + get_or bytes (n / 2) 0 =
    get_or-set_same bytes (n / 2) byte 0 within ∙ is in
    let last : bits_of (set bytes (n / 2) byte) n ≡ bits =
    rw read (bits_put (get_or bytes (n / 2) 0) bits (n % 2) (filled.free begun) small (omega arith)) in
    marks_and_one bytes (set bytes (n / 2) byte) n bits (λ i before. bits_before bytes n bits byte i within is before) last

-- the bytes stay filled with one more mark
pub filled_in_place : (bytes : List ℕ) (n bits byte : ℕ) → IsFilledTo bytes n → n % 2 ≢ 0 → bits < 16
    → byte ≡ bits * 2 ^ (n % 2 * 4) + get_or bytes (n / 2) 0 → IsFilledTo (set bytes (n / 2) byte) (n + 1)
filled_in_place bytes n bits byte filled begun small is =
    let within : n / 2 < length bytes = omega (arith, filled.count) in
    let read : get_or (set bytes (n / 2) byte) (n / 2) 0 ≡ bits * 2 ^ (n % 2 * 4) + get_or bytes (n / 2) 0 =
    get_or-set_same bytes (n / 2) byte 0 within ∙ is in
    record {
      count = length-set bytes (n / 2) byte ∙ (filled.count ∙ omega arith);
      free = λ goes.
          let same : (n + 1) / 2 ≡ n / 2 = omega arith in
          let next : (n + 1) % 2 ≡ n % 2 + 1 = omega arith in
          rw (same, next, read) (bits_below (get_or bytes (n / 2) 0) bits (n % 2) (filled.free begun) small (omega arith));
    }
