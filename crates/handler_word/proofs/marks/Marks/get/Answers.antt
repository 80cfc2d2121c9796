use Rattle.std.proofs.Common.{◌≡◌, ◌<◌, ◌+◌, ◌/◌, ◌%◌, ◌*◌, ◌^◌, ℕ, length, get_or, Some, sym, ap, ◌∙◌, arith}
use Rattle.std.specs.Prelude.{slice_get}
use Rattle.std.proofs.lemmas.Grind.{get_or_default_zero}
use Rattle.std.proofs.lemmas.Nat.{and_mask}
use Rattle.handler_word.specs.private.Bits.{mark_of, bits_of}
use Rattle.handler_word.specs.MarkList.{MarkList}
use Rattle.handler_word.proofs.MarkBits.{seen_counts, mark_there}
use Rattle.handler_word.proofs.marks.Marks.get.Goals as goal

pub index-byte-requires : goal.index-byte-requires
index-byte-requires c =
    let a = c.self.inside in
    let seen = seen_counts a.bytes.items a.len a.room c.args.self.now c.self.view_is in
    omega (arith, a.bytes.ok.0, c.self.invariant.filled.count, seen.0)

pub returns : goal.returns
returns c =
    let a = c.self.inside in
    let n = c.args.n in
    let seen = seen_counts a.bytes.items a.len a.room c.args.self.now c.self.view_is in
    let below : n < a.len = omega (arith, seen.0) in
    let within : n / 2 < length a.bytes.items = omega (arith, c.self.invariant.filled.count) in
    let read : c.index-byte.result.now ≡ get_or a.bytes.items (n / 2) 0 =
    c.index-byte.ensures ∙ get_or_default_zero a.bytes.items (n / 2) c.index-byte.result.now within in
    let none : 0 + n ≡ n = omega arith in
    let mark : mark_of (bits_of a.bytes.items (0 + n)) ≡ c.from_bits.result =
    ap (λ k. mark_of (bits_of a.bytes.items k)) none ∙ (ap (λ (byte : ℕ). mark_of (byte / 2 ^ (n % 2 * 4) % 16)) (sym read)
    ∙ (ap mark_of (sym (and_mask (c.index-byte.result.now / 2 ^ (n % 2 * 4)) 4)) ∙ sym c.from_bits.ensures)) in
    ap (λ (m : MarkList). slice_get m.items n) (sym c.self.view_is) ∙ (mark_there a.bytes.items 0 a.len n below ∙ ap Some mark)
