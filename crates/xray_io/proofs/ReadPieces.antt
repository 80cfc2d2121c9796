-- Reading on, piece by piece.
use Rattle.std.proofs.Common.{◌≡◌, ℕ, ◌+◌, ◌<◌, ◌≤◌, List, [], ◌++◌, length, take, drop, refl, sym, ap, ◌∙◌, arith, length-append, length-drop, length-take}
use Rattle.std.proofs.lemmas.List.{take_all}
use Rattle.std.proofs.Math.Seq.{take-add}
use Rattle.xray_io.specs.Desk.{Entry, Holds}
use Rattle.xray_io.specs.Reads.{IsFedWhole}
use Rattle.xray_io.specs.private.Pieces.{IsFedFront}

-- nothing was fed
pub front_none : {F : Type 0} {Fed : F → List ℕ → Type 0} (feed : F) (entry : Entry) → Fed feed [] → IsFedFront Fed feed entry 0
front_none feed entry fed = record { bytes = []; has = fed; counted = refl; front = λ content e. refl }

-- a prefix was fed, and then the next n bytes, which are in the piece
pub front_more : {F : Type 0} {Fed : F → List ℕ → Type 0} (feed next : F) (entry : Entry) (at n : ℕ) (piece : List ℕ) → IsFedFront Fed feed entry at
    → n ≤ length piece → ((content : List ℕ) → entry ≡ Holds content → take n piece ≡ take n (drop at content))
    → ((bytes : List ℕ) → Fed feed bytes → Fed next (bytes ++ take n piece)) → IsFedFront Fed next entry (at + n)
front_more feed next entry at n piece so fits read fed = record {
  bytes = so.bytes ++ take n piece;
  has = fed so.bytes so.has;
  counted = omega (arith, so.counted, length-append so.bytes (take n piece), length-take n piece);
  front = λ content e.
      ap (λ (t : List ℕ). so.bytes ++ t) (read content e) ∙ ap (λ (t : List ℕ). t ++ take n (drop at content)) (so.front content e)
      ∙ sym (take-add at n content);
}

-- a prefix that is as long as the content is all of it
pub front_all : {F : Type 0} {Fed : F → List ℕ → Type 0} (feed : F) (entry : Entry) (at : ℕ) → IsFedFront Fed feed entry at
    → ((content : List ℕ) → entry ≡ Holds content → length content ≤ at) → IsFedWhole Fed feed entry at
front_all feed entry at so short = record {
  bytes = so.bytes;
  has = so.has;
  counted = so.counted;
  whole = λ content e. so.front content e ∙ take_all at content (short content e);
}

-- n bytes that were read from a place on are there
pub there_are : (at n : ℕ) (piece content : List ℕ) → n ≤ length piece → 0 < n → take n piece ≡ take n (drop at content) → at + n ≤ length content
there_are at n piece content fits some read =
    omega (arith, ap length read, length-take n piece, length-take n (drop at content), length-drop at content)
