-- The segments of a thread, one event after the other.
use Rattle.std.proofs.Common.{◌≡◌, ℕ, ◌+◌, ◌-◌, Bool, List, [], ◌∷◌, ◌++◌, length, drop, take, map, sym, ap, subst, ◌∙◌, arith, inl, inr, append-nil, length-append, zero-add}
use Rattle.std.specs.Prelude.{nat_le, if◌then◌else◌}
use Rattle.std.specs.List.{enumerate_from, flat_map}
use Rattle.std.proofs.lemmas.Bool.{cases_lt, le-leb, lt-leb}
use Rattle.std.proofs.lemmas.Grind.{flat_map-append}
use Rattle.std.proofs.lemmas.List.{drop-append-le, drop_all, map-append}
use Rattle.std.proofs.Math.Seq.{take-append_seam}
use Rattle.std.proofs.lemmas.List.FromFn.{length-enumerate_from}
use Rattle.fdr_record.specs.declared.event.Event.{Event}
use Rattle.fdr_buffer.specs.Filled.{Filled}
use Rattle.fdr_buffer.specs.Segments.{segments}
use Rattle.fdr_file.specs.Files.{block_bytes}
use Rattle.machine_step.specs.declared.setup.Setup.{Setup}
use Rattle.traced_run.specs.Kept.{buffer_of, stamp_of}
use Rattle.audit_check.specs.declared.blocks.Recording.{Recording}
use Rattle.audit_check.specs.private.Blocks.{IsOpen, kept_bytes, whole_of}

-- ---- the bytes of one more segment

abbrev single : {X : Type 0} → ℕ → X → List (ℕ × X)
single i y = (i, y) ∷ []

enumerate-append : {X : Type 0} (n : ℕ) (xs : List X) (y : X) → enumerate_from n (xs ++ y ∷ []) ≡ enumerate_from n xs ++ single (n + length xs) y
enumerate-append n [] y = let same : n ≡ n + 0 = omega arith in ap (λ (i : ℕ). single i y) same
enumerate-append n (x ∷ xs) y =
    let count : n + 1 + length xs ≡ n + length (x ∷ xs) = omega arith in
    ap (λ l. (n, x) ∷ l) (enumerate-append (n + 1) xs y ∙ ap (λ (i : ℕ). enumerate_from (n + 1) xs ++ single i y) count)

enumerate_more : {X : Type 0} (xs : List X) (y : X) → enumerate_from 0 (xs ++ y ∷ []) ≡ enumerate_from 0 xs ++ (length xs, y) ∷ []
enumerate_more xs y = enumerate-append 0 xs y ∙ ap (λ (i : ℕ). enumerate_from 0 xs ++ single i y) (zero-add (length xs))

one_more : {X Y : Type 0} (f : Y → List ℕ) (g : X → Y) (n : ℕ) (xs : List X) (y : X)
    → flat_map f (map g (drop n (xs ++ y ∷ []))) ≡ flat_map f (map g (drop n xs)) ++ (if nat_le n (length xs) then f (g y) else [])
one_more {X} f g n xs y = elim (cases_lt (length xs) n) [
  | inl past ↦
      ap (λ (l : List X). flat_map f (map g l)) (drop_all n (xs ++ y ∷ []) (omega (arith, past, length-append xs (y ∷ []))))
      ∙ sym (ap (λ (l : List X). flat_map f (map g l) ++ (if nat_le n (length xs) then f (g y) else [])) (drop_all n xs (omega (arith, past)))
      ∙ ap (λ (t : Bool). if t then f (g y) else []) (lt-leb n (length xs) past))
  | inr within ↦
      ap (λ (l : List X). flat_map f (map g l)) (drop-append-le n xs (y ∷ []) within)
      ∙ (ap (flat_map f) (map-append g (drop n xs) (y ∷ []))
      ∙ (flat_map-append f (map g (drop n xs)) (g y ∷ [])
      ∙ ap (λ (l : List ℕ). flat_map f (map g (drop n xs)) ++ l)
      (append-nil (f (g y)) ∙ ap (λ (t : Bool). if t then f (g y) else []) (sym (le-leb n (length xs) within)))))
]

pub kept_more : (setup : Setup) (lost thread : ℕ) (segs : List (List Event)) (last : List Event)
    → kept_bytes setup lost thread (segs ++ last ∷ [])
    ≡ kept_bytes setup lost thread segs ++ (if nat_le lost (length segs) then block_bytes (buffer_of (stamp_of setup) thread (length segs, last)) else [])
kept_more setup lost thread segs last =
    let buffer : ℕ × List Event → Filled = buffer_of (stamp_of setup) thread in
    ap (λ (l : List (ℕ × List Event)). flat_map block_bytes (map buffer (drop lost l))) (enumerate_more segs last)
    ∙ (one_more block_bytes buffer lost (enumerate_from 0 segs) (length segs, last)
    ∙ ap (λ n. flat_map block_bytes (map buffer (drop lost (enumerate_from 0 segs))) ++ (if nat_le lost n then block_bytes (buffer (length segs, last)) else []))
    (length-enumerate_from 0 segs))

-- ---- whole segments

pub whole_is : (size : ℕ) (events last : List Event) (whole : List (List Event)) → segments size events ≡ whole ++ last ∷ [] → whole_of size events ≡ whole
whole_is size events last whole is =
    let count : length (whole ++ last ∷ []) - 1 ≡ length whole = omega (arith, length-append whole (last ∷ [])) in
    ap (λ (l : List (List Event)). take (length l - 1) l) is
    ∙ (ap (λ n. take n (whole ++ last ∷ [])) count ∙ take-append_seam whole (last ∷ []))

-- segments of which the last one is open
pub opens : (setup : Setup) (thread : ℕ) (events last : List Event) (whole : List (List Event)) (r : Recording)
    → segments setup.size events ≡ whole ++ last ∷ [] → r.buffer.events ≡ last → r.whole ≡ length whole
    → r.buffer ≡ buffer_of (stamp_of setup) thread (r.whole, r.buffer.events) → IsOpen setup thread events r
opens setup thread events last whole r are is count buffer =
    let same = whole_is setup.size events last whole are in
    record {
      segments_are = subst (λ (w : List (List Event)). segments setup.size events ≡ w ++ r.buffer.events ∷ []) (sym same)
          (are ∙ ap (λ (l : List Event). whole ++ l ∷ []) (sym is));
      whole = count ∙ ap length (sym same);
      buffer = buffer;
    }
