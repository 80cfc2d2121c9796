-- The frames of open calls, listed from the outermost to the innermost.
use Rattle.std.proofs.Common.{◌≡◌, ◌≢◌, ◌+◌, ◌-◌, ◌%◌, ◌++◌, ◌<◌, ◌≤◌, ◌∙◌, ℕ, Bool, true, false, cond, List, [], ◌∷◌, length, map, reverse, take, refl, ap, sym, subst, arith, nat_eq, get_or, set, length-append, count_by, Option, Some, None}
use Rattle.std.specs.Prelude.{⊤, MatchOption, replicate}
use Rattle.std.proofs.Math.Seq.{get_or-append_seam, set-append_seam, take-length}
use Rattle.std.proofs.lemmas.Bool.{eq-eqb}
use Rattle.std.proofs.lemmas.Bool.Decides.{nat_tests}
use Rattle.std.proofs.lemmas.List.{get_or-replicate, get_or-set_other, get_or-set_same, length-map, length-replicate, length-reverse, length-set, length-take, reverse-append, reverse-reverse, take_more}
use Rattle.std.proofs.lemmas.List.Elements.{All-head, All-tail}
use Rattle.std.proofs.lemmas.List.Sorted.{All-permutation, IsPermutation-map, IsPermutation-reverse, sum_by-IsPermutation}
use Rattle.std.proofs.lemmas.List.Sums.{sum_by-append, sum_by-cons}
use Rattle.stack_rebuild.specs.OpenPaths.{OpenPath, innermost_path, open_from, with_spent}
use Rattle.stack_rebuild.specs.PathSums.{path_at}
use Rattle.call_trie.specs.declared.frames.Frame.{Frame}
use Rattle.call_trie.specs.private.Frames.{AreCounts, AreWithin, is_like, node_in, open_in, open_path}
use Rattle.call_trie.proofs.NodeLemmas.{last_same, others_same, path_kept}

-- ---- one more frame

-- a frame at the end is that of the innermost call
pub open_more : (paths : List (List ℕ)) (frames : List Frame) (frame : Frame) → open_in paths (frames ++ frame ∷ []) ≡ open_path paths frame ∷ open_in paths frames
open_more paths frames frame = ap (map (open_path paths)) (reverse-append frames (frame ∷ []))

pub open_at : (paths : List (List ℕ)) (frames : List Frame) (p : ℕ) (d : Frame) → p < length frames
    → open_in paths (take (p + 1) frames) ≡ open_path paths (get_or frames p d) ∷ open_in paths (take p frames)
open_at paths frames p d within = ap (open_in paths) (take_more frames p d within) ∙ open_more paths (take p frames) (get_or frames p d)

pub open_whole : (paths : List (List ℕ)) (frames : List Frame) → open_in paths (take (length frames) frames) ≡ open_in paths frames
open_whole paths frames = ap (open_in paths) (take-length frames)

pub open_long : (paths : List (List ℕ)) (frames : List Frame) → length (open_in paths frames) ≡ length frames
open_long paths frames = length-map (reverse frames) (open_path paths) ∙ length-reverse frames

-- the innermost frame
pub innermost_at : (paths : List (List ℕ)) (frames : List Frame) (p : ℕ) (frame : Frame) → p + 1 ≡ length frames → frame ≡ get_or frames p frame
    → path_at paths frame.node ≡ innermost_path (open_in paths frames)
innermost_at paths frames p frame count here =
    ap (λ (f : Frame). path_at paths f.node) here
    ∙ (sym (ap innermost_path (open_at paths frames p frame (omega (arith, count))))
    ∙ (ap (λ (n : ℕ). innermost_path (open_in paths (take n frames))) count ∙ ap innermost_path (open_whole paths frames)))

pub innermost_none : (paths : List (List ℕ)) (frames : List Frame) → length frames ≡ 0 → path_at paths 0 ≡ [] → path_at paths 0 ≡ innermost_path (open_in paths frames)
innermost_none paths [] none root = root
innermost_none paths (frame ∷ frames) none root = absurd (omega (arith, none))

-- ---- the innermost frame of a function

pub from_found : (paths : List (List ℕ)) (frames : List Frame) (func p : ℕ) (d : Frame) → p < length frames → (get_or frames p d).func ≡ func
    → open_from func (open_in paths (take (p + 1) frames)) ≡ open_path paths (get_or frames p d) ∷ open_in paths (take p frames)
from_found paths frames func p d within is =
    ap (open_from func) (open_at paths frames p d within)
    ∙ ap (λ b. cond b (open_path paths (get_or frames p d) ∷ open_in paths (take p frames)) (open_from func (open_in paths (take p frames))))
    (eq-eqb (get_or frames p d).func func is)

pub from_other : (paths : List (List ℕ)) (frames : List Frame) (func p : ℕ) (d : Frame) → p < length frames → nat_eq (get_or frames p d).func func ≡ false
    → open_from func (open_in paths (take (p + 1) frames)) ≡ open_from func (open_in paths (take p frames))
from_other paths frames func p d within is =
    ap (open_from func) (open_at paths frames p d within)
    ∙ ap (λ b. cond b (open_path paths (get_or frames p d) ∷ open_in paths (take p frames)) (open_from func (open_in paths (take p frames)))) is

-- ---- frames that end

-- the innermost frame ended, if there was one
abbrev pub IsCut : List Frame → List Frame → Option Frame → Type 0
IsCut frames left r = MatchOption r ((frames ≡ []) × (left ≡ [])) (λ frame. frames ≡ left ++ frame ∷ [])

-- what is left is the outermost frames, with the one at a place
pub record AreLeft (frames left : List Frame) (place : ℕ) : Type 0 where
  pub some : place < length left
  pub are : left ≡ take (length left) frames

pub left_all : (frames : List Frame) (place : ℕ) → place < length frames → AreLeft frames frames place
left_all frames place within = record { some = within; are = sym (take-length frames) }

-- a frame at the end of the outermost frames
record IsLast (frames new : List Frame) (frame : Frame) : Type 0 where
  within : length new < length frames
  rest : new ≡ take (length new) frames
  is : (d : Frame) → get_or frames (length new) d ≡ frame

last_left : (frames left new : List Frame) (frame : Frame) → left ≡ take (length left) frames → left ≡ new ++ frame ∷ [] → IsLast frames new frame
last_left frames left new frame are were = record {
  within = within;
  rest = others_same new (take (length new) frames) frame (get_or frames (length new) frame) (both frame);
  is = λ d. sym (last_same new (take (length new) frames) frame (get_or frames (length new) d) (both d));
}
  where
    size : length left ≡ length new + 1
    size = omega (arith, ap {B = ℕ} length were, length-append new (frame ∷ []))

    within : length new < length frames
    within = omega (arith, size, ap {B = ℕ} length are, length-take (length left) frames)

    both : (d : Frame) → new ++ frame ∷ [] ≡ take (length new) frames ++ get_or frames (length new) d ∷ []
    both d = sym were ∙ (are ∙ (ap (λ (n : ℕ). take n frames) size ∙ take_more frames (length new) d within))

-- one frame fewer
pub left_fewer : (frames left new : List Frame) (r : Option Frame) (place : ℕ) → AreLeft frames left place → place + 1 < length left → IsCut left new r → AreLeft frames new place
left_fewer frames left new None place own more cut = absurd (omega (arith, more, ap {B = ℕ} length cut.0))
left_fewer frames left new (Some frame) place own more cut =
    let last = last_left frames left new frame own.are cut in record {
      some = omega (arith, more, ap {B = ℕ} length cut, length-append new (frame ∷ []));
      are = last.rest;
    }

pub cut_fewer : (left new : List Frame) (r : Option Frame) → 0 < length left → IsCut left new r → length new < length left
cut_fewer left new None some cut = absurd (omega (arith, some, ap {B = ℕ} length cut.0))
cut_fewer left new (Some frame) some cut = omega (arith, ap {B = ℕ} length cut, length-append new (frame ∷ []))

-- the innermost call of a function ended, and those inside it
pub record IsEnded (func : ℕ) (frames new : List Frame) (r : Option Frame) : Type 0 where
  pub ended : (paths : List (List ℕ)) → MatchOption r ((open_from func (open_in paths frames) ≡ []) × (new ≡ frames))
      (λ frame. open_from func (open_in paths frames) ≡ open_path paths frame ∷ open_in paths new)
  pub place : MatchOption r ⊤ (λ frame. (place : ℕ) × (place < length frames) × (new ≡ take place frames) × ((d : Frame) → get_or frames place d ≡ frame))

-- its frame is at a place
abbrev pub IsFrom : ℕ → List Frame → ℕ → Type 0
IsFrom func frames place =
    (paths : List (List ℕ)) (d : Frame) → (place < length frames) × (open_from func (open_in paths frames) ≡ open_path paths (get_or frames place d) ∷ open_in paths (take place frames))

pub ended_by : (func place : ℕ) (frames left new : List Frame) (r : Option Frame) → IsFrom func frames place → AreLeft frames left place → length left ≤ place + 1
    → IsCut left new r → IsEnded func frames new r
ended_by func place frames left new None from own few cut = absurd (omega (arith, own.some, ap {B = ℕ} length cut.0))
ended_by func place frames left new (Some frame) from own few cut = record {
  ended = λ paths. (from paths frame).1
      ∙ (ap (λ (f : Frame). open_path paths f ∷ open_in paths (take place frames)) (here frame) ∙ ap (λ (fs : List Frame). open_path paths frame ∷ open_in paths fs) (sym rest));
  place = (place, (from [] frame).0, rest, here);
}
  where
    last : IsLast frames new frame
    last = last_left frames left new frame own.are cut

    at : length new ≡ place
    at = omega (arith, few, own.some, ap {B = ℕ} length cut, length-append new (frame ∷ []))

    rest : new ≡ take place frames
    rest = last.rest ∙ ap (λ (n : ℕ). take n frames) at

    here : (d : Frame) → get_or frames place d ≡ frame
    here d = ap (λ (n : ℕ). get_or frames n d) (sym at) ∙ last.is d

-- ---- what was spent in the innermost frame

abbrev spending : ℕ → Frame → Frame
spending duration frame = record frame { spent = frame.spent + duration }

spent_by : (paths : List (List ℕ)) (following frames : List Frame) (n duration : ℕ) (frame new : Frame) → frames ≡ reverse following → n ≡ length frames → 0 < n
    → frame ≡ get_or frames (n - 1) frame → new ≡ spending duration frame
    → open_in paths (set frames (n - 1) new) ≡ with_spent duration (map (open_path paths) following)
spent_by paths [] frames n duration frame new is count some here spent = absurd (omega (arith, some, count, ap {B = ℕ} length is))
spent_by paths (f ∷ following) frames n duration frame new is count some here spent =
    let back : frames ≡ reverse following ++ f ∷ [] = is ∙ reverse-append (f ∷ []) following in
    let size : n - 1 ≡ length (reverse following) = omega (arith, count, ap {B = ℕ} length back, length-append (reverse following) (f ∷ [])) in
    let last : frame ≡ f =
    here ∙ (ap (λ (k : ℕ). get_or frames k frame) size ∙ (ap (λ (l : List Frame). get_or l (length (reverse following)) frame) back ∙ get_or-append_seam (reverse following) f [] frame)) in
    let changed : set frames (n - 1) new ≡ reverse following ++ new ∷ [] =
    ap (λ (k : ℕ). set frames k new) size ∙ (ap (λ (l : List Frame). set l (length (reverse following)) new) back ∙ set-append_seam (reverse following) f [] new) in
    ap (open_in paths) changed
    ∙ (open_more paths (reverse following) new
    ∙ (ap (λ (l : List Frame). open_path paths new ∷ map (open_path paths) l) (reverse-reverse following)
    ∙ ap (λ (g : Frame). open_path paths g ∷ map (open_path paths) following) (spent ∙ ap (spending duration) last)))

pub spent_last : (paths : List (List ℕ)) (frames : List Frame) (n duration : ℕ) (frame new : Frame) → n ≡ length frames → 0 < n
    → frame ≡ get_or frames (n - 1) frame → new ≡ spending duration frame
    → open_in paths (set frames (n - 1) new) ≡ with_spent duration (open_in paths frames)
spent_last paths frames n duration frame new count some here spent =
    spent_by paths (reverse frames) frames n duration frame new (sym (reverse-reverse frames)) count some here spent

-- ---- more paths

-- frames whose nodes are there are as they were
pub open_kept : (paths : List (List ℕ)) (path : List ℕ) (frames : List Frame) → AreWithin paths frames → open_in (paths ++ path ∷ []) frames ≡ open_in paths frames
open_kept paths path frames all = by_order (reverse frames) (turned_within frames all)
  where
    turned_within : (fs : List Frame) → AreWithin paths fs → AreWithin paths (reverse fs)
    turned_within fs low =
        All-permutation (λ node. (0 < node) × (node < length paths)) (map node_in fs) (map node_in (reverse fs))
        (IsPermutation-map node_in fs (reverse fs) (IsPermutation-reverse fs)) low

    by_order : (fs : List Frame) → AreWithin paths fs → map (open_path (paths ++ path ∷ [])) fs ≡ map (open_path paths) fs
    by_order [] low = refl
    by_order (f ∷ fs) low =
        let own = All-head (λ node. (0 < node) × (node < length paths)) f.node (map node_in fs) low in
        ap (λ (p : List ℕ). let o : OpenPath = record { func = f.func; path = p; tsc = f.tsc; spent = f.spent } in o ∷ map (open_path (paths ++ path ∷ [])) fs) (path_kept paths path f.node own.1)
        ∙ ap (λ (l : List OpenPath). open_path paths f ∷ l) (by_order fs (All-tail (λ node. (0 < node) × (node < length paths)) f.node (map node_in fs) low))

-- ---- counts

pub like_more : (b : ℕ) (frames : List Frame) (frame : Frame) → count_by (is_like b) (frames ++ frame ∷ []) ≡ count_by (is_like b) frames + cond (is_like b frame) 1 0
like_more b frames frame =
    omega (arith, sum_by-append (λ (f : Frame). cond (is_like b f) 1 0) frames (frame ∷ []), sum_by-cons (λ (f : Frame). cond (is_like b f) 1 0) frame [])

pub like_few : (b : ℕ) (frames : List Frame) → count_by (is_like b) frames ≤ length frames
like_few b [] = omega arith
like_few b (frame ∷ frames) = by_test (is_like b frame) (sum_by-cons (λ (f : Frame). cond (is_like b f) 1 0) frame frames) (like_few b frames)
  where
    by_test : (a : Bool) → count_by (is_like b) (frame ∷ frames) ≡ cond a 1 0 + count_by (is_like b) frames → count_by (is_like b) frames ≤ length frames
        → count_by (is_like b) (frame ∷ frames) ≤ length (frame ∷ frames)
    by_test true is later = omega (arith, is, later)
    by_test false is later = omega (arith, is, later)

-- one more frame
pub counts_more : (frames : List Frame) (frame : Frame) (counts new : List ℕ) (func at : ℕ) → AreCounts frames counts → frame.func ≡ func → at ≡ func % 8192 → at < 8192
    → new ≡ set counts at (get_or counts at 0 + 1) → AreCounts (frames ++ frame ∷ []) new
counts_more frames frame counts new func at own is place low is_new =
    subst (AreCounts (frames ++ frame ∷ [])) (sym is_new) (record {
      size = length-set counts at (get_or counts at 0 + 1) ∙ own.size;
      each = λ b within. each b within (nat_eq b at) refl;
    })
  where
    like : (b : ℕ) → is_like b frame ≡ nat_eq at b
    like b = ap (λ (f : ℕ). nat_eq (f % 8192) b) is ∙ ap (λ (n : ℕ). nat_eq n b) (sym place)

    each : (b : ℕ) → b < 8192 → (same : Bool) → nat_eq b at ≡ same → get_or (set counts at (get_or counts at 0 + 1)) b 0 ≡ count_by (is_like b) (frames ++ frame ∷ [])
    each b within true same =
        let here : b ≡ at = let e : nat_eq b at ≡ true = same in grind (arith, nat_tests) in
        let its : is_like b frame ≡ true = like b ∙ eq-eqb at b (sym here) in
        ap (λ (m : ℕ). get_or (set counts at (get_or counts at 0 + 1)) m 0) here
        ∙ (get_or-set_same counts at (get_or counts at 0 + 1) 0 (omega (arith, low, own.size))
        ∙ (ap (λ (m : ℕ). get_or counts m 0 + 1) (sym here)
        ∙ omega (arith, own.each b within, like_more b frames frame, ap {B = ℕ} (λ a. cond a 1 0) its)))
    each b within false other =
        let apart : b ≢ at = λ e. let same : nat_eq b at ≡ true = eq-eqb b at e in let never : true ≡ false = sym same ∙ other in (let n : ⊥ = cc in n) in
        let not_its : is_like b frame ≡ false = like b ∙ (let e : b ≢ at = apart in grind (arith, nat_tests)) in
        get_or-set_other counts at b (get_or counts at 0 + 1) 0 apart
        ∙ omega (arith, own.each b within, like_more b frames frame, ap {B = ℕ} (λ a. cond a 1 0) not_its)

-- one frame fewer
pub counts_less : (frames : List Frame) (frame : Frame) (counts new : List ℕ) (func at : ℕ) → AreCounts (frames ++ frame ∷ []) counts → frame.func ≡ func → at ≡ func % 8192 → at < 8192
    → new ≡ set counts at (get_or counts at 0 - 1) → AreCounts frames new
counts_less frames frame counts new func at own is place low is_new =
    subst (AreCounts frames) (sym is_new) (record {
      size = length-set counts at (get_or counts at 0 - 1) ∙ own.size;
      each = λ b within. each b within (nat_eq b at) refl;
    })
  where
    like : (b : ℕ) → is_like b frame ≡ nat_eq at b
    like b = ap (λ (f : ℕ). nat_eq (f % 8192) b) is ∙ ap (λ (n : ℕ). nat_eq n b) (sym place)

    each : (b : ℕ) → b < 8192 → (same : Bool) → nat_eq b at ≡ same → get_or (set counts at (get_or counts at 0 - 1)) b 0 ≡ count_by (is_like b) frames
    each b within true same =
        let here : b ≡ at = let e : nat_eq b at ≡ true = same in grind (arith, nat_tests) in
        let its : is_like b frame ≡ true = like b ∙ eq-eqb at b (sym here) in
        ap (λ (m : ℕ). get_or (set counts at (get_or counts at 0 - 1)) m 0) here
        ∙ (get_or-set_same counts at (get_or counts at 0 - 1) 0 (omega (arith, low, own.size))
        ∙ (ap (λ (m : ℕ). get_or counts m 0 - 1) (sym here)
        ∙ omega (arith, own.each b within, like_more b frames frame, ap {B = ℕ} (λ a. cond a 1 0) its)))
    each b within false other =
        let apart : b ≢ at = λ e. let same : nat_eq b at ≡ true = eq-eqb b at e in let never : true ≡ false = sym same ∙ other in (let n : ⊥ = cc in n) in
        let not_its : is_like b frame ≡ false = like b ∙ (let e : b ≢ at = apart in grind (arith, nat_tests)) in
        get_or-set_other counts at b (get_or counts at 0 - 1) 0 apart
        ∙ omega (arith, own.each b within, like_more b frames frame, ap {B = ℕ} (λ a. cond a 1 0) not_its)

-- a frame that is there is counted
pub some_like : (frames : List Frame) (frame : Frame) (func b : ℕ) → frame.func ≡ func → b ≡ func % 8192 → 0 < count_by (is_like b) (frames ++ frame ∷ [])
some_like frames frame func b is place =
    let its : is_like b frame ≡ true = ap (λ (f : ℕ). nat_eq (f % 8192) b) is ∙ eq-eqb (func % 8192) b (sym place) in
    omega (arith, like_more b frames frame, ap {B = ℕ} (λ a. cond a 1 0) its)

-- if no function with this remainder is open, then no call of this one
pub none_like : (paths : List (List ℕ)) (frames : List Frame) (func b : ℕ) → b ≡ func % 8192 → count_by (is_like b) frames ≡ 0 → open_from func (open_in paths frames) ≡ []
none_like paths frames func b place none =
    by_order (reverse frames) (sum_by-IsPermutation (λ (f : Frame). cond (is_like b f) 1 0) frames (reverse frames) (IsPermutation-reverse frames) ∙ none)
  where
    by_order : (fs : List Frame) → count_by (is_like b) fs ≡ 0 → open_from func (map (open_path paths) fs) ≡ []
    by_order [] zero_of = refl
    by_order (f ∷ fs) zero_of =
        let more = sum_by-cons (λ (g : Frame). cond (is_like b g) 1 0) f fs in
        let later : count_by (is_like b) fs ≡ 0 = omega (arith, zero_of, more) in
        let first : ◌≡◌ {A = ℕ} (cond (is_like b f) 1 0) 0 = omega (arith, zero_of, more) in
        by_func (nat_eq f.func func) refl first (by_order fs later)
      where
        by_func : (same : Bool) → nat_eq f.func func ≡ same → ◌≡◌ {A = ℕ} (cond (is_like b f) 1 0) 0 → open_from func (map (open_path paths) fs) ≡ []
            → cond same (open_path paths f ∷ map (open_path paths) fs) (open_from func (map (open_path paths) fs)) ≡ []
        by_func true same never rest =
            let func_is : f.func ≡ func = let e : nat_eq f.func func ≡ true = same in grind (arith, nat_tests) in
            let its : is_like b f ≡ true = ap (λ (n : ℕ). nat_eq (n % 8192) b) func_is ∙ eq-eqb (func % 8192) b (sym place) in
            absurd (omega (arith, never, ap {B = ℕ} (λ a. cond a 1 0) its))
        by_func false same never rest = rest

-- no frame is counted
pub counts_none : (counts : List ℕ) (n : ℕ) → n ≡ 8192 → counts ≡ replicate n 0 → AreCounts [] counts
counts_none counts n many is = record {
  size = ap {B = ℕ} length is ∙ (length-replicate n 0 ∙ many);
  each = λ b within. ap (λ (l : List ℕ). get_or l b 0) is ∙ get_or-replicate n b 0 0 (omega (arith, within, many));
}
