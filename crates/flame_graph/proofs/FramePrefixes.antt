-- The frames are the prefixes of the paths, each once.
use Rattle.std.proofs.Common.{◌≡◌, ◌⊎◌, ◌∙◌, ◌<◌, Bool, true, false, cond, ℕ, suc, List, [], ◌∷◌, ◌++◌, filter, length, map, not, refl, ap, sym, subst, arith, inl, inr}
use Rattle.std.specs.Prelude.{◌||◌, ◌≢◌, All, Contains}
use Rattle.std.specs.List.{AllPairs}
use Rattle.std.proofs.lemmas.Bool.{cases_Bool, false≢true}
use Rattle.std.proofs.lemmas.List.Elements.{All-cons, All-nil}
use Rattle.std.proofs.lemmas.List.Kept.{AllPairs-cons}
use Rattle.stack_rebuild.specs.Stacks.{PathRow}
use Rattle.stack_rebuild.proofs.Items.{IsIn, Pairwise, any-in, in-any, in-map, in_from_Contains, map-in}
use Rattle.stack_rebuild.specs.Weights.{begins}
use Rattle.flame_graph.specs.Frames.{frames, is_begun, prefixes}
use Rattle.flame_graph.specs.Laws.{AreRowPrefixes, IsRowPrefix, NoneTwice}
use Rattle.flame_graph.proofs.Orders.{begins_first, begins_more}
use Rattle.flame_graph.proofs.FrameSpans.{begun_later}

-- ---- items of a list

pub contains_in : {X : Type 0} (xs : List X) (x : X) → Contains xs x → IsIn x xs
contains_in xs x there = in_from_Contains xs x there.0 there.1 there.2

pub in_contains : {X : Type 0} (xs : List X) (x : X) → IsIn x xs → Contains xs x
in_contains [] x is = absurd is
in_contains (y ∷ ys) x (inl is) = (0, omega arith, sym is)
in_contains (y ∷ ys) x (inr is) = let there = in_contains ys x is in (suc there.0, omega (arith, there.1), there.2)

in_left : {X : Type 0} (xs ys : List X) (x : X) → IsIn x xs → IsIn x (xs ++ ys)
in_left [] ys x is = absurd is
in_left (z ∷ xs) ys x (inl is) = inl is
in_left (z ∷ xs) ys x (inr is) = inr (in_left xs ys x is)

in_right : {X : Type 0} (xs ys : List X) (x : X) → IsIn x ys → IsIn x (xs ++ ys)
in_right [] ys x is = is
in_right (z ∷ xs) ys x is = inr (in_right xs ys x is)

in_parts : {X : Type 0} (xs ys : List X) (x : X) → IsIn x (xs ++ ys) → IsIn x xs ⊎ IsIn x ys
in_parts [] ys x is = inr is
in_parts (z ∷ xs) ys x (inl is) = inl (inl is)
in_parts (z ∷ xs) ys x (inr is) = elim (in_parts xs ys x is) [ inl left ↦ inl (inr left) | inr right ↦ inr right ]

-- an item that passes a test is kept, and what is kept is an item that passes
in_filter : {X : Type 0} (p : X → Bool) (xs : List X) (x : X) → IsIn x xs → p x ≡ true → IsIn x (filter p xs)
in_filter p [] x is passes = absurd is
in_filter {X} p (y ∷ ys) x is passes = by_test (p y) refl is (λ later. in_filter p ys x later passes)
  where
    by_test : (t : Bool) → p y ≡ t → IsIn x (y ∷ ys) → (IsIn x ys → IsIn x (filter p ys)) → IsIn x (cond t (y ∷ filter p ys) (filter p ys))
    by_test true e (inl same) again = inl same
    by_test true e (inr later) again = inr (again later)
    by_test false e (inl same) again = absurd (false≢true (sym e ∙ (ap p (sym same) ∙ passes)))
    by_test false e (inr later) again = again later

pub filter_in : {X : Type 0} (p : X → Bool) (xs : List X) (x : X) → IsIn x (filter p xs) → IsIn x xs × (p x ≡ true)
filter_in p [] x is = absurd is
filter_in {X} p (y ∷ ys) x is = by_test (p y) refl is (filter_in p ys x)
  where
    by_test : (t : Bool) → p y ≡ t → IsIn x (cond t (y ∷ filter p ys) (filter p ys)) → (IsIn x (filter p ys) → IsIn x ys × (p x ≡ true)) → IsIn x (y ∷ ys) × (p x ≡ true)
    by_test true e (inl same) again = (inl same, ap p same ∙ e)
    by_test true e (inr later) again = let rest = again later in (inr rest.0, rest.1)
    by_test false e later again = let rest = again later in (inr rest.0, rest.1)

-- ---- the prefixes of a path

pub prefix_begins : (path frame : List ℕ) → IsIn frame (prefixes path) → (0 < length frame) × (begins frame path ≡ true)
prefix_begins [] frame is = absurd is
prefix_begins (f ∷ path) frame (inl is) =
    (let size = ap (λ (l : List ℕ). length l) is in omega (arith, size), ap (λ (l : List ℕ). begins l (f ∷ path)) is ∙ begins_more f f [] path refl refl)
prefix_begins (f ∷ path) frame (inr is) =
    let there = map-in (λ (l : List ℕ). f ∷ l) (prefixes path) frame is in
    let rest = prefix_begins path there.0 there.1 in (
      let size = ap (λ (l : List ℕ). length l) there.2 in omega (arith, size),
      ap (λ (l : List ℕ). begins l (f ∷ path)) (sym there.2) ∙ begins_more f f there.0 path refl rest.1,
    )

begins_prefix : (frame path : List ℕ) → 0 < length frame → begins frame path ≡ true → IsIn frame (prefixes path)
begins_prefix [] path some is = absurd (omega (arith, some))
begins_prefix (g ∷ frame) [] some is = absurd (false≢true is)
begins_prefix (g ∷ []) (f ∷ path) some is =
    let first = begins_first g f [] path is in
    inl (ap (λ (n : ℕ). n ∷ []) first.0)
begins_prefix (g ∷ h ∷ frame) (f ∷ path) some is =
    let first = begins_first g f (h ∷ frame) path is in
    let rest = begins_prefix (h ∷ frame) path (omega arith) first.1 in
    inr (subst (λ (n : ℕ). IsIn (n ∷ h ∷ frame) (map (λ (l : List ℕ). f ∷ l) (prefixes path))) (sym first.0) (in-map (λ (l : List ℕ). f ∷ l) (prefixes path) (h ∷ frame) rest))

-- what follows a prefix
pub what_follows : (frame path : List ℕ) → begins frame path ≡ true → (rest : List ℕ) × (frame ++ rest ≡ path)
what_follows [] path is = (path, refl)
what_follows (f ∷ frame) [] is = absurd (false≢true is)
what_follows (f ∷ frame) (g ∷ path) is =
    let first = begins_first f g frame path is in
    let there = what_follows frame path first.1 in
    (there.0, ap (λ (n : ℕ). n ∷ frame ++ there.0) first.0 ∙ ap (λ (l : List ℕ). g ∷ l) there.1)

pub begins_whole : (frame rest : List ℕ) → begins frame (frame ++ rest) ≡ true
begins_whole [] rest = refl
begins_whole (f ∷ frame) rest = begins_more f f frame (frame ++ rest) refl (begins_whole frame rest)

-- ---- the frames of rows

pub frame_begun : (rows : List PathRow) (frame : List ℕ) → IsIn frame (frames rows) → (0 < length frame) × (is_begun rows frame ≡ true)
frame_begun [] frame is = absurd is
frame_begun (row ∷ rows) frame is = elim (in_parts (filter (λ (l : List ℕ). not (is_begun rows l)) (prefixes row.path)) (frames rows) frame is) [
  | inl here ↦
      let own = filter_in (λ (l : List ℕ). not (is_begun rows l)) (prefixes row.path) frame here in
      let parts = prefix_begins row.path frame own.0 in
      (parts.0, ap (λ (t : Bool). t || is_begun rows frame) parts.1)
  | inr later ↦
      let parts = frame_begun rows frame later in
      (parts.0, ap (λ (t : Bool). begins frame row.path || t) parts.1 ∙ or_true (begins frame row.path))
]
  where
    or_true : (b : Bool) → (b || true) ≡ true
    or_true true = refl
    or_true false = refl

begun_frame : (rows : List PathRow) (frame : List ℕ) → 0 < length frame → is_begun rows frame ≡ true → IsIn frame (frames rows)
begun_frame [] frame some is = absurd (false≢true is)
begun_frame (row ∷ rows) frame some is = by_later (cases_Bool (is_begun rows frame)) (cases_Bool (begins frame row.path)) (begun_frame rows frame some)
  where
    by_later : (is_begun rows frame ≡ true) ⊎ (is_begun rows frame ≡ false) → (begins frame row.path ≡ true) ⊎ (begins frame row.path ≡ false)
        → (is_begun rows frame ≡ true → IsIn frame (frames rows)) → IsIn frame (filter (λ (l : List ℕ). not (is_begun rows l)) (prefixes row.path) ++ frames rows)
    by_later (inl later) begun again = in_right (filter (λ (l : List ℕ). not (is_begun rows l)) (prefixes row.path)) (frames rows) frame (again later)
    by_later (inr none) (inl begun) again =
        in_left (filter (λ (l : List ℕ). not (is_begun rows l)) (prefixes row.path)) (frames rows) frame
        (in_filter (λ (l : List ℕ). not (is_begun rows l)) (prefixes row.path) frame (begins_prefix frame row.path some begun) (ap not none))
    by_later (inr none) (inr misses) again = absurd (false≢true (sym none ∙ begun_later frame row rows misses is))

-- ---- they are the prefixes of the paths of rows

pub are_row_prefixes : (rows : List PathRow) → AreRowPrefixes rows
are_row_prefixes rows frame = (to, from)
  where
    to : Contains (frames rows) frame → IsRowPrefix rows frame
    to there =
        let parts = frame_begun rows frame (contains_in (frames rows) frame there) in
        let own = any-in (λ (row : PathRow). begins frame row.path) rows parts.1 in
        let follows = what_follows frame own.0.path own.2 in
        record { some = parts.0; row = own.0; there = in_contains rows own.0 own.1; rest = follows.0; whole = follows.1 }

    from : IsRowPrefix rows frame → Contains (frames rows) frame
    from is =
        in_contains (frames rows) frame
        (begun_frame rows frame is.some
        (in-any (λ (row : PathRow). begins frame row.path) rows is.row (contains_in rows is.row is.there)
        (ap (λ (path : List ℕ). begins frame path) (sym is.whole) ∙ begins_whole frame is.rest)))

-- ---- each once

all_from : {X : Type 0} (P : X → Type 0) (xs : List X) → ((x : X) → IsIn x xs → P x) → All P xs
all_from P [] each = All-nil P
all_from P (x ∷ xs) each = All-cons P x xs (each x (inl refl)) (all_from P xs (λ y is. each y (inr is)))

pub all_pairs : {X : Type 0} (R : X → X → Type 0) (xs : List X) → Pairwise R xs → AllPairs R xs
all_pairs R [] each = λ i j d low within. absurd (omega (arith, within))
all_pairs R (x ∷ xs) each = AllPairs-cons R x xs (all_from (R x) xs each.0) (all_pairs R xs each.1)

pub pairwise_append : {X : Type 0} (R : X → X → Type 0) (xs ys : List X) → Pairwise R xs → Pairwise R ys → ((x y : X) → IsIn x xs → IsIn y ys → R x y) → Pairwise R (xs ++ ys)
pairwise_append R [] ys one other both = other
pairwise_append {X} R (x ∷ xs) ys one other both = (
  λ y is. elim (in_parts xs ys y is) [ inl left ↦ one.0 y left | inr right ↦ both x y (inl refl) right ],
  pairwise_append R xs ys one.1 other (λ a b there here. both a b (inr there) here),
)

pub pairwise_filter : {X : Type 0} (R : X → X → Type 0) (p : X → Bool) (xs : List X) → Pairwise R xs → Pairwise R (filter p xs)
pairwise_filter R p [] each = tt
pairwise_filter {X} R p (x ∷ xs) each = by_test (p x) (pairwise_filter R p xs each.1)
  where
    by_test : (t : Bool) → Pairwise R (filter p xs) → Pairwise R (cond t (x ∷ filter p xs) (filter p xs))
    by_test true rest = (λ y is. each.0 y (filter_in p xs y is).0, rest)
    by_test false rest = rest

-- prefixes of one path are of different heights
grown : (f : ℕ) (all : List (List ℕ)) → Pairwise (λ (one later : List ℕ). length one < length later) all
    → Pairwise (λ (one later : List ℕ). length one < length later) (map (λ (frame : List ℕ). f ∷ frame) all)
grown f [] each = tt
grown f (frame ∷ all) each = (longer, grown f all each.1)
  where
    longer : (y : List ℕ) → IsIn y (map (λ (l : List ℕ). f ∷ l) all) → length (f ∷ frame) < length y
    longer y is =
        let there = map-in (λ (l : List ℕ). f ∷ l) all y is in
        let less = each.0 there.0 there.1 in
        let size = ap (λ (l : List ℕ). length l) there.2 in
        omega (arith, less, size)

pub prefixes_grow : (path : List ℕ) → Pairwise (λ (one later : List ℕ). length one < length later) (prefixes path)
prefixes_grow [] = tt
prefixes_grow (f ∷ path) = (longer, grown f (prefixes path) (prefixes_grow path))
  where
    longer : (y : List ℕ) → IsIn y (map (λ (l : List ℕ). f ∷ l) (prefixes path)) → length (f ∷ []) < length y
    longer y is =
        let there = map-in (λ (l : List ℕ). f ∷ l) (prefixes path) y is in
        let some = (prefix_begins path there.0 there.1).0 in
        let size = ap (λ (l : List ℕ). length l) there.2 in
        omega (arith, some, size)

pub pairwise_weaker : {X : Type 0} (R S : X → X → Type 0) (xs : List X) → ((x y : X) → R x y → S x y) → Pairwise R xs → Pairwise S xs
pairwise_weaker R S [] weaker each = tt
pairwise_weaker R S (x ∷ xs) weaker each = (λ y is. weaker x y (each.0 y is), pairwise_weaker R S xs weaker each.1)

each_once : (rows : List PathRow) → Pairwise (λ (one later : List ℕ). one ≢ later) (frames rows)
each_once [] = tt
each_once (row ∷ rows) =
    let test : List ℕ → Bool = λ l. not (is_begun rows l) in
    pairwise_append (λ (one later : List ℕ). one ≢ later) (filter test (prefixes row.path)) (frames rows)
    (pairwise_filter (λ (one later : List ℕ). one ≢ later) test (prefixes row.path)
    (pairwise_weaker (λ (one later : List ℕ). length one < length later) (λ (one later : List ℕ). one ≢ later) (prefixes row.path)
    (λ one later less same. let size = ap (λ (l : List ℕ). length l) same in omega (arith, less, size)) (prefixes_grow row.path)))
    (each_once rows) apart
  where
    apart : (one later : List ℕ) → IsIn one (filter (λ (l : List ℕ). not (is_begun rows l)) (prefixes row.path)) → IsIn later (frames rows) → one ≢ later
    apart one later here there same =
        let passes = (filter_in (λ (l : List ℕ). not (is_begun rows l)) (prefixes row.path) one here).1 in
        let begun = (frame_begun rows later there).1 in
        false≢true (sym (ap not begun) ∙ (ap (λ (l : List ℕ). not (is_begun rows l)) (sym same) ∙ passes))

pub none_twice : (rows : List PathRow) → NoneTwice rows
none_twice rows = all_pairs (λ (one later : List ℕ). one ≢ later) (frames rows) (each_once rows)
