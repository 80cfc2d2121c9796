-- The functions that sleds lie in, in the order of the sleds.
use Rattle.std.proofs.Common.{◌≡◌, ◌<◌, ◌≤◌, ◌+◌, ℕ, zero, suc, List, [], ◌∷◌, Bool, true, false, length, get_or, map, cond, Option, Some, None, All, refl, sym, ap, subst, ◌∙◌, ◌⊎◌, inl, inr, arith}
use Rattle.std.specs.Prelude.{Contains, nat_le, filter}
use Rattle.std.specs.List.{last_or}
use Rattle.std.specs.List.Sorted.{IsStrictlyIncreasing, IsNonDecreasing, IsNonDecreasingBy}
use Rattle.std.proofs.lemmas.Bool.{leb-true, leb-false}
use Rattle.std.proofs.lemmas.List.{length-map, get_or-map}
use Rattle.std.proofs.lemmas.List.Elements.{All-get_or}
use Rattle.std.proofs.lemmas.Option.{none-some, same_Some, slice_get-get_or}
use Rattle.std.proofs.lemmas.Simd.{map-map}
use Rattle.xray_image.specs.declared.parts.FunctionEntry.{FunctionEntry}
use Rattle.xray_image.specs.declared.map_entry.SledEntry.{SledEntry}
use Rattle.xray_image.specs.Units.{Piece, Instruction, JumpSled, ReturnSled, Align, SledPlace, places_from}
use Rattle.xray_image.specs.Container.{Function, MapEntry}
use Rattle.xray_image.specs.Program.{KindFits, LiesIn, IsEntryOf, EachSled}
use Rattle.xray_image.specs.private.Views.{entry_of, function_of}
use Rattle.xray_image.proofs.Placement.{places_above}
use Rattle.xray_image.proofs.EntryIds.{not_falling}

-- ---- the function that an address lies in

-- one of the functions that begin at an address or below
record IsBelow (functions : List Function) (address start : ℕ) : Type 0 where
  k : ℕ
  within : k < length functions
  there : (get_or functions k (record { start = 0; name = [] })).start ≡ start
  below : start ≤ address

abbrev none : Function
none = record { start = 0; name = [] }

last_below : (functions : List Function) (address start : ℕ) (o : Option ℕ) → last_or o (map (λ f. f.start) (filter (λ f. nat_le f.start address) functions)) ≡ Some start
    → (o ≡ Some start) ⊎ IsBelow functions address start
last_below [] address start o e = inl e
last_below (f ∷ fs) address start o e = by_first (nat_le f.start address) refl (last_below fs address start) e
  where
    later : IsBelow fs address start → IsBelow (f ∷ fs) address start
    later b = record { k = suc b.k; within = omega (arith, b.within); there = b.there; below = b.below }

    by_first : (b : Bool) → nat_le f.start address ≡ b
        → ((p : Option ℕ) → last_or p (map (λ f. f.start) (filter (λ f. nat_le f.start address) fs)) ≡ Some start → (p ≡ Some start) ⊎ IsBelow fs address start)
        → last_or o (map (λ f. f.start) (cond b (f ∷ filter (λ f. nat_le f.start address) fs) (filter (λ f. nat_le f.start address) fs))) ≡ Some start
        → (o ≡ Some start) ⊎ IsBelow (f ∷ fs) address start
    by_first true at again e = elim (again (Some f.start) e) [
      | inl same ↦ inr (record { k = 0; within = omega arith; there = same_Some _ _ same; below = omega (arith, same_Some _ _ same, leb-true f.start address at) })
      | inr b ↦ inr (later b)
    ]
    by_first false at again e = elim (again o e) [
      | inl same ↦ inl same
      | inr b ↦ inr (later b)
    ]

-- of functions that don't fall, it is the highest
highest : (functions : List Function) (address start : ℕ) (o : Option ℕ) → IsNonDecreasingBy (λ f. f.start) functions
    → last_or o (map (λ f. f.start) (filter (λ f. nat_le f.start address) functions)) ≡ Some start
    → (k : ℕ) → k < length functions → (get_or functions k none).start ≤ address → (get_or functions k none).start ≤ start
highest [] address start o up e k lt le = absurd (omega arith)
highest (f ∷ fs) address start o up e k lt le =
    by_first (nat_le f.start address) refl (λ p. highest fs address start p (λ i j d i_j j_in. up (suc i) (suc j) d (omega arith) (omega arith))) e k lt le
  where
    by_first : (b : Bool) → nat_le f.start address ≡ b
        → ((p : Option ℕ) → last_or p (map (λ f. f.start) (filter (λ f. nat_le f.start address) fs)) ≡ Some start
        → (j : ℕ) → j < length fs → (get_or fs j none).start ≤ address → (get_or fs j none).start ≤ start)
        → last_or o (map (λ f. f.start) (cond b (f ∷ filter (λ f. nat_le f.start address) fs) (filter (λ f. nat_le f.start address) fs))) ≡ Some start
        → (k : ℕ) → k < length (f ∷ fs) → (get_or (f ∷ fs) k none).start ≤ address → (get_or (f ∷ fs) k none).start ≤ start
    by_first true at again e zero lt le = elim (last_below fs address start (Some f.start) e) [
      | inl same ↦ omega (arith, same_Some _ _ same)
      | inr b ↦ omega (arith, up 0 (suc b.k) none (omega arith) (omega (arith, b.within)), b.there)
    ]
    by_first true at again e (suc k) lt le = again (Some f.start) e k (omega arith) le
    by_first false at again e zero lt le = absurd (omega (arith, leb-false f.start address at, le))
    by_first false at again e (suc k) lt le = again o e k (omega arith) le

lies_below : (functions : List Function) (address start : ℕ) → LiesIn functions address start → IsBelow functions address start
lies_below functions address start lies = elim (last_below functions address start None lies) [
  | inl e ↦ absurd (none-some start e)
  | inr b ↦ b
]

pub lies_in_order : (functions : List Function) (a b s t : ℕ) → IsStrictlyIncreasing (map (λ f. f.start) functions) → LiesIn functions a s → LiesIn functions b t → a ≤ b → s ≤ t
lies_in_order functions a b s t up in_a in_b le =
    let first = lies_below functions a s in_a in
    omega (arith, highest functions b t None (not_falling (λ f. f.start) functions up) in_b first.k first.within (omega (arith, first.there, first.below, le)), first.there)

-- ---- the places of sleds

first_below : (place : SledPlace) (places : List SledPlace) → All (λ p. place.address ≤ p.address) places → IsNonDecreasingBy (λ p. p.address) places → IsNonDecreasingBy (λ p. p.address) (place ∷ places)
first_below place places above up zero zero d le lt = omega arith
first_below place places above up zero (suc j) d le lt = All-get_or (λ p. place.address ≤ p.address) places j d (omega arith) above
first_below place places above up (suc i) zero d le lt = absurd (omega arith)
first_below place places above up (suc i) (suc j) d le lt = up i j d (omega arith) (omega arith)

higher : (low : ℕ) (n : ℕ) (places : List SledPlace) → All (λ p. low + n ≤ p.address) places → All (λ p. low ≤ p.address) places
higher low n places above k d lt = omega (arith, above k d lt)

pub places_ascend : (address : ℕ) (pieces : List Piece) → IsNonDecreasingBy (λ p. p.address) (places_from address pieces)
places_ascend a [] = λ i j d le lt. absurd (omega arith)
places_ascend a (Instruction instr ∷ ps) = places_ascend _ ps
places_ascend a (JumpSled shift ∷ ps) = first_below _ (places_from (a + 11) ps) (higher a 11 (places_from (a + 11) ps) (places_above (a + 11) ps)) (places_ascend (a + 11) ps)
places_ascend a (ReturnSled shift ∷ ps) = first_below _ (places_from (a + 11) ps) (higher a 11 (places_from (a + 11) ps) (places_above (a + 11) ps)) (places_ascend (a + 11) ps)
places_ascend a (Align ∷ ps) = places_ascend (a + 1) ps

-- ---- the map's entries

kind_below : (returns : Bool) (kind : ℕ) → KindFits returns kind → kind < 4
kind_below true kind fits = omega (arith, fits)
kind_below false kind (inl fits) = omega (arith, fits)
kind_below false kind (inr (inl fits)) = omega (arith, fits)
kind_below false kind (inr (inr fits)) = omega (arith, fits)

module _ (functions : List FunctionEntry) (places : List SledPlace) (lines : List SledEntry)
    (order : map (λ e. e.sled) (map entry_of lines) ≡ map (λ p. p.address) places)
    (each : EachSled places (map entry_of lines) (IsEntryOf (map function_of functions))) where
  -- there are as many lines as places
  count : length lines ≡ length places
  count = sym (length-map lines entry_of) ∙ sym (length-map (map entry_of lines) (λ e. e.sled)) ∙ ap length order ∙ length-map places (λ p. p.address)

  lies_at : (k : ℕ) (d : SledEntry) (p : SledPlace) → k < length lines → LiesIn (map function_of functions) (get_or places k p).address (get_or lines k d).function
  lies_at k d p lt =
      let line : get_or (map entry_of lines) k (entry_of d) ≡ entry_of (get_or lines k d) = get_or-map entry_of lines k d (entry_of d) lt in
      subst (λ (e : MapEntry). LiesIn (map function_of functions) (get_or places k p).address e.function) line
      (each k (get_or places k p) (get_or (map entry_of lines) k (entry_of d)) (slice_get-get_or places k p (omega (arith, count)))
      (slice_get-get_or (map entry_of lines) k (entry_of d) (omega (arith, length-map lines entry_of)))).in_function

  -- each line's kind is one of the four
  pub kinds_known : All (λ e. e.kind < 4) lines
  kinds_known k d lt =
      let place : SledPlace = record { address = 0; shift = 0; returns = false } in
      let line : get_or (map entry_of lines) k (entry_of d) ≡ entry_of (get_or lines k d) = get_or-map entry_of lines k d (entry_of d) lt in
      let fits : KindFits (get_or places k place).returns (get_or lines k d).kind =
      subst (λ (e : MapEntry). KindFits (get_or places k place).returns e.kind) line
      (each k (get_or places k place) (get_or (map entry_of lines) k (entry_of d)) (slice_get-get_or places k place (omega (arith, count)))
      (slice_get-get_or (map entry_of lines) k (entry_of d) (omega (arith, length-map lines entry_of)))).kind in
      kind_below (get_or places k place).returns (get_or lines k d).kind fits

  pub starts_same : map (λ f. f.start) (map function_of functions) ≡ map (λ f. f.start) functions
  starts_same = map-map (λ f. f.start) function_of functions

  -- each line's function is one of the functions
  pub lines_known : All (λ e. Contains (map (λ f. f.start) functions) e.function) lines
  lines_known k d lt =
      let start = (get_or lines k d).function in
      let place : SledPlace = record { address = 0; shift = 0; returns = false } in
      let below = lies_below (map function_of functions) (get_or places k place).address start (lies_at k d place lt) in
      let within : below.k < length (map (λ f. f.start) (map function_of functions)) = omega (arith, below.within, length-map (map function_of functions) (λ f. f.start)) in
      let there : get_or (map (λ f. f.start) (map function_of functions)) below.k start ≡ start = get_or-map (λ f. f.start) (map function_of functions) below.k none start below.within ∙ below.there in
      subst (λ (starts : List ℕ). Contains starts start) starts_same (below.k, within, there)

  -- the lines' functions are in the order of the functions
  pub lines_in_order : IsStrictlyIncreasing (map (λ f. f.start) (map function_of functions)) → IsNonDecreasingBy (λ p. p.address) places → IsNonDecreasing (map (λ e. e.function) lines)
  lines_in_order up places_up i j d le lt =
      let line : SledEntry = record { sled = 0; function = 0; kind = 0; always = 0; version = 0 } in
      let place : SledPlace = record { address = 0; shift = 0; returns = false } in
      let lt' : j < length lines = omega (arith, length-map lines (λ e. e.function)) in
      omega (
        arith,
        get_or-map (λ e. e.function) lines i line d (omega arith),
        get_or-map (λ e. e.function) lines j line d lt',
        lies_in_order (map function_of functions) (get_or places i place).address (get_or places j place).address (get_or lines i line).function (get_or lines j line).function up
            (lies_at i line place (omega arith)) (lies_at j line place lt') (places_up i j place le (omega (arith, count))),
      )
