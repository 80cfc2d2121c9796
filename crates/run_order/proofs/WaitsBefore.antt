-- The waits of a script, and how many come before a place.
use Rattle.std.proofs.Common.{◌≡◌, ℕ, zero, suc, ◌+◌, ◌<◌, ◌≤◌, Bool, true, false, cond, List, [], ◌∷◌, ◌++◌, Option, Some, refl, sym, ap, subst, ◌∙◌, arith, inl, inr, length, length-append, length-take-le, map, take, get_or}
use Rattle.std.specs.Prelude.{count_by, filter, nat_lt, not, replicate, slice_get, unwrap_or}
use Rattle.std.specs.List.Sorted.{IsNonDecreasingBy, IsPartitionPoint, IsPartitionedBy}
use Rattle.std.proofs.lemmas.Bool.{cases_lt}
use Rattle.std.proofs.lemmas.Bool.Decides.{nat_tests}
use Rattle.std.proofs.lemmas.List.{length-replicate, map-append}
use Rattle.std.proofs.lemmas.List.Sorted.{IsPartitionedBy-ltb}
use Rattle.std.proofs.lemmas.List.Sums.{count_by-le-length, sum_by-cons}
use Rattle.std.proofs.lemmas.Option.{slice_get-get_or}
use Rattle.xray_image.specs.Program.{Program}
use Rattle.patch_script.specs.declared.command.PatchCommand.{PatchCommand}
use Rattle.patch_script.specs.declared.micro.Micro.{Micro}
use Rattle.patch_script.specs.declared.micro.Micro.TheVariants.{End}
use Rattle.patch_script.specs.Micros.{micro_at, micros, total_of}
use Rattle.audit_check.specs.declared.stop.Stop.{Stop}
use Rattle.audit_check.specs.Stops.{places_of}
use Rattle.audit_check.proofs.JoinedStops.{one_place}
use Rattle.run_order.specs.FreeScripts.{free_place, is_free}
use Rattle.run_order.specs.private.Waits.{AreWaits, freed, waits_from, waits_of}
use Rattle.run_order.proofs.ReplayAlongPlaces.{take_next}

abbrev tally : Bool → ℕ
tally passes = cond passes 1 0

-- how many of some places are before one
abbrev pub before : ℕ → List ℕ → ℕ
before place waits = count_by (λ wait. nat_lt wait place) waits

before-cons : (place wait : ℕ) (waits : List ℕ) → before place (wait ∷ waits) ≡ tally (nat_lt wait place) + before place waits
before-cons place wait waits = sum_by-cons (λ w. tally (nat_lt w place)) wait waits

pub not_free : (b test : Bool) → not b ≡ test → b ≡ not test
not_free true true e = absurd cc
not_free true false e = refl
not_free false true e = refl
not_free false false e = absurd cc

-- ---- a partition point

pub before_point : (place i : ℕ) (waits : List ℕ) → i ≤ length waits
    → IsPartitionPoint (λ wait. nat_lt wait place ≡ true) (λ wait. nat_lt wait place ≡ false) waits i → before place waits ≡ i
before_point place i [] low point = omega (arith, low)
before_point place zero (wait ∷ waits) low point =
    let here : nat_lt wait place ≡ false = point.1 0 0 (omega arith) (omega arith) in
    let rest = before_point place 0 waits (omega arith)
    ((λ k d low' high. absurd (omega (arith, high))), λ k d low' high. point.1 (suc k) d (omega arith) (omega (arith, high))) in
    omega (arith, before-cons place wait waits, ap tally here, rest)
before_point place (suc i) (wait ∷ waits) low point =
    let here : nat_lt wait place ≡ true = point.0 0 0 (omega arith) (omega arith) in
    let rest = before_point place i waits (omega (arith, low))
    ((λ k d low' high. point.0 (suc k) d (omega arith) (omega (arith, high))), λ k d low' high. point.1 (suc k) d (omega (arith, low')) (omega (arith, high))) in
    omega (arith, before-cons place wait waits, ap tally here, rest)

-- ---- the waits of a script

module _ (program : Program) (threads : ℕ) where
  abbrev Waiting : ℕ → List ℕ → Type 0
  Waiting place waits = IsNonDecreasingBy (λ wait. wait) waits × ((i d : ℕ) → i < length waits → place ≤ get_or waits i d)

  waits_rise : (place : ℕ) (steps : List Micro) → Waiting place (waits_from program threads place steps)
  waits_rise place [] = ((λ i j d low high. absurd (omega (arith, high))), λ i d low. absurd (omega (arith, low)))
  waits_rise place (step ∷ steps) = by (is_free program threads step) (waits_from program threads (place + 1) steps) (waits_rise (place + 1) steps)
    where
      rises : (waits : List ℕ) → Waiting (place + 1) waits → (i j d : ℕ) → i ≤ j → j < length (place ∷ waits) → get_or (place ∷ waits) i d ≤ get_or (place ∷ waits) j d
      rises waits later zero zero d low high = omega arith
      rises waits later zero (suc j) d low high = omega (arith, later.1 j d (omega (arith, high)))
      rises waits later (suc i) zero d low high = absurd (omega (arith, low))
      rises waits later (suc i) (suc j) d low high = later.0 i j d (omega (arith, low)) (omega (arith, high))

      lows : (waits : List ℕ) → Waiting (place + 1) waits → (i d : ℕ) → i < length (place ∷ waits) → place ≤ get_or (place ∷ waits) i d
      lows waits later zero d low = omega arith
      lows waits later (suc i) d low = omega (arith, later.1 i d (omega (arith, low)))

      by : (free : Bool) (waits : List ℕ) → Waiting (place + 1) waits → Waiting place (cond free waits (place ∷ waits))
      by true waits later = (later.0, λ i d low. omega (arith, later.1 i d low))
      by false waits later = ((λ i j d low high. rises waits later i j d low high), λ i d low. lows waits later i d low)

  -- none is before a place that isn't after the first
  none_before : (place : ℕ) (waits : List ℕ) → ((i d : ℕ) → i < length waits → place ≤ get_or waits i d) → before place waits ≡ 0
  none_before place [] lows = refl
  none_before place (wait ∷ waits) lows =
      let low : place ≤ wait = lows 0 0 (omega arith) in
      let here : nat_lt wait place ≡ false = grind (arith, nat_tests) in
      omega (arith, before-cons place wait waits, ap tally here, none_before place waits (λ i d high. lows (suc i) d (omega (arith, high))))

  -- those before a place, and the micro steps before it that stay, are all that are before it
  counted : (place n bound : ℕ) (steps : List Micro) → bound ≡ place + n → n ≤ length steps
      → before bound (waits_from program threads place steps) + length (filter (is_free program threads) (take n steps)) ≡ n
  counted place zero bound steps same low =
      omega (arith, none_before bound (waits_from program threads place steps) (λ i d high. omega (arith, same, (waits_rise place steps).1 i d high)))
  counted place (suc n) bound [] same low = absurd (omega (arith, low))
  counted place (suc n) bound (step ∷ steps) same low =
      by (is_free program threads step) (waits_from program threads (place + 1) steps) (filter (is_free program threads) (take n steps))
      (counted (place + 1) n bound steps (omega (arith, same)) (omega (arith, low)))
    where
      by : (free : Bool) (waits : List ℕ) (stay : List Micro) → before bound waits + length stay ≡ n
          → before bound (cond free waits (place ∷ waits)) + length (cond free (step ∷ stay) stay) ≡ suc n
      by true waits stay all = omega (arith, all)
      by false waits stay all =
          let less : place < bound = omega (arith, same) in
          let here : nat_lt place bound ≡ true = grind (arith, nat_tests) in
          omega (arith, all, before-cons bound place waits, ap tally here)

  waits_few : (place : ℕ) (steps : List Micro) → length (waits_from program threads place steps) ≤ length steps
  waits_few place [] = omega arith
  waits_few place (step ∷ steps) = by (is_free program threads step) (waits_from program threads (place + 1) steps) (waits_few (place + 1) steps)
    where
      by : (free : Bool) (waits : List ℕ) → length waits ≤ length steps → length (cond free waits (place ∷ waits)) ≤ length (step ∷ steps)
      by true waits few = omega (arith, few)
      by false waits few = omega (arith, few)

  pub freed_is : (script : List PatchCommand) (place : ℕ) → place ≤ total_of program threads script
      → freed (waits_of program threads script) place ≡ free_place program threads script place
  freed_is script place low = omega (arith, counted 0 place place (micros program threads script) (omega arith) low)

  -- there are no more than the place says
  few_before : (script : List PatchCommand) (place : ℕ) → before place (waits_of program threads script) ≤ place
  few_before script place = elim (cases_lt (total_of program threads script) place) [
    | inl past ↦
        omega (
          arith,
          past,
          count_by-le-length (λ wait. nat_lt wait place) (waits_of program threads script),
          waits_few 0 (micros program threads script),
        )
    | inr within ↦ omega (arith, counted 0 place place (micros program threads script) (omega arith) within)
  ]

  -- one micro step more
  more_at : (place n : ℕ) (waits : List ℕ) (first free : Bool) (m : ℕ) → m ≡ place + n
      → cond first (waits ++ cond free [] (m ∷ [])) (place ∷ (waits ++ cond free [] (m ∷ [])))
      ≡ cond first waits (place ∷ waits) ++ cond free [] ((place + n) ∷ [])
  more_at place n waits true free m e = ap (λ k. waits ++ cond free [] (k ∷ [])) e
  more_at place n waits false free m e = ap (λ k. place ∷ (waits ++ cond free [] (k ∷ []))) e

  waits_appended : (place : ℕ) (front : List Micro) (step : Micro)
      → waits_from program threads place (front ++ step ∷ [])
      ≡ waits_from program threads place front ++ cond (is_free program threads step) [] ((place + length front) ∷ [])
  waits_appended place [] step = ap (λ m. cond (is_free program threads step) [] (m ∷ [])) (let e : place ≡ place + 0 = omega arith in e)
  waits_appended place (first ∷ front) step =
      let rest = waits_appended (place + 1) front step in
      ap (λ (ws : List ℕ). cond (is_free program threads first) ws (place ∷ ws)) rest
      ∙ more_at place (length (first ∷ front)) (waits_from program threads (place + 1) front) (is_free program threads first) (is_free program threads step)
      (place + 1 + length front) (omega arith)

  pub waits_next : (script : List PatchCommand) (n : ℕ) (micro : Micro) (free : Bool) → n < total_of program threads script → micro ≡ micro_at program threads script n
      → is_free program threads micro ≡ free
      → waits_from program threads 0 (take (n + 1) (micros program threads script))
      ≡ waits_from program threads 0 (take n (micros program threads script)) ++ cond free [] (n ∷ [])
  waits_next script n micro free low is free_is =
      let steps : List Micro = micros program threads script in
      let step : Micro = get_or steps n End in
      let there : slice_get steps n ≡ Some step = slice_get-get_or steps n End low in
      let same : step ≡ micro = sym (is ∙ ap (λ (o : Option Micro). unwrap_or o End) there) in
      let count : length (take n steps) ≡ n = length-take-le n steps (omega (arith, low)) in
      ap (waits_from program threads 0) (take_next steps n step there) ∙ waits_appended 0 (take n steps) step
      ∙ ap (λ (m : Micro). waits_from program threads 0 (take n steps) ++ cond (is_free program threads m) [] ((0 + length (take n steps)) ∷ [])) same
      ∙ ap (λ b. waits_from program threads 0 (take n steps) ++ cond b [] ((0 + length (take n steps)) ∷ [])) free_is
      ∙ ap (λ k. waits_from program threads 0 (take n steps) ++ cond free [] (k ∷ [])) (let e : 0 + length (take n steps) ≡ n = omega (arith, count) in e)

pub waits_sorted : (waits : List ℕ) → AreWaits waits → IsNonDecreasingBy (λ wait. wait) waits
waits_sorted waits are =
    subst (λ (ws : List ℕ). IsNonDecreasingBy (λ wait. wait) ws) (sym are.are)
    (waits_rise are.program are.threads 0 (micros are.program are.threads are.script)).0

pub few_waits : (waits : List ℕ) (place : ℕ) → AreWaits waits → before place waits ≤ place
few_waits waits place are =
    subst (λ (ws : List ℕ). before place ws ≤ place) (sym are.are) (few_before are.program are.threads are.script place)

-- so many of them come before a place as a partition point says
pub counted_before : (waits read : List ℕ) (place point : ℕ) → read ≡ waits → AreWaits waits → point ≤ length read
    → (IsPartitionedBy (λ wait. nat_lt wait place) read
    → IsPartitionPoint (λ wait. nat_lt wait place ≡ true) (λ wait. nat_lt wait place ≡ false) read point)
    → before place read ≡ point
counted_before waits read place point same are within parts =
    let sorted : IsNonDecreasingBy (λ wait. wait) read =
    subst (λ (ws : List ℕ). IsNonDecreasingBy (λ wait. wait) ws) (sym same) (waits_sorted waits are) in
    before_point place point read within (parts (IsPartitionedBy-ltb (λ wait. wait) read place sorted))

-- ---- the stops of a thread

pub freed_more : (f : ℕ → ℕ) (stops : List Stop) (i : ℕ) (stop : Stop) → slice_get stops i ≡ Some stop
    → map f (places_of (take (i + 1) stops)) ≡ map f (places_of (take i stops)) ++ replicate stop.loads (f stop.place)
freed_more f stops i stop there =
    ap (λ (ss : List Stop). map f (places_of ss)) (take_next stops i stop there)
    ∙ ap (map f) (one_place (take i stops) stop) ∙ map-append f (places_of (take i stops)) (replicate stop.loads stop.place)
    ∙ ap (λ (ps : List ℕ). map f (places_of (take i stops)) ++ ps) (each_same stop.loads stop.place)
  where
    each_same : (n place : ℕ) → map f (replicate n place) ≡ replicate n (f place)
    each_same zero place = refl
    each_same (suc n) place = ap (λ (ps : List ℕ). f place ∷ ps) (each_same n place)

-- no more than all of them
pub few_more : (stops : List Stop) (i : ℕ) (stop : Stop) → slice_get stops i ≡ Some stop
    → length (places_of (take i stops)) + stop.loads ≤ length (places_of stops)
few_more [] i stop there = absurd cc
few_more (first ∷ stops) zero stop there =
    let same : first ≡ stop = cc in
    omega (
      arith,
      ap (λ (s : Stop). s.loads) same,
      length-append (replicate first.loads first.place) (places_of stops),
      length-replicate first.loads first.place,
    )
few_more (first ∷ stops) (suc i) stop there =
    omega (
      arith,
      few_more stops i stop there,
      length-append (replicate first.loads first.place) (places_of (take i stops)),
      length-append (replicate first.loads first.place) (places_of stops),
    )
