-- What searches find.
use Rattle.std.proofs.Common.{◌≡◌, ℕ, zero, suc, ◌+◌, ◌-◌, ◌<◌, ◌≤◌, Bool, true, false, cond, List, [], ◌∷◌, ◌++◌, Option, Some, None, refl, sym, ap, ◌∙◌, arith, length}
use Rattle.std.specs.Prelude.{option_and_then, option_map, replicate}
use Rattle.std.proofs.lemmas.List.{length-replicate}
use Rattle.audit_check.specs.Places.{Search, first_among, first_place, found_by}
use Rattle.audit_check.proofs.JoinedStops.{replicate_add}

-- ---- options

-- a value that goes on to another one
pub record WentOn {A B : Type 0} (next : A → Option B) (given : Option A) (result : B) : Type 0 where
  pub value : A
  pub given_is : given ≡ Some value
  pub gives : next value ≡ Some result

pub went_on : {A B : Type 0} (next : A → Option B) (given : Option A) (result : B) → option_and_then next given ≡ Some result → WentOn next given result
went_on next None result e = absurd cc
went_on next (Some value) result e = record { value = value; given_is = refl; gives = e }

pub record WasMade {A B : Type 0} (make : A → B) (given : Option A) (result : B) : Type 0 where
  pub value : A
  pub given_is : given ≡ Some value
  pub makes : make value ≡ result

pub was_made : {A B : Type 0} (make : A → B) (given : Option A) (result : B) → option_map make given ≡ Some result → WasMade make given result
was_made make None result e = absurd cc
was_made make (Some value) result e = record { value = value; given_is = refl; makes = cc }

-- ---- the first place

pub record IsThere (test : ℕ → Bool) (from last at : ℕ) : Type 0 where
  pub low : from ≤ at
  pub high : at ≤ last
  pub passes : test at ≡ true

pub first_there : (test : ℕ → Bool) (count from at : ℕ) → first_among test count from ≡ Some at
    → (from ≤ at) × (at < from + count) × (test at ≡ true)
first_there test zero from at e = absurd cc
first_there test (suc count) from at e = by_test (test from) refl e (λ later. first_there test count (from + 1) at later)
  where
    by_test : (b : Bool) → test from ≡ b → cond b (Some from) (first_among test count (from + 1)) ≡ Some at
        → (first_among test count (from + 1) ≡ Some at → (from + 1 ≤ at) × (at < from + 1 + count) × (test at ≡ true))
        → (from ≤ at) × (at < from + suc count) × (test at ≡ true)
    by_test true is found later =
        let same : from ≡ at = cc in
        (omega (arith, same), omega (arith, same), ap test (sym same) ∙ is)
    by_test false is found later =
        let rest = later found in
        (omega (arith, rest.0), omega (arith, rest.1), rest.2)

pub place_there : (test : ℕ → Bool) (from last at : ℕ) → first_place test from last ≡ Some at → IsThere test from last at
place_there test from last at e =
    let is = first_there test (last + 1 - from) from at e in
    record { low = is.0; high = omega (arith, is.0, is.1); passes = is.2 }

-- ---- searches

-- a search and those after it
pub record FoundOn (last from : ℕ) (search : Search) (later : List Search) (found : ℕ × List ℕ) : Type 0 where
  pub at : ℕ
  pub there : IsThere search.test from last at
  pub rest : ℕ × List ℕ
  pub rest_found : found_by last at later ≡ Some rest
  pub end_is : found.0 ≡ rest.0
  pub places_are : found.1 ≡ replicate (search.loads at) at ++ rest.1

pub found_on : (last from : ℕ) (search : Search) (later : List Search) (found : ℕ × List ℕ) → found_by last from (search ∷ later) ≡ Some found
    → FoundOn last from search later found
found_on last from search later found e =
    let next : ℕ → Option (ℕ × List ℕ) = λ at.
    option_map (λ (rest : ℕ × List ℕ). (rest.0, replicate (search.loads at) at ++ rest.1)) (found_by last at later) in
    let went = went_on next (first_place search.test from last) found e in
    let made = was_made (λ (rest : ℕ × List ℕ). let p : ℕ × List ℕ = (rest.0, replicate (search.loads went.value) went.value ++ rest.1) in p) (found_by last went.value later) found went.gives in
    record {
      at = went.value;
      there = place_there search.test from last went.value went.given_is;
      rest = made.value;
      rest_found = made.given_is;
      end_is = ap (λ (p : ℕ × List ℕ). p.0) (sym made.makes);
      places_are = ap (λ (p : ℕ × List ℕ). p.1) (sym made.makes);
    }

-- no more searches
pub found_none : (last from : ℕ) (found : ℕ × List ℕ) → found_by last from [] ≡ Some found → (found.0 ≡ from) × (found.1 ≡ [])
found_none last from found e =
    let same : (from, []) ≡ found = cc in
    (ap (λ (p : ℕ × List ℕ). p.0) (sym same), ap (λ (p : ℕ × List ℕ). p.1) (sym same))

-- they don't end before the place from which they start
found_after : (last from : ℕ) (searches : List Search) (found : ℕ × List ℕ) → found_by last from searches ≡ Some found → from ≤ found.0
found_after last from [] found e = let is = (found_none last from found e).0 in omega (arith, is)
found_after last from (search ∷ later) found e =
    let on = found_on last from search later found e in
    let low = found_after last on.at later on.rest on.rest_found in
    omega (arith, on.there.low, low, on.end_is)

-- if they end there, all loads are made there
pub found_here : (last from : ℕ) (searches : List Search) (found : ℕ × List ℕ) → found_by last from searches ≡ Some found → found.0 ≡ from
    → found.1 ≡ replicate (length found.1) from
found_here last from [] found e same =
    let none = (found_none last from found e).1 in
    none ∙ sym (ap (λ (ps : List ℕ). replicate (length ps) from) none)
found_here last from (search ∷ later) found e same =
    let on = found_on last from search later found e in
    let n = search.loads on.at in
    let low = found_after last on.at later on.rest on.rest_found in
    let here : on.at ≡ from = omega (arith, on.there.low, low, on.end_is, same) in
    let rest : on.rest.1 ≡ replicate (length on.rest.1) on.at =
    found_here last on.at later on.rest on.rest_found (sym on.end_is ∙ same ∙ sym here) in
    let all : found.1 ≡ replicate (n + length on.rest.1) on.at =
    on.places_are ∙ ap (λ (ps : List ℕ). replicate n on.at ++ ps) rest ∙ sym (replicate_add n (length on.rest.1) on.at) in
    let count : length found.1 ≡ n + length on.rest.1 = ap length all ∙ length-replicate (n + length on.rest.1) on.at in
    all ∙ ap (λ k. replicate k on.at) (sym count) ∙ ap (replicate (length found.1)) here
