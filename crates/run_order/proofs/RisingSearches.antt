-- What searches find rises.
use Rattle.std.proofs.Common.{◌≡◌, ℕ, zero, suc, ◌≤◌, List, [], ◌∷◌, ◌++◌, Some, sym, subst, arith}
use Rattle.std.specs.Prelude.{replicate}
use Rattle.audit_check.specs.Places.{Search, found_by}
use Rattle.audit_check.proofs.SearchResults.{found_none, found_on}
use Rattle.machine_step.specs.Follows.{Rise}

-- the same place some times, and then those after it
rise_same : (from last at n : ℕ) (later : List ℕ) → from ≤ at → at ≤ last → Rise at last later → Rise from last (replicate n at ++ later)
rise_same from last at zero later low high rise = rise_from from later low rise
  where
    rise_from : (from : ℕ) (later : List ℕ) → from ≤ at → Rise at last later → Rise from last later
    rise_from from [] low rise = tt
    rise_from from (place ∷ later) low rise = (omega (arith, low, rise.0), rise.1, rise.2)
rise_same from last at (suc n) later low high rise = (low, high, rise_same at last at n later (omega arith) high rise)

-- what searches find rises up to the end that they find
pub found_rises : (last from : ℕ) (searches : List Search) (found : ℕ × List ℕ) → found_by last from searches ≡ Some found → from ≤ last
    → (from ≤ found.0) × (found.0 ≤ last) × Rise from found.0 found.1
found_rises last from [] found e within =
    let none = found_none last from found e in
    (omega (arith, none.0), omega (arith, none.0, within), subst (λ (ps : List ℕ). Rise from found.0 ps) (sym none.1) tt)
found_rises last from (search ∷ later) found e within =
    let on = found_on last from search later found e in
    let rest = found_rises last on.at later on.rest on.rest_found on.there.high in
    let rise : Rise from on.rest.0 (replicate (search.loads on.at) on.at ++ on.rest.1) =
    rise_same from on.rest.0 on.at (search.loads on.at) on.rest.1 on.there.low rest.0 rest.2 in (
      omega (arith, on.there.low, rest.0, on.end_is),
      omega (arith, rest.1, on.end_is),
      subst (λ (n : ℕ). Rise from n found.1) (sym on.end_is) (subst (Rise from on.rest.0) (sym on.places_are) rise),
    )
