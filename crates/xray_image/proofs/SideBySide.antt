-- The sleds of a function are next to each other: ids never fall in the order of the map.
use Rattle.std.proofs.Common.{◌≡◌, ℕ, ◌+◌, ◌<◌, ◌≤◌, zero, suc, List, [], ◌∷◌, ◌++◌, ◌==◌, length, take, get_or, map, false, refl, sym, ap, ◌∙◌, arith}
use Rattle.std.specs.List.{zip, position_or_len}
use Rattle.std.specs.List.Sorted.{IsNonDecreasing, IsNonDecreasingBy}
use Rattle.std.proofs.lemmas.List.{length-append, length-map, get_or-map}
use Rattle.std.proofs.lemmas.Option.{slice_get-get_or}
use Rattle.std.proofs.lemmas.Slice.Zip.{get_or-zip}
use Rattle.xray_image.specs.declared.sled.Sled.{Sled}
use Rattle.xray_image.specs.Units.{SledPlace, places_from}
use Rattle.xray_image.specs.Container.{MapEntry, base_address}
use Rattle.xray_image.specs.Program.{Program, IsAccepted, distinct, sled_of}
use Rattle.xray_image.proofs.Acceptance.{as_many, sleds_are, entry_total}
use Rattle.xray_image.proofs.Distinct.{front_first, place_of_number}
use Rattle.xray_image.proofs.SledFunctions.{lies_in_order, places_ascend}
use Rattle.xray_image.proofs.FunctionNames.{functions_ascend}

-- a prefix of a prefix
take_front : (xs : List ℕ) (i j : ℕ) → i ≤ j → (m : List ℕ) × (take j xs ≡ take i xs ++ m)
take_front xs zero j le = (take j xs, refl)
take_front xs (suc i) zero le = absurd (omega arith)
take_front [] (suc i) (suc j) le = ([], refl)
take_front (x ∷ xs) (suc i) (suc j) le = let rest = take_front xs i j (omega arith) in (rest.0, ap (λ t. x ∷ t) rest.1)

-- more numbers have no fewer new ones among them
fewer_in_front : (xs : List ℕ) (i j : ℕ) → i ≤ j → length (distinct [] (take i xs)) ≤ length (distinct [] (take j xs))
fewer_in_front xs i j le =
    let more = take_front xs i j le in
    let front = front_first [] (take i xs) more.0 in
    omega (arith, ap (λ t. length (distinct [] t)) more.1, ap length front.1, length-append (distinct [] (take i xs)) front.0)

-- for numbers that don't fall, the places among the distinct ones don't fall
places_in_order : (xs : List ℕ) → IsNonDecreasing xs → (i j : ℕ) → i ≤ j → j < length xs
    → position_or_len (λ y. y == get_or xs i 0) (distinct [] xs) ≤ position_or_len (λ y. y == get_or xs j 0) (distinct [] xs)
places_in_order xs up i j le lt =
    omega (arith, place_of_number xs up i (omega arith), place_of_number xs up j lt, fewer_in_front xs (suc i) (suc j) (omega arith))

abbrev no_entry : MapEntry
no_entry = record { sled = 0; function = 0; kind = 0; always = 0; version = 0 }

abbrev no_place : SledPlace
no_place = record { address = 0; shift = 0; returns = false }

module _ (bytes : List ℕ) (program : Program) (a : IsAccepted bytes program) where
  functions_in_order : IsNonDecreasing (map (λ e. e.function) a.parts.entries)
  functions_in_order i j d le lt =
      let entries = a.parts.entries in
      let places = places_from (base_address bytes) a.pieces in
      let within : j < length entries = omega (arith, length-map entries (λ e. e.function)) in
      let count = as_many bytes program a in
      omega (
        arith,
        get_or-map (λ e. e.function) entries i no_entry d (omega arith),
        get_or-map (λ e. e.function) entries j no_entry d within,
        lies_in_order a.parts.functions (get_or places i no_place).address (get_or places j no_place).address (get_or entries i no_entry).function (get_or entries j no_entry).function
            (functions_ascend _ program.units a.parts.functions a.functions)
            (a.entries i (get_or places i no_place) (get_or entries i no_entry) (slice_get-get_or places i no_place (omega (arith, count))) (slice_get-get_or entries i no_entry (omega arith))).in_function
            (a.entries j (get_or places j no_place) (get_or entries j no_entry) (slice_get-get_or places j no_place (omega (arith, count))) (slice_get-get_or entries j no_entry within)).in_function
            (places_ascend (base_address bytes) a.pieces i j no_place le (omega (arith, count))),
      )

  id_at : (i : ℕ) (d : Sled) → i < length program.sleds → (get_or program.sleds i d).id ≡ 1 + position_or_len (λ y. y == get_or (map (λ e. e.function) a.parts.entries) i 0) (distinct [] (map (λ e. e.function) a.parts.entries))
  id_at i d lt =
      let entries = a.parts.entries in
      let places = places_from (base_address bytes) a.pieces in
      let count = as_many bytes program a in
      let total = entry_total bytes program a in
      let there : get_or program.sleds i d ≡ sled_of entries (get_or places i no_place, get_or entries i no_entry) =
      ap (λ (ss : List Sled). get_or ss i d) (sleds_are bytes program a)
      ∙ get_or-map (sled_of entries) (zip places entries) i (no_place, no_entry) d (omega (arith, length-map (zip places entries) (sled_of entries), ap length (sleds_are bytes program a)))
      ∙ ap (sled_of entries) (get_or-zip places entries i (no_place, no_entry) (omega (arith, count, total)) (omega (arith, total))) in
      let function : get_or (map (λ e. e.function) entries) i 0 ≡ (get_or entries i no_entry).function = get_or-map (λ e. e.function) entries i no_entry 0 (omega (arith, total)) in
      ap (λ (s : Sled). s.id) there
      ∙ ap (λ (f : ℕ). 1 + position_or_len (λ y. y == f) (distinct [] (map (λ e. e.function) entries))) (sym function)

  pub ids_in_order : IsNonDecreasingBy (λ s. s.id) program.sleds
  ids_in_order i j d le lt =
      let functions = map (λ e. e.function) a.parts.entries in
      omega (
        arith,
        id_at i d (omega arith),
        id_at j d lt,
        places_in_order functions functions_in_order i j le (omega (arith, entry_total bytes program a, length-map a.parts.entries (λ e. e.function))),
      )
