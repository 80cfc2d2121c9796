-- The functions' ids of an image's sleds are small, since its map has few entries.
use Rattle.std.proofs.Common.{◌≡◌, ℕ, zero, suc, ◌+◌, ◌<◌, ◌≤◌, ◌^◌, List, [], ◌∷◌, Bool, true, false, Option, Some, None, refl, sym, subst, ap, ◌∙◌, arith, length, map, take, drop}
use Rattle.std.specs.Prelude.{◌==◌, if◌then◌else◌, not, nat_lt, slice_get}
use Rattle.std.specs.List.{list_any, prefix_len, zip}
use Rattle.std.specs.Option.{option_map}
use Rattle.std.specs.Prelude.{option_and_then}
use Rattle.std.proofs.lemmas.List.{length-map}
use Rattle.std.proofs.lemmas.Option.{slice_get-map}
use Rattle.xray_image.specs.Container.{Function, MapEntry, MapFields, Parts, base_address, code_length, entries_from, entry_count, function_entry_at, function_count, map_distance, map_fields_at, parts_of, several}
use Rattle.xray_image.specs.Units.{SledPlace, places_from}
use Rattle.xray_image.specs.Program.{IsAccepted, Program, distinct, id_of, sled_of}
use Rattle.xray_image.specs.declared.sled.Sled.{Sled as XraySled}

-- ---- how many map entries there are

-- there are as many items as were asked for
several_count : (X : Type 0) (item : List ℕ → Option (X × List ℕ)) (n : ℕ) (bytes : List ℕ) (found : List X × List ℕ)
    → several item n bytes ≡ Some found → length found.0 ≡ n
several_count X item zero bytes found e =
    let start : List X × List ℕ = ([], bytes) in
    let same : start ≡ found = cc in
    ap (λ (p : List X × List ℕ). length p.0) (sym same)
several_count X item (suc n) bytes found e = by_first (several_count X item n) (item bytes) e
  where
    Counts : Type 0
    Counts = (rest : List ℕ) (others : List X × List ℕ) → several item n rest ≡ Some others → length others.0 ≡ n

    by_others : Counts → (first : X × List ℕ) (others : Option (List X × List ℕ)) → several item n first.1 ≡ others
        → option_map (λ others. (first.0 ∷ others.0, others.1)) others ≡ Some found → length found.0 ≡ suc n
    by_others counts first None is e = absurd cc
    by_others counts first (Some others) is e =
        let both : List X × List ℕ = (first.0 ∷ others.0, others.1) in
        let same : both ≡ found = cc in
        ap (λ (p : List X × List ℕ). length p.0) (sym same) ∙ ap suc (counts first.1 others is)

    by_first : Counts → (first : Option (X × List ℕ))
        → option_and_then (λ first. option_map (λ others. (first.0 ∷ others.0, others.1)) (several item n first.1)) first ≡ Some found
        → length found.0 ≡ suc n
    by_first counts None e = absurd cc
    by_first counts (Some first) e = by_others counts first (several item n first.1) refl e

-- there is an entry for the fields of each
length_from : (at : ℕ) (fields : List MapFields) → length (entries_from at fields) ≡ length fields
length_from at [] = refl
length_from at (first ∷ others) = ap suc (length_from (at + 32) others)

-- the parts of a file with these functions and the fields of these entries
abbrev parts_with : List ℕ → List Function → List MapFields × List ℕ → Parts
parts_with bytes functions fields = record {
  code = take (code_length bytes) (drop 64 bytes);
  functions = functions;
  entries = entries_from (base_address bytes + map_distance) fields.0;
  rest = fields.1;
}

few_entries : (bytes : List ℕ) (parts : Parts) → parts_of bytes ≡ Some parts → length parts.entries ≡ entry_count bytes
few_entries bytes parts e = by_length (nat_lt (length bytes) (64 + code_length bytes)) e
  where
    by_entries : (functions : List Function × List ℕ) (entries : Option (List MapFields × List ℕ))
        → several map_fields_at (entry_count bytes) functions.1 ≡ entries → option_map (parts_with bytes functions.0) entries ≡ Some parts
        → length parts.entries ≡ entry_count bytes
    by_entries functions None is e = absurd cc
    by_entries functions (Some entries) is e =
        let same : parts_with bytes functions.0 entries ≡ parts = cc in
        ap (λ (p : Parts). length p.entries) (sym same)
        ∙ (length_from (base_address bytes + map_distance) entries.0 ∙ several_count MapFields map_fields_at (entry_count bytes) functions.1 entries is)

    by_functions : (functions : Option (List Function × List ℕ))
        → option_and_then (λ functions. option_map (parts_with bytes functions.0) (several map_fields_at (entry_count bytes) functions.1)) functions
        ≡ Some parts → length parts.entries ≡ entry_count bytes
    by_functions None e = absurd cc
    by_functions (Some functions) e = by_entries functions (several map_fields_at (entry_count bytes) functions.1) refl e

    by_length : (short : Bool)
        → (if short then None
        else option_and_then (λ functions. option_map (parts_with bytes functions.0) (several map_fields_at (entry_count bytes) functions.1))
        (several function_entry_at (function_count bytes) (drop (64 + code_length bytes) bytes)))
        ≡ Some parts → length parts.entries ≡ entry_count bytes
    by_length true e = absurd cc
    by_length false e = by_functions (several function_entry_at (function_count bytes) (drop (64 + code_length bytes) bytes)) e

-- ---- ids of sleds

prefix_short : (p : ℕ → Bool) (xs : List ℕ) → prefix_len p xs ≤ length xs
prefix_short p [] = omega arith
prefix_short p (x ∷ xs) = by_first (p x) (prefix_short p xs)
  where
    by_first : (b : Bool) → prefix_len p xs ≤ length xs → (if b then 1 + prefix_len p xs else 0) ≤ suc (length xs)
    by_first true rest = omega (arith, rest)
    by_first false rest = omega arith

distinct_short : (seen xs : List ℕ) → length (distinct seen xs) ≤ length xs
distinct_short seen [] = omega arith
distinct_short seen (x ∷ xs) = by_seen (list_any (λ y. y == x) seen) (distinct_short seen xs) (distinct_short (x ∷ seen) xs)
  where
    by_seen : (b : Bool) → length (distinct seen xs) ≤ length xs → length (distinct (x ∷ seen) xs) ≤ length xs
        → length (if b then distinct seen xs else x ∷ distinct (x ∷ seen) xs) ≤ suc (length xs)
    by_seen true one other = omega (arith, one)
    by_seen false one other = omega (arith, other)

id_short : (entries : List MapEntry) (function : ℕ) → id_of entries function ≤ 1 + length entries
id_short entries function =
    omega (
      arith,
      prefix_short (λ f. not (f == function)) (distinct [] (map (λ e. e.function) entries)),
      distinct_short [] (map (λ e. e.function) entries),
      length-map entries (λ e. e.function),
    )

sled_id : (entries : List MapEntry) (pair : SledPlace × MapEntry) → (sled_of entries pair).id ≤ 1 + length entries
sled_id entries (place, entry) = id_short entries entry.function

found_id : (entries : List MapEntry) (found : Option (SledPlace × MapEntry)) (sled : XraySled)
    → option_map (sled_of entries) found ≡ Some sled → sled.id ≤ 1 + length entries
found_id entries None sled e = absurd cc
found_id entries (Some pair) sled e =
    let same : sled_of entries pair ≡ sled = cc in
    subst (λ (s : XraySled). s.id ≤ 1 + length entries) same (sled_id entries pair)

pub small_id : (bytes : List ℕ) (program : Program) (k : ℕ) (sled : XraySled) → IsAccepted bytes program
    → slice_get program.sleds k ≡ Some sled → sled.id < 2 ^ 28
small_id bytes program k sled accepted found =
    let places = places_from (base_address bytes) accepted.pieces in
    let entries = accepted.parts.entries in
    let sleds : program.sleds ≡ map (sled_of entries) (zip places entries) = ap (λ (p : Program). p.sleds) accepted.holds in
    let at : option_map (sled_of entries) (slice_get (zip places entries) k) ≡ Some sled =
    sym (slice_get-map (sled_of entries) (zip places entries) k) ∙ ap (λ (ss : List XraySled). slice_get ss k) (sym sleds) ∙ found in
    let short = found_id entries (slice_get (zip places entries) k) sled at in
    omega (arith, short, few_entries bytes accepted.parts accepted.reaches, accepted.header.sleds_limit)
