-- The sleds of an accepted image: their numbers fit a line, and each name is that of the id of a sled.
use Rattle.std.proofs.Common.{◌≡◌, ◌≤◌, ◌<◌, ◌+◌, ◌%◌, ◌^◌, ◌∷◌, ◌∙◌, ◌⊎◌, ◌==◌, ◌||◌, not, ℕ, zero, suc, Bool, true, false, List, [], Option, Some, None, drop, get_or, length, map, take, refl, ap, sym, subst, arith, inl, inr}
use Rattle.std.specs.Prelude.{All, Ok, find, nat_lt, option_and_then, slice_get, if◌then◌else◌}
use Rattle.std.specs.List.{list_any, position_or_len, zip}
use Rattle.std.specs.Option.{option_map, unwrap_or}
use Rattle.std.proofs.lemmas.Bool.{cases_Bool, eq-eqb, eqb-true, false≢true, or_parts}
use Rattle.std.proofs.lemmas.List.{length-map}
use Rattle.std.proofs.lemmas.List.Elements.{All-cons, All-drop, All-head, All-nil, All-tail, All-weaker}
use Rattle.std.proofs.lemmas.List.Folds.{find_at}
use Rattle.std.proofs.lemmas.Option.{same_Some}
use Rattle.map_names.specs.Maps.{map_naming}
use Rattle.xray_image.specs.declared.sled.Sled.{Sled}
use Rattle.xray_image.specs.Container.{Function, MapEntry, MapFields, Parts, address_said, base_address, code_length, entries_from, entry_at, entry_count, function_count, function_entry_at, map_distance, map_fields_at, number4_at, number8_at, parts_of, several}
use Rattle.xray_image.specs.Extract.{extract_text}
use Rattle.xray_image.specs.Ids.{name_at, name_of, sledded_functions}
use Rattle.xray_image.specs.Program.{AreFunctions, Program, distinct, id_of, is_name_byte, program_of, sled_of}
use Rattle.xray_image.specs.Units.{SledPlace, places_from}
use Rattle.xray_image.proofs.Distinct.{distinct_few}
use Rattle.function_names.specs.Name.{program_names}
use Rattle.function_names.specs.NameLaws.{MapsName}
use Rattle.function_names.proofs.ExtractedLines.{Fits}
use Rattle.function_names.proofs.ExtractedNames.{HaveSleds, map_names_it}

split_then : {A B : Type 0} (f : A → Option B) (o : Option A) (y : B) → option_and_then f o ≡ Some y → (x : A) × (o ≡ Some x) × (f x ≡ Some y)
split_then f None y is = absurd cc
split_then f (Some x) y is = (x, refl, is)

split_map : {A B : Type 0} (f : A → B) (o : Option A) (y : B) → option_map f o ≡ Some y → (x : A) × (o ≡ Some x) × (f x ≡ y)
split_map f None y is = absurd cc
split_map f (Some x) y is = (x, refl, same_Some _ _ is)

chosen : {X : Type 0} (t : Bool) (x y : X) → (if t then None else Some x) ≡ Some y → x ≡ y
chosen false x y is = same_Some _ _ is
chosen true x y is = absurd cc

-- ---- numbers in a file

abbrev Low : List ℕ → Type 0
Low bytes = All (λ (b : ℕ). b < 256) bytes

low_at : (bytes : List ℕ) → Low bytes → (i : ℕ) → get_or bytes i 0 < 256
low_at [] low i = omega arith
low_at (b ∷ bytes) low zero = All-head (λ (x : ℕ). x < 256) b bytes low
low_at (b ∷ bytes) low (suc i) = low_at bytes (All-tail (λ (x : ℕ). x < 256) b bytes low) i

drop_low : (n : ℕ) (bytes : List ℕ) → Low bytes → Low (drop n bytes)
drop_low n bytes low = All-drop (λ (b : ℕ). b < 256) n bytes low

four_below : (bytes : List ℕ) (place : ℕ) → Low bytes → number4_at bytes place < 2 ^ 32
four_below bytes place low = let h = low_at (drop place bytes) (drop_low place bytes low) in omega (arith, h 0, h 1, h 2, h 3)

eight_below : (bytes : List ℕ) (place : ℕ) → Low bytes → number8_at bytes place < 2 ^ 64
eight_below bytes place low = let h = low_at (drop place bytes) (drop_low place bytes low) in omega (arith, h 0, h 1, h 2, h 3, h 4, h 5, h 6, h 7)

-- ---- the entries of a map

record FieldsFit (fields : MapFields) : Type 0 where
  sled : fields.sled < 2 ^ 64
  function : fields.function < 2 ^ 64

-- one entry's fields, and the bytes after them
one_entry : (bytes : List ℕ) (fields : MapFields) (rest : List ℕ) → Low bytes → map_fields_at bytes ≡ Some (fields, rest) → FieldsFit fields × Low rest
one_entry bytes fields rest low is =
    let same = chosen (nat_lt (length bytes) 32) _ (fields, rest) is in
    let first : number8_at bytes 0 ≡ fields.sled = ap (λ (p : MapFields × List ℕ). p.0.sled) same in
    let second : number8_at bytes 8 ≡ fields.function = ap (λ (p : MapFields × List ℕ). p.0.function) same in
    let after : drop 32 bytes ≡ rest = ap (λ (p : MapFields × List ℕ). p.1) same in
    let P : ℕ → Type 0 = λ n. n < 2 ^ 64 in (
      record { sled = subst P first (eight_below bytes 0 low); function = subst P second (eight_below bytes 8 low) },
      subst Low after (drop_low 32 bytes low),
    )

one_function : (bytes : List ℕ) (function : Function) (rest : List ℕ) → Low bytes → function_entry_at bytes ≡ Some (function, rest) → Low rest
one_function bytes function rest low is =
    let same = chosen _ _ (function, rest) is in
    let after = ap (λ (p : Function × List ℕ). p.1) same in
    subst Low after (drop_low _ bytes low)

entries_fit : (n : ℕ) (bytes : List ℕ) (fields : List MapFields) (rest : List ℕ) → Low bytes → several map_fields_at n bytes ≡ Some (fields, rest) → All FieldsFit fields × (length fields ≡ n)
entries_fit zero bytes fields rest low is =
    let none : [] ≡ fields = ap (λ (p : List MapFields × List ℕ). p.0) (same_Some _ _ is) in
    let P : List MapFields → Type 0 = λ fs. All FieldsFit fs × (length fs ≡ 0) in
    subst P none (All-nil FieldsFit, refl)
entries_fit (suc n) bytes fields rest low is =
    let first = split_then (λ (one : MapFields × List ℕ). option_map {U = List MapFields × List ℕ} (λ (others : List MapFields × List ℕ). (one.0 ∷ others.0, others.1)) (several map_fields_at n one.1)) (map_fields_at bytes) (fields, rest) is in
    let others = split_map {B = List MapFields × List ℕ} (λ (more : List MapFields × List ℕ). (first.0.0 ∷ more.0, more.1)) (several map_fields_at n first.0.1) (fields, rest) first.2 in
    let own = one_entry bytes first.0.0 first.0.1 low first.1 in
    let later = entries_fit n first.0.1 others.0.0 others.0.1 own.1 others.1 in
    let whole : first.0.0 ∷ others.0.0 ≡ fields = ap (λ (p : List MapFields × List ℕ). p.0) others.2 in
    let P : List MapFields → Type 0 = λ fs. All FieldsFit fs × (length fs ≡ suc n) in
    subst P whole (All-cons FieldsFit first.0.0 others.0.0 own.0 later.0, omega (arith, later.1))

functions_low : (n : ℕ) (bytes : List ℕ) (functions : List Function) (rest : List ℕ) → Low bytes → several function_entry_at n bytes ≡ Some (functions, rest) → Low rest
functions_low zero bytes functions rest low is = subst Low (ap (λ (p : List Function × List ℕ). p.1) (same_Some _ _ is)) low
functions_low (suc n) bytes functions rest low is =
    let first = split_then (λ (one : Function × List ℕ). option_map {U = List Function × List ℕ} (λ (others : List Function × List ℕ). (one.0 ∷ others.0, others.1)) (several function_entry_at n one.1)) (function_entry_at bytes) (functions, rest) is in
    let others = split_map {B = List Function × List ℕ} (λ (more : List Function × List ℕ). (first.0.0 ∷ more.0, more.1)) (several function_entry_at n first.0.1) (functions, rest) first.2 in
    let later = functions_low n first.0.1 others.0.0 others.0.1 (one_function bytes first.0.0 first.0.1 low first.1) others.1 in
    subst Low (ap (λ (p : List Function × List ℕ). p.1) others.2) later

-- what entries say
record EntryFits (entry : MapEntry) : Type 0 where
  sled : entry.sled < 2 ^ 64
  function : entry.function < 2 ^ 64

said_fits : (version at field : ℕ) → field < 2 ^ 64 → address_said version at field < 2 ^ 64
said_fits version at field low = by_version (version == 2)
  where
    by_version : (t : Bool) → (if t then (at + field) % 2 ^ 64 else field) < 2 ^ 64
    by_version true = omega arith
    by_version false = low

said_entries : (at : ℕ) (fields : List MapFields) → All FieldsFit fields → All EntryFits (entries_from at fields) × (length (entries_from at fields) ≡ length fields)
said_entries at [] each = (All-nil EntryFits, refl)
said_entries at (one ∷ fields) each =
    let own = All-head FieldsFit one fields each in
    let rest = said_entries (at + 32) fields (All-tail FieldsFit one fields each) in (
      All-cons EntryFits (entry_at at one) (entries_from (at + 32) fields)
          (record { sled = said_fits one.version at one.sled own.sled; function = said_fits one.version (at + 8) one.function own.function }) rest.0,
      omega (arith, rest.1),
    )

record PartsFit (parts : Parts) : Type 0 where
  entries : All EntryFits parts.entries
  few : length parts.entries < 2 ^ 32

parts_fit : (bytes : List ℕ) (parts : Parts) → Low bytes → parts_of bytes ≡ Some parts → PartsFit parts
parts_fit bytes parts low is = by_test (nat_lt (length bytes) (64 + code_length bytes)) is
  where
    made : List Function → List MapFields × List ℕ → Parts
    made functions entries = record {
      code = take (code_length bytes) (drop 64 bytes);
      functions = functions;
      entries = entries_from (base_address bytes + map_distance) entries.0;
      rest = entries.1;
    }

    following : List ℕ
    following = drop (64 + code_length bytes) bytes

    by_test : (t : Bool)
        → (if t then None else option_and_then (λ (functions : List Function × List ℕ). option_map {U = Parts} (λ (entries : List MapFields × List ℕ). record {
          code = take (code_length bytes) (drop 64 bytes);
          functions = functions.0;
          entries = entries_from (base_address bytes + map_distance) entries.0;
          rest = entries.1;
        }) (several map_fields_at (entry_count bytes) functions.1)) (several function_entry_at (function_count bytes) (drop (64 + code_length bytes) bytes))) ≡ Some parts → PartsFit parts
    by_test true same = absurd cc
    by_test false same =
        let functions = split_then (λ (functions : List Function × List ℕ). option_map {U = Parts} (λ (entries : List MapFields × List ℕ). record {
          code = take (code_length bytes) (drop 64 bytes);
          functions = functions.0;
          entries = entries_from (base_address bytes + map_distance) entries.0;
          rest = entries.1;
        }) (several map_fields_at (entry_count bytes) functions.1)) (several function_entry_at (function_count bytes) (drop (64 + code_length bytes) bytes)) parts same in
        let entries = split_map {B = Parts} (λ (entries : List MapFields × List ℕ). record {
          code = take (code_length bytes) (drop 64 bytes);
          functions = functions.0.0;
          entries = entries_from (base_address bytes + map_distance) entries.0;
          rest = entries.1;
        }) (several map_fields_at (entry_count bytes) functions.0.1) parts functions.2 in
        let after = functions_low (function_count bytes) (drop (64 + code_length bytes) bytes) functions.0.0 functions.0.1 (drop_low (64 + code_length bytes) bytes low) functions.1 in
        let fields = entries_fit (entry_count bytes) functions.0.1 entries.0.0 entries.0.1 after entries.1 in
        let said = said_entries (base_address bytes + map_distance) entries.0.0 fields.0 in
        let whole : entries_from (base_address bytes + map_distance) entries.0.0 ≡ parts.entries = ap (λ (p : Parts). p.entries) entries.2 in
        let few = four_below bytes 24 low in
        let P : List MapEntry → Type 0 = λ es. All EntryFits es × (length es < 2 ^ 32) in
        let both = subst P whole (said.0, omega (arith, said.1, fields.1, few)) in
        record { entries = both.0; few = both.1 }

-- ---- ids

-- whether a number is one of a list
abbrev among : ℕ → List ℕ → Bool
among x xs = list_any (λ (y : ℕ). y == x) xs

or_cases : (a b : Bool) → {P : Type 0} → (a || b) ≡ true → (a ≡ true → P) → (b ≡ true → P) → P
or_cases true b is one other = one refl
or_cases false b is one other = other is

or_one : (a b : Bool) → a ≡ true → (a || b) ≡ true
or_one a b is = ap (λ (t : Bool). t || b) is

or_other : (a b : Bool) → b ≡ true → (a || b) ≡ true
or_other true b is = refl
or_other false b is = is

-- each number is among those seen, or among those that are kept
kept : (x : ℕ) (seen xs : List ℕ) → among x xs ≡ true → (among x seen ≡ true) ⊎ (among x (distinct seen xs) ≡ true)
kept x seen [] is = absurd (false≢true is)
kept x seen (y ∷ xs) is = by_seen (cases_Bool (among y seen)) (kept x seen xs) (kept x (y ∷ seen) xs)
  where
    later : (y == x) ≡ false → among x xs ≡ true
    later isnt = sym (ap (λ (t : Bool). t || among x xs) isnt) ∙ is

    by_seen : (among y seen ≡ true) ⊎ (among y seen ≡ false)
        → (among x xs ≡ true → (among x seen ≡ true) ⊎ (among x (distinct seen xs) ≡ true))
        → (among x xs ≡ true → (among x (y ∷ seen) ≡ true) ⊎ (among x (distinct (y ∷ seen) xs) ≡ true))
        → (among x seen ≡ true) ⊎ (among x (if among y seen then distinct seen xs else y ∷ distinct (y ∷ seen) xs) ≡ true)
    by_seen (inl was) same next = by_first (cases_Bool (y == x))
      where
        by_first : ((y == x) ≡ true) ⊎ ((y == x) ≡ false) → (among x seen ≡ true) ⊎ (among x (if among y seen then distinct seen xs else y ∷ distinct (y ∷ seen) xs) ≡ true)
        by_first (inl own) = inl (ap (λ (n : ℕ). among n seen) (sym (eqb-true y x own)) ∙ was)
        by_first (inr isnt) = elim (same (later isnt)) [
          | inl before ↦ inl before
          | inr there ↦ inr (ap (λ (t : Bool). among x (if t then distinct seen xs else y ∷ distinct (y ∷ seen) xs)) was ∙ there)
        ]
    by_seen (inr new) same next = by_first (cases_Bool (y == x))
      where
        by_first : ((y == x) ≡ true) ⊎ ((y == x) ≡ false) → (among x seen ≡ true) ⊎ (among x (if among y seen then distinct seen xs else y ∷ distinct (y ∷ seen) xs) ≡ true)
        by_first (inl own) = inr (ap (λ (t : Bool). among x (if t then distinct seen xs else y ∷ distinct (y ∷ seen) xs)) new ∙ or_one (y == x) (among x (distinct (y ∷ seen) xs)) own)
        by_first (inr isnt) = elim (next (later isnt)) [
          | inl before ↦ inl (sym (ap (λ (t : Bool). t || among x seen) isnt) ∙ before)
          | inr there ↦ inr (ap (λ (t : Bool). among x (if t then distinct seen xs else y ∷ distinct (y ∷ seen) xs)) new ∙ or_other (y == x) (among x (distinct (y ∷ seen) xs)) there)
        ]

-- the place of a number that is there
place_within : (x : ℕ) (xs : List ℕ) → among x xs ≡ true → position_or_len (λ (y : ℕ). y == x) xs < length xs
place_within x [] is = absurd (false≢true is)
place_within x (y ∷ xs) is = by_first (cases_Bool (y == x)) (place_within x xs)
  where
    by_first : ((y == x) ≡ true) ⊎ ((y == x) ≡ false) → (among x xs ≡ true → position_or_len (λ (z : ℕ). z == x) xs < length xs) → position_or_len (λ (z : ℕ). z == x) (y ∷ xs) < length (y ∷ xs)
    by_first (inl own) again =
        let first = ap (λ (t : Bool). if not t then 1 + position_or_len (λ (z : ℕ). z == x) xs else 0) own in
        omega (arith, first)
    by_first (inr isnt) again =
        let next = ap (λ (t : Bool). if not t then 1 + position_or_len (λ (z : ℕ). z == x) xs else 0) isnt in
        let rest = again (sym (ap (λ (t : Bool). t || among x xs) isnt) ∙ is) in
        omega (arith, next, rest)

id_few : (entries : List MapEntry) (function : ℕ) → length entries < 2 ^ 32 → among function (map (λ (e : MapEntry). e.function) entries) ≡ true → id_of entries function ≤ 4294967295
id_few entries function few there =
    let starts : List ℕ = map (λ (e : MapEntry). e.function) entries in
    elim (kept function [] starts there) [
      | inl never ↦ absurd (false≢true never)
      | inr is ↦
          let place = place_within function (distinct [] starts) is in
          let most = distinct_few [] starts in
          let count = length-map entries (λ (e : MapEntry). e.function) in
          omega (arith, place, most, count, few)
    ]

-- what is kept was there, and wasn't seen
from_distinct : (x : ℕ) (seen xs : List ℕ) → among x (distinct seen xs) ≡ true → (among x xs ≡ true) × (among x seen ≡ false)
from_distinct x seen [] is = absurd (false≢true is)
from_distinct x seen (y ∷ xs) is = by_seen (among y seen) refl is (from_distinct x seen xs) (from_distinct x (y ∷ seen) xs)
  where
    by_seen : (t : Bool) → among y seen ≡ t → among x (if t then distinct seen xs else y ∷ distinct (y ∷ seen) xs) ≡ true
        → (among x (distinct seen xs) ≡ true → (among x xs ≡ true) × (among x seen ≡ false))
        → (among x (distinct (y ∷ seen) xs) ≡ true → (among x xs ≡ true) × (among x (y ∷ seen) ≡ false))
        → (among x (y ∷ xs) ≡ true) × (among x seen ≡ false)
    by_seen true was there same next = let rest = same there in (or_other (y == x) (among x xs) rest.0, rest.1)
    by_seen false new there same next = by_first (cases_Bool (y == x))
      where
        by_first : ((y == x) ≡ true) ⊎ ((y == x) ≡ false) → (among x (y ∷ xs) ≡ true) × (among x seen ≡ false)
        by_first (inl own) = (or_one (y == x) (among x xs) own, ap (λ (n : ℕ). among n seen) (sym (eqb-true y x own)) ∙ new)
        by_first (inr isnt) =
            let rest = next (sym (ap (λ (t : Bool). t || among x (distinct (y ∷ seen) xs)) isnt) ∙ there) in
            (or_other (y == x) (among x xs) rest.0, (or_parts (y == x) (among x seen) rest.1).1)

got_among : (xs : List ℕ) (n x : ℕ) → slice_get xs n ≡ Some x → among x xs ≡ true
got_among [] n x is = absurd cc
got_among (y ∷ xs) zero x is = or_one (y == x) (among x xs) (eq-eqb y x (same_Some _ _ is))
got_among (y ∷ xs) (suc n) x is = or_other (y == x) (among x xs) (got_among xs n x is)

-- each of the kept numbers is first at its own place
own_place : (seen xs : List ℕ) (n x : ℕ) → slice_get (distinct seen xs) n ≡ Some x → position_or_len (λ (y : ℕ). y == x) (distinct seen xs) ≡ n
own_place seen [] n x is = absurd cc
own_place seen (y ∷ xs) n x is = by_seen (among y seen) n is (own_place seen xs) (own_place (y ∷ seen) xs)
  where
    by_seen : (t : Bool) (m : ℕ) → slice_get (if t then distinct seen xs else y ∷ distinct (y ∷ seen) xs) m ≡ Some x
        → ((k z : ℕ) → slice_get (distinct seen xs) k ≡ Some z → position_or_len (λ (w : ℕ). w == z) (distinct seen xs) ≡ k)
        → ((k z : ℕ) → slice_get (distinct (y ∷ seen) xs) k ≡ Some z → position_or_len (λ (w : ℕ). w == z) (distinct (y ∷ seen) xs) ≡ k)
        → position_or_len (λ (w : ℕ). w == x) (if t then distinct seen xs else y ∷ distinct (y ∷ seen) xs) ≡ m
    by_seen true m at same next = same m x at
    by_seen false zero at same next =
        ap (λ (t : Bool). if not t then 1 + position_or_len (λ (w : ℕ). w == x) (distinct (y ∷ seen) xs) else 0) (eq-eqb y x (same_Some _ _ at))
    by_seen false (suc m) at same next =
        let there = got_among (distinct (y ∷ seen) xs) m x at in
        let isnt = (or_parts (y == x) (among x seen) (from_distinct x (y ∷ seen) xs there).1).0 in
        let rest = next m x at in
        ap (λ (t : Bool). if not t then 1 + position_or_len (λ (w : ℕ). w == x) (distinct (y ∷ seen) xs) else 0) isnt ∙ omega (arith, rest)

-- ---- sleds

-- the entries of a map are those of these places
abbrev AreOf : List SledPlace → List MapEntry → Type 0
AreOf places entries = map (λ (e : MapEntry). e.sled) entries ≡ map (λ (p : SledPlace). p.address) places

abbrev sleds_of : List MapEntry → List SledPlace → List MapEntry → List Sled
sleds_of all places entries = map (sled_of all) (zip places entries)

same_functions : (all : List MapEntry) (places : List SledPlace) (entries : List MapEntry) → AreOf places entries
    → map (λ (s : Sled). s.function) (sleds_of all places entries) ≡ map (λ (e : MapEntry). e.function) entries
same_functions all [] [] of = refl
same_functions all [] (e ∷ entries) of = absurd cc
same_functions all (p ∷ places) [] of = absurd cc
same_functions all (p ∷ places) (e ∷ entries) of =
    ap (λ (l : List ℕ). e.function ∷ l) (same_functions all places entries (let rest : AreOf places entries = cc in rest))

-- a function of an entry is that of a sled with its id
with_id : (all : List MapEntry) (places : List SledPlace) (entries : List MapEntry) (function id : ℕ) → AreOf places entries
    → among function (map (λ (e : MapEntry). e.function) entries) ≡ true → id_of all function ≡ id → list_any (λ (s : Sled). s.id == id) (sleds_of all places entries) ≡ true
with_id all [] [] function id of there is = absurd (false≢true there)
with_id all [] (e ∷ entries) function id of there is = absurd cc
with_id all (p ∷ places) [] function id of there is = absurd cc
with_id all (p ∷ places) (e ∷ entries) function id of there is =
    or_cases (e.function == function) (among function (map (λ (x : MapEntry). x.function) entries)) there
    (λ own. or_one (id_of all e.function == id) (list_any (λ (s : Sled). s.id == id) (sleds_of all places entries))
    (eq-eqb (id_of all e.function) id (ap (id_of all) (eqb-true e.function function own) ∙ is)))
    (λ later. or_other (id_of all e.function == id) (list_any (λ (s : Sled). s.id == id) (sleds_of all places entries))
    (with_id all places entries function id (let rest : AreOf places entries = cc in rest) later is))

-- each entry's function is that of an entry
each_among : (entries : List MapEntry) → All (λ (e : MapEntry). among e.function (map (λ (x : MapEntry). x.function) entries) ≡ true) entries
each_among [] = All-nil (λ (e : MapEntry). among e.function [] ≡ true)
each_among (e ∷ entries) =
    All-cons (λ (x : MapEntry). among x.function (map (λ (y : MapEntry). y.function) (e ∷ entries)) ≡ true) e entries
    (or_one (e.function == e.function) (among e.function (map (λ (y : MapEntry). y.function) entries)) (eq-eqb e.function e.function refl))
    (All-weaker (λ (x : MapEntry). among x.function (map (λ (y : MapEntry). y.function) entries) ≡ true) (λ (x : MapEntry). among x.function (map (λ (y : MapEntry). y.function) (e ∷ entries)) ≡ true)
    (λ x is. or_other (e.function == x.function) (among x.function (map (λ (y : MapEntry). y.function) entries)) is) entries (each_among entries))

sleds_fit : (program : Program) (all : List MapEntry) (places : List SledPlace) (entries : List MapEntry) → AreOf places entries → length all < 2 ^ 32
    → All EntryFits entries → All (λ (e : MapEntry). among e.function (map (λ (x : MapEntry). x.function) all) ≡ true) entries
    → ((id : ℕ) → All (λ (b : ℕ). is_name_byte b ≡ true) (unwrap_or (name_of program id) [])) → All (Fits program) (sleds_of all places entries)
sleds_fit program all [] [] of few fits there named = All-nil (Fits program)
sleds_fit program all [] (e ∷ entries) of few fits there named = absurd cc
sleds_fit program all (p ∷ places) [] of few fits there named = absurd cc
sleds_fit program all (p ∷ places) (e ∷ entries) of few fits there named =
    let own = All-head EntryFits e entries fits in
    let is = All-head (λ (x : MapEntry). among x.function (map (λ (y : MapEntry). y.function) all) ≡ true) e entries there in
    let at : e.sled ≡ p.address = cc in
    let low : p.address < 2 ^ 64 = omega (arith, own.sled, at) in
    All-cons (Fits program) (sled_of all (p, e)) (sleds_of all places entries)
    (record { id = id_few all e.function few is; address = low; function = own.function; name = named (id_of all e.function) })
    (sleds_fit program all places entries (let rest : AreOf places entries = cc in rest) few (All-tail EntryFits e entries fits)
    (All-tail (λ (x : MapEntry). among x.function (map (λ (y : MapEntry). y.function) all) ≡ true) e entries there) named)

-- ---- names

record IsNamed (name : List ℕ) : Type 0 where
  some : 0 < length name
  bytes : All (λ (b : ℕ). is_name_byte b ≡ true) name

not_empty : (name : List ℕ) → (name ≡ [] → ⊥) → 0 < length name
not_empty [] isnt = absurd (isnt refl)
not_empty (b ∷ name) isnt = omega arith

is_named : (program : Program) (base : ℕ) → AreFunctions base program.units program.functions → (id : ℕ) (name : List ℕ) → name_of program id ≡ Some name → IsNamed name
is_named program base functions zero name is = absurd cc
is_named program base functions (suc n) name is =
    let start = split_then (name_at program) (slice_get (sledded_functions program) n) name is in
    let found = split_map (λ (f : Function). f.name) (find (λ (f : Function). f.start == start.0) program.functions) name start.2 in
    let at = sym (find_at (λ (f : Function). f.start == start.0) program.functions) ∙ found.1 in
    let function = functions (position_or_len (λ (f : Function). f.start == start.0) program.functions) found.0 at in
    subst IsNamed found.2 (record { some = not_empty found.0.name function.has_name; bytes = function.name_bytes })

name_fits : (program : Program) (base : ℕ) → AreFunctions base program.units program.functions → (id : ℕ) → All (λ (b : ℕ). is_name_byte b ≡ true) (unwrap_or (name_of program id) [])
name_fits program base functions id = by_name (name_of program id) refl
  where
    by_name : (o : Option (List ℕ)) → name_of program id ≡ o → All (λ (b : ℕ). is_name_byte b ≡ true) (unwrap_or o [])
    by_name None is = All-nil (λ (b : ℕ). is_name_byte b ≡ true)
    by_name (Some name) is = (is_named program base functions id name is).bytes

-- the id with a name is that of a sled
name_there : (program : Program) (all : List MapEntry) (places : List SledPlace) → AreOf places all → program.sleds ≡ sleds_of all places all
    → (id : ℕ) (name : List ℕ) → name_of program id ≡ Some name → list_any (λ (s : Sled). s.id == id) program.sleds ≡ true
name_there program all places of sleds zero name is = absurd cc
name_there program all places of sleds (suc n) name is =
    let start = split_then (name_at program) (slice_get (sledded_functions program) n) name is in
    let starts : map (λ (s : Sled). s.function) program.sleds ≡ map (λ (e : MapEntry). e.function) all =
    ap (map (λ (s : Sled). s.function)) sleds ∙ same_functions all places all of in
    let at : slice_get (distinct [] (map (λ (e : MapEntry). e.function) all)) n ≡ Some start.0 = ap (λ (l : List ℕ). slice_get (distinct [] l) n) (sym starts) ∙ start.1 in
    let there = (from_distinct start.0 [] (map (λ (e : MapEntry). e.function) all) (got_among (distinct [] (map (λ (e : MapEntry). e.function) all)) n start.0 at)).0 in
    let place = own_place [] (map (λ (e : MapEntry). e.function) all) n start.0 at in
    let own : id_of all start.0 ≡ suc n = omega (arith, place) in
    ap (list_any (λ (s : Sled). s.id == suc n)) sleds ∙ with_id all places all start.0 (suc n) of there own

-- ---- the law

pub maps_name : MapsName
maps_name bytes program low accepted =
    let parts = accepted.parts in
    let entries : List MapEntry = parts.entries in
    let places : List SledPlace = places_from (base_address bytes) accepted.pieces in
    let made : Program = program_of bytes parts accepted.pieces in
    let fit = parts_fit bytes parts low accepted.reaches in
    let functions : AreFunctions (base_address bytes) made.units made.functions =
    (let P : Program → Type 0 = λ p. AreFunctions (base_address bytes) p.units parts.functions in subst P accepted.holds accepted.functions) in
    let fits : All (Fits made) made.sleds =
    sleds_fit made entries places entries accepted.map_order fit.few fit.entries (each_among entries) (name_fits made (base_address bytes) functions) in
    let have : HaveSleds made =
    record {
      there = name_there made entries places accepted.map_order refl;
      some = λ id name is. (is_named made (base_address bytes) functions id name is).some;
    } in
    let Q : Program → Type 0 = λ p. map_naming (extract_text p) ≡ Ok (program_names p) in
    subst Q (sym accepted.holds) (map_names_it made fits have)
