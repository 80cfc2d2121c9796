-- Names in lists.
use Rattle.std.proofs.Common.{◌≡◌, ℕ, ◌<◌, ◌≤◌, get_or, Bool, true, false, cond, List, [], length, Option, Some, None, refl, sym, ap, ◌∙◌, arith, map, Bor}
use Rattle.std.specs.Prelude.{position}
use Rattle.std.specs.List.{position_or_len, range_with_len, list_all}
use Rattle.std.specs.Str.{bytes_eq}
use Rattle.std.proofs.lemmas.Bool.{le-leb}
use Rattle.std.proofs.lemmas.List.{get_or-map, length-map}
use Rattle.std.proofs.lemmas.List.FromFn.{get_or-map-range_with_len}
use Rattle.std.proofs.lemmas.List.Quantifiers.{position-Some}
use Rattle.std.proofs.lemmas.List.Sums.{position_or_len_is}
use Rattle.std.proofs.lemmas.Slice.Eq.{bytes_eq-Decides}
use Rattle.xray_image.specs.Program.{is_name_byte}
use Rattle.asm_text.specs.Names.{is_decimal, is_name}
use Rattle.asm_text.specs.Registers.{number_in}
use Rattle.asm_text.specs.private.RegisterNames.{are_told, number_of_name}

false_unless : (b : Bool) → (b ≡ true → ⊥) → b ≡ false
false_unless false h = refl
false_unless true h = absurd (h refl)

-- a name's bytes tell its place
told_at : (names : List (List ℕ)) (k : ℕ) → are_told names ≡ true → k < length names → number_of_name (get_or names k []) ≡ k
told_at names k told within =
    let same : map number_of_name names ≡ map (λ (n : ℕ). n) (range_with_len 0 16) = (bytes_eq-Decides (map number_of_name names) (range_with_len 0 16)).0 told in
    let count : length (map number_of_name names) ≡ 16 = ap length same in
    let few : k < 16 = omega (arith, length-map names number_of_name) in
    sym (get_or-map number_of_name names k [] 0 within) ∙ ap (λ l. get_or l k 0) same ∙ get_or-map-range_with_len (λ (n : ℕ). n) 0 16 k k 0 few (omega arith)

-- a name that stands elsewhere isn't the word
unlike : (names : List (List ℕ)) (word : List ℕ) (k : ℕ) → are_told names ≡ true → k < length names → (k ≡ number_of_name word → ⊥) → bytes_eq (get_or names k []) word ≡ false
unlike names word k told within other =
    false_unless (bytes_eq (get_or names k []) word)
    (λ same. other (sym (told_at names k told within) ∙ ap number_of_name ((bytes_eq-Decides (get_or names k []) word).0 same)))

-- the number of a word that is the name at its place
pub number_at : (names : List (List ℕ)) (word : List ℕ) → are_told names ≡ true → number_of_name word < length names → bytes_eq (get_or names (number_of_name word) []) word ≡ true
    → number_in names word ≡ Some (number_of_name word)
number_at names word told within found =
    let at : position_or_len (λ name. bytes_eq name word) names ≡ number_of_name word = position_or_len_is (λ name. bytes_eq name word) names (number_of_name word) [] (omega arith)
    (λ k below. unlike names word k told (omega arith) (λ same. absurd (omega arith))) (λ _. found) in
    grind arith

-- a word that isn't the name at its place is no name
pub number_nowhere : (names : List (List ℕ)) (word : List ℕ) → are_told names ≡ true → bytes_eq (get_or names (number_of_name word) []) word ≡ false → number_in names word ≡ None
number_nowhere names word told lost = each (number_in names word) refl
  where
    each : (o : Option ℕ) → number_in names word ≡ o → number_in names word ≡ None
    each None h = h
    each (Some i) h =
        let found = position-Some (λ name. bytes_eq name word) names i [] h in
        let same : get_or names i [] ≡ word = (bytes_eq-Decides (get_or names i []) word).0 found.1 in
        let place : number_of_name word ≡ i = ap number_of_name (sym same) ∙ told_at names i told found.0 in
        let hit : bytes_eq (get_or names (number_of_name word) []) word ≡ true = rw place found.1 in
        cc

-- the same in a table of references: the answer of one comparison
pub number_if : (names : List (Bor (List ℕ))) (word : List ℕ) (n : ℕ) (d : Bor (List ℕ)) (found : Bool) → are_told (map (λ name. name.now) names) ≡ true → length names ≡ 16 → n < 16
    → n ≡ number_of_name word → found ≡ bytes_eq (get_or names n d).now word → cond found (Some n) None ≡ number_in (map (λ name. name.now) names) word
number_if names word n d found told count few place is = each found is
  where
    all : List (List ℕ)
    all = map (λ name. name.now) names

    same : get_or all (number_of_name word) [] ≡ (get_or names n d).now
    same = rw (← place) (get_or-map (λ (name : Bor (List ℕ)). name.now) names n d [] (omega arith))

    each : (b : Bool) → b ≡ bytes_eq (get_or names n d).now word → cond b (Some n) None ≡ number_in all word
    each true h = ap Some place ∙ sym (number_at all word told (omega (arith, length-map names (λ name. name.now))) (rw same (sym h)))
    each false h = sym (number_nowhere all word told (rw same (sym h)))

-- a place is within the list
pub position_within : {X : Type 0} (p : X → Bool) (xs : List X) (i : ℕ) → Some i ≡ position p xs → i < length xs
position_within p xs i h = grind arith

-- a name by its parts
pub name_by_parts : (word : List ℕ) (bytes : Bool) → 0 < length word → length word ≤ 255 → is_decimal (get_or word 0 0) ≡ false → bytes ≡ list_all is_name_byte word → bytes ≡ is_name word
name_by_parts word bytes some few first all = rw (le-leb 1 (length word) some, le-leb (length word) 255 few, first) all
