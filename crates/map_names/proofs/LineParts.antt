-- Parts that are found in a line, and what the line then is.
use Rattle.std.proofs.Common.{◌≡◌, ◌<◌, ◌+◌, ◌-◌, ◌++◌, ◌∷◌, ◌∙◌, ◌==◌, ℕ, Bool, true, false, List, [], Option, Some, None, length, take, drop, get_or, not, add-one, drop-cons, refl, sym, ap, arith}
use Rattle.std.specs.Prelude.{All, nat_lt, position, option_map, option_and_then, if◌then◌else◌}
use Rattle.std.specs.List.{position_or_len}
use Rattle.std.specs.Str.{bytes_eq}
use Rattle.std.proofs.Math.Seq.{drop-append-add, drop-append_seam, take-append_seam}
use Rattle.std.proofs.lemmas.Bool.{eqb-true, lt-ltb}
use Rattle.std.proofs.lemmas.Option.{same_Some}
use Rattle.std.proofs.lemmas.List.Quantifiers.{position-Some}
use Rattle.std.proofs.lemmas.List.{length-append, take-append-drop}
use Rattle.std.proofs.lemmas.List.Elements.{All-head, All-tail}
use Rattle.std.proofs.lemmas.Slice.Eq.{bytes_eq-Decides}
use Rattle.map_names.specs.Entries.{after_label, at_comma, before_ending, field_in, past_field}

same_bytes : (xs ys : List ℕ) → bytes_eq xs ys ≡ true → xs ≡ ys
same_bytes xs ys is = (bytes_eq-Decides xs ys).0 is

bytes_same : (xs ys : List ℕ) → xs ≡ ys → bytes_eq xs ys ≡ true
bytes_same xs ys is = (bytes_eq-Decides xs ys).1 is

-- what is chosen is the one with something
chosen : {X : Type 0} (t : Bool) (x y : X) → (if t then Some x else None) ≡ Some y → (t ≡ true) × (x ≡ y)
chosen true x y is = (refl, cc)
chosen false x y is = absurd cc

-- ---- labels and endings

pub after_found : (label rest : List ℕ) → after_label label (label ++ rest) ≡ Some rest
unfolding after_label
after_found label rest =
    ap (λ (t : Bool). if t then Some (drop (length label) (label ++ rest)) else None) (bytes_same (take (length label) (label ++ rest)) label (take-append_seam label rest))
    ∙ ap (λ (l : List ℕ). Some l) (drop-append_seam label rest)

pub after_is : (label bytes rest : List ℕ) → after_label label bytes ≡ Some rest → bytes ≡ label ++ rest
unfolding after_label
after_is label bytes rest is =
    let parts = chosen (bytes_eq (take (length label) bytes) label) (drop (length label) bytes) rest is in
    sym (take-append-drop (length label) bytes)
    ∙ (ap (λ (l : List ℕ). l ++ drop (length label) bytes) (same_bytes (take (length label) bytes) label parts.0)
    ∙ ap (λ (l : List ℕ). label ++ l) parts.1)

-- how much stands before an ending
before_size : (ending front : List ℕ) → length (front ++ ending) - length ending ≡ length front
before_size ending front = let size = length-append front ending in omega (arith, size)

pub ending_found : (ending front : List ℕ) → before_ending ending (front ++ ending) ≡ Some front
unfolding before_ending
ending_found ending front =
    ap (λ (n : ℕ). if bytes_eq (drop n (front ++ ending)) ending then Some (take n (front ++ ending)) else None) (before_size ending front)
    ∙ (ap (λ (t : Bool). if t then Some (take (length front) (front ++ ending)) else None) (bytes_same (drop (length front) (front ++ ending)) ending (drop-append_seam front ending))
    ∙ ap (λ (l : List ℕ). Some l) (take-append_seam front ending))

pub ending_is : (ending bytes front : List ℕ) → before_ending ending bytes ≡ Some front → bytes ≡ front ++ ending
unfolding before_ending
ending_is ending bytes front is =
    let n : ℕ = length bytes - length ending in
    let parts = chosen (bytes_eq (drop n bytes) ending) (take n bytes) front is in
    sym (take-append-drop n bytes)
    ∙ (ap (λ (l : List ℕ). take n bytes ++ l) (same_bytes (drop n bytes) ending parts.0)
    ∙ ap (λ (l : List ℕ). l ++ ending) parts.1)

-- bytes that don't end so
pub no_ending : (ending bytes : List ℕ) → ((front : List ℕ) → bytes ≡ front ++ ending → ⊥) → before_ending ending bytes ≡ None
no_ending ending bytes never = by_found (before_ending ending bytes) refl
  where
    by_found : (found : Option (List ℕ)) → before_ending ending bytes ≡ found → found ≡ None
    by_found None is = refl
    by_found (Some front) is = absurd (never front (ending_is ending bytes front is))

pub no_label : (label bytes : List ℕ) → ((rest : List ℕ) → bytes ≡ label ++ rest → ⊥) → after_label label bytes ≡ None
no_label label bytes never = by_found (after_label label bytes) refl
  where
    by_found : (found : Option (List ℕ)) → after_label label bytes ≡ found → found ≡ None
    by_found None is = refl
    by_found (Some rest) is = absurd (never rest (after_is label bytes rest is))

-- ---- fields

-- no byte of a value is a comma
abbrev pub NoComma : List ℕ → Type 0
NoComma value = All (λ (b : ℕ). (b == 44) ≡ false) value

comma_place : (value rest : List ℕ) → NoComma value → position_or_len (λ (b : ℕ). b == 44) (value ++ 44 ∷ rest) ≡ length value
comma_place [] rest none = refl
comma_place (b ∷ value) rest none =
    let isnt : (b == 44) ≡ false = All-head (λ (x : ℕ). (x == 44) ≡ false) b value none in
    let again = comma_place value rest (All-tail (λ (x : ℕ). (x == 44) ≡ false) b value none) in
    ap (λ (t : Bool). if not t then 1 + position_or_len (λ (x : ℕ). x == 44) (value ++ 44 ∷ rest) else 0) isnt ∙ omega (arith, again)

first_comma : (value rest : List ℕ) → NoComma value → position (λ (b : ℕ). b == 44) (value ++ 44 ∷ rest) ≡ Some (length value)
first_comma value rest none =
    let place = comma_place value rest none in
    let size = length-append value (44 ∷ rest) in
    ap (λ (n : ℕ). if nat_lt n (length (value ++ 44 ∷ rest)) then Some n else None) place
    ∙ ap (λ (t : Bool). if t then Some (length value) else None) (lt-ltb (length value) (length (value ++ 44 ∷ rest)) (omega (arith, size)))

pub field_found : (label value rest : List ℕ) → NoComma value → field_in label (label ++ (value ++ 44 ∷ rest)) ≡ Some (value, rest)
unfolding field_in at_comma
field_found label value rest none =
    let whole : List ℕ = value ++ 44 ∷ rest in
    let front : take (length value) whole ≡ value = take-append_seam value (44 ∷ rest) in
    let back : drop (length value + 1) whole ≡ rest = drop-append-add value (44 ∷ rest) 1 in
    ap (option_and_then at_comma) (after_found label whole)
    ∙ (ap (option_map {U = List ℕ × List ℕ} (λ (n : ℕ). (take n whole, drop (n + 1) whole))) (first_comma value rest none)
    ∙ (ap (λ (l : List ℕ). Some (l, drop (length value + 1) whole)) front ∙ ap (λ (l : List ℕ). Some (value, l)) back))

-- the comma that was found
comma_is : (bytes value rest : List ℕ) → option_map {U = List ℕ × List ℕ} (λ (n : ℕ). (take n bytes, drop (n + 1) bytes)) (position (λ (b : ℕ). b == 44) bytes) ≡ Some (value, rest) → bytes ≡ value ++ 44 ∷ rest
comma_is bytes value rest is = by_place (position (λ (b : ℕ). b == 44) bytes) refl is
  where
    by_place : (place : Option ℕ) → position (λ (b : ℕ). b == 44) bytes ≡ place → option_map {U = List ℕ × List ℕ} (λ (n : ℕ). (take n bytes, drop (n + 1) bytes)) place ≡ Some (value, rest) → bytes ≡ value ++ 44 ∷ rest
    by_place None at same = absurd cc
    by_place (Some n) at same =
        let found = position-Some (λ (b : ℕ). b == 44) bytes n 0 at in
        let parts : (take n bytes, drop (n + 1) bytes) ≡ (value, rest) = same_Some _ _ same in
        let front : take n bytes ≡ value = ap (λ (p : List ℕ × List ℕ). p.0) parts in
        let back : drop (n + 1) bytes ≡ rest = ap (λ (p : List ℕ × List ℕ). p.1) parts in
        let comma : get_or bytes n 0 ≡ 44 = eqb-true (get_or bytes n 0) 44 found.1 in
        let within : n < length bytes = found.0 in
        let here : drop n bytes ≡ get_or bytes n 0 ∷ drop (n + 1) bytes = rw (add-one, drop-cons bytes n 0) refl in
        sym (take-append-drop n bytes)
        ∙ (ap (λ (l : List ℕ). l ++ drop n bytes) front
        ∙ ap (λ (l : List ℕ). value ++ l) (here ∙ (ap (λ (b : ℕ). b ∷ drop (n + 1) bytes) comma ∙ ap (λ (l : List ℕ). 44 ∷ l) back)))

pub field_is : (label bytes value rest : List ℕ) → field_in label bytes ≡ Some (value, rest) → bytes ≡ label ++ (value ++ 44 ∷ rest)
unfolding field_in at_comma
field_is label bytes value rest is = by_rest (after_label label bytes) refl is
  where
    by_rest : (after : Option (List ℕ)) → after_label label bytes ≡ after → option_and_then at_comma after ≡ Some (value, rest) → bytes ≡ label ++ (value ++ 44 ∷ rest)
    by_rest None at same = absurd cc
    by_rest (Some behind) at same = after_is label bytes behind at ∙ ap (λ (l : List ℕ). label ++ l) (comma_is behind value rest same)

-- ---- fields whose values pass a test

pub past_found : (label : List ℕ) (test : List ℕ → Bool) (value rest : List ℕ) → NoComma value → test value ≡ true → past_field label test (label ++ (value ++ 44 ∷ rest)) ≡ Some rest
unfolding past_field
past_found label test value rest none passes =
    ap (option_and_then (λ (field : List ℕ × List ℕ). if test field.0 then Some field.1 else None)) (field_found label value rest none)
    ∙ ap (λ (t : Bool). if t then Some rest else None) passes

-- a field that was passed: its value
pub record IsPast (label : List ℕ) (test : List ℕ → Bool) (bytes rest : List ℕ) : Type 0 where
  pub value : List ℕ
  pub passes : test value ≡ true
  pub whole : bytes ≡ label ++ (value ++ 44 ∷ rest)

pub past_is : (label : List ℕ) (test : List ℕ → Bool) (bytes rest : List ℕ) → past_field label test bytes ≡ Some rest → IsPast label test bytes rest
unfolding past_field
past_is label test bytes rest is = by_field (field_in label bytes) refl is
  where
    by_field : (field : Option (List ℕ × List ℕ)) → field_in label bytes ≡ field → option_and_then (λ (f : List ℕ × List ℕ). if test f.0 then Some f.1 else None) field ≡ Some rest
        → IsPast label test bytes rest
    by_field None at same = absurd cc
    by_field (Some (value, behind)) at same =
        let parts = chosen (test value) behind rest same in
        record { value = value; passes = parts.0; whole = field_is label bytes value behind at ∙ ap (λ (l : List ℕ). label ++ (value ++ 44 ∷ l)) parts.1 }
