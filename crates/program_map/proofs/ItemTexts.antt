-- The text of items, one after another, as a loop over the items adds it.
use Rattle.std.specs.Prelude.{◌≡◌, ℕ, zero, suc, ◌+◌, ◌<◌, List, [], ◌∷◌, ◌++◌, length, take, drop, Option, Ok, Err, IsErrAnd, refl}
use Rattle.std.specs.List.{flat_map}
use Rattle.std.proofs.Common.{get_or, add-one, sym, ap, subst, ◌∙◌, arith, append_assoc}
use Rattle.std.proofs.lemmas.Grind.{flat_map-append}
use Rattle.std.proofs.lemmas.List.{append-nil, take-append-drop}
use Rattle.xray_io.specs.Calls.{Composes, Write}
use Rattle.xray_io.specs.Text.{AddsText, adds_failed, adds_more, adds_within}
use Rattle.xray_io.specs.Writes.{Answer}
use Rattle.xray_io.specs.declared.faults.WriteFault.{WriteFault}
use Rattle.xray_io.specs.declared.text.Text.{Text}

-- the texts of the first items, and of one more
pub texts_more : {X : Type 0} (f : X → List ℕ) (xs : List X) (i : ℕ) (d : X) → i < length xs
    → flat_map f (take (i + 1) xs) ≡ flat_map f (take i xs) ++ f (get_or xs i d)
texts_more f [] i d within = absurd (omega arith)
texts_more f (x ∷ xs) zero d within = rw (append-nil (f x)) refl
texts_more f (x ∷ xs) (suc i) d within =
    let rest = texts_more f xs i d (omega arith) in
    let more : take (suc i + 1) (x ∷ xs) ≡ x ∷ take (i + 1) xs = rw (add-one, add-one) refl in
    rw (more, rest) (sym (append_assoc (f x) (flat_map f (take i xs)) (f (get_or xs i d))))

-- the texts of the first items, and of the others
pub texts_split : {X : Type 0} (f : X → List ℕ) (xs : List X) (i : ℕ) → flat_map f (take i xs) ++ flat_map f (drop i xs) ≡ flat_map f xs
texts_split f xs i = sym (flat_map-append f (take i xs) (drop i xs)) ∙ ap (flat_map f) (take-append-drop i xs)

-- the texts of the items before one, and then its own
here : {X : Type 0} (f : X → List ℕ) (xs : List X) (i : ℕ) (d x : X) → i < length xs → x ≡ get_or xs i d
    → flat_map f (take i xs) ++ f x ≡ flat_map f (take (i + 1) xs)
here f xs i d x within is = ap (λ y. flat_map f (take i xs) ++ f y) is ∙ sym (texts_more f xs i d within)

-- the texts of the items before one were added, and then its own
pub adds_next : {S X : Type 0} {written : S → Option (List ℕ)} {faults : S → ℕ} {along : S → S → List Write → Type 0} → Composes along
    → {first second third : Text S} (f : X → List ℕ) (xs : List X) (i : ℕ) (d x : X) → i < length xs → x ≡ get_or xs i d
    → AddsText written faults along first second (flat_map f (take i xs)) (Ok tt) → AddsText written faults along second third (f x) (Ok tt)
    → AddsText written faults along first third (flat_map f (take (i + 1) xs)) (Ok tt)
adds_next {written = written} {faults = faults} {along = along} both {first = first} {third = third} f xs i d x within is before item =
    let P : List ℕ → Type 0 = λ text. AddsText written faults along first third text (Ok tt) in
    subst P (here f xs i d x within is) (adds_more both before item)

-- the texts of the items before one were added, and its own couldn't be
pub adds_broken : {S X : Type 0} {written : S → Option (List ℕ)} {faults : S → ℕ} {along : S → S → List Write → Type 0} → Composes along
    → {first second third : Text S} {error : WriteFault} (f : X → List ℕ) (xs : List X) (i : ℕ) (d x : X) → i < length xs → x ≡ get_or xs i d
    → AddsText written faults along first second (flat_map f (take i xs)) (Ok tt) → AddsText written faults along second third (f x) (Err error)
    → (answer : Answer) → IsErrAnd answer (λ e. e ≡ error) → AddsText written faults along first third (flat_map f xs) answer
adds_broken both f xs i d x within is before item answer fails =
    let rest = flat_map f (drop (i + 1) xs) in
    let whole = ap (λ (text : List ℕ). text ++ rest) (here f xs i d x within is) ∙ texts_split f xs (i + 1) in
    adds_failed (adds_within both rest before item whole) answer fails
