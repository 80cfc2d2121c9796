-- Lists by places.
use Rattle.std.proofs.Common.{◌≡◌, ℕ, ◌+◌, ◌*◌, ◌<◌, ◌≤◌, zero, suc, List, [], ◌∷◌, ◌++◌, ◌||◌, Bool, true, false, cond, length, take, drop, get_or, Some, refl, ap, ◌∙◌, arith}
use Rattle.std.specs.Prelude.{slice_get, filter}
use Rattle.std.specs.List.{list_any, flat_map}
use Rattle.std.proofs.lemmas.List.Folds.{list_any-append}
use Rattle.std.proofs.lemmas.List.{length-append}
use Rattle.std.proofs.lemmas.Option.{none-some, same_Some}

pub slice_get-append_left : {X : Type 0} (xs ys : List X) (i : ℕ) → i < length xs → slice_get (xs ++ ys) i ≡ slice_get xs i
slice_get-append_left [] ys i lt = absurd (omega arith)
slice_get-append_left (x ∷ xs) ys zero lt = refl
slice_get-append_left (x ∷ xs) ys (suc i) lt = slice_get-append_left xs ys i (omega arith)

pub slice_get-append_right : {X : Type 0} (xs ys : List X) (i : ℕ) → slice_get (xs ++ ys) (length xs + i) ≡ slice_get ys i
slice_get-append_right [] ys i = ap (slice_get ys) (omega arith)
slice_get-append_right (x ∷ xs) ys i =
    ap (slice_get (x ∷ (xs ++ ys))) (let next : length (x ∷ xs) + i ≡ suc (length xs + i) = omega arith in next) ∙ slice_get-append_right xs ys i

-- a list, split at a place
pub split_at : {X : Type 0} (xs : List X) (i : ℕ) (x : X) → slice_get xs i ≡ Some x → xs ≡ take i xs ++ x ∷ drop (suc i) xs
split_at [] i x at = absurd (none-some x at)
split_at (y ∷ ys) zero x at = ap (λ z. z ∷ ys) (same_Some y x at)
split_at (y ∷ ys) (suc i) x at = ap (λ zs. y ∷ zs) (split_at ys i x at)

pub take_one_more : {X : Type 0} (xs : List X) (i : ℕ) (x : X) → slice_get xs i ≡ Some x → take (suc i) xs ≡ take i xs ++ x ∷ []
take_one_more [] i x at = absurd (none-some x at)
take_one_more (y ∷ ys) zero x at = ap (λ z. z ∷ []) (same_Some y x at)
take_one_more (y ∷ ys) (suc i) x at = ap (λ zs. y ∷ zs) (take_one_more ys i x at)

or_false : (a : Bool) → (a || false) ≡ a
or_false true = refl
or_false false = refl

pub list_any-last : {X : Type 0} (p : X → Bool) (xs : List X) (x : X) → list_any p (xs ++ x ∷ []) ≡ (list_any p xs || p x)
list_any-last p xs x = list_any-append p xs (x ∷ []) ∙ ap (λ b. list_any p xs || b) (or_false (p x))

-- ---- pieces of four

pub four_each : {X Y : Type 0} (f : X → List Y) (xs : List X) → ((x : X) → length (f x) ≡ 4) → length (flat_map f xs) ≡ 4 * length xs
four_each f [] fours = refl
four_each f (x ∷ xs) fours = omega (arith, length-append (f x) (flat_map f xs), fours x, four_each f xs fours)

pub slice_get-fours : {X Y : Type 0} (f : X → List Y) (xs : List X) (k j : ℕ) (x : X) → ((x : X) → length (f x) ≡ 4) → slice_get xs k ≡ Some x → j < 4
    → slice_get (flat_map f xs) (4 * k + j) ≡ slice_get (f x) j
slice_get-fours f [] k j x fours at lt = absurd (none-some x at)
slice_get-fours f (y ∷ ys) zero j x fours at lt =
    ap (slice_get (f y ++ flat_map f ys)) (let first : 4 * 0 + j ≡ j = omega arith in first)
    ∙ slice_get-append_left (f y) (flat_map f ys) j (omega (arith, fours y)) ∙ ap (λ z. slice_get (f z) j) (same_Some y x at)
slice_get-fours f (y ∷ ys) (suc k) j x fours at lt =
    ap (slice_get (f y ++ flat_map f ys)) (let next : 4 * suc k + j ≡ length (f y) + (4 * k + j) = omega (arith, fours y) in next)
    ∙ slice_get-append_right (f y) (flat_map f ys) (4 * k + j) ∙ slice_get-fours f ys k j x fours at lt

-- ---- elements that pass side by side

none_pass : {X : Type 0} (p : X → Bool) (xs : List X) → ((k : ℕ) (d : X) → k < length xs → p (get_or xs k d) ≡ false) → filter p xs ≡ []
none_pass p [] none = refl
none_pass p (x ∷ xs) none =
    ap (λ b. cond b (x ∷ filter p xs) (filter p xs)) (none 0 x (omega arith)) ∙ none_pass p xs (λ k d lt. none (suc k) d (omega arith))

front_passes : {X : Type 0} (p : X → Bool) (xs : List X) (n : ℕ) → n ≤ length xs → ((k : ℕ) (d : X) → k < n → p (get_or xs k d) ≡ true)
    → ((k : ℕ) (d : X) → n ≤ k → k < length xs → p (get_or xs k d) ≡ false) → filter p xs ≡ take n xs
front_passes p xs zero le pass fail = none_pass p xs (λ k d lt. fail k d (omega arith) lt)
front_passes p [] (suc n) le pass fail = absurd (omega arith)
front_passes p (x ∷ xs) (suc n) le pass fail =
    ap (λ b. cond b (x ∷ filter p xs) (filter p xs)) (pass 0 x (omega arith))
    ∙ ap (λ ys. x ∷ ys) (front_passes p xs n (omega arith) (λ k d lt. pass (suc k) d (omega arith)) (λ k d above lt. fail (suc k) d (omega arith) (omega arith)))

pub filter_range : {X : Type 0} (p : X → Bool) (xs : List X) (start n : ℕ) → start + n ≤ length xs → ((k : ℕ) (d : X) → k < start → p (get_or xs k d) ≡ false)
    → ((k : ℕ) (d : X) → start ≤ k → k < start + n → p (get_or xs k d) ≡ true) → ((k : ℕ) (d : X) → start + n ≤ k → k < length xs → p (get_or xs k d) ≡ false)
    → filter p xs ≡ take n (drop start xs)
filter_range p xs zero n le before inside following =
    front_passes p xs n (omega arith) (λ k d lt. inside k d (omega arith) (omega arith)) (λ k d above lt. following k d (omega arith) lt)
filter_range p [] (suc start) n le before inside following = absurd (omega arith)
filter_range p (x ∷ xs) (suc start) n le before inside following =
    ap (λ b. cond b (x ∷ filter p xs) (filter p xs)) (before 0 x (omega arith))
    ∙ filter_range p xs start n (omega arith) (λ k d lt. before (suc k) d (omega arith)) (λ k d from to. inside (suc k) d (omega arith) (omega arith))
    (λ k d above lt. following (suc k) d (omega arith) (omega arith))
