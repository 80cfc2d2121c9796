-- The numbers of a list that doesn't fall, each once.
use Rattle.std.proofs.Common.{◌≡◌, ◌<◌, ◌≤◌, ◌+◌, ℕ, zero, suc, List, [], ◌∷◌, ◌++◌, ◌||◌, ◌==◌, Bool, true, false, length, take, drop, get_or, cond, All, refl, sym, ap, subst, ◌∙◌, arith, append_assoc, inl, inr}
use Rattle.std.specs.List.{list_any, position_or_len}
use Rattle.std.specs.List.Sorted.{IsNonDecreasing}
use Rattle.std.proofs.lemmas.Bool.{cases_eq, cases_Bool, eq-eqb, ne_eqb}
use Rattle.std.proofs.lemmas.List.{length-append, take-append-drop, get_or-take, length-take, get_or_append_left}
use Rattle.std.proofs.lemmas.List.Elements.{All-nil, All-cons, All-head, All-tail, All-push, All-weaker, All-from_get_or, All-get_or}
use Rattle.std.proofs.lemmas.List.Folds.{list_any_none, list_any_at}
use Rattle.std.proofs.lemmas.List.Sums.{position_or_len_is}
use Rattle.std.proofs.Math.Seq.{take-suc, get_or-append_seam}
use Rattle.xray_image.specs.Program.{distinct}

-- whether a number is one of a list
abbrev among : ℕ → List ℕ → Bool
among x xs = list_any (λ y. y == x) xs

-- ---- the numbers of a prefix come first

either : (b : Bool) (x y u v : List ℕ) → (m : List ℕ) × (x ≡ u ++ m) → (m : List ℕ) × (y ≡ v ++ m) → (m : List ℕ) × (cond b x y ≡ cond b u v ++ m)
either true x y u v p q = p
either false x y u v p q = q

pub front_first : (seen xs ys : List ℕ) → (m : List ℕ) × (distinct seen (xs ++ ys) ≡ distinct seen xs ++ m)
front_first seen [] ys = (distinct seen ys, refl)
front_first seen (x ∷ xs) ys =
    let rest = front_first (x ∷ seen) xs ys in
    either (among x seen) _ _ _ _ (front_first seen xs ys) (rest.0, ap (λ t. x ∷ t) rest.1)

-- ---- what is true of all numbers is true of each once

-- ---- there are no more of them

shorter : (b : Bool) (x y : List ℕ) (n : ℕ) → length x ≤ n → length y ≤ n → length (cond b x y) ≤ n
shorter true x y n p q = p
shorter false x y n p q = q

pub distinct_few : (seen xs : List ℕ) → length (distinct seen xs) ≤ length xs
distinct_few seen [] = omega arith
distinct_few seen (x ∷ xs) = shorter (among x seen) (distinct seen xs) (x ∷ distinct (x ∷ seen) xs) _ (omega (arith, distinct_few seen xs)) (omega (arith, distinct_few (x ∷ seen) xs))

-- ---- one number more

same_end : (b : Bool) (x y u v t : List ℕ) → x ≡ u ++ t → y ≡ v ++ t → cond b x y ≡ cond b u v ++ t
same_end true x y u v t p q = p
same_end false x y u v t p q = q

one_new : (seen xs : List ℕ) (x : ℕ) → All (λ y. y ≡ x → ⊥) seen → All (λ y. y ≡ x → ⊥) xs → distinct seen (xs ++ x ∷ []) ≡ distinct seen xs ++ x ∷ []
one_new seen [] x not_seen others =
    let none : among x seen ≡ false = list_any_none (λ y. y == x) seen (All-weaker (λ y. y ≡ x → ⊥) (λ y. (y == x) ≡ false) (λ y. ne_eqb y x) seen not_seen) in
    ap (λ (b : Bool). cond b [] (x ∷ [])) none
one_new seen (y ∷ ys) x not_seen others =
    let following = All-tail (λ y. y ≡ x → ⊥) y ys others in
    same_end (among y seen) _ _ _ _ (x ∷ []) (one_new seen ys x not_seen following)
    (ap (λ t. y ∷ t) (one_new (y ∷ seen) ys x (All-cons (λ y. y ≡ x → ⊥) y seen (All-head (λ y. y ≡ x → ⊥) y ys others) not_seen) following))

or_false : (a : Bool) → (a || false) ≡ true → a ≡ true
or_false true e = refl
or_false false e = e

or_in : (a b : Bool) → a ≡ true → (a || b) ≡ true
or_in a b e = ap (λ (c : Bool). c || b) e

or_without : (a b c : Bool) → (a || (b || c)) ≡ true → b ≡ false → (a || c) ≡ true
or_without a b c e none = sym (ap (λ (d : Bool). a || (d || c)) none) ∙ e

or_moved : (a b c : Bool) → (a || (b || c)) ≡ true → ((b || a) || c) ≡ true
or_moved true true c e = refl
or_moved true false c e = refl
or_moved false true c e = refl
or_moved false false c e = e

one_old : (seen xs : List ℕ) (x : ℕ) → (among x seen || among x xs) ≡ true → distinct seen (xs ++ x ∷ []) ≡ distinct seen xs
one_old seen [] x known = ap (λ (b : Bool). cond b [] (x ∷ [])) (or_false (among x seen) known)
one_old seen (y ∷ ys) x known =
    elim (cases_Bool (among y seen)) [
      | inl old ↦
          let still : (among x seen || among x ys) ≡ true = elim (cases_eq y x) [
            | inl same ↦ or_in (among x seen) (among x ys) (subst (λ (z : ℕ). among z seen ≡ true) same old)
            | inr other ↦ or_without (among x seen) (y == x) (among x ys) known (ne_eqb y x other)
          ] in
          ap (λ (b : Bool). cond b (distinct seen (ys ++ x ∷ [])) (y ∷ distinct (y ∷ seen) (ys ++ x ∷ []))) old
          ∙ one_old seen ys x still
          ∙ sym (ap (λ (b : Bool). cond b (distinct seen ys) (y ∷ distinct (y ∷ seen) ys)) old)
      | inr new ↦
          ap (λ (b : Bool). cond b (distinct seen (ys ++ x ∷ [])) (y ∷ distinct (y ∷ seen) (ys ++ x ∷ []))) new
          ∙ ap (λ t. y ∷ t) (one_old (y ∷ seen) ys x (or_moved (among x seen) (y == x) (among x ys) known))
          ∙ sym (ap (λ (b : Bool). cond b (distinct seen ys) (y ∷ distinct (y ∷ seen) ys)) new)
    ]

-- ---- numbers that don't fall

-- of the numbers up to a place, the one at that place is the last new one, and above those before it
record EndsWith (xs : List ℕ) (i : ℕ) : Type 0 where
  front : List ℕ
  is : distinct [] (take (suc i) xs) ≡ front ++ get_or xs i 0 ∷ []
  below : All (λ y. y < get_or xs i 0) front

module _ (xs : List ℕ) (up : IsNonDecreasing xs) where
  up_to : (i : ℕ) (x : ℕ) → i < length xs → get_or xs i 0 < x → All (λ y. y ≡ x → ⊥) (take (suc i) xs)
  up_to i x lt less = All-from_get_or (λ y. y ≡ x → ⊥) (take (suc i) xs) 0 (λ k within same.
      let there : get_or (take (suc i) xs) k 0 ≡ get_or xs k 0 = get_or-take (suc i) xs k 0 (omega (arith, within, length-take (suc i) xs)) in
      omega (arith, up k i 0 (omega (arith, within, length-take (suc i) xs)) lt, there, same, less))

  -- a number that differs from the one before it is new
  pub new_number : (i : ℕ) → suc i < length xs → (get_or xs i 0 ≡ get_or xs (suc i) 0 → ⊥) → distinct [] (take (suc (suc i)) xs) ≡ distinct [] (take (suc i) xs) ++ get_or xs (suc i) 0 ∷ []
  new_number i lt other =
      ap (distinct []) (take-suc xs (suc i) 0 lt)
      ∙ one_new [] (take (suc i) xs) (get_or xs (suc i) 0) (All-nil _) (up_to i (get_or xs (suc i) 0) (omega arith) (omega (arith, up i (suc i) 0 (omega arith) lt, other)))

  -- a number that equals the one before it isn't
  pub old_number : (i : ℕ) → suc i < length xs → get_or xs i 0 ≡ get_or xs (suc i) 0 → distinct [] (take (suc (suc i)) xs) ≡ distinct [] (take (suc i) xs)
  old_number i lt same =
      let x : ℕ = get_or xs (suc i) 0 in
      let there : get_or (take (suc i) xs) i 0 ≡ x = get_or-take (suc i) xs i 0 (omega arith) ∙ same in
      let known : among x (take (suc i) xs) ≡ true = list_any_at (λ y. y == x) (take (suc i) xs) i 0 (omega (arith, length-take (suc i) xs)) (eq-eqb (get_or (take (suc i) xs) i 0) x there) in
      ap (distinct []) (take-suc xs (suc i) 0 lt) ∙ one_old [] (take (suc i) xs) x known

  -- the first is new
  pub first_number : 0 < length xs → distinct [] (take 1 xs) ≡ get_or xs 0 0 ∷ []
  first_number some = ap (distinct []) (take-suc xs 0 0 some)

  ends_with : (i : ℕ) → i < length xs → EndsWith xs i
  ends_with zero lt = record { front = []; is = first_number lt; below = All-nil _ }
  ends_with (suc i) lt =
      let before = ends_with i (omega arith) in
      elim (cases_eq (get_or xs i 0) (get_or xs (suc i) 0)) [
        | inl same ↦ record {
          front = before.front;
          is = old_number i lt same ∙ before.is ∙ ap (λ x. before.front ++ x ∷ []) same;
          below = All-weaker (λ y. y < get_or xs i 0) (λ y. y < get_or xs (suc i) 0) (λ y less. omega (arith, same, less)) before.front before.below;
        }
        | inr other ↦
            let less : get_or xs i 0 < get_or xs (suc i) 0 = omega (arith, up i (suc i) 0 (omega arith) lt, other) in
            record {
              front = before.front ++ get_or xs i 0 ∷ [];
              is = new_number i lt other ∙ ap (λ t. t ++ get_or xs (suc i) 0 ∷ []) before.is;
              below = All-push (λ y. y < get_or xs (suc i) 0) before.front (get_or xs i 0)
                  (All-weaker (λ y. y < get_or xs i 0) (λ y. y < get_or xs (suc i) 0) (λ y under. omega (arith, less, under)) before.front before.below) less;
            }
      ]

  -- a number's place among all of them is the last of those up to it
  pub place_of_number : (i : ℕ) → i < length xs → 1 + position_or_len (λ y. y == get_or xs i 0) (distinct [] xs) ≡ length (distinct [] (take (suc i) xs))
  place_of_number i lt =
      let x : ℕ = get_or xs i 0 in
      let ends = ends_with i lt in
      let more = front_first [] (take (suc i) xs) (drop (suc i) xs) in
      let whole : distinct [] xs ≡ ends.front ++ x ∷ more.0 =
      ap (distinct []) (sym (take-append-drop (suc i) xs)) ∙ more.1 ∙ ap (λ t. t ++ more.0) ends.is ∙ append_assoc ends.front (x ∷ []) more.0 in
      let at : position_or_len (λ y. y == x) (ends.front ++ x ∷ more.0) ≡ length ends.front =
      position_or_len_is (λ y. y == x) (ends.front ++ x ∷ more.0) (length ends.front) 0 (omega (arith, length-append ends.front (x ∷ more.0)))
      (λ k below. ne_eqb _ x (λ same. omega (arith, same, get_or_append_left ends.front (x ∷ more.0) 0 k below, All-get_or (λ y. y < x) ends.front k 0 below ends.below)))
      (λ lt'. eq-eqb _ x (get_or-append_seam ends.front x more.0 0)) in
      ap (λ t. 1 + position_or_len (λ y. y == x) t) whole ∙ ap (λ n. 1 + n) at
      ∙ sym (ap length ends.is ∙ length-append ends.front (x ∷ []) ∙ omega arith)
