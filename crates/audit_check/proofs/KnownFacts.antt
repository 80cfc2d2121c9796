-- What is known to be so, or not to be.
use Rattle.std.proofs.Common.{◌≡◌, ℕ, ◌<◌, ◌≤◌, Bool, true, false, List, inl, inr, refl, sym, ◌∙◌, arith}
use Rattle.std.specs.Prelude.{◌⊎◌, ◌↔◌, IsTrue}
use Rattle.std.specs.Str.{bytes_eq}
use Rattle.std.proofs.lemmas.Bool.{cases_eq, cases_lt}
use Rattle.std.proofs.lemmas.Slice.Eq.{bytes_eq-Decides}

-- it is so, or it isn't
abbrev pub Known : Type 0 → Type 0
Known A = A ⊎ (A → ⊥)

pub known_as : {A B : Type 0} → (A → B) → (B → A) → Known A → Known B
known_as into back (inl is) = inl (into is)
known_as into back (inr not) = inr (λ b. not (back b))

pub known_both : {A B : Type 0} → Known A → Known B → Known (A × B)
known_both (inl a) (inl b) = inl (a, b)
known_both (inl a) (inr b) = inr (λ both. b both.1)
known_both (inr a) b = inr (λ both. a both.0)

-- a test that says whether it is so
pub known_test : {A : Type 0} → Known A → (b : Bool) × (IsTrue b ↔ A)
known_test (inl is) = (true, ((λ _. is), λ _. refl))
known_test {A} (inr not) = (false, ((λ is. absurd (never is)), λ is. absurd (not is)))
  where
    never : false ≡ true → ⊥
    never e = cc

pub known_equal : (a b : ℕ) → Known (a ≡ b)
known_equal a b = cases_eq a b

pub known_most : (a b : ℕ) → Known (a ≤ b)
known_most a b = elim (cases_lt b a) [
  | inl less ↦ inr (λ low. omega arith)
  | inr low ↦ inl low
]

pub known_below : (a b : ℕ) → Known (a < b)
known_below a b = elim (cases_lt a b) [
  | inl less ↦ inl less
  | inr low ↦ inr (λ less. omega arith)
]

pub known_bytes : (a b : List ℕ) → Known (a ≡ b)
known_bytes a b = by (bytes_eq a b) refl
  where
    by : (e : Bool) → bytes_eq a b ≡ e → Known (a ≡ b)
    by true e = inl ((bytes_eq-Decides a b).0 e)
    by false e = inr (λ same. let both : true ≡ false = sym ((bytes_eq-Decides a b).1 same) ∙ e in cc)
