-- The least number of which something holds.
use Rattle.std.proofs.Common.{◌≡◌, ℕ, Option, Some, None, sym, subst, arith, inl, inr}
use Rattle.std.specs.Prelude.{◌⊎◌, min}
use Rattle.std.proofs.lemmas.Bool.{cases_lt}
use Rattle.audit_check.specs.private.Judging.{lesser}
use Rattle.audit_check.specs.private.Turns.{IsLeast}

-- two words for one thing
pub least_same : (A B : ℕ → Type 0) (x : Option ℕ) → ((n : ℕ) → A n → B n) → ((n : ℕ) → B n → A n) → IsLeast A x → IsLeast B x
least_same A B None into back never = λ n b. never n (back n b)
least_same A B (Some p) into back (holds, least) = (into p holds, λ n b. least n (back n b))

-- ---- of two

pub least_either : (A B : ℕ → Type 0) (x y : Option ℕ) → IsLeast A x → IsLeast B y → IsLeast (λ n. A n ⊎ B n) (lesser x y)
least_either A B None None a b = λ n either. elim either [ inl here ↦ a n here | inr there ↦ b n there ]
least_either A B None (Some q) a (holds, least) = (inr holds, λ n either. elim either [ inl here ↦ absurd (a n here) | inr there ↦ least n there ])
least_either A B (Some p) None (holds, least) b = (inl holds, λ n either. elim either [ inl here ↦ least n here | inr there ↦ absurd (b n there) ])
least_either A B (Some p) (Some q) (holds, least) (holds', least') = elim (cases_lt q p) [
  | inl less ↦
      let is : min p q ≡ q = omega arith in
      (subst (λ n. A n ⊎ B n) (sym is) (inr holds'), λ n either. elim either [ inl here ↦ let low = least n here in omega arith | inr there ↦ let low = least' n there in omega arith ])
  | inr more ↦
      let is : min p q ≡ p = omega arith in
      (subst (λ n. A n ⊎ B n) (sym is) (inl holds), λ n either. elim either [ inl here ↦ let low = least n here in omega arith | inr there ↦ let low = least' n there in omega arith ])
]
