-- The innermost open call of a function, in a list of calls from the outermost to the innermost.
use Rattle.std.proofs.Common.{◌≡◌, ℕ, Bool, true, false, cond, List, [], ◌∷◌, reverse, count_by, refl, ap, ◌∙◌, arith, nat_eq}
use Rattle.std.proofs.lemmas.List.Sorted.{sum_by-IsPermutation, IsPermutation-reverse}
use Rattle.std.proofs.lemmas.List.Sums.{sum_by-cons}
use Rattle.stack_rebuild.specs.declared.call.Call.{Call}
use Rattle.stack_rebuild.specs.Calls.{from_innermost}
use Rattle.stack_rebuild.specs.private.Counts.{is_of}

-- 1 for a call of the function, and 0 for any other
abbrev one_of : ℕ → Call → ℕ
one_of func call = cond (is_of func call) 1 0

none_from : (func : ℕ) (calls : List Call) → count_by (is_of func) calls ≡ 0 → from_innermost func calls ≡ []
none_from func [] none = refl
none_from func (call ∷ outer) none = by_first (nat_eq call.func func) refl (none_from func outer)
  where
    by_first : (b : Bool) → nat_eq call.func func ≡ b → (count_by (is_of func) outer ≡ 0 → from_innermost func outer ≡ [])
        → cond b (call ∷ outer) (from_innermost func outer) ≡ []
    by_first true is following = absurd (omega (arith, sum_by-cons (one_of func) call outer, ap {B = ℕ} (λ b. cond b 1 0) is))
    by_first false is following = following (omega (arith, sum_by-cons (one_of func) call outer))

-- if no call is of the function, none is its innermost one
pub from_innermost-none : (func : ℕ) (calls : List Call) → count_by (is_of func) calls ≡ 0 → from_innermost func (reverse calls) ≡ []
from_innermost-none func calls none =
    none_from func (reverse calls) (sum_by-IsPermutation (one_of func) calls (reverse calls) (IsPermutation-reverse calls) ∙ none)
