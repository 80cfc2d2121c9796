-- The rows after those of the statement itself.
use Rattle.std.proofs.Common.{◌≡◌, ℕ, Bool, true, false, ◌||◌, [], ◌∷◌, ◌++◌, refl, sym, ◌∙◌, ltb}
use Rattle.std.specs.Prelude.{Ok, Err}
use Rattle.std.proofs.lemmas.Bool.{ltb-false}
use Rattle.asm_text.specs.declared.fault.AsmFault.TheVariants as faults
use Rattle.asm_text.specs.declared.totals.Totals.{Totals}
use Rattle.asm_text.specs.Statements.{Statement}
use Rattle.asm_text.specs.Layout.{StatementLines}
use Rattle.asm_text.specs.Refusals.{repeats, exceeds_limits}
use Rattle.asm_text.specs.private.FirstPass.{IsTotals, IsWithin, totals_exceed, taken}

totals_exceed-is : (lines : StatementLines) (t : Totals) → IsTotals lines t → totals_exceed t ≡ exceeds_limits lines
totals_exceed-is lines t is = rw (is.functions, is.code, is.sleds) refl

pub taken_limit : (lines : StatementLines) (number : ℕ) (statement : Statement) (t : Totals) → repeats lines statement ≡ false → IsTotals (lines ++ (number, statement) ∷ []) t
    → totals_exceed t ≡ true → taken lines number statement ≡ Err (faults.Limit number)
taken_limit lines number statement t free is much =
    let over : exceeds_limits (lines ++ (number, statement) ∷ []) ≡ true = sym (totals_exceed-is (lines ++ (number, statement) ∷ []) t is) ∙ much in
    rw (free, over) refl

pub taken_ok : (lines : StatementLines) (number : ℕ) (statement : Statement) (t : Totals) → repeats lines statement ≡ false → IsTotals (lines ++ (number, statement) ∷ []) t
    → totals_exceed t ≡ false → taken lines number statement ≡ Ok (lines ++ (number, statement) ∷ [])
taken_ok lines number statement t free is few =
    let under : exceeds_limits (lines ++ (number, statement) ∷ []) ≡ false = sym (totals_exceed-is (lines ++ (number, statement) ∷ []) t is) ∙ few in
    rw (free, under) refl

or_parts : (a b : Bool) → (a || b) ≡ false → (a ≡ false) × (b ≡ false)
or_parts true b h = cc
or_parts false b h = (refl, h)

pub within_limits : (t : Totals) → totals_exceed t ≡ false → IsWithin t
within_limits t few =
    let first = or_parts (ltb 1024 t.functions || ltb 1048576 t.code) (ltb 4096 t.sleds) few in
    let second = or_parts (ltb 1024 t.functions) (ltb 1048576 t.code) first.0 in
    record { functions = ltb-false 1024 t.functions second.0; code = ltb-false 1048576 t.code second.1; sleds = ltb-false 4096 t.sleds first.1 }
