use Rattle.std.proofs.Common.{◌≡◌, ℕ, List, refl, subst, w32}
use Rattle.std.specs.Prelude.{ℤ}
use Rattle.std.proofs.lemmas.Int.{to_z-of_z}
use Rattle.xray_image.specs.declared.unit.Unit.{Unit}
use Rattle.machine_step.specs.PlainStep.{branched}
use Rattle.machine_step.specs.private.Steps.{IsPlaceOf}
use Rattle.machine_step.proofs.steps.step_of_instruction.Goals as goal

-- a place that was found for the same distance
there : (units : List Unit) (following target : ℕ) {found rel : ℤ} → found ≡ rel → IsPlaceOf units (branched following found) target → IsPlaceOf units (branched following rel) target
there units following target same is = subst (λ (z : ℤ). IsPlaceOf units (branched following z) target) same is

pub returns-in-Call : goal.returns-in-Call
returns-in-Call c = rw c.in-Call.is (c.target_of.result, there _ _ _ (to_z-of_z w32 c.in-Call.rel (rw c.in-Call.is at c.requires)) c.target_of.ensures, refl)

pub returns-in-Jmp : goal.returns-in-Jmp
returns-in-Jmp c = rw c.in-Jmp.is (c.target_of-in-Jmp.result, there _ _ _ (to_z-of_z w32 c.in-Jmp.rel (rw c.in-Jmp.is at c.requires)) c.target_of-in-Jmp.ensures, refl)

pub returns-in-Jnz : goal.returns-in-Jnz
returns-in-Jnz c = rw c.in-Jnz.is (c.target_of-in-Jnz.result, there _ _ _ (to_z-of_z w32 c.in-Jnz.rel (rw c.in-Jnz.is at c.requires)) c.target_of-in-Jnz.ensures, refl)
