-- Where branches go.
use Rattle.std.proofs.Common.{◌≡◌, ℕ, ◌+◌, ◌<◌, ◌≤◌, ◌^◌, Bool, false, List, length, get_or, Option, Some, refl, sym, ap, subst, ◌∙◌, arith}
use Rattle.std.specs.Prelude.{◌↔◌, ℤ, pos, negsuc, unsigned_abs, Contains, IfSome, IsTrue, slice_get}
use Rattle.std.specs.Int.{w64, FitsUnsigned}
use Rattle.std.proofs.lemmas.Bool.{false≢true}
use Rattle.std.proofs.lemmas.Int.{ints}
use Rattle.std.proofs.lemmas.List.{get_or_default}
use Rattle.std.proofs.lemmas.Option.{same_Some, slice_get-get_or, slice_get_within}
use Rattle.subset_decode.specs.declared.instr.Instr.{Instr}
use Rattle.subset_decode.specs.Encoding.{spelling}
use Rattle.xray_image.specs.declared.unit.Unit.{Unit}
use Rattle.xray_image.specs.declared.unit.What.TheVariants.{Plain}
use Rattle.xray_image.specs.private.Index.{AreWithin}
use Rattle.xray_image.specs.Program.{addresses, branch_target, BranchReaches}
use Rattle.xray_image.specs.Table.{BranchesRightly}

plain_same : (i j : Instr) → Plain i ≡ Plain j → i ≡ j
plain_same i j e = cc

absolute : (t : ℤ) → FitsUnsigned w64 t → t ≡ pos (unsigned_abs t)
absolute (pos n) h = refl
absolute (negsuc n) h = absurd (let low = h.0 in omega (arith, ints))

fits_address : (n : ℕ) → n < 2 ^ 64 → FitsUnsigned w64 (pos n)
fits_address n lt = (omega (arith, ints), omega (arith, ints))

pos_same : (m n : ℕ) → pos m ≡ pos n → m ≡ n
pos_same m n e = cc

-- a target is the address of a unit
abbrev Arrives : List Unit → Option ℤ → Type 0
Arrives units o = IfSome o (λ target. (address : ℕ) × (target ≡ pos address) × Contains (addresses units) address)

module _ (units : List Unit) (u : Unit) (instr : Instr) (t : ℤ) (what : u.what ≡ Plain instr) (is : Some t ≡ branch_target (u.address + length (spelling instr)) instr) where
  reach : Arrives units (Some t) → BranchReaches units u
  reach h instr' e =
      let same : instr ≡ instr' = plain_same instr instr' (sym what ∙ e) in
      subst (λ (x : Instr). Arrives units (branch_target (u.address + length (spelling x)) x)) same (subst (Arrives units) is h)

  back : BranchReaches units u → Arrives units (Some t)
  back r = subst (Arrives units) (sym is) (r instr what)

  pub arrives : (address : ℕ) (told : Bool) → FitsUnsigned w64 t × (address ≡ unsigned_abs t) → IsTrue told ↔ Contains (addresses units) address → IsTrue told ↔ BranchReaches units u
  arrives address told fits tells =
      let there : t ≡ pos address = absolute t fits.0 ∙ ap pos (sym fits.1) in (
        λ h. reach (address, there, tells.0 h),
        λ r. let g = back r in tells.1 (subst (Contains (addresses units)) (pos_same g.0 address (sym g.1 ∙ there)) g.2),
      )

  pub outside : (FitsUnsigned w64 t → ⊥) → ((a : ℕ) → Contains (addresses units) a → a < 2 ^ 64) → IsTrue false ↔ BranchReaches units u
  outside beyond low = (
    λ h. absurd (false≢true h),
    λ r. let g = back r in absurd (beyond (subst (FitsUnsigned w64) (sym g.1) (fits_address g.0 (low g.0 g.2)))),
  )

-- ---- the units of a code

pub address_within : (base : ℕ) (units : List Unit) → AreWithin base (2 ^ 32) (addresses units) → base < 2 ^ 63 → (a : ℕ) → Contains (addresses units) a → a < 2 ^ 64
address_within base units within low a there =
    let at = within there.0 there.1 in
    omega (arith, at, low, there.2, get_or_default (addresses units) there.0 a 0 there.1)

module _ (base : ℕ) (units : List Unit) (i : ℕ) (u : Unit) (in_units : i < length units) (u_is : u ≡ get_or units i u) where
  unit_there : slice_get units i ≡ Some u
  unit_there = slice_get-get_or units i u in_units ∙ ap (λ (x : Unit). Some x) (sym u_is)

  pub rightly : BranchReaches units u → BranchesRightly units i
  rightly r v e = subst (BranchReaches units) (same_Some _ _ (sym unit_there ∙ e)) r

  pub wrongly : (BranchReaches units u → ⊥) → BranchesRightly units i → ⊥
  wrongly fails all = fails (all u unit_there)

pub no_unit : (units : List Unit) (i : ℕ) → length units ≤ i → BranchesRightly units i
no_unit units i le v e = absurd (let within = slice_get_within units i v e in omega arith)
