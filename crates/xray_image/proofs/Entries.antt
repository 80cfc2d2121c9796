-- The function that an address lies in, and distances.
use Rattle.std.proofs.Common.{◌≡◌, ℕ, zero, suc, ◌+◌, ◌-◌, ◌<◌, ◌≤◌, List, [], ◌∷◌, Bool, true, false, cond, length, get_or, map, Option, Some, None, refl, sym, ap, subst, ◌∙◌, arith}
use Rattle.std.specs.Prelude.{filter, nat_le, ◌-ℤ◌, pos, FitsSigned}
use Rattle.std.specs.List.{last_or, AllWithin}
use Rattle.std.specs.Int.{w32}
use Rattle.std.specs.List.Sorted.{IsStrictlyIncreasing}
use Rattle.std.proofs.lemmas.Simd.{map-map}
use Rattle.xray_image.specs.private.Judging.{Ascend}
use Rattle.xray_image.specs.declared.parts.FunctionEntry.{FunctionEntry}
use Rattle.xray_image.specs.Units.{SledPlace}
use Rattle.xray_image.specs.Container.{Function, MapEntry}
use Rattle.xray_image.specs.Program.{Trampolines, trampoline_of, kind_of, Reaches}
use Rattle.xray_image.specs.private.Views.{function_of}
use Rattle.xray_image.proofs.FunctionRows.{zero_function}

-- the start of the last of the first n functions
abbrev start_before : Option ℕ → List FunctionEntry → ℕ → Option ℕ
start_before o functions zero = o
start_before o functions (suc n) = Some (get_or functions n zero_function).start

abbrev IsParted : ℕ → List FunctionEntry → ℕ → Type 0
IsParted address functions n =
    AllWithin (λ f. nat_le f.start address ≡ true) functions 0 n × AllWithin (λ f. nat_le f.start address ≡ false) functions n (length functions)

parted_tail : (address : ℕ) (f : FunctionEntry) (fs : List FunctionEntry) (n : ℕ) → IsParted address (f ∷ fs) (suc n) → IsParted address fs n
parted_tail address f fs n p = (λ k d low high. p.0 (suc k) d (omega arith) (omega arith), λ k d low high. p.1 (suc k) d (omega arith) (omega arith))

parted_none : (address : ℕ) (f : FunctionEntry) (fs : List FunctionEntry) → IsParted address (f ∷ fs) 0 → IsParted address fs 0
parted_none address f fs p = (λ k d low high. absurd (omega arith), λ k d low high. p.1 (suc k) d (omega arith) (omega arith))

last_below : (address : ℕ) (functions : List FunctionEntry) (n : ℕ) (o : Option ℕ) → IsParted address functions n → n ≤ length functions
    → last_or o (map (λ f. f.start) (filter (λ f. nat_le f.start address) (map function_of functions))) ≡ start_before o functions n
last_below address [] zero o p le = refl
last_below address [] (suc n) o p le = absurd (omega arith)
last_below address (f ∷ fs) zero o p le =
    ap (λ (b : Bool). last_or o (map (λ (g : Function). g.start) (cond b (function_of f ∷ filter (λ g. nat_le g.start address) (map function_of fs)) (filter (λ g. nat_le g.start address) (map function_of fs)))))
    (p.1 0 f (omega arith) (omega arith))
    ∙ last_below address fs 0 o (parted_none address f fs p) (omega arith)
last_below address (f ∷ fs) (suc zero) o p le =
    ap (λ (b : Bool). last_or o (map (λ (g : Function). g.start) (cond b (function_of f ∷ filter (λ g. nat_le g.start address) (map function_of fs)) (filter (λ g. nat_le g.start address) (map function_of fs)))))
    (p.0 0 f (omega arith) (omega arith))
    ∙ last_below address fs 0 (Some f.start) (parted_tail address f fs 0 p) (omega arith)
last_below address (f ∷ fs) (suc (suc n)) o p le =
    ap (λ (b : Bool). last_or o (map (λ (g : Function). g.start) (cond b (function_of f ∷ filter (λ g. nat_le g.start address) (map function_of fs)) (filter (λ g. nat_le g.start address) (map function_of fs)))))
    (p.0 0 f (omega arith) (omega arith))
    ∙ last_below address fs (suc n) (Some f.start) (parted_tail address f fs (suc n) p) (omega arith)

pub last_function : (address : ℕ) (functions : List FunctionEntry) (n : ℕ) → IsParted address functions n → n ≤ length functions → 0 < n
    → last_or None (map (λ f. f.start) (filter (λ f. nat_le f.start address) (map function_of functions))) ≡ Some (get_or functions (n - 1) zero_function).start
last_function address functions zero p le some = absurd (omega arith)
last_function address functions (suc n) p le some =
    last_below address functions (suc n) None p le
    ∙ ap (λ (k : ℕ). Some (get_or functions k zero_function).start) (let e : n ≡ suc n - 1 = omega arith in e)

pub no_function_below : (address : ℕ) (functions : List FunctionEntry) (n : ℕ) → IsParted address functions n → n ≤ 0
    → last_or None (map (λ f. f.start) (filter (λ f. nat_le f.start address) (map function_of functions))) ≡ None
no_function_below address functions zero p le = last_below address functions 0 None p (omega arith)
no_function_below address functions (suc n) p le = absurd (omega arith)

-- ---- distances

module _ (t : Trampolines) (place : SledPlace) (entry : MapEntry) (address : ℕ) (is : address ≡ trampoline_of t (kind_of entry.kind)) where
  pub near : FitsSigned w32 (pos address -ℤ pos (place.address + 11)) → Reaches t place entry
  near h = subst (λ (a : ℕ). FitsSigned w32 (pos a -ℤ pos (place.address + 11))) is h

  pub near_back : Reaches t place entry → FitsSigned w32 (pos address -ℤ pos (place.address + 11))
  near_back h = subst (λ (a : ℕ). FitsSigned w32 (pos a -ℤ pos (place.address + 11))) (sym is) h

-- ---- functions in ascending order

pub ascend_entries : (functions : List FunctionEntry) → Ascend (map function_of functions) → IsStrictlyIncreasing (map (λ f. f.start) functions)
ascend_entries functions up = subst IsStrictlyIncreasing (map-map (λ f. f.start) function_of functions) up
