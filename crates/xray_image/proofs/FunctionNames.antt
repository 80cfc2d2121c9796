-- The functions of an accepted file, and their names by their ids.
use Rattle.std.proofs.Common.{◌≡◌, ◌<◌, ◌≤◌, ◌+◌, ◌-◌, ℕ, zero, suc, List, [], ◌∷◌, ◌==◌, length, take, get_or, map, Option, Some, None, refl, sym, ap, subst, ◌∙◌, arith}
use Rattle.std.specs.Prelude.{slice_get, find, option_and_then}
use Rattle.std.specs.Option.{option_map}
use Rattle.std.specs.List.{last_or, position_or_len}
use Rattle.std.specs.List.Sorted.{IsStrictlyIncreasing}
use Rattle.std.specs.String.{string_bytes}
use Rattle.std.proofs.lemmas.Bool.{eq-eqb, ne_eqb}
use Rattle.std.proofs.lemmas.List.{length-map, get_or-map}
use Rattle.std.proofs.lemmas.List.Folds.{find_at}
use Rattle.std.proofs.lemmas.List.Kept.{AllPairs-from_increasing}
use Rattle.std.proofs.lemmas.List.Sums.{position_or_len_is}
use Rattle.std.proofs.lemmas.Option.{slice_get-map, slice_get-get_or, slice_get_within, slice_get_read, get_or_from_slice_get}
use Rattle.xray_image.specs.declared.unit.Unit.{Unit}
use Rattle.xray_image.specs.declared.image.Function.{Function as Named}
use Rattle.xray_image.specs.Container.{Function}
use Rattle.xray_image.specs.Program.{Program, IsAccepted, AreFunctions, BeginsAfter}
use Rattle.xray_image.specs.Ids.{sledded_functions, id_count, name_at, name_of}
use Rattle.xray_image.specs.private.Numbering.{AreNumbersOf}
use Rattle.xray_image.specs.private.ImageView.{named_function}
use Rattle.xray_image.proofs.Acceptance.{mapped}
use Rattle.xray_image.proofs.Distinct.{distinct_few}
use Rattle.xray_image.proofs.EntryIds.{as_many}

-- ---- functions ascend

pub last_taken : {X : Type 0} (o : Option X) (xs : List X) (i : ℕ) (d : X) → i < length xs → last_or o (take (suc i) xs) ≡ Some (get_or xs i d)
last_taken o [] i d lt = absurd (omega arith)
last_taken o (x ∷ xs) zero d lt = refl
last_taken o (x ∷ xs) (suc i) d lt = last_taken (Some x) xs i d (omega arith)

pub functions_ascend : (base : ℕ) (units : List Unit) (functions : List Function) → AreFunctions base units functions → IsStrictlyIncreasing (map (λ f. f.start) functions)
functions_ascend base units [] are k lt = absurd (omega arith)
functions_ascend base units (f ∷ fs) are k lt =
    let functions = f ∷ fs in
    let count = length-map functions (λ g. g.start) in
    let next : k + 1 ≡ suc k = omega arith in
    let in_order = (are (suc k) (get_or functions (suc k) f) (slice_get-get_or functions (suc k) f (omega (arith, count)))).in_order in
    let less : (get_or functions k f).start < (get_or functions (suc k) f).start =
    subst (λ (o : Option Function). BeginsAfter base o (get_or functions (suc k) f).start) (last_taken None functions k f (omega (arith, count))) in_order in
    omega (
      arith,
      less,
      get_or-map (λ g. g.start) functions k f 0 (omega (arith, count)),
      get_or-map (λ g. g.start) functions (suc k) f 0 (omega (arith, count)),
      ap (λ n. get_or (map (λ g. g.start) functions) n 0) next,
    )

pub accepted_ascend : (bytes : List ℕ) (program : Program) → IsAccepted bytes program → IsStrictlyIncreasing (map (λ f. f.start) program.functions)
accepted_ascend bytes program a =
    let same : program.functions ≡ a.parts.functions = ap (λ (p : Program). p.functions) a.holds in
    subst (λ (fs : List Function). IsStrictlyIncreasing (map (λ f. f.start) fs)) (sym same) (functions_ascend _ program.units a.parts.functions a.functions)

-- ---- names

-- ascending functions are found by their addresses
found_by_start : (functions : List Function) (k : ℕ) (f : Function) → IsStrictlyIncreasing (map (λ g. g.start) functions) → slice_get functions k ≡ Some f
    → find (λ g. g.start == f.start) functions ≡ Some f
found_by_start functions k f up at =
    let within = slice_get_within functions k f at in
    let there = get_or_from_slice_get functions k f f at in
    let count = length-map functions (λ g. g.start) in
    let first : position_or_len (λ g. g.start == f.start) functions ≡ k =
    position_or_len_is (λ g. g.start == f.start) functions k f (omega (arith, within))
    (λ j below. ne_eqb _ f.start (λ same. omega (
      arith,
      same,
      AllPairs-from_increasing (map (λ g. g.start) functions) up j k 0 below (omega (arith, count, within)),
      get_or-map (λ g. g.start) functions j f 0 (omega (arith, within, below)),
      get_or-map (λ g. g.start) functions k f 0 within,
      ap (λ (g : Function). g.start) there,
    )))
    (λ lt. eq-eqb _ f.start (ap (λ (g : Function). g.start) there)) in
    find_at (λ g. g.start == f.start) functions ∙ ap (slice_get functions) first ∙ at

-- a number among them is that of a function with its address
number_found : (functions : List Function) (some numbers : List ℕ) (n k : ℕ) → AreNumbersOf (map (λ f. f.start) functions) some numbers → slice_get numbers n ≡ Some k
    → (f : Function) × (slice_get functions k ≡ Some f) × (slice_get some n ≡ Some f.start)
number_found functions some numbers n k are at =
    let starts = map (λ f. f.start) functions in
    let each : option_map Some (slice_get some n) ≡ Some (slice_get starts k) =
    sym (slice_get-map Some some n) ∙ ap (λ os. slice_get os n) (sym are.each) ∙ slice_get-map (slice_get starts) numbers n ∙ ap (option_map (slice_get starts)) at in
    let one = mapped Some (slice_get some n) (slice_get starts k) each in
    let start = mapped (λ (f : Function). f.start) (slice_get functions k) one.0 (sym (slice_get-map (λ f. f.start) functions k) ∙ sym one.2) in
    (start.0, start.1, one.1 ∙ ap Some (sym start.2))

module _ (program : Program) (named : List Named) (numbers : List ℕ) (functions_are : program.functions ≡ map named_function named)
    (up : IsStrictlyIncreasing (map (λ f. f.start) program.functions)) (are : AreNumbersOf (map (λ f. f.start) program.functions) (sledded_functions program) numbers) where
  -- the function of an id has the id's name
  name_found : (n k : ℕ) → slice_get numbers n ≡ Some k → (g : Named) × (slice_get named k ≡ Some g) × (name_of program (suc n) ≡ Some (string_bytes g.name))
  name_found n k at =
      let f = number_found program.functions (sledded_functions program) numbers n k are at in
      let g = mapped named_function (slice_get named k) f.0 (sym (slice_get-map named_function named k) ∙ ap (λ fs. slice_get fs k) (sym functions_are) ∙ f.1) in
      let name : name_at program f.0.start ≡ Some f.0.name = ap (option_map (λ (h : Function). h.name)) (found_by_start program.functions k f.0 up f.1) in
      (g.0, g.1, ap (option_and_then (name_at program)) f.2 ∙ name ∙ ap (λ (h : Function). Some h.name) (sym g.2))

  -- there are as many numbers as ids, and at most as many as sleds
  pub numbers_few : (length numbers ≡ id_count program) × (length numbers ≤ length program.sleds)
  numbers_few =
      let count = as_many _ (sledded_functions program) numbers are in
      (count, omega (arith, count, distinct_few [] (map (λ s. s.function) program.sleds), length-map program.sleds (λ s. s.function)))

  -- an id that is counted has a number
  pub id_within : (id : ℕ) → 0 < id → id ≤ id_count program → id - 1 < length numbers
  id_within id some counted = omega (arith, numbers_few.0)

  -- the same of an id's number and its function as they are read
  module _ (n k : ℕ) (within : n < length numbers) (number_is : k ≡ get_or numbers n k) where
    pub number_within : k < length named
    number_within =
        let found = name_found n k (slice_get_read numbers (length numbers) n k refl within number_is) in
        slice_get_within named k found.0 found.1

    pub name_read : (g : Named) → g ≡ get_or named k g → name_of program (suc n) ≡ Some (string_bytes g.name)
    name_read g function_is =
        let found = name_found n k (slice_get_read numbers (length numbers) n k refl within number_is) in
        let same : g ≡ found.0 = function_is ∙ get_or_from_slice_get named k found.0 g found.1 in
        found.2 ∙ ap (λ (h : Named). Some (string_bytes h.name)) (sym same)
