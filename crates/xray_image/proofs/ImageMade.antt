-- The image of what was read.
use Rattle.std.proofs.Common.{◌≡◌, ℕ, ◌<◌, ◌≤◌, List, [], ◌∷◌, length, get_or, map, All, true, refl, sym, ap, subst, ◌∙◌, arith}
use Rattle.std.specs.Prelude.{slice_get, Contains}
use Rattle.std.specs.Option.{option_map_or}
use Rattle.std.specs.List.{zip}
use Rattle.std.specs.List.Sorted.{IsNonDecreasing, IsNonDecreasingBy}
use Rattle.std.proofs.lemmas.List.{length-map}
use Rattle.std.proofs.lemmas.Option.{slice_get-get_or}
use Rattle.std.proofs.lemmas.Simd.{map-map}
use Rattle.xray_image.specs.declared.code_units.CodeUnits.{CodeUnits}
use Rattle.xray_image.specs.declared.header.Header.{Header}
use Rattle.xray_image.specs.declared.image.Function.{Function as Named}
use Rattle.xray_image.specs.declared.parts.FileParts.{FileParts}
use Rattle.xray_image.specs.declared.parts.FunctionEntry.{FunctionEntry}
use Rattle.xray_image.specs.declared.map_entry.SledEntry.{SledEntry}
use Rattle.xray_image.specs.declared.sled.Sled.{Sled}
use Rattle.xray_image.specs.declared.unit.Unit.{Unit}
use Rattle.xray_image.specs.Units.{SledPlace}
use Rattle.xray_image.specs.Container.{Function, MapEntry}
use Rattle.xray_image.specs.private.Numbering.{AreNumbersOf}
use Rattle.xray_image.specs.private.ImageView.{named_function}
use Rattle.xray_image.specs.private.Judging.{IsJudged}
use Rattle.xray_image.specs.Program.{Program, is_name_byte, distinct, sled_of}
use Rattle.xray_image.specs.Table.{FunctionIsFit}
use Rattle.xray_image.specs.private.UnitTable.{units_in}
use Rattle.xray_image.specs.private.Views.{entry_of, function_of, place_of, places_in, program_read, trampolines_of}
use Rattle.xray_image.proofs.JudgedRows.{in_order, as_many}
use Rattle.xray_image.proofs.SledFunctions.{lines_known, lines_in_order}
use Rattle.xray_image.proofs.FunctionNames.{functions_ascend}
use Rattle.xray_image.proofs.Scans.{item_at}

-- functions that are fit have names of allowed bytes
pub names_all : (base : ℕ) (units : List Unit) (functions : List Function) → ((i : ℕ) → FunctionIsFit base units functions i) → All (λ f. All (λ b. is_name_byte b ≡ true) f.name) functions
names_all base units functions all k d lt = (all k (get_or functions k d) (slice_get-get_or functions k d lt)).name_bytes

-- each sled has its line's function
functions_of_sleds : (entries : List MapEntry) (places : List SledPlace) (lines : List SledEntry) → length lines ≤ length places
    → map (λ s. s.function) (map (sled_of entries) (zip places (map entry_of lines))) ≡ map (λ e. e.function) lines
functions_of_sleds entries [] [] le = refl
functions_of_sleds entries [] (l ∷ ls) le = absurd (omega arith)
functions_of_sleds entries (p ∷ ps) [] le = refl
functions_of_sleds entries (p ∷ ps) (l ∷ ls) le = ap (λ (fs : List ℕ). l.function ∷ fs) (functions_of_sleds entries ps ls (omega arith))

module _ (h : Header) (p : FileParts) (u : CodeUnits) (j : IsJudged (map entry_of p.entries.items) (places_in u) (program_read h p u)) where
  pub known : (functions : List FunctionEntry) (lines : List SledEntry) → functions ≡ p.functions.items → lines ≡ p.entries.items → All (λ e. Contains (map (λ f. f.start) functions) e.function) lines
  known functions lines same_functions same_lines =
      subst (λ (fs : List FunctionEntry). All (λ e. Contains (map (λ f. f.start) fs) e.function) lines) (sym same_functions)
      (subst (λ (ls : List SledEntry). All (λ e. Contains (map (λ f. f.start) p.functions.items) e.function) ls) (sym same_lines)
      (lines_known p.functions.items (places_in u) p.entries.items (in_order u.sleds.items p.entries.items j.order) j.entries_fit))

  pub falling : (lines : List SledEntry) → lines ≡ p.entries.items → IsNonDecreasingBy (λ place. place.address) (places_in u) → IsNonDecreasing (map (λ e. e.function) lines)
  falling lines same up =
      subst (λ (ls : List SledEntry). IsNonDecreasing (map (λ e. e.function) ls)) (sym same)
      (lines_in_order p.functions.items (places_in u) p.entries.items (in_order u.sleds.items p.entries.items j.order) j.entries_fit (functions_ascend h.base (units_in u.units) (map function_of p.functions.items) j.functions) up)

  -- the functions of ids, as the image has them
  pub numbers : (functions : List FunctionEntry) (lines : List SledEntry) (named : List Named) (sleds : List Sled) (ids : List ℕ) → functions ≡ p.functions.items → lines ≡ p.entries.items
      → map named_function named ≡ map function_of p.functions.items
      → sleds ≡ map (sled_of (map entry_of p.entries.items)) (zip (places_in u) (map entry_of p.entries.items))
      → AreNumbersOf (map (λ f. f.start) functions) (distinct [] (map (λ e. e.function) lines)) ids
      → AreNumbersOf (map (λ f. f.start) (map named_function named)) (distinct [] (map (λ s. s.function) sleds)) ids
  numbers functions lines named sleds ids same_functions same_lines named_is sleds_are are =
      let starts : map (λ f. f.start) functions ≡ map (λ f. f.start) (map named_function named) =
      ap (map (λ f. f.start)) same_functions ∙ sym (map-map (λ f. f.start) function_of p.functions.items) ∙ ap (map (λ f. f.start)) (sym named_is) in
      let sledded : map (λ e. e.function) lines ≡ map (λ s. s.function) sleds =
      ap (map (λ e. e.function)) same_lines
      ∙ sym (functions_of_sleds (map entry_of p.entries.items) (places_in u) p.entries.items (omega (arith, as_many u.sleds.items p.entries.items j.order, length-map u.sleds.items place_of)))
      ∙ ap (map (λ s. s.function)) (sym sleds_are) in
      subst (λ (ss : List ℕ). AreNumbersOf ss (distinct [] (map (λ s. s.function) sleds)) ids) starts
      (subst (λ (fs : List ℕ). AreNumbersOf (map (λ f. f.start) functions) (distinct [] fs) ids) sledded are)

-- a program with these parts of its own
abbrev made : Header → CodeUnits → ℕ → List ℕ → List Function → List Sled → Program
made h u a c fs ss = record { base = h.base; entry = a; code = c; functions = fs; units = units_in u.units; sleds = ss; trampolines = trampolines_of h.trampolines }

-- the program of the image is the one that was read
pub program_made : (h : Header) (p : FileParts) (u : CodeUnits) (entry : FunctionEntry) (code : List ℕ) (named : List Named) (sleds : List Sled)
    → h.entry_index < length p.functions.items → entry ≡ get_or p.functions.items h.entry_index entry
    → code ≡ p.code.now → map named_function named ≡ map function_of p.functions.items
    → sleds ≡ map (sled_of (map entry_of p.entries.items)) (zip (places_in u) (map entry_of p.entries.items))
    → ◌≡◌ {A = Program} (record { base = h.base; entry = entry.start; code = code; functions = map named_function named; units = units_in u.units; sleds = sleds; trampolines = trampolines_of h.trampolines }) (program_read h p u)
program_made h p u entry code named sleds within entry_is code_is named_is sleds_are =
    let start : entry.start ≡ option_map_or (λ f. f.start) (slice_get (map function_of p.functions.items) h.entry_index) 0 =
    sym (ap (λ o. option_map_or (λ f. f.start) o 0) (item_at function_of p.functions.items h.entry_index entry within entry_is)) in
    ap (λ (a : ℕ). made h u a code (map named_function named) sleds) start
    ∙ ap (λ (c : List ℕ). made h u (option_map_or (λ f. f.start) (slice_get (map function_of p.functions.items) h.entry_index) 0) c (map named_function named) sleds) code_is
    ∙ ap (λ (fs : List Function). made h u (option_map_or (λ f. f.start) (slice_get (map function_of p.functions.items) h.entry_index) 0) p.code.now fs sleds) named_is
    ∙ ap (made h u (option_map_or (λ f. f.start) (slice_get (map function_of p.functions.items) h.entry_index) 0) p.code.now (map function_of p.functions.items)) sleds_are
