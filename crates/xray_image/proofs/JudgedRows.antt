-- The rows after the units: the checks decide what the program reads as.
use Rattle.std.proofs.Common.{◌≡◌, ℕ, ◌≤◌, List, length, map, inl, inr, Ok, Err, refl, sym, ap, subst, ◌∙◌, arith}
use Rattle.std.specs.Prelude.{◌<◌, ◌⊎◌, All}
use Rattle.std.proofs.lemmas.List.{length-map}
use Rattle.xray_image.specs.declared.code_units.CodeUnits.{CodeUnits}
use Rattle.xray_image.specs.declared.code_units.SledSpot.{SledSpot}
use Rattle.xray_image.specs.declared.fault.ImageFault.{ImageFault}
use Rattle.xray_image.specs.declared.fault.ImageFault.TheVariants as faults
use Rattle.xray_image.specs.declared.header.Header.{Header}
use Rattle.xray_image.specs.declared.parts.FileParts.{FileParts}
use Rattle.xray_image.specs.declared.parts.FunctionEntry.{FunctionEntry}
use Rattle.xray_image.specs.declared.map_entry.SledEntry.{SledEntry}
use Rattle.xray_image.specs.declared.unit.Unit.{Unit}
use Rattle.xray_image.specs.declared.unit_index.UnitIndex.{UnitIndex}
use Rattle.xray_image.specs.Units.{SledPlace}
use Rattle.xray_image.specs.private.UnitTable.{units_in}
use Rattle.xray_image.specs.Container.{MapEntry}
use Rattle.xray_image.specs.private.Index.{IsIndexOf}
use Rattle.xray_image.specs.private.Judging.{Ascend, IsJudged}
use Rattle.xray_image.specs.Program.{Program, addresses, IsEntryOf, Reaches}
use Rattle.xray_image.specs.private.Reading.{IsFirstFault}
use Rattle.xray_image.specs.Table.{FunctionIsFit, HasOneAddress, FitsAt, BranchesRightly, place_of_unit, ReadsProgram}
use Rattle.xray_image.specs.private.Views.{entry_of, function_of, place_of, places_in, program_read, trampolines_of}
use Rattle.xray_image.proofs.SledFunctions.{kinds_known}
use Rattle.xray_image.proofs.FunctionNames.{functions_ascend}
use Rattle.xray_image.proofs.Scans.{same_items}

-- ---- the table

-- a program that passes the checks is read
pub judged_reads : (entries : List MapEntry) (places : List SledPlace) (program : Program) → IsJudged entries places program → ReadsProgram entries places program (Ok program)
judged_reads entries places program j = inr (j.functions, inr (j.order, inr (j.entries_fit, inr (j.near, inr (j.branches, refl)))))

-- the entry and the sled of each number have one address
pub in_order : (spots : List SledSpot) (lines : List SledEntry) → ((i : ℕ) → HasOneAddress (map place_of spots) (map entry_of lines) i) → map (λ e. e.sled) (map entry_of lines) ≡ map (λ p. p.address) (map place_of spots)
in_order spots lines all = same_items (map (λ e. e.sled) (map entry_of lines)) (map (λ p. p.address) (map place_of spots)) all

pub as_many : (spots : List SledSpot) (lines : List SledEntry) → ((i : ℕ) → HasOneAddress (map place_of spots) (map entry_of lines) i) → length lines ≡ length spots
as_many spots lines all =
    sym (length-map lines entry_of) ∙ sym (length-map (map entry_of lines) (λ e. e.sled)) ∙ ap length (in_order spots lines all)
    ∙ length-map (map place_of spots) (λ p. p.address) ∙ length-map spots place_of

-- ---- what the code checks, list by list

module _ (h : Header) (p : FileParts) (u : CodeUnits) where
  abbrev Told : ImageFault → Type 0
  Told fault = ReadsProgram (map entry_of p.entries.items) (places_in u) (program_read h p u) (Err fault)

  abbrev Functions : Type 0
  Functions = (i : ℕ) → FunctionIsFit h.base (units_in u.units) (map function_of p.functions.items) i

  abbrev Order : Type 0
  Order = (i : ℕ) → HasOneAddress (map place_of u.sleds.items) (map entry_of p.entries.items) i

  abbrev Entries : Type 0
  Entries = (i : ℕ) → FitsAt (map place_of u.sleds.items) (map entry_of p.entries.items) (IsEntryOf (map function_of p.functions.items)) i

  abbrev Near : Type 0
  Near = (i : ℕ) → FitsAt (map place_of u.sleds.items) (map entry_of p.entries.items) (Reaches (trampolines_of h.trampolines)) i

  module _ (index : UnitIndex) (is_index : IsIndexOf (addresses (units_in u.units)) index) (functions : List FunctionEntry) (same : functions ≡ p.functions.items) where
    pub functions_all : ((units : List Unit) → IsIndexOf (addresses units) index → (i : ℕ) → FunctionIsFit h.base units (map function_of functions) i) → Functions
    functions_all all = subst (λ (fs : List FunctionEntry). (i : ℕ) → FunctionIsFit h.base (units_in u.units) (map function_of fs) i) same (all (units_in u.units) is_index)

    pub functions_row : (fault : ImageFault) → (fault ≡ faults.NoMemory) ⊎ ((units : List Unit) → IsIndexOf (addresses units) index → IsFirstFault (FunctionIsFit h.base units (map function_of functions)) (λ i. faults.Names i) fault)
        → (fault ≡ faults.NoMemory) ⊎ Told fault
    functions_row fault (inl full) = inl full
    functions_row fault (inr first) =
        let f = subst (λ (fs : List FunctionEntry). IsFirstFault (FunctionIsFit h.base (units_in u.units) (map function_of fs)) (λ i. faults.Names i) fault) same (first (units_in u.units) is_index) in
        inr (inl (f.number, f.fails, f.holds_below, ap (λ (e : ImageFault). Err e) f.is))

  pub ascend : Functions → (functions : List FunctionEntry) → functions ≡ p.functions.items → Ascend (map function_of functions)
  ascend all functions same = subst (λ (fs : List FunctionEntry). Ascend (map function_of fs)) (sym same) (functions_ascend h.base (units_in u.units) (map function_of p.functions.items) all)

  module _ (spots : List SledSpot) (lines : List SledEntry) (same_spots : spots ≡ u.sleds.items) (same_lines : lines ≡ p.entries.items) where
    pub order_all : ((i : ℕ) → HasOneAddress (map place_of spots) (map entry_of lines) i) → Order
    order_all all =
        subst (λ (ss : List SledSpot). (i : ℕ) → HasOneAddress (map place_of ss) (map entry_of p.entries.items) i) same_spots
        (subst (λ (ls : List SledEntry). (i : ℕ) → HasOneAddress (map place_of spots) (map entry_of ls) i) same_lines all)

    pub few_entries : Order → length lines ≤ length spots
    few_entries all = omega (arith, as_many u.sleds.items p.entries.items all, ap length same_spots, ap length same_lines)

    pub kinds_all : Order → Entries → All (λ e. e.kind < 4) lines
    kinds_all order entries =
        subst (λ (ls : List SledEntry). All (λ e. e.kind < 4) ls) (sym same_lines)
        (kinds_known p.functions.items (places_in u) p.entries.items (in_order u.sleds.items p.entries.items order) entries)

    pub order_row : Functions → (fault : ImageFault) → IsFirstFault (HasOneAddress (map place_of spots) (map entry_of lines)) (λ i. faults.MapOrder i) fault → Told fault
    order_row functions fault first =
        let f = subst (λ (ss : List SledSpot). IsFirstFault (HasOneAddress (map place_of ss) (map entry_of p.entries.items)) (λ i. faults.MapOrder i) fault) same_spots
        (subst (λ (ls : List SledEntry). IsFirstFault (HasOneAddress (map place_of spots) (map entry_of ls)) (λ i. faults.MapOrder i) fault) same_lines first) in
        inr (functions, inl (f.number, f.fails, f.holds_below, ap (λ (e : ImageFault). Err e) f.is))

    module _ (functions : List FunctionEntry) (same_functions : functions ≡ p.functions.items) where
      pub entries_all : ((i : ℕ) → FitsAt (map place_of spots) (map entry_of lines) (IsEntryOf (map function_of functions)) i) → Entries
      entries_all all =
          subst (λ (fs : List FunctionEntry). (i : ℕ) → FitsAt (map place_of u.sleds.items) (map entry_of p.entries.items) (IsEntryOf (map function_of fs)) i) same_functions
          (subst (λ (ss : List SledSpot). (i : ℕ) → FitsAt (map place_of ss) (map entry_of p.entries.items) (IsEntryOf (map function_of functions)) i) same_spots
          (subst (λ (ls : List SledEntry). (i : ℕ) → FitsAt (map place_of spots) (map entry_of ls) (IsEntryOf (map function_of functions)) i) same_lines all))

      pub entries_row : Functions → Order → (fault : ImageFault) → IsFirstFault (FitsAt (map place_of spots) (map entry_of lines) (IsEntryOf (map function_of functions))) (λ i. faults.Odd i) fault → Told fault
      entries_row all order fault first =
          let f = subst (λ (fs : List FunctionEntry). IsFirstFault (FitsAt (map place_of u.sleds.items) (map entry_of p.entries.items) (IsEntryOf (map function_of fs))) (λ i. faults.Odd i) fault) same_functions
          (subst (λ (ss : List SledSpot). IsFirstFault (FitsAt (map place_of ss) (map entry_of p.entries.items) (IsEntryOf (map function_of functions))) (λ i. faults.Odd i) fault) same_spots
          (subst (λ (ls : List SledEntry). IsFirstFault (FitsAt (map place_of spots) (map entry_of ls) (IsEntryOf (map function_of functions))) (λ i. faults.Odd i) fault) same_lines first)) in
          inr (all, inr (order, inl (f.number, f.fails, f.holds_below, ap (λ (e : ImageFault). Err e) f.is)))

    pub near_all : ((i : ℕ) → FitsAt (map place_of spots) (map entry_of lines) (Reaches (trampolines_of h.trampolines)) i) → Near
    near_all all =
        subst (λ (ss : List SledSpot). (i : ℕ) → FitsAt (map place_of ss) (map entry_of p.entries.items) (Reaches (trampolines_of h.trampolines)) i) same_spots
        (subst (λ (ls : List SledEntry). (i : ℕ) → FitsAt (map place_of spots) (map entry_of ls) (Reaches (trampolines_of h.trampolines)) i) same_lines all)

    pub near_row : Functions → Order → Entries → (fault : ImageFault) → IsFirstFault (FitsAt (map place_of spots) (map entry_of lines) (Reaches (trampolines_of h.trampolines))) (λ i. faults.Far i) fault → Told fault
    near_row all order entries fault first =
        let f = subst (λ (ss : List SledSpot). IsFirstFault (FitsAt (map place_of ss) (map entry_of p.entries.items) (Reaches (trampolines_of h.trampolines))) (λ i. faults.Far i) fault) same_spots
        (subst (λ (ls : List SledEntry). IsFirstFault (FitsAt (map place_of spots) (map entry_of ls) (Reaches (trampolines_of h.trampolines))) (λ i. faults.Far i) fault) same_lines first) in
        inr (all, inr (order, inr (entries, inl (f.number, f.fails, f.holds_below, ap (λ (e : ImageFault). Err e) f.is))))

  module _ (units : List Unit) (same : units ≡ (units_in u.units)) where
    pub branches_all : ((i : ℕ) → BranchesRightly units i) → (i : ℕ) → BranchesRightly (units_in u.units) i
    branches_all all = subst (λ (us : List Unit). (i : ℕ) → BranchesRightly us i) same all

    pub branches_row : Functions → Order → Entries → Near → (fault : ImageFault) → IsFirstFault (BranchesRightly units) (λ i. faults.Target (place_of_unit h.base units i)) fault → Told fault
    branches_row all order entries near fault first =
        let f = subst (λ (us : List Unit). IsFirstFault (BranchesRightly us) (λ i. faults.Target (place_of_unit h.base us i)) fault) same first in
        inr (all, inr (order, inr (entries, inr (near, inl (f.number, f.fails, f.holds_below, ap (λ (e : ImageFault). Err e) f.is)))))
