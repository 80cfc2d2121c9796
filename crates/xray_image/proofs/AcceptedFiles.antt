-- The table of refusals accepts exactly the accepted files.
use Rattle.std.proofs.Common.{◌≡◌, ℕ, suc, ◌+◌, ◌<◌, ◌≤◌, ◌%◌, inl, inr, List, [], ◌∷◌, length, map, Option, Some, None, Ok, Err, refl, sym, ap, subst, ◌∙◌}
use Rattle.std.specs.Prelude.{◌↔◌, ◌⊎◌, slice_get}
use Rattle.std.proofs.lemmas.Option.{none-some, same_Some, slice_get_within, get_or_from_slice_get, slice_get_read}
use Rattle.xray_io.specs.Rows.{Is, Needs, NeedsPart, IsOneWay, is_one, needs_one, needs_each_one, needs_part_one}
use Rattle.xray_image.specs.declared.fault.ImageFault.{ImageFault}
use Rattle.xray_image.specs.declared.fault.ImageFault.TheVariants as faults
use Rattle.xray_image.specs.declared.unit.Unit.{Unit}
use Rattle.xray_image.specs.Units.{Piece, SledPlace, places_from}
use Rattle.xray_image.specs.Container.{MapEntry, Parts, base_address, function_count, parts_of}
use Rattle.xray_image.specs.Program.{Program, AreFunctions, IsEntryOf, EachSled, Reaches, BranchesReach, program_of, IsAccepted}
use Rattle.xray_image.specs.Table.{ImageReading, NeedsUnits, StandUpTo, ReadsProgram, ReadsParts, ReadsAs, BranchesRightly}
use Rattle.xray_image.proofs.Pieces.{OneInstruction}
use Rattle.xray_image.proofs.UnitPlaces.{stand_are, units_stand}
use Rattle.xray_image.proofs.TableRows.{OneAnswer, needs_units_one}

-- ---- one verdict

program_one : (entries : List MapEntry) (places : List SledPlace) (program : Program) → IsOneWay (ReadsProgram entries places program)
program_one entries places program =
    needs_each_one _ _ _ (λ i. is_one _) (needs_each_one _ _ _ (λ i. is_one _) (needs_each_one _ _ _ (λ i. is_one _)
    (needs_each_one _ _ _ (λ i. is_one _) (needs_each_one _ _ _ (λ i. is_one _) (is_one (Ok program))))))

parts_one : OneInstruction → OneAnswer → (bytes : List ℕ) → IsOneWay (ReadsParts bytes)
parts_one first answer bytes = needs_part_one (parts_of bytes) _ _ (is_one _) (λ parts.
    needs_one _ _ _ (is_one _) (needs_units_one first answer (base_address bytes) parts.code _ (λ pieces.
    program_one parts.entries (places_from (base_address bytes) pieces) (program_of bytes parts pieces))))

reads_one : OneInstruction → OneAnswer → (bytes : List ℕ) → IsOneWay (ReadsAs bytes)
reads_one first answer bytes =
    needs_one _ _ _ (is_one _) (needs_one _ _ _ (is_one _) (needs_one _ _ _ (is_one _) (needs_one _ _ _ (is_one _)
    (needs_one _ _ _ (is_one _) (needs_one _ _ _ (is_one _) (needs_one _ _ _ (is_one _) (needs_one _ _ _ (is_one _)
    (parts_one first answer bytes))))))))

-- no file has two verdicts
pub one_verdict : OneInstruction → OneAnswer → (bytes : List ℕ) (v w : ImageReading) → ReadsAs bytes v → ReadsAs bytes w → v ≡ w
one_verdict first answer bytes v w = (reads_one first answer bytes).same v w

-- ---- lists

same_by_get : (xs ys : List ℕ) → ((i : ℕ) → slice_get xs i ≡ slice_get ys i) → xs ≡ ys
same_by_get [] [] same = refl
same_by_get [] (y ∷ ys) same = absurd (none-some y (same 0))
same_by_get (x ∷ xs) [] same = absurd (none-some x (sym (same 0)))
same_by_get (x ∷ xs) (y ∷ ys) same =
    ap (λ (n : ℕ). n ∷ xs) (same_Some x y (same 0)) ∙ ap (λ (ns : List ℕ). y ∷ ns) (same_by_get xs ys (λ i. same (suc i)))

-- each branch goes to a unit, by numbers and by membership
reach_at : (units : List Unit) → BranchesReach units → (i : ℕ) → BranchesRightly units i
reach_at units reach i u e = reach u (i, slice_get_within units i u e, get_or_from_slice_get units i u u e)

reach_all : (units : List Unit) → ((i : ℕ) → BranchesRightly units i) → BranchesReach units
reach_all units rightly u (i, lt, at) = rightly i u (slice_get_read units (length units) i u refl lt (sym at))

-- ---- from the record to the rows

module _ (bytes : List ℕ) (program : Program) (a : IsAccepted bytes program) where
  rows_of_program : ReadsProgram a.parts.entries (places_from (base_address bytes) a.pieces) (program_of bytes a.parts a.pieces) (Ok program)
  rows_of_program =
      let base = base_address bytes in
      let places = places_from base a.pieces in
      let functions : AreFunctions base (program_of bytes a.parts a.pieces).units a.parts.functions =
      subst (λ (p : Program). AreFunctions base p.units a.parts.functions) a.holds a.functions in
      let near : EachSled places a.parts.entries (Reaches (program_of bytes a.parts a.pieces).trampolines) =
      subst (λ (p : Program). EachSled places a.parts.entries (Reaches p.trampolines)) a.holds a.near in
      let branches : BranchesReach (program_of bytes a.parts a.pieces).units = subst (λ (p : Program). BranchesReach p.units) a.holds a.branches in
      inr (
        functions,
        inr (
          λ i. ap (λ (xs : List ℕ). slice_get xs i) a.map_order,
          inr (
            a.entries,
            inr (
              near,
              inr (
                λ i. reach_at (program_of bytes a.parts a.pieces).units branches i,
                ap (λ (p : Program). Ok p) a.holds,
              ),
            ),
          ),
        ),
      )

  rows_of_parts : ReadsParts bytes (Ok program)
  rows_of_parts =
      from_some (parts_of bytes) _ _ (Ok program) a.parts a.reaches
      (inr (a.nothing_after, inr (a.pieces, units_stand (base_address bytes) a.parts.code a.pieces a.units a.even_sleds, rows_of_program)))
    where
      from_some : {X : Type 0} (o : Option X) (decides : ImageReading → Type 0) (there : X → ImageReading → Type 0) (v : ImageReading) (x : X) → o ≡ Some x → there x v → NeedsPart o decides there v
      from_some {X = X} o decides there v x e q = subst (λ (r : Option X). NeedsPart r decides there v) (sym e) q

  rows_of_file : ReadsAs bytes (Ok program)
  rows_of_file =
      inr (
        a.header.has_header,
        inr (
          a.header.magic_bytes,
          inr (
            a.header.first_version,
            inr (
              a.header.code_limit,
              inr (
                (a.header.some_function, a.header.functions_limit),
                inr (a.header.sleds_limit, inr (a.header.entry_exists, inr ((a.header.base_aligned, a.header.base_limit), rows_of_parts))),
              ),
            ),
          ),
        ),
      )

-- ---- from the rows to the record

ok_is_no_fault : (p : Program) (fault : ImageFault) → ◌≡◌ {A = ImageReading} (Ok p) (Err fault) → ⊥
ok_is_no_fault p fault e = cc

same_Ok : (p q : Program) → ◌≡◌ {A = ImageReading} (Ok p) (Ok q) → p ≡ q
same_Ok p q e = cc

-- if the file reads as a program, each condition holds, and what follows it reads as the program
needs_ok : (condition : Type 0) (fault : ImageFault) (Follows : Type 0) (p : Program) → ((condition → ⊥) × ◌≡◌ {A = ImageReading} (Ok p) (Err fault)) ⊎ (condition × Follows) → condition × Follows
needs_ok condition fault Follows p (inl a) = absurd (ok_is_no_fault p fault a.1)
needs_ok condition fault Follows p (inr a) = a

each_ok : (condition : ℕ → Type 0) (fault : ℕ → ImageFault) (Follows : Type 0) (p : Program)
    → ((i : ℕ) × (condition i → ⊥) × ((j : ℕ) → j < i → condition j) × ◌≡◌ {A = ImageReading} (Ok p) (Err (fault i))) ⊎ (((i : ℕ) → condition i) × Follows) → ((i : ℕ) → condition i) × Follows
each_ok condition fault Follows p (inl a) = absurd (ok_is_no_fault p (fault a.0) a.3)
each_ok condition fault Follows p (inr a) = a

units_ok : (base : ℕ) (code : List ℕ) (follows : List Piece → ImageReading → Type 0) (p : Program) → NeedsUnits base code follows (Ok p)
    → (pieces : List Piece) × StandUpTo base code pieces (base + length code) [] × follows pieces (Ok p)
units_ok base code follows p (inl a) = absurd (ok_is_no_fault p a.0 a.2)
units_ok base code follows p (inr a) = a

option_ok : {X : Type 0} (o : Option X) (fault : ImageFault) (there : X → ImageReading → Type 0) (p : Program) → NeedsPart o (Is (Err fault)) there (Ok p)
    → (x : X) × (o ≡ Some x) × there x (Ok p)
option_ok None fault there p m = absurd (ok_is_no_fault p fault m)
option_ok (Some x) fault there p m = (x, refl, m)

-- what holds of a program that is read
record ProgramRows (entries : List MapEntry) (places : List SledPlace) (made p : Program) : Type 0 where
  functions : AreFunctions made.base made.units made.functions
  map_order : map (λ e. e.sled) entries ≡ map (λ q. q.address) places
  fit : EachSled places entries (IsEntryOf made.functions)
  near : EachSled places entries (Reaches made.trampolines)
  branches : BranchesReach made.units
  holds : p ≡ made

program_rows : (entries : List MapEntry) (places : List SledPlace) (made p : Program) → ReadsProgram entries places made (Ok p) → ProgramRows entries places made p
program_rows entries places made p r =
    let functions = each_ok _ _ _ p r in
    let order = each_ok _ _ _ p functions.1 in
    let fit = each_ok _ _ _ p order.1 in
    let near = each_ok _ _ _ p fit.1 in
    let branches = each_ok _ _ _ p near.1 in
    record {
      functions = functions.0;
      map_order = same_by_get (map (λ e. e.sled) entries) (map (λ q. q.address) places) order.0;
      fit = fit.0;
      near = near.0;
      branches = reach_all made.units branches.0;
      holds = same_Ok p made branches.1;
    }

-- what the pieces of the code read as
abbrev ReadsPieces : List ℕ → Parts → List Piece → ImageReading → Type 0
ReadsPieces bytes parts pieces = ReadsProgram parts.entries (places_from (base_address bytes) pieces) (program_of bytes parts pieces)

-- what the parts read as
abbrev ReadsUnits : List ℕ → Parts → ImageReading → Type 0
ReadsUnits bytes parts = Needs (parts.rest ≡ []) (Is (Err faults.Trailing)) (NeedsUnits (base_address bytes) parts.code (ReadsPieces bytes parts))

-- what is true of one program is true of an equal one
moved : (P : Program → Type 0) (p q : Program) → p ≡ q → P q → P p
moved P p q e h = subst P (sym e) h

accepted_from : (bytes : List ℕ) (program : Program) → ReadsAs bytes (Ok program) → IsAccepted bytes program
accepted_from bytes program r =
    let header = needs_ok _ _ _ program r in
    let magic = needs_ok _ _ _ program header.1 in
    let version = needs_ok _ _ _ program magic.1 in
    let code = needs_ok _ _ _ program version.1 in
    let functions = needs_ok ((0 < function_count bytes) × (function_count bytes ≤ 1024)) _ _ program code.1 in
    let sleds = needs_ok _ _ _ program functions.1 in
    let entry = needs_ok _ _ _ program sleds.1 in
    let base = needs_ok ((base_address bytes % 16 ≡ 0) × (base_address bytes ≤ 0x7FFF00000000)) _ _ program entry.1 in
    let parts = option_ok (parts_of bytes) faults.Short (ReadsUnits bytes) program base.1 in
    let rest = needs_ok _ _ _ program parts.2 in
    let units = units_ok (base_address bytes) parts.0.code (ReadsPieces bytes parts.0) program rest.1 in
    let are = stand_are (base_address bytes) parts.0.code units.0 (base_address bytes + length parts.0.code) units.1 in
    let places = places_from (base_address bytes) units.0 in
    let made = program_of bytes parts.0 units.0 in
    let rows = program_rows parts.0.entries places made program units.2 in
    record {
      header = record {
        has_header = header.0;
        magic_bytes = magic.0;
        first_version = version.0;
        code_limit = code.0;
        some_function = functions.0.0;
        functions_limit = functions.0.1;
        sleds_limit = sleds.0;
        entry_exists = entry.0;
        base_aligned = base.0.0;
        base_limit = base.0.1;
      };
      parts = parts.0;
      reaches = parts.1;
      nothing_after = rest.0;
      pieces = units.0;
      units = are.0;
      even_sleds = are.1;
      functions = moved (λ (p : Program). AreFunctions (base_address bytes) p.units parts.0.functions) program made rows.holds rows.functions;
      map_order = rows.map_order;
      entries = rows.fit;
      near = moved (λ (p : Program). EachSled places parts.0.entries (Reaches p.trampolines)) program made rows.holds rows.near;
      branches = moved (λ (p : Program). BranchesReach p.units) program made rows.holds rows.branches;
      holds = rows.holds;
    }

-- a file is accepted exactly when it reads as a program
pub accepted : (bytes : List ℕ) (program : Program) → IsAccepted bytes program ↔ ReadsAs bytes (Ok program)
accepted bytes program = (λ a. rows_of_file bytes program a, λ r. accepted_from bytes program r)
