-- What a file reads as, by what the reader knows of it.
use Rattle.std.proofs.Common.{◌≡◌, ℕ, ◌+◌, ◌<◌, ◌≤◌, ◌^◌, inl, inr, List, [], ◌∷◌, ◌++◌, length, map, Option, Some, Ok, Err, refl, sym, ap, subst, ◌∙◌, arith}
use Rattle.std.specs.Prelude.{◌⊎◌, slice_get}
use Rattle.std.specs.Option.{option_map_or}
use Rattle.std.specs.List.{zip, flat_map}
use Rattle.std.specs.List.Sorted.{IsNonDecreasingBy}
use Rattle.std.proofs.lemmas.List.{length-append, length-map}
use Rattle.subset_decode.specs.Encoding.{spelling}
use Rattle.xray_image.specs.declared.code_units.CodeUnits.{CodeUnits}
use Rattle.xray_image.specs.declared.fault.ImageFault.{ImageFault}
use Rattle.xray_image.specs.declared.fault.ImageFault.TheVariants as faults
use Rattle.xray_image.specs.declared.header.Header.{Header}
use Rattle.xray_image.specs.declared.parts.FileParts.{FileParts}
use Rattle.xray_image.specs.declared.unit.Unit.{Unit}
use Rattle.xray_image.specs.Units.{Piece, Instruction, JumpSled, ReturnSled, Align, piece_bytes, SledPlace, units_from, places_from}
use Rattle.xray_image.specs.Container.{Parts, base_address, entry_index, number8_at, parts_of}
use Rattle.xray_image.specs.Header.{HasHeader}
use Rattle.xray_image.specs.private.Index.{AreWithin}
use Rattle.xray_image.specs.private.Judging.{IsJudged}
use Rattle.xray_image.specs.Program.{Program, Trampolines, addresses, sled_of, program_of, IsAccepted}
use Rattle.xray_image.specs.private.Reading.{HasUnits}
use Rattle.xray_image.specs.Table.{ImageReading, StandUpTo, UnitsStop, NeedsUnits, ReadsProgram, ReadsParts, ReadsAs}
use Rattle.xray_image.specs.private.UnitTable.{units_in}
use Rattle.xray_image.specs.private.Views.{entry_of, function_of, place_of, places_in, parts_of_view, program_read, trampolines_of, IsHeaderOf}
use Rattle.xray_image.proofs.Acceptance.{parts_count, code_short}
use Rattle.xray_image.proofs.AcceptedFiles.{accepted}
use Rattle.xray_image.proofs.FileParts.{Rows}
use Rattle.xray_image.proofs.HeaderRows.{past_header}
use Rattle.xray_image.proofs.JudgedRows.{judged_reads}
use Rattle.xray_image.proofs.SledFunctions.{places_ascend}
use Rattle.xray_image.proofs.Placement.{has_within}
use Rattle.xray_image.proofs.SoFar.{stand_shown}

-- there are at most as many sleds as bytes
places_few : (a : ℕ) (ps : List Piece) → length (places_from a ps) ≤ length (flat_map piece_bytes ps)
places_few a [] = omega arith
places_few a (Instruction i ∷ ps) = omega (arith, places_few (a + length (spelling i)) ps, length-append (spelling i) (flat_map piece_bytes ps))
places_few a (JumpSled shift ∷ ps) = omega (arith, places_few (a + 11) ps)
places_few a (ReturnSled shift ∷ ps) = omega (arith, places_few (a + 11) ps)
places_few a (Align ∷ ps) = omega (arith, places_few (a + 1) ps)

-- a program with what the header says
abbrev told : ℕ → ℕ → FileParts → List Unit → List SledPlace → Trampolines → Program
told base index p units places t = record {
  base = base;
  entry = option_map_or (λ f. f.start) (slice_get (map function_of p.functions.items) index) 0;
  code = p.code.now;
  functions = map function_of p.functions.items;
  units = units;
  sleds = map (sled_of (map entry_of p.entries.items)) (zip places (map entry_of p.entries.items));
  trampolines = t;
}

abbrev four : ℕ → ℕ → ℕ → ℕ → Trampolines
four entry exit tail args = record { entry = entry; exit = exit; tail = tail; args = args }

module _ (bytes : List ℕ) (h : Header) (head : HasHeader bytes) (is : IsHeaderOf bytes h) (p : FileParts) (there : parts_of bytes ≡ Some (parts_of_view p)) where
  pub code_few : length p.code.now < 2 ^ 32
  code_few = omega (arith, code_short bytes (parts_of_view p) there, head.code_limit)

  pub code_low : length p.code.now ≤ 1048576
  code_low = omega (arith, code_short bytes (parts_of_view p) there, head.code_limit)

  pub base_low : h.base < 2 ^ 63
  base_low = omega (arith, is.base, head.base_limit)

  pub functions_few : length p.functions.items < 2 ^ 32
  functions_few = omega (arith, (parts_count bytes (parts_of_view p) there).0, length-map p.functions.items function_of, head.functions_limit)

  pub entries_few : length p.entries.items < 2 ^ 32
  entries_few = omega (arith, (parts_count bytes (parts_of_view p) there).1, length-map p.entries.items entry_of, head.sleds_limit)

  pub entry_there : h.entry_index < length p.functions.items
  entry_there = omega (arith, is.entry_index, (parts_count bytes (parts_of_view p) there).0, length-map p.functions.items function_of, head.entry_exists)

  parts_row : (v : ImageReading) → NeedsUnits (base_address bytes) p.code.now (λ pieces. ReadsProgram (map entry_of p.entries.items) (places_from (base_address bytes) pieces) (program_of bytes (parts_of_view p) pieces)) v → ReadsAs bytes v
  parts_row v units = past_header bytes v head (subst (λ (o : Option Parts). Rows bytes o v) (sym there) (inr (refl, units)))

  -- the units stop here
  pub units_stop : (fault : ImageFault) → (fault ≡ faults.NoMemory) ⊎ UnitsStop h.base p.code.now fault → (fault ≡ faults.NoMemory) ⊎ ReadsAs bytes (Err fault)
  units_stop fault (inl full) = inl full
  units_stop fault (inr stops) = inr (parts_row (Err fault) (inl (fault, subst (λ (b : ℕ). UnitsStop b p.code.now fault) is.base stops, refl)))

  module _ (u : CodeUnits) (units : HasUnits h.base p.code.now (units_in u.units) (places_in u)) where
    pub spots_few : length u.sleds.items < 2 ^ 32
    spots_few =
        let none : List ℕ = [] in
        let whole : p.code.now ≡ flat_map piece_bytes units.pieces ++ none = stand_shown h.base p.code.now units.pieces (h.base + length p.code.now) [] units.stand in
        omega (
          arith,
          length-map u.sleds.items place_of,
          ap length units.places_are,
          places_few h.base units.pieces,
          ap length whole,
          length-append (flat_map piece_bytes units.pieces) none,
          code_few,
        )

    pub units_within : (all : List Unit) → all ≡ (units_in u.units) → AreWithin h.base (2 ^ 32) (addresses all)
    units_within all same =
        subst (λ (us : List Unit). AreWithin h.base (2 ^ 32) (addresses us)) (sym same)
        (λ i lt. let w = has_within h.base p.code.now (units_in u.units) (places_in u) units i lt in (w.0, omega (arith, w.1, code_few)))

    pub spots_ascend : IsNonDecreasingBy (λ place. place.address) (places_in u)
    spots_ascend = subst (IsNonDecreasingBy (λ place. place.address)) (sym units.places_are) (places_ascend h.base units.pieces)

    places_same : places_in u ≡ places_from (base_address bytes) units.pieces
    places_same = units.places_are ∙ ap (λ (b : ℕ). places_from b units.pieces) is.base

    program_same : program_read h p u ≡ program_of bytes (parts_of_view p) units.pieces
    program_same =
        ap (λ (b : ℕ). told b h.entry_index p (units_in u.units) (places_in u) (trampolines_of h.trampolines)) is.base
        ∙ ap (λ (k : ℕ). told (base_address bytes) k p (units_in u.units) (places_in u) (trampolines_of h.trampolines)) is.entry_index
        ∙ ap (λ (us : List Unit). told (base_address bytes) (entry_index bytes) p us (places_in u) (trampolines_of h.trampolines)) (units.units_are ∙ ap (λ (b : ℕ). units_from b 0 units.pieces) is.base)
        ∙ ap (λ (ps : List SledPlace). told (base_address bytes) (entry_index bytes) p (units_from (base_address bytes) 0 units.pieces) ps (trampolines_of h.trampolines)) places_same
        ∙ ap (told (base_address bytes) (entry_index bytes) p (units_from (base_address bytes) 0 units.pieces) (places_from (base_address bytes) units.pieces)) trampolines_same
      where
        trampolines_same : trampolines_of h.trampolines ≡ record { entry = number8_at bytes 32; exit = number8_at bytes 40; tail = number8_at bytes 48; args = number8_at bytes 56 }
        trampolines_same =
            ap (λ (a : ℕ). four a h.trampolines.exit h.trampolines.tail h.trampolines.args) is.entry
            ∙ ap (λ (a : ℕ). four (number8_at bytes 32) a h.trampolines.tail h.trampolines.args) is.exit
            ∙ ap (λ (a : ℕ). four (number8_at bytes 32) (number8_at bytes 40) a h.trampolines.args) is.tail
            ∙ ap (four (number8_at bytes 32) (number8_at bytes 40) (number8_at bytes 48)) is.args

    -- what the program reads as, the file reads as
    program_row : (v : ImageReading) → ReadsProgram (map entry_of p.entries.items) (places_in u) (program_read h p u) v → ReadsAs bytes v
    program_row v reads =
        parts_row v (inr (
          units.pieces,
          subst (λ (b : ℕ). StandUpTo b p.code.now units.pieces (b + length p.code.now) []) is.base units.stand,
          subst (λ (ps : List SledPlace). ReadsProgram (map entry_of p.entries.items) ps (program_of bytes (parts_of_view p) units.pieces) v) places_same
              (subst (λ (g : Program). ReadsProgram (map entry_of p.entries.items) (places_in u) g v) program_same reads),
        ))

    pub program_stops : (fault : ImageFault) → (fault ≡ faults.NoMemory) ⊎ ReadsProgram (map entry_of p.entries.items) (places_in u) (program_read h p u) (Err fault)
        → (fault ≡ faults.NoMemory) ⊎ ReadsAs bytes (Err fault)
    program_stops fault (inl full) = inl full
    program_stops fault (inr reads) = inr (program_row (Err fault) reads)

    module _ (j : IsJudged (map entry_of p.entries.items) (places_in u) (program_read h p u)) where
      pub program_reads : ReadsAs bytes (Ok (program_read h p u))
      program_reads = program_row (Ok (program_read h p u)) (judged_reads (map entry_of p.entries.items) (places_in u) (program_read h p u) j)

      pub program_accepted : (file : List ℕ) × IsAccepted file (program_read h p u)
      program_accepted = (bytes, (accepted bytes (program_read h p u)).1 program_reads)

-- a fault is out of memory, or the file's
pub told_fault : (bytes : List ℕ) (fault : ImageFault) → (fault ≡ faults.NoMemory) ⊎ ReadsAs bytes (Err fault) → ◌⊎◌ (◌≡◌ {A = ImageReading} (Err fault) (Err faults.NoMemory)) (ReadsAs bytes (Err fault))
told_fault bytes fault (inl full) = inl (ap (λ (f : ImageFault). Err f) full)
told_fault bytes fault (inr reads) = inr reads

pub past_parts : (bytes : List ℕ) (fault : ImageFault) → HasHeader bytes → (fault ≡ faults.NoMemory) ⊎ ReadsParts bytes (Err fault) → (fault ≡ faults.NoMemory) ⊎ ReadsAs bytes (Err fault)
past_parts bytes fault head (inl full) = inl full
past_parts bytes fault head (inr reads) = inr (past_header bytes (Err fault) head reads)
