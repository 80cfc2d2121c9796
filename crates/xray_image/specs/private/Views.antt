-- What the reader's own structs mean, for the contracts of its private functions.
use Rattle.std.specs.Prelude.{◌≡◌, ℕ, List, [], length, map, slice_get}
use Rattle.xray_image.specs.declared.header.Header.{Header}
use Rattle.xray_image.specs.declared.header.Trampolines.{Trampolines as Addresses}
use Rattle.xray_image.specs.Program.{Trampolines, Program, sled_of}
use Rattle.std.specs.Option.{option_map_or}
use Rattle.std.specs.List.{zip}
use Rattle.xray_image.specs.declared.parts.FunctionEntry.{FunctionEntry}
use Rattle.xray_image.specs.declared.unit_reader.RawUnit.{RawUnit}
use Rattle.xray_image.specs.declared.unit_reader.RawUnit.TheVariants as raw
use Rattle.xray_image.specs.declared.unit_reader.NoUnit.{NoUnit}
use Rattle.xray_image.specs.declared.unit_reader.NoUnit.TheVariants as none
use Rattle.xray_image.specs.declared.fault.ImageFault.{ImageFault}
use Rattle.xray_image.specs.declared.fault.ImageFault.TheVariants as faults
use Rattle.xray_image.specs.declared.code_units.SledSpot.{SledSpot}
use Rattle.xray_image.specs.declared.code_units.CodeUnits.{CodeUnits}
use Rattle.subset_decode.specs.Refusals.{Refuses}
use Rattle.xray_image.specs.Table.{BeginsAsSled}
use Rattle.xray_image.specs.Units.{SledPlace, Piece, Instruction, JumpSled, ReturnSled, Align}
use Rattle.xray_image.specs.declared.map_entry.RawMapEntry.{RawMapEntry}
use Rattle.xray_image.specs.declared.map_entry.SledEntry.{SledEntry}
use Rattle.xray_image.specs.declared.parts.FileParts.{FileParts}
use Rattle.xray_image.specs.private.UnitTable.{units_in, IsSoundTable}
use Rattle.xray_image.specs.Container.{Function, MapEntry, MapFields, Parts, version, base_address, code_length, function_count, entry_count, entry_index, number8_at}

abbrev pub trampolines_of : Addresses → Trampolines
trampolines_of t = record { entry = t.entry; exit = t.exit; tail = t.tail; args = t.args }

-- the header holds the fields of the bytes
pub record IsHeaderOf (bytes : List ℕ) (h : Header) : Type 0 where
  pub version : h.version ≡ version bytes
  pub base : h.base ≡ base_address bytes
  pub code_length : h.code_length ≡ code_length bytes
  pub functions : h.functions ≡ function_count bytes
  pub entries : h.entries ≡ entry_count bytes
  pub entry_index : h.entry_index ≡ entry_index bytes
  pub entry : h.trampolines.entry ≡ number8_at bytes 32
  pub exit : h.trampolines.exit ≡ number8_at bytes 40
  pub tail : h.trampolines.tail ≡ number8_at bytes 48
  pub args : h.trampolines.args ≡ number8_at bytes 56

abbrev pub function_of : FunctionEntry → Function
function_of f = record { start = f.start; name = f.name.now }

abbrev pub fields_of : RawMapEntry → MapFields
fields_of e = record { sled = e.sled; function = e.function; kind = e.kind; always = e.always; version = e.version }

abbrev pub entry_of : SledEntry → MapEntry
entry_of e = record { sled = e.sled; function = e.function; kind = e.kind; always = e.always; version = e.version }

-- the parts, with nothing after them
abbrev pub parts_of_view : FileParts → Parts
parts_of_view p = record { code = p.code.now; functions = map function_of p.functions.items; entries = map entry_of p.entries.items; rest = [] }

abbrev pub piece_of : RawUnit → Piece
piece_of (raw.Instruction instr) = Instruction instr
piece_of (raw.JumpSled shift) = JumpSled shift
piece_of (raw.ReturnSled shift) = ReturnSled shift
piece_of raw.Align = Align

abbrev pub place_of : SledSpot → SledPlace
place_of s = record { address = s.address; shift = s.shift; returns = s.returns }

-- why bytes begin with no unit
abbrev pub IsNoUnit : List ℕ → NoUnit → Type 0
IsNoUnit bytes none.Sled = BeginsAsSled bytes
IsNoUnit bytes (none.Code fault) = (BeginsAsSled bytes → ⊥) × Refuses bytes fault

-- the fault at a place of the code where no unit stands
abbrev pub fault_at : ℕ → NoUnit → ImageFault
fault_at place none.Sled = faults.Sled place
fault_at place (none.Code fault) = faults.Code place fault

-- the sleds that were found
abbrev pub places_in : CodeUnits → List SledPlace
places_in u = map place_of u.sleds.items

-- the tables are those of a code up to a place
pub record AreTablesTo (base : ℕ) (code : List ℕ) (at : ℕ) (u : CodeUnits) : Type 0 where
  pub sound : IsSoundTable u.units
  pub same_base : u.units.base ≡ base
  pub same_code : u.units.code.items ≡ code
  pub place : u.units.places.total ≡ at
  pub sleds : u.units.sleds.total ≡ length u.sleds.items

-- the program that the header, the parts and the units say
abbrev pub program_read : Header → FileParts → CodeUnits → Program
program_read h p u = record {
  base = h.base;
  entry = option_map_or (λ f. f.start) (slice_get (map function_of p.functions.items) h.entry_index) 0;
  code = p.code.now;
  functions = map function_of p.functions.items;
  units = units_in u.units;
  sleds = map (sled_of (map entry_of p.entries.items)) (zip (places_in u) (map entry_of p.entries.items));
  trampolines = trampolines_of h.trampolines;
}
