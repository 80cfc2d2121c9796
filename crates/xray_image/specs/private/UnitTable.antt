-- The units of a code, as stored by the code and by where they begin.
use Rattle.std.specs.Prelude.{◌≡◌, ◌<◌, ◌≤◌, ◌+◌, ◌^◌, ◌==◌, ◌||◌, ◌&&◌, ℕ, Bool, false, List, [], ◌∷◌, length, drop, map, slice_index, Result, Ok, Err, if◌then◌else◌}
use Rattle.std.specs.List.{zip}
use Rattle.subset_decode.specs.declared.instr.Instr.{Instr}
use Rattle.subset_decode.specs.declared.fault.DecodeFault.{DecodeFault}
use Rattle.subset_decode.specs.Reading.{first_instr}
use Rattle.xray_image.specs.declared.unit.What.{What}
use Rattle.xray_image.specs.declared.unit.What.TheVariants as whats
use Rattle.xray_image.specs.declared.unit.Unit.{Unit}
use Rattle.xray_image.specs.declared.unit.UnitTable.{UnitTable}
use Rattle.xray_image.specs.private.RunningSums.{sums_in, IsSound}

-- bytes begin as a sled
abbrev pub starts_sled : List ℕ → Bool
starts_sled [] = false
starts_sled (b ∷ rest) = (b == 0xEB) || ((b == 0xC3) && (slice_index rest 0 == 0x2E))

-- an instruction if the bytes are one, and otherwise the alignment byte
abbrev pub instr_or_pad : Result Instr DecodeFault → What
instr_or_pad (Ok instr) = whats.Plain instr
instr_or_pad (Err fault) = whats.Pad

-- the unit that the bytes begin with; a sled has the number of sleds before it
abbrev pub what_at : ℕ → List ℕ → What
what_at sleds bytes = if starts_sled bytes then whats.Sled sleds else instr_or_pad (first_instr bytes)

-- the unit at a place of a code, with its base and the number of sleds before it
abbrev pub unit_at : ℕ → List ℕ → ℕ × ℕ → Unit
unit_at base code (place, sleds) = record { address = base + place; what = what_at sleds (drop place code) }

-- the units of a table
abbrev pub units_in : UnitTable → List Unit
units_in table = map (unit_at table.base table.code.items) (zip (sums_in table.places) (sums_in table.sleds))

-- each place has its count of sleds, and is within the code
pub record IsSoundTable (table : UnitTable) : Type 0 where
  pub low : table.base < 2 ^ 63
  pub short : length table.code.items < 2 ^ 32
  pub places : IsSound table.places
  pub sleds : IsSound table.sleds
  pub paired : length (sums_in table.places) ≡ length (sums_in table.sleds)
  pub within : table.places.total ≤ length table.code.items
