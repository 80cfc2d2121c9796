-- What is wrong with the bytes of a file, as lists: place by place, whatever else is wrong.
use Rattle.std.specs.Prelude.{ℕ, ◌+◌, ◌||◌, Bool, List, [], ◌∷◌, ◌++◌, length, map, Option, Some, None, Result, Ok, Err, nat_lt, nat_le, not, if◌then◌else◌}
use Rattle.std.specs.List.{flat_map, list_any}
use Rattle.fdr_record.specs.declared.rec.Rec.{Rec}
use Rattle.fdr_record.specs.declared.fault.RecFault.{RecFault}
use Rattle.fdr_file.specs.declared.fault.TraceFault.{TraceFault}
use Rattle.fdr_file.specs.declared.fault.TraceFault.TheVariants as faults
use Rattle.fdr_file.specs.declared.trace.Trace.{Trace}
use Rattle.fdr_file.specs.declared.version.Version.{Version}
use Rattle.fdr_file.specs.Traces.{Standing, block_in, block_standings, block_starts, fault_at, header_in, header_rows, may_stand, names_cpu, needs_cpu, preamble_bytes, record_in, size_named}

-- this fault, unless the test passes
abbrev pub unless : Bool → TraceFault → List TraceFault
unless holds fault = if holds then [] else fault ∷ []

-- this value if nothing is wrong, or else the first fault
abbrev pub decided : {A : Type 0} → List TraceFault → A → Result A TraceFault
decided [] value = Ok value
decided (fault ∷ later) value = Err fault

-- what is wrong with a record at a place, after those before it
abbrev pub record_faults : Version → List Rec → ℕ → Rec → List TraceFault
record_faults version before at r =
    unless (may_stand version before r) (faults.Order at) ++ unless (list_any names_cpu before || not (needs_cpu r)) (faults.NoBase at)

-- what is wrong at the places after some records
abbrev pub standing_faults : Version → List Rec → List Standing → List TraceFault
standing_faults version before [] = []
standing_faults version before ((at, Ok r) ∷ following) = record_faults version before at r ++ standing_faults version (r ∷ before) following
standing_faults version before ((at, Err fault) ∷ following) = fault_at at fault ∷ []

-- what is wrong with a block, by the number of bytes that its first record names
abbrev pub size_faults : Version → ℕ × List ℕ → Option ℕ → List TraceFault
size_faults version (at, bytes) (Some size) =
    unless (nat_le (preamble_bytes version) size) (faults.Extents at) ++ unless (nat_le (16 + size) (length bytes)) (faults.Short at)
    ++ standing_faults version [] (block_standings (at, bytes))
size_faults version (at, bytes) None = faults.Order at ∷ []

-- what is wrong with the block that begins at a place
abbrev pub extents_faults : Version → ℕ × List ℕ → Result Rec RecFault → List TraceFault
extents_faults version (at, bytes) (Ok r) = size_faults version (at, bytes) (size_named r)
extents_faults version (at, bytes) (Err fault) = faults.Bad at fault ∷ []

abbrev pub block_faults : Version → ℕ × List ℕ → List TraceFault
block_faults version (at, bytes) =
    if nat_lt (length bytes) 16 then faults.Short at ∷ [] else extents_faults version (at, bytes) (record_in bytes)

-- all that is wrong with the blocks of a file of this version
abbrev pub blocks_faults : Version → List ℕ → List TraceFault
blocks_faults version bytes = flat_map (block_faults version) (block_starts bytes)

-- what the bytes of a file say
abbrev pub told_by : List ℕ → Trace
told_by bytes = record { header = header_in bytes; blocks = map block_in (block_starts bytes) }

-- what a file says, unless something is wrong with it
abbrev pub by_places : List ℕ → Result Trace TraceFault
by_places bytes = header_rows bytes λ version. decided (blocks_faults version bytes) (told_by bytes)
