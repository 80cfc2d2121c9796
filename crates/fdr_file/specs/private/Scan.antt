-- A scan, from one call to the next: what each function does to its fields.
use Rattle.std.specs.Prelude.{◌≡◌, ⊤, ℕ, ◌+◌, ◌==◌, ◌&&◌, List, [], ◌∷◌, ◌++◌, length, slice_index, Some, Result, Ok, Err, nat_lt, nat_le, if◌then◌else◌}
use Rattle.fdr_file.specs.declared.events.Base.{Base}
use Rattle.fdr_file.specs.declared.fault.TraceFault.{TraceFault}
use Rattle.fdr_file.specs.declared.fault.TraceFault.TheVariants as faults
use Rattle.fdr_file.specs.declared.header.Header.{Header}
use Rattle.fdr_file.specs.declared.scan.Head.{Head}
use Rattle.fdr_file.specs.declared.scan.Head.TheVariants as heads
use Rattle.fdr_file.specs.declared.scan.TraceScan.{TraceScan}
use Rattle.fdr_file.specs.declared.stage.Inside.TheVariants as insides
use Rattle.fdr_file.specs.declared.stage.Span.{Span}
use Rattle.fdr_file.specs.declared.stage.Stage.{Stage}
use Rattle.fdr_file.specs.declared.stage.Stage.TheVariants.{Due, Within, Faulty}
use Rattle.fdr_file.specs.declared.stage.Told.{Told}
use Rattle.fdr_file.specs.declared.stage.Told.TheVariants.{Nothing, Begun, Noted}
use Rattle.fdr_file.specs.declared.trace.Block.{Block}
use Rattle.fdr_file.specs.declared.version.Version.{Version}
use Rattle.fdr_file.specs.Traces.{record_in, record_length}
use Rattle.fdr_file.specs.Scanning.{blocks_given, header_on, stage_after, stage_judged, with_told}
use Rattle.fdr_file.specs.Streams.{HasLast, Scans}

-- an event is told only after a block
abbrev pub CanTell : Told → List Block → Type 0
CanTell Nothing blocks = ⊤
CanTell (Begun thread wall pid) blocks = ⊤
CanTell (Noted entry event) blocks = HasLast blocks

-- after the header
abbrev pub header_taken : TraceScan → Result (Version × Header) TraceFault → TraceScan
header_taken scan (Ok (version, header)) = record scan { head = heads.Read version header; at = 32; prefix = [] }
header_taken scan (Err fault) = record scan { head = heads.Refused fault }

-- after a byte of the header
abbrev pub header_longer : TraceScan → ℕ → TraceScan
header_longer scan byte =
    let longer : TraceScan = record scan { prefix = scan.prefix ++ byte ∷ [] } in
    if length longer.prefix == 32 then header_taken longer (header_on longer.prefix) else longer

-- after a record, of which these are the bytes
abbrev pub record_passed : Version → TraceScan → List ℕ → TraceScan × Told
record_passed version scan bytes =
    let said = stage_judged version scan.stage scan.at (record_length bytes) (record_in bytes) in
    (record scan { stage = said.0; at = scan.at + record_length bytes; prefix = [] }, said.1)

-- after a byte of a record
abbrev pub record_longer : Version → TraceScan → ℕ → TraceScan × Told
record_longer version scan byte =
    let bytes = scan.prefix ++ byte ∷ [] in
    if nat_lt (length bytes) (record_length bytes) then (record scan { prefix = bytes }, Nothing)
    else record_passed version scan bytes

-- after the first bytes of a piece: a whole record, if none of it came before, or else one byte
abbrev pub record_advanced : Version → TraceScan → List ℕ → TraceScan × (ℕ × Told)
record_advanced version scan piece =
    if length scan.prefix == 0 && nat_le (record_length piece) (length piece)
    then (let x = record_passed version scan piece in (x.0, (record_length piece, x.1)))
    else (let x = record_longer version scan (slice_index piece 0) in (x.0, (1, x.1)))

-- what more bytes of the stream lead to
pub record Advances (new : TraceScan) (stream more : List ℕ) (told : Told) : Type 0 where
  pub scans : Scans new (stream ++ more)
  pub grows : blocks_given (stream ++ more) ≡ with_told told (blocks_given stream)
  pub can : CanTell told (blocks_given stream)

-- ---- the events of a block

-- the events of a block go on, after a record with this CPU and counter
pub record EventsNext (scan : TraceScan) (span : Span) (base : Base) : Type 0 where
  pub version : Version
  pub header : Header
  pub head : scan.head ≡ heads.Read version header
  pub stage : scan.stage ≡ Within span (insides.Events (Some base))
  pub none : scan.prefix ≡ []

-- after a record of a block's events that ends at this place, with this CPU and counter
abbrev pub among_events : TraceScan → Span → ℕ → Base → TraceScan
among_events scan span at base = record scan { stage = stage_after span at (insides.Events (Some base)); at = at }

-- ---- the end

-- the stage after the last record, of which only these bytes have come
abbrev pub last_stage : Version → TraceScan → Stage
last_stage version scan =
    if length scan.prefix == 0 then scan.stage
    else (stage_judged version scan.stage scan.at (record_length scan.prefix) (record_in scan.prefix)).0

abbrev pub stage_answers : Header → ℕ → Stage → Result Header TraceFault
stage_answers header len Due = Ok header
stage_answers header len (Within span inside) = Err (faults.Short span.begin)
stage_answers header len (Faulty span fault) = if nat_lt len span.end then Err (faults.Short span.begin) else Err fault

abbrev pub answered_by : Head → TraceScan → Result Header TraceFault
answered_by heads.Due scan = Err (faults.Short 0)
answered_by (heads.Read version header) scan = stage_answers header (scan.at + length scan.prefix) (last_stage version scan)
answered_by (heads.Refused fault) scan = Err fault
