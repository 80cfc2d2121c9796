-- What the bytes of a log of LLVM's runtime say.
use Rattle.std.specs.Prelude.{ℕ, ◌+◌, ◌-◌, ◌*◌, ◌==◌, ◌&&◌, Bool, not, List, [], ◌∷◌, ◌++◌, length, take, drop, nat_le, nat_lt, option_to_list, slice_index, Option, Some, None, Result, Ok, Err, if◌then◌else◌}
use Rattle.xray_io.specs.Rows.{First, InTurn, NeedsPart, ◌>>=◌}
use Rattle.fdr_record.specs.declared.fault.RecFault.{RecFault}
use Rattle.fdr_record.specs.declared.rec.Rec.{Rec}
use Rattle.fdr_record.specs.Records.{metadata_length}
use Rattle.fdr_file.specs.declared.fault.TraceFault.{TraceFault}
use Rattle.fdr_file.specs.declared.fault.TraceFault.TheVariants as traces
use Rattle.fdr_file.specs.declared.header.Header.{Header}
use Rattle.fdr_file.specs.declared.stage.Inside.TheVariants.{Opened}
use Rattle.fdr_file.specs.declared.stage.Stage.{Stage}
use Rattle.fdr_file.specs.declared.stage.Stage.TheVariants.{Due, Within, Faulty}
use Rattle.fdr_file.specs.declared.stage.Told.{Told}
use Rattle.fdr_file.specs.declared.stage.Told.TheVariants.{Nothing, Begun, Noted}
use Rattle.fdr_file.specs.declared.trace.Block.{Block}
use Rattle.fdr_file.specs.Places.{starts}
use Rattle.fdr_file.specs.ThreadEvents.{ThreadEvent}
use Rattle.fdr_file.specs.Scanning.{block_span, empty_block, stage_judged}
use Rattle.fdr_file.specs.Traces.{block_starts, header_in, preamble_bytes, size_named, type_in, version_in}
use Rattle.runtime_log.specs.declared.fault.LogFault.{LogFault}
use Rattle.runtime_log.specs.declared.fault.LogFault.TheVariants as faults
use Rattle.runtime_log.specs.declared.own_event.OwnKind.{OwnKind}
use Rattle.runtime_log.specs.declared.own_event.OwnKind.TheVariants.{Custom, Typed}
use Rattle.runtime_log.specs.declared.basic.BasicRec.{BasicRec}
use Rattle.runtime_log.specs.declared.version.BasicVersion.{BasicVersion}
use Rattle.runtime_log.specs.declared.version.LogVersion.{LogVersion}
use Rattle.runtime_log.specs.BasicLogs.{basic_records, lost_count, recorded_events}
use Rattle.runtime_log.specs.OwnEvents.{first_kind, log_record_in, log_record_length, own_kind}
use Rattle.runtime_log.specs.Versions.{basic_version_of, is_version, log_version_of, trace_version}

-- A block of a log: where it begins; its bytes, which another block may have too; what it says, as a block of a trace; how
-- many events of the program's own it has, of each kind; and how many records are cut at its end: one or none.
pub record LogBlock : Type 0 where
  pub place : ℕ
  pub content : List ℕ
  pub block : Block
  pub custom : ℕ
  pub typed : ℕ
  pub cut : ℕ

-- A log: what it says about itself, as the header of a trace, and what it has. A log of the Flight Data Recorder mode has
-- blocks, in the order of the file. A basic log has events, in the order in which they were recorded, and arguments that have
-- lost their entries.
pub record Log : Type 0 where
  pub header : Header
  pub blocks : List LogBlock
  pub events : List ThreadEvent
  pub lost : ℕ

-- ---- a block of the Flight Data Recorder mode

-- where the reading of a block stands, and what its records so far have said: the block, and how many events of the
-- program's own there were, of each kind
pub record BlockSoFar : Type 0 where
  pub stage : Stage
  pub block : Block
  pub custom : ℕ
  pub typed : ℕ

-- before its first record
abbrev pub block_opened : ℕ → ℕ → BlockSoFar
block_opened at size = record {
  stage = Within (block_span at size) Opened;
  block = empty_block 0 (record { secs = 0; micros = 0 }) 0;
  custom = 0;
  typed = 0;
}

-- a block, with what a record says
abbrev pub block_with : Told → Block → Block
block_with Nothing block = block
block_with (Begun thread wall pid) block = record block { thread = thread; wall = wall; pid = pid }
block_with (Noted entry event) block = record block { events = block.events ++ (option_to_list entry ++ option_to_list event) }

-- 1 for an event of the program's own of this kind, and 0 for another record
abbrev pub one_custom : Option OwnKind → ℕ
one_custom None = 0
one_custom (Some Custom) = 1
one_custom (Some Typed) = 0

abbrev pub one_typed : Option OwnKind → ℕ
one_typed None = 0
one_typed (Some Custom) = 0
one_typed (Some Typed) = 1

-- a stage that is no fault, with what was said
abbrev pub unless_faulty : Stage × Told → Result (Stage × Told) TraceFault
unless_faulty (Due, told) = Ok (Due, told)
unless_faulty (Within span inside, told) = Ok (Within span inside, told)
unless_faulty (Faulty span fault, told) = Err fault

-- What is at a place of a block: the record ends within the block, and is one that a trace may have there. It leads to a
-- stage, and says something of the block.
abbrev pub log_record_rows : LogVersion → Stage → ℕ × List ℕ → Result (Stage × Told) TraceFault
log_record_rows version stage (at, bytes) =
    First (nat_lt (length bytes) (log_record_length version bytes)) (Err (traces.Extents at))
    (unless_faulty (stage_judged (trace_version version) stage at (log_record_length version bytes) (log_record_in version stage bytes)))

-- the same, after what the records before it said
abbrev pub said_rows : LogVersion → BlockSoFar → ℕ × List ℕ → Result BlockSoFar TraceFault
said_rows version so (at, bytes) =
    log_record_rows version so.stage (at, bytes) >>= λ said. Ok (record {
      stage = said.0;
      block = block_with said.1 so.block;
      custom = so.custom + one_custom (own_kind version bytes);
      typed = so.typed + one_typed (own_kind version bytes);
    })

-- what a block has after its extents, which begin at a place and name this many bytes
abbrev pub block_content : ℕ → List ℕ → List ℕ
block_content size bytes = take size (drop metadata_length bytes)

-- each place of a block's content where a record begins, with the bytes from there to the block's end
abbrev pub log_places : LogVersion → ℕ → List ℕ → List (ℕ × List ℕ)
log_places version at bytes = starts (log_record_length version) 0 at bytes

-- Extents name as many bytes as a preamble has, at least, or none: the runtime also hands out empty buffers.
abbrev pub too_few : LogVersion → ℕ → Bool
too_few version size = not (size == 0) && nat_lt size (preamble_bytes (trace_version version))

-- how many bytes the block that begins at a place has after its extents, by its first record
abbrev pub sized_rows : LogVersion → ℕ × List ℕ → Result Rec RecFault → Result ℕ TraceFault
sized_rows version (at, bytes) (Ok r) =
    NeedsPart (size_named r) (Err (traces.Order at)) λ size.
    First (too_few version size) (Err (traces.Extents at))
    (First (nat_lt (length bytes) (metadata_length + size)) (Err (traces.Short at)) (Ok size))
sized_rows version (at, bytes) (Err fault) = Err (traces.Bad at fault)

abbrev pub block_size_rows : LogVersion → ℕ × List ℕ → Result ℕ TraceFault
block_size_rows version (at, bytes) =
    First (nat_lt (length bytes) metadata_length) (Err (traces.Short at))
    (sized_rows version (at, bytes) (log_record_in version Due bytes))

-- The runtimes name 16 bytes too few in the extents of a block for each typed event in it. So the block ends earlier than its
-- records do, and one of these may be cut: fewer bytes of it are left than it has, and no more are lacking than for so many
-- typed events. It is no record of the preamble.
abbrev pub lacks_an_end : LogVersion → (size typed : ℕ) → List ℕ → Bool
lacks_an_end version size typed rest =
    nat_lt (length rest) (log_record_length version rest) && nat_le (log_record_length version rest) (length rest + 16 * typed)
    && nat_le (preamble_bytes (trace_version version) + length rest) size

-- How many bytes are left of a block of this size where its record is cut, by the places of its records: those of the typed
-- events before these, and of the cut one too, count.
abbrev pub cut_after : LogVersion → (size typed : ℕ) → List (ℕ × List ℕ) → ℕ
cut_after version size typed [] = 0
cut_after version size typed ((at, rest) ∷ places) =
    let n = typed + one_typed (first_kind version (slice_index rest 0)) in
    if lacks_an_end version size n rest then length rest else cut_after version size n places

abbrev pub cut_length : LogVersion → List ℕ → ℕ
cut_length version content = cut_after version (length content) 0 (log_places version 0 content)

-- the content of a block without the bytes of the record that is cut
abbrev pub whole_content : LogVersion → List ℕ → List ℕ
whole_content version content = take (length content - cut_length version content) content

-- the records of a block with this content, in turn
abbrev pub whole_rows : LogVersion → ℕ → List ℕ → Result BlockSoFar TraceFault
whole_rows version at whole =
    InTurn (said_rows version) (block_opened at (length whole)) (log_places version (at + metadata_length) whole)

abbrev pub content_rows : LogVersion → ℕ → ℕ → List ℕ → Result BlockSoFar TraceFault
content_rows version at size bytes = whole_rows version at (whole_content version (block_content size bytes))

-- the block of a log that begins at a place, with what its records said
abbrev pub block_said : LogVersion → ℕ → List ℕ → BlockSoFar → LogBlock
block_said version at content so = record {
  place = at;
  content = content;
  block = so.block;
  custom = so.custom;
  typed = so.typed;
  cut = if cut_length version content == 0 then 0 else 1;
}

abbrev pub log_block_in : LogVersion → ℕ × List ℕ → Result LogBlock TraceFault
log_block_in version (at, bytes) =
    block_size_rows version (at, bytes) >>= λ size.
    content_rows version at size bytes >>= λ so. Ok (block_said version at (block_content size bytes) so)

-- the same, after the blocks before it
abbrev pub log_block_rows : LogVersion → List LogBlock → ℕ × List ℕ → Result (List LogBlock) TraceFault
log_block_rows version before start = log_block_in version start >>= λ b. Ok (before ++ b ∷ [])

-- the blocks of a log of this version
abbrev pub recorder_blocks : LogVersion → List ℕ → Result (List LogBlock) TraceFault
recorder_blocks version bytes = InTurn (log_block_rows version) [] (block_starts bytes)

-- ---- a log

-- a result whose refusals are those of a trace
abbrev pub as_log : {A : Type 0} → Result A TraceFault → Result A LogFault
as_log (Ok value) = Ok value
as_log (Err fault) = Err (faults.Trace fault)

-- the header of a trace of this log; the header of a basic log says the size of no buffer
abbrev pub recorder_header : List ℕ → Header
recorder_header bytes = record (header_in bytes) { version = 3 }

abbrev pub imported_header : List ℕ → Header
imported_header bytes = record (header_in bytes) { version = 3; size = 0 }

-- a log with these blocks, or with these records
abbrev pub log_of_blocks : Header → List LogBlock → Log
log_of_blocks header blocks = record { header = header; blocks = blocks; events = []; lost = 0 }

abbrev pub log_of_records : Header → List BasicRec → Log
log_of_records header records = record { header = header; blocks = []; events = recorded_events records; lost = lost_count None records }

-- a log of each mode
abbrev pub recorder_log : LogVersion → List ℕ → Result Log LogFault
recorder_log version bytes = as_log (recorder_blocks version bytes) >>= λ blocks. Ok (log_of_blocks (recorder_header bytes) blocks)

abbrev pub basic_log : BasicVersion → List ℕ → Result Log LogFault
basic_log version bytes = basic_records version bytes >>= λ records. Ok (log_of_records (imported_header bytes) records)

-- the refusal of the version in a header
abbrev pub no_version : List ℕ → Result Log LogFault
no_version bytes = Err (faults.Trace (traces.Version (version_in bytes)))

-- A log of the type 1 is one of the Flight Data Recorder mode, of version 2 to 5. One of the type 0 is a basic log, of
-- version 1 to 3.
abbrev pub typed_rows : List ℕ → Result Log LogFault
typed_rows bytes =
    First (type_in bytes == 1) (NeedsPart (log_version_of (version_in bytes)) (no_version bytes) λ version. recorder_log version bytes)
    (First (not (type_in bytes == 0)) (Err (faults.Trace (traces.Form (type_in bytes))))
    (NeedsPart (basic_version_of (version_in bytes)) (no_version bytes) λ version. basic_log version bytes))

-- The log that bytes are, or the fault of the first place that has one. A header is refused for its version first, if no
-- log has that version.
abbrev pub logged : List ℕ → Result Log LogFault
logged bytes =
    First (nat_lt (length bytes) 32) (Err (faults.Trace (traces.Short 0)))
    (First (not (is_version (version_in bytes))) (no_version bytes) (typed_rows bytes))
