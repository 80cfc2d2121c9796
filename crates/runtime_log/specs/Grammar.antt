-- What a log of the Flight Data Recorder mode is: a header, and blocks, one after the other.
use Rattle.std.specs.Prelude.{◌≡◌, ◌≢◌, ◌<◌, ◌≤◌, ◌⊎◌, ℕ, ◌+◌, ◌*◌, ◌/◌, ◌%◌, ◌^◌, ◌==◌, ⊤, Bool, true, false, List, [], ◌∷◌, ◌++◌, length, count_by, slice_index}
use Rattle.std.specs.List.{AllByRecursion}
use Rattle.byteorder.specs.Endian.{little_bytes}
use Rattle.fdr_record.specs.declared.rec.Rec.{Rec}
use Rattle.fdr_record.specs.declared.rec.Rec.TheVariants.{Extents, TscWrap}
use Rattle.fdr_record.specs.Records.{FieldsFit, Spells, first_of, metadata_length}
use Rattle.fdr_file.specs.declared.header.Header.{Header}
use Rattle.fdr_file.specs.Events.{counter_at}
use Rattle.fdr_file.specs.Grammar.{ArgsFollow, BeginWithCpu, IsInner, block_records}
use Rattle.fdr_file.specs.Scanning.{empty_block}
use Rattle.fdr_file.specs.Traces.{block_of, is_arg, preamble_bytes}
use Rattle.runtime_log.specs.Arguments.{rec_before}
use Rattle.runtime_log.specs.declared.own_event.OwnKind.{OwnKind}
use Rattle.runtime_log.specs.declared.own_event.OwnKind.TheVariants.{Custom, Typed}
use Rattle.runtime_log.specs.declared.version.LogVersion.{LogVersion}
use Rattle.runtime_log.specs.declared.version.LogVersion.TheVariants.{Two, Three, Four, Five}
use Rattle.runtime_log.specs.Logs.{Log, LogBlock, one_typed}
use Rattle.runtime_log.specs.OwnEvents.{custom_event_marker, first_kind, log_record_length, typed_event_marker}
use Rattle.runtime_log.specs.Versions.{trace_version}

-- ---- records

-- A record of a block: one that a trace may have, or an event of the program's own. The delta says how far the counter has
-- advanced since the record before.
pub data LogRecord : Type 0 where
  OfTrace : Rec → LogRecord
  OfProgram : (kind : OwnKind) → (delta : ℕ) → LogRecord

-- the first byte of an event of the program's own
abbrev pub own_marker : OwnKind → ℕ
own_marker Custom = first_of custom_event_marker
own_marker Typed = first_of typed_event_marker

-- Each version has custom events. Only version 5 has typed ones.
abbrev pub HasEventsOf : LogVersion → OwnKind → Type 0
HasEventsOf version Custom = ⊤
HasEventsOf version Typed = version ≡ Five

-- The bytes that say the delta. Before version 5 none do: such an event has a whole counter, which counts for no other record.
abbrev pub delta_bytes : LogVersion → ℕ → List ℕ
delta_bytes Two delta = []
delta_bytes Three delta = []
delta_bytes Four delta = []
delta_bytes Five delta = little_bytes 4 delta

abbrev pub DeltaFits : LogVersion → ℕ → Type 0
DeltaFits Two delta = delta ≡ 0
DeltaFits Three delta = delta ≡ 0
DeltaFits Four delta = delta ≡ 0
DeltaFits Five delta = delta < 2 ^ 32

-- The bytes are an event of the program's own: 16 bytes that say its kind, how many bytes are behind these, and its delta;
-- and as many bytes. The other bytes may be any.
pub record IsOwnEvent (version : LogVersion) (kind : OwnKind) (delta : ℕ) (bytes : List ℕ) : Type 0 where
  pub head : List ℕ
  pub payload : List ℕ
  pub filler : List ℕ
  pub parts : bytes ≡ head ++ payload
  pub spelled : head ≡ own_marker kind ∷ little_bytes 4 (length payload) ++ (delta_bytes version delta ++ filler)
  pub whole : length head ≡ metadata_length
  pub few : length payload < 2 ^ 32
  pub fits : DeltaFits version delta
  pub known : HasEventsOf version kind

-- the bytes are this record
abbrev pub IsLogRecord : LogVersion → LogRecord → List ℕ → Type 0
IsLogRecord version (OfTrace r) bytes = FieldsFit r × Spells bytes r
IsLogRecord version (OfProgram kind delta) bytes = IsOwnEvent version kind delta bytes

-- the bytes are these records, one after the other
abbrev pub AreLogRecords : LogVersion → List LogRecord → List ℕ → Type 0
AreLogRecords version [] bytes = bytes ≡ []
AreLogRecords version (r ∷ records) bytes =
    (front : List ℕ) × (following : List ℕ) × (bytes ≡ front ++ following) × IsLogRecord version r front × AreLogRecords version records following

-- ---- what they say

-- an argument comes first of these
abbrev pub arg_first : List LogRecord → Bool
arg_first [] = false
arg_first (OfTrace r ∷ records) = is_arg r
arg_first (OfProgram kind delta ∷ records) = false

-- The record of a trace that a record stands for, after some records, the last of which comes first, and before others. An
-- entry directly before an argument stands for one that logs it. An event of the program's own stands for the counter at it:
-- the counter at the record before, and its delta.
abbrev pub stands_for : (before : List Rec) → LogRecord → (later : List LogRecord) → Rec
stands_for before (OfTrace r) later = rec_before (arg_first later) r
stands_for before (OfProgram kind delta) later = TscWrap ((counter_at before + delta) % 2 ^ 64)

-- those that records stand for
abbrev pub stand_for : List Rec → List LogRecord → List Rec
stand_for before [] = []
stand_for before (r ∷ records) = stands_for before r records ∷ stand_for (stands_for before r records ∷ before) records

-- the record is a custom event, or a typed one
abbrev pub is_custom_event : LogRecord → Bool
is_custom_event (OfTrace r) = false
is_custom_event (OfProgram Custom delta) = true
is_custom_event (OfProgram Typed delta) = false

abbrev pub is_typed_event : LogRecord → Bool
is_typed_event (OfTrace r) = false
is_typed_event (OfProgram Custom delta) = false
is_typed_event (OfProgram Typed delta) = true

-- ---- blocks

-- These bytes of a block of this size begin a record. It is cut: the block ends before it does. For each of so many typed events
-- up to 16 bytes may be lacking.
pub record IsCutRecord (version : LogVersion) (size typed : ℕ) (bytes : List ℕ) : Type 0 where
  pub begins : bytes ≢ []
  pub ends : length bytes < log_record_length version bytes
  pub lacks : log_record_length version bytes ≤ length bytes + 16 * (typed + one_typed (first_kind version (slice_index bytes 0)))
  pub behind : preamble_bytes (trace_version version) + length bytes ≤ size

-- at the end of a block with these records a record is cut, or none
abbrev pub IsCutEnd : LogVersion → (size : ℕ) → List LogRecord → List ℕ → ℕ → Type 0
IsCutEnd version size records bytes count =
    ((bytes ≡ []) × (count ≡ 0)) ⊎ (IsCutRecord version size (count_by is_typed_event records) bytes × (count ≡ 1))

-- The content of a block is records, and perhaps the bytes of one that is cut. The records stand for those of a block of a
-- trace, the preamble and others, which say the block.
pub record IsFilled (version : LogVersion) (b : LogBlock) : Type 0 where
  pub whole : List ℕ
  pub end : List ℕ
  pub content : b.content ≡ whole ++ end
  pub records : List LogRecord
  pub spelled : AreLogRecords version records whole
  pub cut : IsCutEnd version (length b.content) records end b.cut
  pub others : List Rec
  pub are : stand_for [] records ≡ block_records (trace_version version) b.block others
  pub inner : AllByRecursion IsInner others
  pub based : BeginWithCpu others
  pub args : ArgsFollow false others
  pub told : b.block ≡ block_of (stand_for [] records)
  pub custom : b.custom ≡ count_by is_custom_event records
  pub typed : b.typed ≡ count_by is_typed_event records

-- the block has no bytes and no events, and says nothing
pub record IsBare (b : LogBlock) : Type 0 where
  pub bytes : b.content ≡ []
  pub block : b.block ≡ empty_block 0 (record { secs = 0; micros = 0 }) 0
  pub custom : b.custom ≡ 0
  pub typed : b.typed ≡ 0
  pub cut : b.cut ≡ 0

-- The bytes are a block: extents, and as many bytes as they name. These are its records, or there are none.
pub record IsLogBlock (version : LogVersion) (bytes : List ℕ) (b : LogBlock) : Type 0 where
  pub extents : List ℕ
  pub parts : bytes ≡ extents ++ b.content
  pub named : Spells extents (Extents (length b.content))
  pub few : length b.content < 2 ^ 64
  pub says : IsFilled version b ⊎ IsBare b

-- the bytes, which begin at a place, are these blocks, one after the other
abbrev pub AreLogBlocks : LogVersion → ℕ → List LogBlock → List ℕ → Type 0
AreLogBlocks version at [] bytes = bytes ≡ []
AreLogBlocks version at (b ∷ blocks) bytes =
    (front : List ℕ) × (following : List ℕ) × (bytes ≡ front ++ following) × (b.place ≡ at) × IsLogBlock version front b
    × AreLogBlocks version (at + length front) blocks following

-- ---- a log

-- the number of a version in a header
abbrev pub version_number : LogVersion → ℕ
version_number Two = 2
version_number Three = 3
version_number Four = 4
version_number Five = 5

-- The bytes are a header of this version, and of the type of the Flight Data Recorder mode. The trace has its other fields,
-- and version 3. The flags above the second, and the last 8 bytes, may have any values.
pub record IsLogHeader (version : LogVersion) (bytes : List ℕ) (header : Header) : Type 0 where
  pub flags : ℕ
  pub reserved : List ℕ
  pub spelled : bytes ≡ little_bytes 2 (version_number version) ++ (little_bytes 2 1 ++ (little_bytes 4 flags ++ (little_bytes 8 header.frequency
      ++ (little_bytes 8 header.size ++ reserved))))
  pub third : header.version ≡ 3
  pub constant : header.constant ≡ (flags % 2 == 1)
  pub nonstop : header.nonstop ≡ (flags / 2 % 2 == 1)
  pub flags_fit : flags < 2 ^ 32
  pub frequency_fits : header.frequency < 2 ^ 64
  pub size_fits : header.size < 2 ^ 64
  pub whole : length reserved ≡ 8

-- the bytes are this log of the Flight Data Recorder mode: a header, and blocks of its version
pub record IsLog (bytes : List ℕ) (log : Log) : Type 0 where
  pub version : LogVersion
  pub front : List ℕ
  pub following : List ℕ
  pub parts : bytes ≡ front ++ following
  pub header : IsLogHeader version front log.header
  pub blocks : AreLogBlocks version 32 log.blocks following
  pub alone : log.events ≡ []
  pub none : log.lost ≡ 0
