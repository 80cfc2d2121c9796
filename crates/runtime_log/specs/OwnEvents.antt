-- The events that a program logs itself, by `__xray_customevent` and `__xray_typedevent`. Such an event is a metadata
-- record with a size, and as many bytes of the program's own behind it.
use Rattle.std.specs.Prelude.{ℕ, ◌+◌, ◌%◌, ◌^◌, ◌==◌, List, length, drop, slice_index, nat_lt, Option, Some, None, Result, Ok, if◌then◌else◌}
use Rattle.std.specs.Option.{option_map_or}
use Rattle.byteorder.specs.Endian.{little_number}
use Rattle.fdr_record.specs.declared.fault.RecFault.{RecFault}
use Rattle.fdr_record.specs.declared.rec.Rec.{Rec}
use Rattle.fdr_record.specs.declared.rec.Rec.TheVariants.{TscWrap}
use Rattle.fdr_record.specs.Records.{first_of, metadata_length}
use Rattle.fdr_file.specs.declared.events.Base.{Base}
use Rattle.fdr_file.specs.declared.stage.Inside.{Inside}
use Rattle.fdr_file.specs.declared.stage.Inside.TheVariants.{Opened, Thread, Wall, Events}
use Rattle.fdr_file.specs.declared.stage.Stage.{Stage}
use Rattle.fdr_file.specs.declared.stage.Stage.TheVariants.{Due, Within, Faulty}
use Rattle.fdr_file.specs.Traces.{record_length}
use Rattle.runtime_log.specs.Arguments.{traced_in}
use Rattle.runtime_log.specs.declared.own_event.OwnKind.{OwnKind}
use Rattle.runtime_log.specs.declared.own_event.OwnKind.TheVariants.{Custom, Typed}
use Rattle.runtime_log.specs.declared.version.LogVersion.{LogVersion}
use Rattle.runtime_log.specs.declared.version.LogVersion.TheVariants.{Two, Three, Four, Five}

-- the kinds of their metadata records, as `MetadataRecord::RecordKinds` numbers them
abbrev pub custom_event_marker : ℕ
custom_event_marker = 5

abbrev pub typed_event_marker : ℕ
typed_event_marker = 8

-- a record with this first byte is a typed event in this version: only version 5 has them
abbrev pub typed_kind : LogVersion → ℕ → Option OwnKind
typed_kind Two first = None
typed_kind Three first = None
typed_kind Four first = None
typed_kind Five first = if first == first_of typed_event_marker then Some Typed else None

-- a record with this first byte is an event of this kind in this version
abbrev pub first_kind : LogVersion → ℕ → Option OwnKind
first_kind version first = if first == first_of custom_event_marker then Some Custom else typed_kind version first

-- the kind of event of the program's own whose record bytes begin with, if they begin with a whole one
abbrev pub own_kind : LogVersion → List ℕ → Option OwnKind
own_kind version bytes = if nat_lt (length bytes) metadata_length then None else first_kind version (slice_index bytes 0)

-- how many bytes of the program's own stand behind the record
abbrev pub own_size : List ℕ → ℕ
own_size bytes = little_number 4 (drop 1 bytes)

-- How far the counter has advanced since the last record with a counter or a delta. Before version 5 a custom event has a
-- whole counter, which counts for no other record.
abbrev pub own_delta : LogVersion → List ℕ → ℕ
own_delta Two bytes = 0
own_delta Three bytes = 0
own_delta Four bytes = 0
own_delta Five bytes = little_number 4 (drop 5 bytes)

-- ---- as records of traces

-- the counter of the last record, if a CPU was named; otherwise 0
abbrev pub based_counter : Option Base → ℕ
based_counter None = 0
based_counter (Some base) = base.tsc

abbrev pub counter_inside : Inside → ℕ
counter_inside Opened = 0
counter_inside (Thread thread) = 0
counter_inside (Wall thread wall) = 0
counter_inside (Events base) = based_counter base

-- the same, where the reading of a block stands
abbrev pub counter_so_far : Stage → ℕ
counter_so_far Due = 0
counter_so_far (Within span inside) = counter_inside inside
counter_so_far (Faulty span fault) = 0

-- the length of the record that bytes begin with, and of what stands behind it
abbrev pub log_record_length : LogVersion → List ℕ → ℕ
log_record_length version bytes = option_map_or (λ kind. metadata_length + own_size bytes) (own_kind version bytes) (record_length bytes)

-- The record of a trace that bytes begin with, where the reading stands at this stage. An event of the program's own stands
-- for the record that says the counter at it, and an entry before an argument for one that logs it.
abbrev pub log_record_in : LogVersion → Stage → List ℕ → Result Rec RecFault
log_record_in version stage bytes =
    option_map_or (λ kind. Ok (TscWrap ((counter_so_far stage + own_delta version bytes) % 2 ^ 64))) (own_kind version bytes) (traced_in bytes)
