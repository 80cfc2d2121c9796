-- `import`: a log of LLVM's runtime as a trace, and the trace of a run as a log.
use Rattle.std.specs.Prelude.{◌≡◌, ◌≢◌, ◌≤◌, ℕ, List, AllPairs}
use Rattle.fdr_record.specs.declared.event.Event.{Event}
use Rattle.machine_step.specs.Setups.{IsSetup}
use Rattle.machine_step.specs.declared.setup.Setup.{Setup}
use Rattle.runtime_log.specs.Imports.{IsImport}
use Rattle.runtime_log.specs.declared.facts.Facts.{Facts}
use Rattle.trace_flush.specs.Flush.{trace_bytes}
use Rattle.traced_run.specs.Kept.{kept_of}
use Rattle.traced_run.specs.Runs.{EachThread, IsRun, ThreadRun, events_of}
use Rattle.xray_image.specs.Program.{IsAccepted, Program}

-- the counter doesn't fall from an event to those behind it
abbrev pub CountersDontFall : List Event → Type 0
CountersDontFall events = AllPairs (λ event later. event.tsc ≤ later.tsc) events

-- no two of the segments that are left of a thread have the same events
abbrev pub SegmentsDiffer : Setup → ThreadRun → Type 0
SegmentsDiffer setup run = AllPairs (λ segment later. segment ≢ later) (kept_of setup.size run)

-- The trace of a run that its setup allows is imported as itself, byte for byte, if the counter of no thread falls, and no two
-- segments of a thread are equal. The second follows if the counter rises from each event of a thread to the next.
abbrev pub RunsImportThemselves : Type 0
RunsImportThemselves = (image : List ℕ) (program : Program) (setup : Setup) (runs : List ThreadRun) (file : List ℕ) (facts : Facts)
    → IsAccepted image program → IsSetup setup → IsRun program setup runs
    → EachThread runs (λ number run. CountersDontFall (events_of run) × SegmentsDiffer setup run)
    → IsImport (trace_bytes setup runs) file facts → file ≡ trace_bytes setup runs
