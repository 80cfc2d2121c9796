use Rattle.std.proofs.Common.{Ok, length, take}
use Rattle.std.specs.List.{flat_map}
use Rattle.trace_flush.specs.Audit.{thread_audits}
use Rattle.trace_flush.specs.private.Parts.{said_of}
use Rattle.xray_io.specs.Text.{AddsText}
use Rattle.trace_flush.proofs.audit.add_threads.Given as goal

abbrev pub invariant-threads : goal.invariant-threads
invariant-threads g l =
    AddsText g.S.Sink.written g.S.Sink.faults g.S.Sink.along l.fn.text l.text
    (flat_map (said_of l.detail) (take (length l.yielded) (thread_audits l.lines l.cpus))) (Ok tt)
