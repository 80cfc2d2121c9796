use Rattle.std.proofs.Common.{subst}
use Rattle.fdr_file.specs.ThreadEvents.{ThreadEvent}
use Rattle.xray_io.specs.Text.{AddsText}
use Rattle.trace_forms.proofs.Pieces.{record_pieces}
use Rattle.trace_forms.proofs.basic_text.add_record.Goals as goal

pub returns : goal.returns
returns g c =
    let e : ThreadEvent = record { thread = c.args.thread; pid = c.args.pid; event = c.args.event.now } in
    let same = record_pieces e _ _ _ _ _ _ _ c.number_of.ensures c.arg_logged.ensures c.to_le_bytes-func.ensures c.to_le_bytes-tsc.ensures c.to_le_bytes-thread.ensures c.to_le_bytes-pid.ensures
    c.to_le_bytes-arg.ensures in
    subst (λ t. AddsText g.S.Sink.written g.S.Sink.faults g.S.Sink.along c.args.text.now c.pieces.new.self t c.pieces.result) same c.pieces.ensures.adds
