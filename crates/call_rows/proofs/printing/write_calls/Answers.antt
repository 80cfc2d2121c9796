use Rattle.std.proofs.Common.{rules}
use Rattle.xray_io.specs.Text.{writes_all}
use Rattle.function_names.specs.Name.{naming}
use Rattle.call_rows.specs.CallRows.{call_rows_of, wanted_rows}
use Rattle.call_rows.specs.CallText.{call_list_text}
use Rattle.call_rows.proofs.CallsAnswers.{ended_calls, failed_calls}
use Rattle.call_rows.proofs.printing.write_calls.Goals as goal

pub returns-in_err-add_calls : goal.returns-in_err-add_calls
returns-in_err-add_calls g c = record {
  writes = λ trace reads.
      let text = call_list_text c.args.format (naming c.args.names) (wanted_rows c.args.wanted.now (call_rows_of trace.blocks)) in
      let failed =
      failed_calls g.S.Sink.written g.S.Sink.faults g.S.Sink.along c.args.sink.now c.new-text.result c.add_calls.new.to text c.new-text.ensures.sink c.new-text.ensures.waits
      c.in_err-add_calls.field-0.0 (c.in_err-add_calls.ensures.adds trace reads) c.from_residual.result c.from_residual.ensures.1 in
      search rules;
}

pub returns-in_err-done : goal.returns-in_err-done
returns-in_err-done g c = record {
  writes = λ trace reads.
      let text = call_list_text c.args.format (naming c.args.names) (wanted_rows c.args.wanted.now (call_rows_of trace.blocks)) in
      let failed =
      ended_calls g.S.Sink.written g.S.Sink.faults g.S.Sink.along g.met.S.Sink.along_both c.args.sink.now _ c.new-text.result c.add_calls.new.to text c.new-text.ensures.sink
      c.new-text.ensures.waits (c.in_ok-add_calls.ensures.adds trace reads) c.in_err-done.field-0.0 c.in_err-done.ensures.writes c.from_residual-in_err-done.result
      c.from_residual-in_err-done.ensures.1 in
      search rules;
}

pub returns : goal.returns
returns g c = record {
  writes = λ trace reads.
      let writes =
      writes_all {along = g.S.Sink.along} g.met.S.Sink.along_both c.args.sink.now _ c.new-text.result c.add_calls.new.to c.new-text.ensures.sink c.new-text.ensures.waits
      (c.in_ok-add_calls.ensures.adds trace reads) c.in_ok-done.ensures.writes in
      search rules;
}
