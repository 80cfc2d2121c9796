use Rattle.std.proofs.Common.{List, reverse, subst}
use Rattle.std.specs.List.{flat_map}
use Rattle.xray_io.specs.Text.{adds_stop}
use Rattle.fdr_file.specs.ThreadEvents.{ThreadEvent}
use Rattle.function_names.specs.Name.{naming}
use Rattle.call_rows.specs.CallRows.{call_rows_of, rows_after, wanted_rows}
use Rattle.call_rows.specs.CallText.{call_line}
use Rattle.call_rows.specs.Printing.{AddsCalls}
use Rattle.call_rows.proofs.CallsAnswers.{calls_unwritten, text_then_calls}
use Rattle.call_rows.proofs.printing.add_calls.Goals as goal

pub returns-in_err-bytes : goal.returns-in_err-bytes
returns-in_err-bytes g c = record {
  adds = λ trace reads.
      let lines = flat_map (call_line c.args.format (naming c.args.names)) (wanted_rows c.args.wanted.now (call_rows_of trace.blocks)) in
      let broken = rw c.head_line.ensures at c.in_err-bytes.ensures.adds in
      calls_unwritten (adds_stop lines broken) c.from_residual.result c.from_residual.ensures.1;
}

pub returns : goal.returns
returns g c = record {
  adds = λ trace reads.
      let line = call_line c.args.format (naming c.args.names) in
      let lines = flat_map line (wanted_rows c.args.wanted.now (call_rows_of trace.blocks)) in
      let head = rw c.head_line.ensures at c.in_ok-bytes.ensures.adds in
      let P : List ThreadEvent → Type 0 = λ es. AddsCalls g.S.Sink.written g.S.Sink.faults g.S.Sink.along c.bytes.new.self c.add_left.new.to
      (flat_map line (wanted_rows c.args.wanted.now (rows_after (reverse es)))) c.add_left.result in
      text_then_calls g.met.S.Sink.along_both c.add_left.new.to lines head c.add_left.result (subst P (c.new.ensures.events trace reads) c.add_left.ensures);
}
