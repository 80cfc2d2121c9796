use Rattle.std.specs.List.{flat_map}
use Rattle.xray_io.specs.Text.{adds_failed, adds_more, adds_stop}
use Rattle.function_names.specs.Name.{naming}
use Rattle.call_rows.specs.CallText.{call_line}
use Rattle.call_rows.proofs.text.CallsTextPrinted.add_to.Goals as goal

pub returns-in_err-bytes : goal.returns-in_err-bytes
returns-in_err-bytes g c = record {
  adds =
      let calls = c.args.self.now in
      let rows = flat_map (call_line calls.format (naming calls.names)) calls.rows.now in
      let broken = rw c.head_line.ensures at c.in_err-bytes.ensures.adds in
      adds_failed (adds_stop rows broken) c.from_residual.result c.from_residual.ensures.1;
}

pub returns : goal.returns
returns g c = record {
  adds = let head = rw c.head_line.ensures at c.in_ok-bytes.ensures.adds in adds_more g.met.S.Sink.along_both head c.add_rows.ensures;
}
