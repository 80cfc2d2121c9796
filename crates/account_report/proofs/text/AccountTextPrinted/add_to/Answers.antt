use Rattle.std.proofs.Common.{◌++◌, sym, refl, append_assoc}
use Rattle.std.specs.Prelude.{codes}
use Rattle.std.specs.List.{flat_map}
use Rattle.xray_io.specs.Text.{adds_more, adds_stop, adds_within, adds_failed}
use Rattle.account_report.specs.AccountText.{first_line, head_words, line_text, function_row_text}
use Rattle.function_names.specs.Name.{naming}
use Rattle.account_report.proofs.text.AccountTextPrinted.add_to.Goals as goal

pub returns-in_err-add_first_line : goal.returns-in_err-add_first_line
returns-in_err-add_first_line g c = record {
  adds =
      let account = c.args.self.now in
      let first = first_line account.format account.latencies in
      let head = line_text account.format head_words (codes "function") in
      let rows = flat_map (function_row_text account.format (naming account.names)) account.rows.now in
      let broken = adds_stop (head ++ rows) c.in_err-add_first_line.ensures in
      adds_failed (rw (sym (append_assoc first head rows)) at broken) c.from_residual.result c.from_residual.ensures.1;
}

pub returns-in_err-bytes : goal.returns-in_err-bytes
returns-in_err-bytes g c = record {
  adds =
      let account = c.args.self.now in
      let rows = flat_map (function_row_text account.format (naming account.names)) account.rows.now in
      let broken = rw c.head_line.ensures at c.in_err-bytes.ensures.adds in
      adds_failed (adds_within g.met.S.Sink.along_both rows c.in_ok-add_first_line.ensures broken refl)
      c.from_residual-in_err-bytes.result c.from_residual-in_err-bytes.ensures.1;
}

pub returns : goal.returns
returns g c = record {
  adds =
      let head = rw c.head_line.ensures at c.in_ok-bytes.ensures.adds in
      adds_more g.met.S.Sink.along_both (adds_more g.met.S.Sink.along_both c.in_ok-add_first_line.ensures head) c.add_rows.ensures;
}
