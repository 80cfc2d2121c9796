use Rattle.std.proofs.Common.{◌++◌, List, ℕ, subst}
use Rattle.std.specs.Prelude.{codes}
use Rattle.xray_io.specs.Text.{AddsText, adds_more, adds_stop, adds_within, adds_failed}
use Rattle.fdr_file.specs.ThreadEvents.{thread_events}
use Rattle.yaml_convert.specs.Yaml.{records_text}
use Rattle.yaml_convert.proofs.YamlLines.{whole_yaml, whole_yaml_left}
use Rattle.function_names.specs.Name.{naming}
use Rattle.yaml_convert.proofs.yaml.YamlTextPrinted.add_to.Goals as goal

pub returns-in_err-add_header : goal.returns-in_err-add_header
returns-in_err-add_header g c = record {
  adds =
      let names = naming c.args.self.now.names in
      let trace = c.args.self.now.trace.now in
      let records = records_text names (thread_events trace.blocks) in
      adds_failed (rw (whole_yaml names trace) at (adds_stop (records ++ codes "...\n") c.in_err-add_header.ensures)) c.from_residual.result c.from_residual.ensures.1;
}

pub returns-in_err-add_records : goal.returns-in_err-add_records
returns-in_err-add_records g c = record {
  adds =
      let names = naming c.args.self.now.names in
      let trace = c.args.self.now.trace.now in
      adds_failed (adds_within g.met.S.Sink.along_both (codes "...\n") c.in_ok-add_header.ensures (rw c.new.ensures at c.in_err-add_records.ensures)
      (whole_yaml_left names trace))
      c.from_residual-in_err-add_records.result c.from_residual-in_err-add_records.ensures.1;
}

pub returns : goal.returns
returns g c = record {
  adds =
      let names = naming c.args.self.now.names in
      let trace = c.args.self.now.trace.now in
      subst (λ (t : List ℕ). AddsText g.S.Sink.written g.S.Sink.faults g.S.Sink.along c.args.to.now c.bytes.new.self t c.bytes.result)
      (whole_yaml_left names trace)
      (adds_more g.met.S.Sink.along_both (adds_more g.met.S.Sink.along_both c.in_ok-add_header.ensures (rw c.new.ensures at c.in_ok-add_records.ensures)) c.bytes.ensures.adds);
}
