use Rattle.std.proofs.Common.{◌∙◌, List, ℕ, subst}
use Rattle.std.specs.Prelude.{codes}
use Rattle.xray_io.specs.Text.{AddsText, adds_failed, adds_more, adds_stop, adds_within}
use Rattle.fdr_file.specs.EventsLeft.{events_left}
use Rattle.yaml_convert.specs.Yaml.{records_text}
use Rattle.yaml_convert.proofs.YamlLines.{yaml_of_parts}
use Rattle.function_names.specs.Name.{naming}
use Rattle.yaml_convert.proofs.yaml_bytes.YamlBytesPrinted.add_to.Goals as goal

pub returns-in_err-add_header : goal.returns-in_err-add_header
returns-in_err-add_header g c = record {
  adds =
      let names = naming c.args.self.now.names in
      let bytes = c.args.self.now.bytes.now in
      let trace = c.requires.ready.0 in
      let read = c.requires.ready.1 in
      adds_failed (rw (yaml_of_parts names bytes trace c.header.result _ read (c.header.ensures ∙ c.new-cursor.ensures.header trace read) (c.new-cursor.ensures.events trace read))
      at (adds_stop (codes "...\n") (adds_stop (records_text names (events_left c.new-cursor.result)) c.in_err-add_header.ensures)))
      c.from_residual.result c.from_residual.ensures.1;
}

pub returns-in_err-add_records : goal.returns-in_err-add_records
returns-in_err-add_records g c = record {
  adds =
      let names = naming c.args.self.now.names in
      let bytes = c.args.self.now.bytes.now in
      let trace = c.requires.ready.0 in
      let read = c.requires.ready.1 in
      adds_failed (adds_within g.met.S.Sink.along_both (codes "...\n") c.in_ok-add_header.ensures c.in_err-add_records.ensures
      (yaml_of_parts names bytes trace c.header.result _ read (c.header.ensures ∙ c.new-cursor.ensures.header trace read) (c.new-cursor.ensures.events trace read)))
      c.from_residual-in_err-add_records.result c.from_residual-in_err-add_records.ensures.1;
}

pub returns : goal.returns
returns g c = record {
  adds =
      let names = naming c.args.self.now.names in
      let bytes = c.args.self.now.bytes.now in
      let trace = c.requires.ready.0 in
      let read = c.requires.ready.1 in
      subst (λ (t : List ℕ). AddsText g.S.Sink.written g.S.Sink.faults g.S.Sink.along c.args.to.now c.bytes.new.self t c.bytes.result)
      (yaml_of_parts names bytes trace c.header.result _ read (c.header.ensures ∙ c.new-cursor.ensures.header trace read) (c.new-cursor.ensures.events trace read))
      (adds_more g.met.S.Sink.along_both (adds_more g.met.S.Sink.along_both c.in_ok-add_header.ensures c.in_ok-add_records.ensures) c.bytes.ensures.adds);
}
