use Rattle.std.proofs.Common.{Option, arith, length-take, refl, subst, take}
use Rattle.fdr_file.specs.declared.fault.TraceFault.{TraceFault}
use Rattle.xray_io.specs.Text.{AddsText, adds_failed, adds_more, adds_stop, adds_within}
use Rattle.trace_forms.specs.Dumps.{fault_in, last_line, lines_of, record_lines}
use Rattle.trace_forms.proofs.dump.DumpTextPrinted.add_to.Goals as goal

pub slice_bounds-prefix-end : goal.slice_bounds-prefix-end
slice_bounds-prefix-end g c = omega (arith, c.requires.ready.within, length-take c.args.self.now.end c.args.self.now.bytes.now)

pub add_header-requires : goal.add_header-requires
add_header-requires g c = c.requires.ready.reads

pub returns-in_err-add_header : goal.returns-in_err-add_header
returns-in_err-add_header g c = record {
  adds =
      let dump = c.args.self.now in
      let prefix = take dump.end dump.bytes.now in
      adds_failed (adds_stop (last_line dump.end (fault_in dump.bytes.now)) (adds_stop (record_lines prefix) c.in_err-add_header.ensures))
      c.from_residual.result c.from_residual.ensures.1;
}

pub returns-in_err-add_records : goal.returns-in_err-add_records
returns-in_err-add_records g c = record {
  adds =
      let dump = c.args.self.now in
      adds_failed (adds_within g.met.S.Sink.along_both (last_line dump.end (fault_in dump.bytes.now)) c.in_ok-add_header.ensures c.in_err-add_records.ensures refl)
      c.from_residual-in_err-add_records.result c.from_residual-in_err-add_records.ensures.1;
}

pub returns : goal.returns
returns g c = record {
  adds =
      let dump = c.args.self.now in
      subst (λ (fault : Option TraceFault). AddsText g.S.Sink.written g.S.Sink.faults g.S.Sink.along c.args.to.now c.add_last.new.text
      (lines_of (take dump.end dump.bytes.now) dump.end fault) c.add_last.result) c.fault_after.ensures
      (adds_more g.met.S.Sink.along_both (adds_more g.met.S.Sink.along_both c.in_ok-add_header.ensures c.in_ok-add_records.ensures) c.add_last.ensures);
}
