use Rattle.std.proofs.Common.{◌++◌, sym, refl, append_assoc}
use Rattle.xray_io.specs.Text.{adds_more, adds_stop, adds_within, adds_failed}
use Rattle.machine_step.specs.Texts.{counts_text, registers_line, output_line}
use Rattle.machine_step.proofs.plain_text.PlainEndPrinted.add_to.Goals as goal

pub returns-in_err-add_counts : goal.returns-in_err-add_counts
returns-in_err-add_counts g c = record {
  adds =
      let e = c.args.self.now in
      let counts = counts_text e.thread e.end e.instructions e.passings in
      let registers = registers_line e.regs.items e.zf in
      let output = output_line e.output.items in
      let broken = adds_stop (registers ++ output) c.in_err-add_counts.ensures in
      adds_failed (rw (sym (append_assoc counts registers output)) at broken) c.from_residual.result c.from_residual.ensures.1;
}

pub returns-in_err-add_registers : goal.returns-in_err-add_registers
returns-in_err-add_registers g c = record {
  adds =
      adds_failed (adds_within g.met.S.Sink.along_both (output_line c.args.self.now.output.items) c.in_ok-add_counts.ensures (rw c.deref.ensures.value at c.in_err-add_registers.ensures) refl)
      c.from_residual-in_err-add_registers.result c.from_residual-in_err-add_registers.ensures.1;
}

pub returns : goal.returns
returns g c = record {
  adds =
      let registers = rw c.deref.ensures.value at c.in_ok-add_registers.ensures in
      adds_more g.met.S.Sink.along_both (adds_more g.met.S.Sink.along_both c.in_ok-add_counts.ensures registers) (rw c.deref-2.ensures.value at c.add_output.ensures);
}
