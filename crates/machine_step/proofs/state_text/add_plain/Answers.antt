use Rattle.std.proofs.Common.{◌++◌, sym, refl, length, append_assoc}
use Rattle.xray_io.specs.Text.{adds_more, adds_stop, adds_within, adds_failed}
use Rattle.machine_step.specs.Texts.{counts_text, registers_line, output_line}
use Rattle.machine_step.proofs.state_text.add_plain.Goals as goal

pub returns-in_err-add_counts : goal.returns-in_err-add_counts
returns-in_err-add_counts g c =
    let t = c.args.cpu.now in
    let counts = counts_text c.args.thread c.args.end t.instructions (length t.marks) in
    let registers = registers_line t.registers t.zero_flag in
    let output = output_line t.output in
    let broken = adds_stop (registers ++ output) (rw (c.instructions.ensures, c.passings.ensures) at c.in_err-add_counts.ensures) in
    adds_failed (rw (sym (append_assoc counts registers output)) at broken) c.from_residual.result c.from_residual.ensures.1

pub returns-in_err-add_registers : goal.returns-in_err-add_registers
returns-in_err-add_registers g c =
    adds_failed (adds_within g.met.S.Sink.along_both (output_line c.args.cpu.now.output) (rw (c.instructions.ensures, c.passings.ensures) at c.in_ok-add_counts.ensures)
    (rw (c.registers.ensures, c.zf.ensures) at c.in_err-add_registers.ensures) refl)
    c.from_residual-in_err-add_registers.result c.from_residual-in_err-add_registers.ensures.1

pub returns : goal.returns
returns g c =
    let counts = rw (c.instructions.ensures, c.passings.ensures) at c.in_ok-add_counts.ensures in
    let registers = rw (c.registers.ensures, c.zf.ensures) at c.in_ok-add_registers.ensures in
    adds_more g.met.S.Sink.along_both (adds_more g.met.S.Sink.along_both counts registers) (rw c.output.ensures at c.add_output.ensures)
