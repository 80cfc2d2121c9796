use Rattle.std.proofs.Common.{Ok, take}
use Rattle.std.specs.List.{flat_map}
use Rattle.machine_step.specs.Texts.{register_text, printed_registers}
use Rattle.xray_io.specs.Text.{AddsText}
use Rattle.machine_step.proofs.plain_text.add_registers.Given as goal

abbrev pub invariant-loop-place : goal.invariant-loop-place
invariant-loop-place g l =
    AddsText g.S.Sink.written g.S.Sink.faults g.S.Sink.along l.fn.text l.text (flat_map (register_text l.registers) (take l.place printed_registers)) (Ok tt)
