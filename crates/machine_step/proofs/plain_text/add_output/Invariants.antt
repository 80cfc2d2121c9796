use Rattle.std.proofs.Common.{◌++◌, Ok, take}
use Rattle.std.specs.Prelude.{codes}
use Rattle.std.specs.List.{flat_map}
use Rattle.machine_step.specs.Texts.{hex_byte}
use Rattle.xray_io.specs.Text.{AddsText}
use Rattle.machine_step.proofs.plain_text.add_output.Given as goal

abbrev pub invariant-loop-byte : goal.invariant-loop-byte
invariant-loop-byte g l =
    AddsText g.S.Sink.written g.S.Sink.faults g.S.Sink.along l.fn.text l.text (codes "output " ++ flat_map hex_byte (take l.byte-index l.output)) (Ok tt)
