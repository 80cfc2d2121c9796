use Rattle.std.proofs.Common.{Ok, take}
use Rattle.std.specs.List.{flat_map}
use Rattle.xray_io.specs.Text.{AddsText}
use Rattle.function_names.specs.Name.{byte_text}
use Rattle.function_names.proofs.form.add_each.Given as goal

abbrev pub invariant-bytes : goal.invariant-bytes
invariant-bytes g l =
    AddsText g.S.Sink.written g.S.Sink.faults g.S.Sink.along l.fn.text l.text
    (flat_map (byte_text l.form) (take l.byte-index l.name)) (Ok tt)
