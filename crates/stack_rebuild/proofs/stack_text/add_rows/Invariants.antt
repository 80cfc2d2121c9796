use Rattle.std.proofs.Common.{Ok, take}
use Rattle.std.specs.List.{flat_map}
use Rattle.xray_io.specs.Text.{AddsText}
use Rattle.stack_rebuild.specs.Stacks.{told}
use Rattle.stack_rebuild.specs.StackText.{path_row_text}
use Rattle.function_names.specs.Name.{naming}
use Rattle.stack_rebuild.proofs.stack_text.add_rows.Given as goal

abbrev pub invariant-rows : goal.invariant-rows
invariant-rows g l =
    AddsText g.S.Sink.written g.S.Sink.faults g.S.Sink.along l.fn.text l.text
    (flat_map (λ row. path_row_text l.form (naming l.names) (told row)) (take l.row-index l.rows)) (Ok tt)
