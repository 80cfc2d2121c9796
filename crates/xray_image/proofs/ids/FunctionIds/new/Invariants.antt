use Rattle.std.proofs.Common.{map}
use Rattle.xray_image.specs.Program.{id_of}
use Rattle.xray_image.specs.private.Numbering.{HasCounted}
use Rattle.xray_image.specs.private.Views.{entry_of}
use Rattle.xray_image.proofs.ids.FunctionIds.new.Given as goal

abbrev pub invariant-loop-entry : goal.invariant-loop-entry
invariant-loop-entry l =
    HasCounted (map (λ f. f.start) l.functions) (map (λ e. e.function) l.entries) (map (λ e. id_of (map entry_of l.entries) e.function) l.entries) l.entry-index l.last
    l.ids.functions.items l.ids.of_entries.items
