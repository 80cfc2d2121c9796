use Rattle.std.proofs.Common.{◌≡◌, map, take}
use Rattle.xray_image.specs.private.ImageView.{named_function}
use Rattle.xray_image.specs.private.Views.{function_of}
use Rattle.xray_image.proofs.image.reading.named_functions.Given as goal

abbrev pub invariant-loop-entry : goal.invariant-loop-entry
invariant-loop-entry l = map named_function l.functions.items ≡ map function_of (take l.entry-index l.entries)
