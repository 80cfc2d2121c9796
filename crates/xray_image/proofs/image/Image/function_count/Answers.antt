use Rattle.std.proofs.Common.{arith}
use Rattle.std.proofs.lemmas.List.{length-map}
use Rattle.xray_image.specs.private.ImageView.{named_function, program_in}
use Rattle.xray_image.proofs.Acceptance.{function_total}
use Rattle.xray_image.proofs.image.Image.function_count.Goals as goal

pub overflow_cast-result : goal.overflow_cast-result
overflow_cast-result c =
    let sound = c.self.invariant in
    let functions = c.self.inside.functions in
    omega (arith, function_total sound.bytes (program_in c.self.inside) sound.accepted, length-map functions.items named_function, sound.accepted.header.functions_limit, functions.ok.0, c.len.ensures)
