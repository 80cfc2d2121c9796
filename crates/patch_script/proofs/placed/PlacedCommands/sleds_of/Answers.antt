use Rattle.std.proofs.Common.{ap, length, ◌∙◌, arith}
use Rattle.std.proofs.lemmas.List.{length-map}
use Rattle.patch_script.specs.private.Sleds.{values_of}
use Rattle.patch_script.proofs.Places.{values_in_order, all_named, function_named}
use Rattle.patch_script.proofs.placed.PlacedCommands.sleds_of.Goals as goal

pub of_function-requires-clause-in_order : goal.of_function-requires-clause-in_order
of_function-requires-clause-in_order c =
    values_in_order c.args.self.now.image.value c.deref.result.now (c.deref.ensures.value ∙ c.requires.image.sleds) c.requires.image.in_order

pub returns-in-Patch : goal.returns-in-Patch
returns-in-Patch c =
    let program = c.args.self.now.image.value in
    all_named program c.args.command c.len.result c.in-Patch.is
    (omega (arith, c.len.ensures, c.args.self.now.sleds.ok.0, ap length c.requires.image.sleds, length-map program.sleds (values_of program.trampolines)))

pub returns-in-PatchFunction : goal.returns-in-PatchFunction
returns-in-PatchFunction c =
    function_named c.args.self.now.image.value c.args.command c.in-PatchFunction.id c.deref.result.now c.of_function.result c.in-PatchFunction.is
    (c.deref.ensures.value ∙ c.requires.image.sleds) c.of_function.ensures
