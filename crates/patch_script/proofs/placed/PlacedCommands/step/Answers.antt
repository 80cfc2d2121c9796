use Rattle.std.proofs.Common.{◌≤◌, subst, arith}
use Rattle.patch_script.specs.private.Placing.{NamesFewThreads, patched_before}
use Rattle.patch_script.proofs.Places.{patched_within, unpatched_within, patched_step, unpatched_step}
use Rattle.patch_script.proofs.placed.PlacedCommands.step.Goals as goal

pub patch_step-requires-clause-sled : goal.patch_step-requires-clause-sled
patch_step-requires-clause-sled c =
    let one = c.args.placed in
    patched_within c.args.self.now.image.value one.command one.sleds (c.requires.sound.each c.args.number one c.requires.placed).sleds c.args.step c.requires.within c.in-Patch.is

pub unpatch_step-requires-clause-sled : goal.unpatch_step-requires-clause-sled
unpatch_step-requires-clause-sled c =
    let one = c.args.placed in
    unpatched_within c.args.self.now.image.value one.command one.sleds (c.requires.sound.each c.args.number one c.requires.placed).sleds c.args.step c.requires.within c.in-Unpatch.is

pub overflow_add-result : goal.overflow_add-result
overflow_add-result c =
    let few : c.in-Release.thread ≤ 16 = subst NamesFewThreads c.in-Release.is (c.requires.sound.each c.args.number c.args.placed c.requires.placed).thread in
    omega (arith, few, c.requires.sound.image.state, c.requires.sound.image.few)

pub returns-in-Patch : goal.returns-in-Patch
returns-in-Patch c =
    let one = c.args.placed in
    patched_step c.args.self.now.image.value one.command one.sleds (c.requires.sound.each c.args.number one c.requires.placed).sleds c.args.step c.requires.within c.args.self.now.threads
    (patched_before c.args.self.now c.args.number) c.patch_step.result c.in-Patch.is c.patch_step.ensures

pub returns-in-Unpatch : goal.returns-in-Unpatch
returns-in-Unpatch c =
    let one = c.args.placed in
    unpatched_step c.args.self.now.image.value one.command one.sleds (c.requires.sound.each c.args.number one c.requires.placed).sleds c.args.step c.requires.within c.args.self.now.threads
    (patched_before c.args.self.now c.args.number) c.unpatch_step.result c.in-Unpatch.is c.unpatch_step.ensures
