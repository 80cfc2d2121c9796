use Rattle.std.proofs.Common.{◌<◌, drop, arith}
use Rattle.std.proofs.lemmas.List.Elements.{All-drop}
use Rattle.std.proofs.lemmas.List.{length-drop, take_rest}
use Rattle.runtime_log.proofs.GivenEvents.{are_bytes, recorder_few, recorder_fit, recorder_given}
use Rattle.runtime_log.proofs.blocks.BlockEvents.of.Goals as goal

pub returns-in-Ok-clause-all : goal.returns-in-Ok-clause-all
returns-in-Ok-clause-all c = λ b is.
    let o = simp take_rest at c.in-Ok.ensures in
    recorder_given c.args.version c.args.bytes.now c.args.block.now b o.0 c.in-Ok.opened.walk is o.1 o.3

pub returns-in-Ok-clause-recordable : goal.returns-in-Ok-clause-recordable
returns-in-Ok-clause-recordable c =
    let o = simp take_rest at c.in-Ok.ensures in
    let rest = drop c.args.block.now.begin c.args.bytes.now in
    let all = All-drop (λ b. b < 256) c.args.block.now.begin c.args.bytes.now (are_bytes c.args.bytes.now (λ k. (c.type_inv.bytes k).fits)) in
    recorder_fit c.args.version c.args.block.now.begin o.0 rest c.in-Ok.opened.walk o.3 all

pub returns-in-Ok-clause-few : goal.returns-in-Ok-clause-few
returns-in-Ok-clause-few c =
    let o = simp take_rest at c.in-Ok.ensures in
    omega (arith, recorder_few c.args.version c.args.block.now.begin o.0 (drop c.args.block.now.begin c.args.bytes.now) c.in-Ok.opened.walk o.3, length-drop c.args.block.now.begin c.args.bytes.now, c.requires.few)
