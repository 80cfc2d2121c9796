use Rattle.std.proofs.Common.{◌≡◌, ◌+◌, length, ap, subst, ◌∙◌, arith}
use Rattle.std.specs.Option.{option_or}
use Rattle.patch_script.specs.private.FirstPatches.{AddsFirst}
use Rattle.patch_script.specs.private.Placing.{step_count}
use Rattle.patch_script.proofs.AddedCommand.{placed_more}
use Rattle.patch_script.proofs.placed.PlacedCommands.push.Goals as goal

pub returns-clause-sound : goal.returns-clause-sound
returns-clause-sound c =
    let old = c.args.self.now in
    let range = c.sleds_of-sleds.result in
    let number : c.len-number.result ≡ length old.commands.items = omega (arith, c.len-number.ensures, old.commands.ok.0) in
    placed_more old c.args.line c.args.command range c.args.going c.requires.sound c.requires.follows c.sleds_of-sleds.ensures c.requires.going
    c.push.new.self c.add.new.self (old.total + c.step_count.result) c.start_after-self.result c.or-self.result
    c.in_ok-push.ensures.items
    (subst (λ n. AddsFirst old.first_patches c.args.command n c.add.new.self) number c.add.ensures)
    (ap (λ n. old.total + n) (c.step_count.ensures ∙ ap (step_count c.args.command) c.len.ensures))
    c.start_after-self.ensures
    (c.or-self.ensures ∙ ap (option_or old.waits) c.waiting_line.ensures)
