use Rattle.patch_script.specs.Refusals.{commands_of}
use Rattle.step_sim.proofs.Bounds.{begun_if}
use Rattle.step_sim.proofs.thread.new_thread.Goals as goal

pub returns : goal.returns
returns c =
    let program = c.args.steps.now in
    let bytes = c.some_file_holds.ensures.0 in
    begun_if program (commands_of c.args.script.now.lines) c.args.setup.now.threads c.args.setup.now.limits c.args.number c.hold_of-hold.result
    c.new.result c.hold_of-hold.ensures
    (c.some_end.ensures bytes program c.args.setup.now.limits c.args.number c.some_file_holds.ensures.1)
    c.new.ensures.thread c.new.ensures.loads
