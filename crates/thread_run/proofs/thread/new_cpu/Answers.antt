use Rattle.thread_run.proofs.LoadAndSeat.{new_thread}
use Rattle.thread_run.proofs.thread.new_cpu.Goals as goal

pub returns-clause-fresh : goal.returns-clause-fresh
returns-clause-fresh c =
    let accepted = c.some_file_holds.ensures in
    let program = c.args.steps.now in
    new_thread c.args.script.now program c.args.threads c.hold_of-hold.result c.args.limits c.args.number c.new.result c.requires.program c.requires.threads
    c.hold_of-hold.ensures accepted c.requires.number.0 c.requires.number.1 c.new.ensures.thread c.new.ensures.fresh c.new.ensures.loads
    (c.some_end.ensures accepted.0 program c.args.limits c.args.number accepted.1)
