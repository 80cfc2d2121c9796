use Rattle.step_sim.proofs.OneRecorded.{record_out}
use Rattle.step_sim.proofs.OneThread.{has_run_out, same_again, same_then}
use Rattle.step_sim.proofs.PassingTurns.{leads_nowhere, leads_then, records_by}
use Rattle.step_sim.proofs.thread.run_out.Goals as goal

pub passings-init : goal.passings-init
passings-init c = (same_again c.args.cpu.now, leads_nowhere c.args.patcher.now c.args.cpu.now c.args.pool.now)

pub make_passing-requires : goal.make_passing-requires
make_passing-requires c =
    record { records = records_by c.args.patcher.now c.args.cpu.now c.passings.cpu c.args.pool.now c.passings.pool c.passings.invariant.1 c.requires.records }

pub passings-smaller : goal.passings-smaller
passings-smaller c = c.passings-test.ensures.nearer

pub passings-preserved : goal.passings-preserved
passings-preserved c =
    let said = c.passings-test.ensures in (
      same_then _ _ _ c.passings.invariant.0 said.thread,
      leads_then c.args.patcher.now c.args.cpu.now c.passings.cpu c.make_passing.new.cpu c.args.pool.now c.passings.pool c.make_passing.new.pool
          c.passings.invariant.0 c.passings.invariant.1 said.leads,
    )

pub returns-clause-thread : goal.returns-clause-thread
returns-clause-thread c = same_then _ _ _ c.passings.invariant.0 c.passings-test.ensures.thread

pub returns-clause-at : goal.returns-clause-at
returns-clause-at c =
    let said = c.passings-test.ensures in
    let all = leads_then c.args.patcher.now c.args.cpu.now c.passings.cpu c.make_passing.new.cpu c.args.pool.now c.passings.pool c.make_passing.new.pool
    c.passings.invariant.0 c.passings.invariant.1 said.leads in
    has_run_out all.count _ _ _ (same_then _ _ _ c.passings.invariant.0 said.thread) all.at said.ended

pub returns-clause-records : goal.returns-clause-records
returns-clause-records c =
    let said = c.passings-test.ensures in
    let all = leads_then c.args.patcher.now c.args.cpu.now c.passings.cpu c.make_passing.new.cpu c.args.pool.now c.passings.pool c.make_passing.new.pool
    c.passings.invariant.0 c.passings.invariant.1 said.leads in
    record_out all.count _ _ _ _ _ (same_then _ _ _ c.passings.invariant.0 said.thread) all.records said.ended
