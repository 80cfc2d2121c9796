use Rattle.std.proofs.Common.{arith}
use Rattle.step_sim.proofs.OneThread.{same_then}
use Rattle.step_sim.proofs.PassingTurns.{leads_let_in, leads_one, leads_then, nearer_by, records_by}
use Rattle.step_sim.proofs.thread.make_passing.Goals as goal

pub load_all_but_last-requires : goal.load_all_but_last-requires
load_all_but_last-requires c =
    records_by c.args.patcher.now c.args.cpu.now c.let_in.new.cpu c.args.pool.now c.args.pool.now
    (leads_let_in c.args.patcher.now c.args.cpu.now c.let_in.new.cpu c.args.pool.now c.let_in.ensures.thread c.let_in.ensures.loads) c.requires.records

pub make_load-requires : goal.make_load-requires
make_load-requires c =
    let p = c.args.patcher.now in
    let said = c.load_all_but_last.ensures in
    record {
      records = records_by p c.args.cpu.now c.load_all_but_last.new.cpu c.args.pool.now c.load_all_but_last.new.pool
          (leads_then p c.args.cpu.now c.let_in.new.cpu c.load_all_but_last.new.cpu c.args.pool.now c.args.pool.now c.load_all_but_last.new.pool
          c.let_in.ensures.thread
          (leads_let_in p c.args.cpu.now c.let_in.new.cpu c.args.pool.now c.let_in.ensures.thread c.let_in.ensures.loads) said.leads) c.requires.records;
    }

pub returns-clause-thread : goal.returns-clause-thread
returns-clause-thread c =
    same_then _ _ _ c.let_in.ensures.thread (same_then _ _ _ c.load_all_but_last.ensures.thread c.make_load.ensures.thread)

pub returns-clause-leads : goal.returns-clause-leads
returns-clause-leads c =
    let p = c.args.patcher.now in
    leads_then p c.args.cpu.now c.let_in.new.cpu c.make_load.new.cpu c.args.pool.now c.args.pool.now c.make_load.new.pool c.let_in.ensures.thread
    (leads_let_in p c.args.cpu.now c.let_in.new.cpu c.args.pool.now c.let_in.ensures.thread c.let_in.ensures.loads)
    (leads_then p c.let_in.new.cpu c.load_all_but_last.new.cpu c.make_load.new.cpu c.args.pool.now c.load_all_but_last.new.pool c.make_load.new.pool
    c.load_all_but_last.ensures.thread c.load_all_but_last.ensures.leads
    (leads_one p c.load_all_but_last.new.cpu c.make_load.new.cpu c.load_all_but_last.new.pool c.make_load.new.pool c.make_load.ensures.at c.make_load.ensures.records))

pub returns-clause-nearer : goal.returns-clause-nearer
returns-clause-nearer c =
    nearer_by c.make_load.result _ _ _ c.make_load.ensures.nearer (omega (arith, c.let_in.ensures.nearer, c.load_all_but_last.ensures.nearer))
