use Rattle.std.proofs.Common.{◌≡◌, ◌+◌, arith, subst, ℕ}
use Rattle.step_sim.proofs.OneRecorded.{LeadsRecord, record_early, record_more, record_none, records_on}
use Rattle.step_sim.proofs.OneThread.{LeadsOn, ends_early, leads_none, one_more, same_again, same_then}
use Rattle.step_sim.proofs.thread.make_loads.Goals as goal

pub loop-load-init : goal.loop-load-init
loop-load-init c = (same_again c.args.cpu.now, leads_none c.args.patcher.now c.args.cpu.now, record_none c.args.patcher.now c.args.cpu.now c.args.pool.now)

pub make_load-requires : goal.make_load-requires
make_load-requires c =
    record { records = records_on c.loop-load._load c.args.patcher.now c.args.cpu.now c.loop-load.cpu c.args.pool.now c.loop-load.pool c.loop-load.invariant.2 c.requires.records }

pub returns-then-not-make_load-clause-thread : goal.returns-then-not-make_load-clause-thread
returns-then-not-make_load-clause-thread c = same_then _ _ _ c.loop-load.invariant.0 c.if-not-make_load.ensures.thread

pub returns-then-not-make_load-clause-at : goal.returns-then-not-make_load-clause-at
returns-then-not-make_load-clause-at c =
    let said = c.if-not-make_load.ensures in
    let made = one_more c.loop-load._load _ _ _ _ c.loop-load.invariant.0 c.loop-load.invariant.1 said.at in
    ends_early (c.loop-load._load + 1) c.args.count _ _ _ (omega (arith, c.loop-load-test.true))
    (same_then _ _ _ c.loop-load.invariant.0 said.thread) made said.ended

pub loop-load-preserved : goal.loop-load-preserved
loop-load-preserved c =
    let said = c.if-not-make_load.ensures in (
      same_then _ _ _ c.loop-load.invariant.0 said.thread,
      one_more c.loop-load._load c.args.patcher.now c.args.cpu.now c.loop-load.cpu c.make_load.new.cpu
          c.loop-load.invariant.0 c.loop-load.invariant.1 said.at,
      record_more c.loop-load._load c.args.patcher.now c.args.cpu.now c.loop-load.cpu c.make_load.new.cpu c.args.pool.now c.loop-load.pool
          c.make_load.new.pool c.loop-load.invariant.0 c.loop-load.invariant.2 said.records,
    )

pub returns-clause-thread : goal.returns-clause-thread
returns-clause-thread c = c.loop-load.invariant.0

pub returns-clause-at : goal.returns-clause-at
returns-clause-at c =
    let all : c.loop-load._load ≡ c.args.count = omega (arith, c.loop-load-test.false, c.loop-load.auto._load-end) in
    subst (λ (n : ℕ). LeadsOn n c.args.patcher.now c.args.cpu.now c.loop-load.cpu) all c.loop-load.invariant.1

pub returns-then-not-make_load-clause-records : goal.returns-then-not-make_load-clause-records
returns-then-not-make_load-clause-records c =
    let said = c.if-not-make_load.ensures in
    let made = record_more c.loop-load._load _ _ _ _ _ _ _ c.loop-load.invariant.0 c.loop-load.invariant.2 said.records in
    record_early (c.loop-load._load + 1) c.args.count _ _ _ _ _ (omega (arith, c.loop-load-test.true))
    (same_then _ _ _ c.loop-load.invariant.0 said.thread) made said.ended

pub returns-clause-records : goal.returns-clause-records
returns-clause-records c =
    let all : c.loop-load._load ≡ c.args.count = omega (arith, c.loop-load-test.false, c.loop-load.auto._load-end) in
    subst (λ (n : ℕ). LeadsRecord n c.args.patcher.now c.args.cpu.now c.args.pool.now c.loop-load.cpu c.loop-load.pool) all c.loop-load.invariant.2
