use Rattle.std.proofs.Common.{◌≡◌, ◌<◌, ℕ, arith, length, subst}
use Rattle.step_sim.proofs.AllRecorded.{RunRecords, all_play, none_records, one_records, records_of, run_found, run_records_on}
use Rattle.step_sim.proofs.AllThreads.{RunOut, all_rest, none_rests, none_run_out, one_rests, one_runs_out, run_count}
use Rattle.step_sim.proofs.replay.run_all_out.Goals as goal

pub loop-i-init : goal.loop-i-init
loop-i-init c = (none_run_out c.args.patcher.now c.args.cpus.now.items, none_rests c.args.cpus.now.items, none_records c.args.patcher.now c.args.cpus.now.items c.args.pool.now)

pub run_out-requires : goal.run_out-requires
run_out-requires c =
    let ts = c.loop-i.cpus.items in
    let within : c.loop-i.i < length c.args.cpus.now.items = omega (arith, c.loop-i-test.true, c.args.cpus.now.ok.0) in
    let found = run_found c.loop-i.i _ _ ts _ _ c.loop-i.invariant.0 c.requires.records within c.index_mut.ensures.value in
    let on = run_records_on _ _ _ _ _ _ c.loop-i.invariant.2 c.requires.records in
    record { records = records_of c.args.patcher.now ts c.loop-i.pool c.loop-i.i c.index_mut.result.now on found }

pub loop-i-preserved : goal.loop-i-preserved
loop-i-preserved c =
    let p = c.args.patcher.now in
    let before = c.args.cpus.now.items in
    let ts = c.loop-i.cpus.items in
    let within : c.loop-i.i < length before = omega (arith, c.loop-i-test.true, c.args.cpus.now.ok.0) in
    let found = run_found c.loop-i.i _ _ ts _ _ c.loop-i.invariant.0 c.requires.records within c.index_mut.ensures.value in (
      one_runs_out c.loop-i.i p before ts c.index_mut.result.now c.run_out.new.cpu c.loop-i.invariant.0 found
          c.run_out.ensures.thread c.run_out.ensures.at,
      one_rests c.loop-i.i ts c.run_out.new.cpu c.loop-i.invariant.1 c.run_out.ensures.ended,
      one_records c.loop-i.i p before ts c.index_mut.result.now c.run_out.new.cpu c.args.pool.now c.loop-i.pool c.run_out.new.pool
          c.loop-i.invariant.2 found c.run_out.ensures.thread c.run_out.ensures.records,
    )

pub returns-clause-at : goal.returns-clause-at
returns-clause-at c =
    let all : c.loop-i.i ≡ length c.args.cpus.now.items = omega (arith, c.loop-i-test.false, c.loop-i.auto.i-end, c.args.cpus.now.ok.0) in
    subst (λ (n : ℕ). RunOut n c.args.patcher.now c.args.cpus.now.items c.loop-i.cpus.items) all c.loop-i.invariant.0

pub returns-clause-ended : goal.returns-clause-ended
returns-clause-ended c =
    let before = c.args.cpus.now.items in
    let ts = c.loop-i.cpus.items in
    let count : length ts ≡ length before = run_count c.loop-i.i c.args.patcher.now before ts c.loop-i.invariant.0 (all_play _ _ _ c.requires.records) in
    let all : c.loop-i.i ≡ length ts = omega (arith, count, c.loop-i-test.false, c.loop-i.auto.i-end, c.args.cpus.now.ok.0) in
    all_rest c.loop-i.i ts all c.loop-i.invariant.1

pub returns-clause-records : goal.returns-clause-records
returns-clause-records c =
    let all : c.loop-i.i ≡ length c.args.cpus.now.items = omega (arith, c.loop-i-test.false, c.loop-i.auto.i-end, c.args.cpus.now.ok.0) in
    subst (λ (n : ℕ). RunRecords n c.args.patcher.now c.args.cpus.now.items c.args.pool.now c.loop-i.cpus.items c.loop-i.pool) all c.loop-i.invariant.2
