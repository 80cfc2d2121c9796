use Rattle.std.proofs.Common.{ℕ, ◌≤◌, arith, length, get_or, subst, sym, take}
use Rattle.step_sim.specs.declared.turns.Turns.{Turns}
use Rattle.step_sim.specs.declared.turns.Turns.TheVariants.{Thread}
use Rattle.step_sim.specs.Schedules.{AreTurnsOf}
use Rattle.step_sim.proofs.AllRecorded.{all_lines, all_play, all_record_on, line_records, records_nowhere, records_then_out}
use Rattle.step_sim.proofs.AllThreads.{leads_nowhere, line_more, lines_all, lines_then_out, same_count}
use Rattle.step_sim.proofs.replay.play.Goals as goal

pub loop-turns-init : goal.loop-turns-init
loop-turns-init c =
    (leads_nowhere c.args.patcher.now c.args.cpus.now.items, records_nowhere c.args.patcher.now c.args.cpus.now.items c.args.pool.now)

pub take_turns-requires-clause-records : goal.take_turns-requires-clause-records
take_turns-requires-clause-records c =
    all_record_on (take c.loop-turns.turns-index c.args.lines.now) c.args.patcher.now c.loop-turns.patcher c.args.cpus.now.items
    c.loop-turns.cpus.items c.args.pool.now c.loop-turns.pool c.loop-turns.invariant.1 c.requires.records

pub take_turns-requires-clause-line : goal.take_turns-requires-clause-line
take_turns-requires-clause-line c =
    let count = same_count (take c.loop-turns.turns-index c.args.lines.now) c.args.patcher.now c.loop-turns.patcher c.args.cpus.now.items
    c.loop-turns.cpus.items c.loop-turns.invariant.0 (all_play _ _ _ c.requires.records) in
    let line : Turns = get_or c.args.lines.now c.loop-turns.turns-index (Thread 0 0) in
    subst (λ (n : ℕ). AreTurnsOf n line) (sym count) (c.requires.lines c.loop-turns.turns-index (Thread 0 0) (omega (arith, c.loop-turns-test.true)))

pub loop-turns-preserved : goal.loop-turns-preserved
loop-turns-preserved c = (
  line_more c.args.lines.now c.loop-turns.turns-index _ c.args.patcher.now c.loop-turns.patcher c.take_turns.new.patcher
      c.args.cpus.now.items c.loop-turns.cpus.items c.take_turns.new.cpus.items (omega (arith, c.loop-turns-test.true))
      c.loop-turns.invariant.0 c.take_turns.ensures.at,
  line_records c.args.lines.now c.loop-turns.turns-index _ c.args.patcher.now c.loop-turns.patcher c.take_turns.new.patcher
      c.args.cpus.now.items c.loop-turns.cpus.items c.take_turns.new.cpus.items c.args.pool.now c.loop-turns.pool c.take_turns.new.pool
      (omega (arith, c.loop-turns-test.true)) c.loop-turns.invariant.1 c.take_turns.ensures.records,
)

pub returns-clause-at : goal.returns-clause-at
returns-clause-at c =
    let leads = lines_all _ c.loop-turns.turns-index _ _ _ _ (omega (arith, c.loop-turns-test.false)) c.loop-turns.invariant.0 in
    lines_then_out c.args.lines.now _ _ _ _ _ (same_count c.args.lines.now _ _ _ _ leads (all_play _ _ _ c.requires.records)) leads c.run_all_out.ensures.at

pub run_all_out-requires : goal.run_all_out-requires
run_all_out-requires c = record {
  records =
      all_record_on (take c.loop-turns.turns-index c.args.lines.now) c.args.patcher.now c.loop-turns.patcher c.args.cpus.now.items
      c.loop-turns.cpus.items c.args.pool.now c.loop-turns.pool c.loop-turns.invariant.1 c.requires.records;
}

pub returns-clause-records : goal.returns-clause-records
returns-clause-records c =
    let past : length c.args.lines.now ≤ c.loop-turns.turns-index = omega (arith, c.loop-turns-test.false) in
    let stand = lines_all _ c.loop-turns.turns-index _ _ _ _ past c.loop-turns.invariant.0 in
    let leads = all_lines _ c.loop-turns.turns-index _ _ _ _ _ _ past c.loop-turns.invariant.1 in
    records_then_out c.args.lines.now _ _ _ _ _ _ _ _ (same_count c.args.lines.now _ _ _ _ stand (all_play _ _ _ c.requires.records)) leads c.run_all_out.ensures.records
