use Rattle.std.proofs.Common.{◌≤◌, ◌+◌, ◌-◌, ℕ, arith, length, min, subst}
use Rattle.patch_script.specs.Micros.{total_of}
use Rattle.step_sim.specs.private.Standing.{IsPatcherAt}
use Rattle.step_sim.specs.Replay.{thread_count}
use Rattle.step_sim.specs.Schedules.{AreTurnsOf}
use Rattle.step_sim.proofs.AllThreads.{found_at, patcher_line, stand_of, thread_line}
use Rattle.step_sim.proofs.AllRecorded.{patcher_recorded, record_of, records_of, thread_recorded}
use Rattle.step_sim.proofs.replay.take_turns.Goals as goal

pub make_loads-requires : goal.make_loads-requires
make_loads-requires c =
    let ts = c.args.cpus.now.items in
    let number = c.in-Thread.thread in
    let line : (1 ≤ number) × (number ≤ length ts) × (1 ≤ c.in-Thread.count) =
    subst (AreTurnsOf (length ts)) c.in-Thread.is c.requires.line in
    let found = found_at ts (number - 1) _ (omega (arith, line.0, line.1)) c.index_mut.ensures.value in
    record { records = records_of c.args.patcher.now ts c.args.pool.now (number - 1) c.index_mut.result.now c.requires.records found }

pub returns-in-Thread : goal.returns-in-Thread
returns-in-Thread c =
    let ts = c.args.cpus.now.items in
    let p = c.args.patcher.now in
    let number = c.in-Thread.thread in
    let line : (1 ≤ number) × (number ≤ length ts) × (1 ≤ c.in-Thread.count) =
    subst (AreTurnsOf (length ts)) c.in-Thread.is c.requires.line in
    let found = found_at ts (number - 1) _ (omega (arith, line.0, line.1)) c.index_mut.ensures.value in
    record {
      at = λ cast threads limits moment at.
          thread_line cast threads limits moment p ts c.args.turns number c.in-Thread.count (number - 1) c.index_mut.result.now c.make_loads.new.cpu
          c.in-Thread.is (omega (arith, line.0)) at found c.make_loads.ensures.thread
          (c.make_loads.ensures.at cast moment (stand_of cast threads limits moment p ts (number - 1) _ at found));
      records = λ r pooled at.
          thread_recorded r pooled p ts c.args.pool.now c.make_loads.new.pool c.args.turns number c.in-Thread.count (number - 1)
          c.index_mut.result.now c.make_loads.new.cpu c.in-Thread.is (omega (arith, line.0)) at found c.make_loads.ensures.thread
          (c.make_loads.ensures.records r pooled (record_of r pooled p ts c.args.pool.now (number - 1) _ at found));
    }

pub returns-in-Patcher : goal.returns-in-Patcher
returns-in-Patcher c = record {
  at = λ cast threads limits moment at.
      patcher_line cast threads limits moment c.args.patcher.now c.make_steps.new.self c.args.cpus.now.items c.args.turns c.in-Patcher.count
      c.in-Patcher.is at
      (subst (λ (n : ℕ). IsPatcherAt cast.program (thread_count cast) cast.script (min (moment.place + n) (total_of cast.program (thread_count cast) cast.script)) c.make_steps.new.self)
      c.from.ensures (c.make_steps.ensures.at cast.program (thread_count cast) cast.script moment.place at.patcher))
      c.make_steps.ensures.words;
  records = λ r pooled at.
      patcher_recorded r pooled c.args.patcher.now c.make_steps.new.self c.args.cpus.now.items c.args.pool.now c.args.turns c.in-Patcher.count
      c.in-Patcher.is at
      (patcher_line r.cast r.threads r.limits pooled.moment c.args.patcher.now c.make_steps.new.self c.args.cpus.now.items c.args.turns c.in-Patcher.count
      c.in-Patcher.is at.stands
      (subst (λ (n : ℕ). IsPatcherAt r.cast.program (thread_count r.cast) r.cast.script (min (pooled.moment.place + n) (total_of r.cast.program (thread_count r.cast) r.cast.script)) c.make_steps.new.self)
      c.from.ensures (c.make_steps.ensures.at r.cast.program (thread_count r.cast) r.cast.script pooled.moment.place at.stands.patcher))
      c.make_steps.ensures.words);
}
