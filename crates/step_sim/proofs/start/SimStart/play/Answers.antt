use Rattle.std.proofs.Common.{◌≡◌, ◌∙◌, ℕ, List, sym, ap, subst, arith, length}
use Rattle.std.specs.Prelude.{All}
use Rattle.step_sim.specs.declared.turns.Turns.{Turns}
use Rattle.step_sim.specs.Schedules.{AreTurnsOf}
use Rattle.step_sim.specs.Starts.{Start}
use Rattle.step_sim.proofs.ReplayStart.{holds_start, played, records}
use Rattle.step_sim.proofs.RecordedReplay.{has_room_for_all, recording}
use Rattle.step_sim.proofs.EndedReplay.{is_simulated, sealed_fit}
use Rattle.step_sim.proofs.start.SimStart.play.Goals as goal

pub play-requires-clause-records : goal.play-requires-clause-records
play-requires-clause-records c = records c.passings_fit.ensures.ids c.args.self c.self.inside c.self.view_is c.self.invariant

pub play-requires-clause-lines : goal.play-requires-clause-lines
play-requires-clause-lines c =
    let holds = holds_start c.args.self c.self.inside c.self.view_is c.self.invariant in
    subst (λ (n : ℕ). All (AreTurnsOf n) c.lines.result.now) (sym holds.count)
    (subst (λ (lines : List Turns). All (AreTurnsOf c.args.self.setup.threads) lines) (sym c.lines.ensures) c.requires)

pub collect-sealed-requires-clause-room : goal.collect-sealed-requires-clause-room
collect-sealed-requires-clause-room c =
    let s = c.self.inside in
    let holds = holds_start c.args.self s c.self.view_is c.self.invariant in
    let its = played c.passings_fit.ensures.ids c.args.self s c.self.view_is c.self.invariant c.lines.result.now _ _ _ c.play.ensures.records in
    let all = has_room_for_all _ _ _ c.args.self.setup.max s.kept.cap _ _ _ its.end (omega (arith, holds.enough)) holds.room in
    omega (arith, all, c.play.new.pool.hands.ok.0)

pub collect-sealed-requires-clause-counts : goal.collect-sealed-requires-clause-counts
collect-sealed-requires-clause-counts c =
    let holds = holds_start c.args.self c.self.inside c.self.view_is c.self.invariant in
    let its = played c.passings_fit.ensures.ids c.args.self c.self.inside c.self.view_is c.self.invariant c.lines.result.now _ _ _ c.play.ensures.records in
    omega (arith, holds.room_counted, its.end.at.holds.hand_count, c.play.new.pool.hands.ok.0)

pub collect-sealed-requires-clause-same : goal.collect-sealed-requires-clause-same
collect-sealed-requires-clause-same c =
    let its = played c.passings_fit.ensures.ids c.args.self c.self.inside c.self.view_is c.self.invariant c.lines.result.now _ _ _ c.play.ensures.records in
    its.end.at.holds.sealed_count ∙ sym its.end.at.holds.hand_count

pub collect-sealed-requires-clause-fit : goal.collect-sealed-requires-clause-fit
collect-sealed-requires-clause-fit c =
    let start = c.args.self in
    let holds = holds_start start c.self.inside c.self.view_is c.self.invariant in
    let its = played c.passings_fit.ensures.ids start c.self.inside c.self.view_is c.self.invariant c.lines.result.now _ _ _ c.play.ensures.records in
    let r = recording start.program start.script start.setup its.passed in
    sealed_fit c.segments_hold_all.ensures.all c.segments_hold_all.ensures.some r its.end.last c.play.new.patcher c.play.new.cpus.items c.play.new.pool
    c.a_traced_thread_ends_as_its_plain_run.ensures holds.accepted its.end.at c.play.ensures.ended

pub returns : goal.returns
returns c =
    let start = c.args.self in
    let s = c.self.inside in
    let holds = holds_start start s c.self.view_is c.self.invariant in
    let its = played c.passings_fit.ensures.ids start s c.self.view_is c.self.invariant c.lines.result.now _ _ _ c.play.ensures.records in
    let left = c.collect-sealed.ensures in
    let threads : s.setup.threads ≡ start.setup.threads = ap (λ (x : Start). x.setup.threads) c.self.view_is in
    is_simulated start.program start.script c.args.schedule.now c.lines.result.now start.setup its.passed (length s.cpus.items)
    c.play.new.patcher c.play.new.cpus.items c.play.new.pool _ _ _ _ c.a_traced_thread_ends_as_its_plain_run.ensures holds.accepted its.each
    its.end holds.count c.lines.ensures c.requires c.play.ensures.ended (record {
      sealed_are = left.sealed;
      segment_count = left.segment_count;
      segments_are = left.segments;
      first_are = left.first;
      buffers_are = rw (← threads) left.kept;
    })
