use Rattle.std.proofs.Common.{◌≡◌, ◌≤◌, ◌<◌, ℕ, List, length, ap, subst}
use Rattle.xray_io.specs.Desk.{Holds}
use Rattle.xray_io.specs.Reads.{count_read}
use Rattle.xray_io.specs.World.{desk_view}
use Rattle.xray_program.proofs.CallOrder.{faulted_calls, unread_calls}
use Rattle.xray_program.proofs.Turns.{faults, unread}
use Rattle.xray_program.proofs.input.take.Goals as goal

pub returns-clause-turn : goal.returns-clause-turn
returns-clause-turn g c =
    let seen = desk_view g.D.Desk.held g.D.Desk.read_faults g.D.Desk.write_faults in
    let form = g.K.Kind.form c.args.kind.now in
    let name = c.args.name.now in
    let read = c.read_whole.ensures in
    record {
      taken = unread form name (seen c.args.desk.now) (seen c.read_whole.new.desk) c.in-Err.error c.read_stop.result (λ is. read.too_long_there (cc))
          (λ is. subst (λ (n : ℕ). (bytes : List ℕ) → g.D.Desk.held c.args.desk.now name ≡ Holds bytes → n < length bytes) c.limit.ensures (read.too_long (cc)))
          (λ is. read.read_fault (cc)) c.read_stop.ensures;
      calls = unread_calls name form.limit c.limit.result _ c.in-Err.error c.read_stop.result c.limit.ensures (ap count_read c.in-Err.is) c.read_stop.ensures
          read.calls;
      held = read.held;
      later = read.later;
      writes = read.writes;
      calm = tt;
    }

pub returns-in-Ok-clause-turn : goal.returns-in-Ok-clause-turn
returns-in-Ok-clause-turn g c =
    let seen = desk_view g.D.Desk.held g.D.Desk.read_faults g.D.Desk.write_faults in
    let form = g.K.Kind.form c.args.kind.now in
    let name = c.args.name.now in
    let bytes = c.in-Ok.bytes.items in
    let read = c.in-Ok.ensures in
    record {
      taken = faults form name c.word.result.now (seen c.args.desk.now) (seen c.read_whole.new.desk) bytes _ c.fault_stop.result read.there read.whole
          (subst (λ (n : ℕ). length bytes ≤ n) c.limit.ensures read.within) c.word.ensures
          (λ refusal told. subst (λ (b : List ℕ). form.Refuses b refusal) c.deref.ensures.value (c.in-Err-judge.ensures.refuses refusal told))
          c.fault_stop.ensures;
      calls = faulted_calls name c.word.result.now form.limit c.limit.result _ (length bytes) _ c.fault_stop.result c.limit.ensures
          (ap count_read c.in-Ok.is) c.fault_stop.ensures c.read_whole.ensures.calls;
      held = read.held;
      later = read.later;
      writes = read.writes;
      calm = tt;
    }
