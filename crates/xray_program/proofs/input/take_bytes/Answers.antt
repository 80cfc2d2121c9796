use Rattle.std.proofs.Common.{ap, refl}
use Rattle.xray_io.specs.Reads.{count_read}
use Rattle.xray_io.specs.World.{desk_view}
use Rattle.xray_program.specs.Taking.{any_bytes}
use Rattle.xray_program.proofs.CallOrder.{unread_calls}
use Rattle.xray_program.proofs.Turns.{unread}
use Rattle.xray_program.proofs.input.take_bytes.Goals as goal

pub returns-in-Err : goal.returns-in-Err
returns-in-Err g c = λ kind.
    let seen = desk_view g.D.Desk.held g.D.Desk.read_faults g.D.Desk.write_faults in
    let read = c.read_whole.ensures in
    record {
      taken = unread (any_bytes kind c.args.limit) c.args.name.now (seen c.args.desk.now) (seen c.read_whole.new.desk) c.in-Err.error c.read_stop.result
          (λ is. read.too_long_there (cc)) (λ is. read.too_long (cc)) (λ is. read.read_fault (cc)) c.read_stop.ensures;
      calls = unread_calls c.args.name.now c.args.limit c.args.limit _ c.in-Err.error c.read_stop.result refl (ap count_read c.in-Err.is) c.read_stop.ensures
          read.calls;
      held = read.held;
      later = read.later;
      writes = read.writes;
      calm = tt;
    }
