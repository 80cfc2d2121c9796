use Rattle.xray_io.specs.World.{desk_view}
use Rattle.xray_program.specs.Inputs.{readable_form}
use Rattle.xray_program.proofs.DumpLaws.{file_fits}
use Rattle.xray_program.proofs.TakenInputs.{only_input}
use Rattle.xray_program.proofs.Turns.{taken_as}
use Rattle.xray_program.proofs.dump.DumpWork.take.Goals as goal

pub returns-clause-turns : goal.returns-clause-turns
returns-clause-turns g c =
    let seen = desk_view g.D.Desk.held g.D.Desk.read_faults g.D.Desk.write_faults in
    let s = c.args.self.now in
    let took = c.take_stream.ensures in
    only_input readable_form s.trace.now (seen c.args.desk.now) (seen c.take_stream.new.desk) c.take_stream.result (record {
      taken = taken_as readable_form s.trace.now (seen c.args.desk.now) (seen c.take_stream.new.desk) c.take_stream.result took.taken;
      calls = took.calls;
      held = took.held;
      later = took.later;
      writes = took.writes;
      calm = took.calm;
    })

pub returns-clause-fits : goal.returns-clause-fits
returns-clause-fits g c =
    let seen = desk_view g.D.Desk.held g.D.Desk.read_faults g.D.Desk.write_faults in
    let s = c.args.self.now in
    file_fits s.trace.now (seen c.args.desk.now) (seen c.take_stream.new.desk) c.take_stream.result
    (taken_as readable_form s.trace.now (seen c.args.desk.now) (seen c.take_stream.new.desk) c.take_stream.result c.take_stream.ensures.taken)
