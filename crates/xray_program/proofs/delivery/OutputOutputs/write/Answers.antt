use Rattle.xray_io.specs.World.{desk_view}
use Rattle.xray_program.proofs.MadeOutputs.{fails_one, makes_one, unmade_one}
use Rattle.xray_program.proofs.delivery.OutputOutputs.write.Goals as goal

pub returns-in-Err-clause-stops : goal.returns-in-Err-clause-stops
returns-in-Err-clause-stops g c =
    let seen = desk_view g.D.Desk.held g.D.Desk.read_faults g.D.Desk.write_faults in
    fails_one c.args.self.now.name.now (g.P.Printed.text c.args.self.now.text.now) (seen c.args.desk.now) (seen c.write_output.new.desk) _ c.in-Err.ensures.went.calls
    c.in-Err.ensures.went.are c.in-Err.ensures.fault

pub returns-in-Ok-clause-made : goal.returns-in-Ok-clause-made
returns-in-Ok-clause-made g c =
    makes_one c.args.self.now.name.now (g.P.Printed.text c.args.self.now.text.now) _ _ (g.D.Desk.along c.args.desk.now c.write_output.new.desk) c.in-Ok.ensures.went

pub returns-in-Err-clause-made : goal.returns-in-Err-clause-made
returns-in-Err-clause-made g c =
    let seen = desk_view g.D.Desk.held g.D.Desk.read_faults g.D.Desk.write_faults in
    unmade_one c.args.self.now.name.now (g.P.Printed.text c.args.self.now.text.now) (seen c.args.desk.now) (seen c.write_output.new.desk) _
    (g.D.Desk.along c.args.desk.now c.write_output.new.desk) c.in-Err.ensures.went
