use Rattle.xray_program.proofs.MadeOutputs.{fails_first, fails_second, makes_two, unmade_first, unmade_second}
use Rattle.xray_program.proofs.delivery.TwoOutputsOutputs.write.Goals as goal

pub returns-in-Ok-write_output-clause-made : goal.returns-in-Ok-write_output-clause-made
returns-in-Ok-write_output-clause-made g c =
    let o = c.args.self.now in
    makes_two g.met.D.Desk.along_both c.args.desk.now c.write_output.new.desk c.write_output-in-Ok.new.desk o.first.name.now (g.P.Printed.text o.first.text.now)
    o.second.name.now (g.Q.Printed.text o.second.text.now) c.in-Ok.ensures c.in-Ok-write_output.ensures

pub returns-in-Err-write_output-clause-stops : goal.returns-in-Err-write_output-clause-stops
returns-in-Err-write_output-clause-stops g c =
    let o = c.args.self.now in
    fails_second c.args.desk.now c.write_output.new.desk c.write_output-in-Ok.new.desk o.first.name.now (g.P.Printed.text o.first.text.now)
    o.second.name.now (g.Q.Printed.text o.second.text.now) _ c.requires.0 c.in-Ok.ensures c.in-Err-write_output.ensures

pub returns-in-Err-write_output-clause-made : goal.returns-in-Err-write_output-clause-made
returns-in-Err-write_output-clause-made g c =
    let o = c.args.self.now in
    unmade_second g.met.D.Desk.along_both c.args.desk.now c.write_output.new.desk c.write_output-in-Ok.new.desk o.first.name.now (g.P.Printed.text o.first.text.now)
    o.second.name.now (g.Q.Printed.text o.second.text.now) _ c.requires.0 c.in-Ok.ensures c.in-Err-write_output.ensures

pub returns-in-Err-clause-stops : goal.returns-in-Err-clause-stops
returns-in-Err-clause-stops g c =
    let o = c.args.self.now in
    fails_first c.args.desk.now c.write_output.new.desk o.first.name.now (g.P.Printed.text o.first.text.now)
    o.second.name.now (g.Q.Printed.text o.second.text.now) _ c.requires.0 c.in-Err.ensures

pub returns-in-Err-clause-made : goal.returns-in-Err-clause-made
returns-in-Err-clause-made g c =
    let o = c.args.self.now in
    unmade_first c.args.desk.now c.write_output.new.desk o.first.name.now (g.P.Printed.text o.first.text.now)
    o.second.name.now (g.Q.Printed.text o.second.text.now) _ c.in-Err.ensures
