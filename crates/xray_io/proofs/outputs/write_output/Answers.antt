use Rattle.xray_io.specs.Outputs.{makes_output, makes_nothing}
use Rattle.xray_io.proofs.outputs.write_output.Goals as goal

pub returns-in-Ok : goal.returns-in-Ok
returns-in-Ok g c =
    makes_output g.met.D.Desk.along_both c.args.desk.now c.create.new.self c.append_text.new.desk c.in-Ok.ensures.along c.in-Ok.ensures.created
    c.create.ensures.others c.create.ensures.reads c.in-Ok.ensures.calm c.append_text.ensures

pub returns-in-Err : goal.returns-in-Err
returns-in-Err g c =
    makes_nothing c.args.desk.now c.create.new.self c.in-Err.ensures.along c.in-Err.ensures.same c.create.ensures.reads c.in-Err.ensures.failed c.create.ensures.later
