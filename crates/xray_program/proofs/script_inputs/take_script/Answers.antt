use Rattle.std.proofs.Common.{refl}
use Rattle.xray_io.specs.World.{desk_view}
use Rattle.xray_program.specs.Commands.{takes_script}
use Rattle.xray_program.specs.private.RunInputs.{AreValues}
use Rattle.xray_program.proofs.TakenInputs.{at_first, given, passed, stopped}
use Rattle.xray_program.proofs.script_inputs.take_script.Goals as goal

pub returns-in_err-program-clause-turns : goal.returns-in_err-program-clause-turns
returns-in_err-program-clause-turns g c =
    let desk = desk_view g.D.Desk.held g.D.Desk.read_faults g.D.Desk.write_faults in
    let both = g.met.D.Desk.along_both in
    let start = at_first desk g.met.D.Desk.along_none (takes_script c.args.image.now c.args.script.now c.args.threads) c.args.desk.now in
    stopped both _ _ _ AreValues _ _ c.from_residual.ensures.1 start c.in_err-program.ensures.turn

pub returns-in_err-plan-clause-turns : goal.returns-in_err-plan-clause-turns
returns-in_err-plan-clause-turns g c =
    let desk = desk_view g.D.Desk.held g.D.Desk.read_faults g.D.Desk.write_faults in
    let both = g.met.D.Desk.along_both in
    let start = at_first desk g.met.D.Desk.along_none (takes_script c.args.image.now c.args.script.now c.args.threads) c.args.desk.now in
    let program = passed both _ _ _ _ start c.in_ok-program.ensures.turn in
    stopped both _ _ _ AreValues _ _ c.from_residual-in_err-plan.ensures.1 program c.in_err-plan.ensures.turn

pub returns-clause-turns : goal.returns-clause-turns
returns-clause-turns g c =
    let desk = desk_view g.D.Desk.held g.D.Desk.read_faults g.D.Desk.write_faults in
    let both = g.met.D.Desk.along_both in
    let start = at_first desk g.met.D.Desk.along_none (takes_script c.args.image.now c.args.script.now c.args.threads) c.args.desk.now in
    let program = passed both _ _ _ _ start c.in_ok-program.ensures.turn in
    let plan = passed both _ _ _ _ program c.in_ok-plan.ensures.turn in
    given AreValues _ _ plan refl
