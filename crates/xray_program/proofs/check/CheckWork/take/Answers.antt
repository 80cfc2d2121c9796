use Rattle.std.proofs.Common.{codes, refl}
use Rattle.command_words.specs.Words as words
use Rattle.xray_io.specs.World.{desk_view}
use Rattle.xray_program.specs.Commands.{doing_of}
use Rattle.xray_program.specs.Inputs.{script_form}
use Rattle.xray_program.specs.private.CheckInputs.{AreValues}
use Rattle.xray_program.proofs.TakenInputs.{at_first, given, passed, stopped, turn_of}
use Rattle.xray_program.proofs.check.CheckWork.take.Goals as goal

pub returns-in_err-image-clause-turns : goal.returns-in_err-image-clause-turns
returns-in_err-image-clause-turns g c =
    let desk = desk_view g.D.Desk.held g.D.Desk.read_faults g.D.Desk.write_faults in
    let s = c.args.self.now in
    let both = g.met.D.Desk.along_both in
    let start = at_first desk g.met.D.Desk.along_none (doing_of (words.Check s.image.now s.script.now s.trace.now s.audit.now)).takes c.args.desk.now in
    stopped both _ _ _ AreValues _ _ c.from_residual.ensures.1 start c.in_err-image.ensures.turn

pub returns-in_err-audit-clause-turns : goal.returns-in_err-audit-clause-turns
returns-in_err-audit-clause-turns g c =
    let desk = desk_view g.D.Desk.held g.D.Desk.read_faults g.D.Desk.write_faults in
    let s = c.args.self.now in
    let both = g.met.D.Desk.along_both in
    let start = at_first desk g.met.D.Desk.along_none (doing_of (words.Check s.image.now s.script.now s.trace.now s.audit.now)).takes c.args.desk.now in
    let image = passed both _ _ _ _ start c.in_ok-image.ensures.turn in
    stopped both _ _ _ AreValues _ _ c.from_residual-in_err-audit.ensures.1 image c.in_err-audit.ensures.turn

pub returns-in_err-script-clause-turns : goal.returns-in_err-script-clause-turns
returns-in_err-script-clause-turns g c =
    let desk = desk_view g.D.Desk.held g.D.Desk.read_faults g.D.Desk.write_faults in
    let s = c.args.self.now in
    let both = g.met.D.Desk.along_both in
    let start = at_first desk g.met.D.Desk.along_none (doing_of (words.Check s.image.now s.script.now s.trace.now s.audit.now)).takes c.args.desk.now in
    let image = passed both _ _ _ _ start c.in_ok-image.ensures.turn in
    let audit = passed both _ _ _ _ image c.in_ok-audit.ensures.turn in
    stopped both _ _ _ AreValues _ _ c.from_residual-in_err-script.ensures.1 audit (turn_of (script_form c.in_ok-image.image) s.script.now c.threads-threads.ensures c.in_err-script.ensures.turn)

pub returns-in_err-trace-clause-turns : goal.returns-in_err-trace-clause-turns
returns-in_err-trace-clause-turns g c =
    let desk = desk_view g.D.Desk.held g.D.Desk.read_faults g.D.Desk.write_faults in
    let s = c.args.self.now in
    let both = g.met.D.Desk.along_both in
    let start = at_first desk g.met.D.Desk.along_none (doing_of (words.Check s.image.now s.script.now s.trace.now s.audit.now)).takes c.args.desk.now in
    let image = passed both _ _ _ _ start c.in_ok-image.ensures.turn in
    let audit = passed both _ _ _ _ image c.in_ok-audit.ensures.turn in
    let script = passed both _ _ _ _ audit (turn_of (script_form c.in_ok-image.image) s.script.now c.threads-threads.ensures c.in_ok-script.ensures.turn) in
    stopped both _ _ _ AreValues _ _ c.from_residual-in_err-trace.ensures.1 script (c.in_err-trace.ensures (codes "trace"))

pub returns-clause-turns : goal.returns-clause-turns
returns-clause-turns g c =
    let desk = desk_view g.D.Desk.held g.D.Desk.read_faults g.D.Desk.write_faults in
    let s = c.args.self.now in
    let both = g.met.D.Desk.along_both in
    let start = at_first desk g.met.D.Desk.along_none (doing_of (words.Check s.image.now s.script.now s.trace.now s.audit.now)).takes c.args.desk.now in
    let image = passed both _ _ _ _ start c.in_ok-image.ensures.turn in
    let audit = passed both _ _ _ _ image c.in_ok-audit.ensures.turn in
    let script = passed both _ _ _ _ audit (turn_of (script_form c.in_ok-image.image) s.script.now c.threads-threads.ensures c.in_ok-script.ensures.turn) in
    let trace = passed both _ _ _ _ script (c.in_ok-trace.ensures (codes "trace")) in
    given AreValues _ _ trace refl
