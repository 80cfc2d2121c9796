use Rattle.std.proofs.Common.{refl}
use Rattle.command_words.specs.Words as words
use Rattle.xray_io.specs.World.{desk_view}
use Rattle.xray_program.specs.Commands.{doing_of}
use Rattle.xray_program.specs.private.SimInputs.{AreValues}
use Rattle.xray_program.proofs.TakenInputs.{at_first, given, passed, stopped}
use Rattle.xray_program.proofs.sim.SimWork.take.Goals as goal

pub returns-in_err-image-clause-turns : goal.returns-in_err-image-clause-turns
returns-in_err-image-clause-turns g c =
    let desk = desk_view g.D.Desk.held g.D.Desk.read_faults g.D.Desk.write_faults in
    let s = c.args.self.now in
    let both = g.met.D.Desk.along_both in
    let start = at_first desk g.met.D.Desk.along_none (doing_of (words.Sim s.image.now s.script.now s.schedule.now s.files.trace.now s.files.audit.now s.options)).takes c.args.desk.now in
    stopped both _ _ _ AreValues _ _ c.from_residual.ensures.1 start c.in_err-image.ensures.turn

pub returns-in_err-script-clause-turns : goal.returns-in_err-script-clause-turns
returns-in_err-script-clause-turns g c =
    let desk = desk_view g.D.Desk.held g.D.Desk.read_faults g.D.Desk.write_faults in
    let s = c.args.self.now in
    let both = g.met.D.Desk.along_both in
    let start = at_first desk g.met.D.Desk.along_none (doing_of (words.Sim s.image.now s.script.now s.schedule.now s.files.trace.now s.files.audit.now s.options)).takes c.args.desk.now in
    let image = passed both _ _ _ _ start c.in_ok-image.ensures.turn in
    stopped both _ _ _ AreValues _ _ c.from_residual-in_err-script.ensures.1 image c.in_err-script.ensures.turn

pub returns-in_err-schedule-clause-turns : goal.returns-in_err-schedule-clause-turns
returns-in_err-schedule-clause-turns g c =
    let desk = desk_view g.D.Desk.held g.D.Desk.read_faults g.D.Desk.write_faults in
    let s = c.args.self.now in
    let both = g.met.D.Desk.along_both in
    let start = at_first desk g.met.D.Desk.along_none (doing_of (words.Sim s.image.now s.script.now s.schedule.now s.files.trace.now s.files.audit.now s.options)).takes c.args.desk.now in
    let image = passed both _ _ _ _ start c.in_ok-image.ensures.turn in
    let script = passed both _ _ _ _ image c.in_ok-script.ensures.turn in
    stopped both _ _ _ AreValues _ _ c.from_residual-in_err-schedule.ensures.1 script c.in_err-schedule.ensures.turn

pub returns-clause-turns : goal.returns-clause-turns
returns-clause-turns g c =
    let desk = desk_view g.D.Desk.held g.D.Desk.read_faults g.D.Desk.write_faults in
    let s = c.args.self.now in
    let both = g.met.D.Desk.along_both in
    let start = at_first desk g.met.D.Desk.along_none (doing_of (words.Sim s.image.now s.script.now s.schedule.now s.files.trace.now s.files.audit.now s.options)).takes c.args.desk.now in
    let image = passed both _ _ _ _ start c.in_ok-image.ensures.turn in
    let script = passed both _ _ _ _ image c.in_ok-script.ensures.turn in
    let schedule = passed both _ _ _ _ script c.in_ok-schedule.ensures.turn in
    given AreValues _ _ schedule refl

pub returns-clause-fits : goal.returns-clause-fits
returns-clause-fits g c =
    let given = c.in_ok-schedule.ensures.turn.taken in
    record {
      program_is = c.in_ok-script.ensures.fits.0;
      threads_are = c.in_ok-script.ensures.fits.1;
      turns_of_threads = c.in_ok-schedule.ensures.fits;
      schedule_read = (given.bytes, given.reads);
    }
