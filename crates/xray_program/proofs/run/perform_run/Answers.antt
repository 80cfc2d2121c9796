use Rattle.xray_io.specs.World.{desk_view, sink_view}
use Rattle.xray_program.specs.Commands.{takes_script}
use Rattle.xray_program.specs.private.RunInputs.{AreValues, said_by}
use Rattle.xray_program.proofs.StartedThreads.{none_by, none_turns, run_starts_late, unstarted}
use Rattle.xray_program.proofs.WorkEndings.{ends_after_turns, ends_at_turns}
use Rattle.xray_program.proofs.run.perform_run.Goals as goal

pub returns-in_err-inputs-clause-ends : goal.returns-in_err-inputs-clause-ends
returns-in_err-inputs-clause-ends g c =
    let seen = desk_view g.D.Desk.held g.D.Desk.read_faults g.D.Desk.write_faults in
    let got = sink_view g.O.Sink.written g.O.Sink.faults in
    ends_at_turns (said_by c.args.command.now) AreValues (seen c.args.desk.now) (seen c.take_script.new.desk) (got c.args.out.now)
    (g.D.Desk.along c.args.desk.now c.take_script.new.desk) c.from_residual.result _ c.from_residual.ensures.1 c.in_err-inputs.ensures.turns

pub returns-clause-ends : goal.returns-clause-ends
returns-clause-ends g c =
    let seen = desk_view g.D.Desk.held g.D.Desk.read_faults g.D.Desk.write_faults in
    let got = sink_view g.O.Sink.written g.O.Sink.faults in
    ends_after_turns g.D.Desk.along g.met.D.Desk.along_both seen (said_by c.args.command.now) AreValues c.in_ok-inputs.inputs
    c.args.desk.now c.take_script.new.desk c.finish.new.desk (got c.args.out.now) (got c.finish.new.out) c.finish.result c.in_ok-inputs.ensures.turns
    c.finish.ensures.finishes c.finish.ensures.others

pub returns-in_err-inputs-clause-starts : goal.returns-in_err-inputs-clause-starts
returns-in_err-inputs-clause-starts g c =
    let seen = desk_view g.D.Desk.held g.D.Desk.read_faults g.D.Desk.write_faults in
    let s = c.args.command.now in
    unstarted _ _ _
    (none_by _ (none_turns (takes_script s.image.now s.script.now s.options.bounds.threads) AreValues (seen c.args.desk.now) (seen c.take_script.new.desk)
    (g.D.Desk.along c.args.desk.now c.take_script.new.desk) _ c.in_err-inputs.ensures.turns)
    c.from_residual.result c.from_residual.ensures.1)

pub returns-clause-starts : goal.returns-clause-starts
returns-clause-starts g c =
    let s = c.args.command.now in
    run_starts_late s.image.now s.script.now s.files.trace.now s.files.audit.now s.options _ _ _ c.finish.ensures.starts c.finish.ensures.started
