use Rattle.xray_io.specs.World.{desk_view, sink_view}
use Rattle.xray_program.proofs.WorkEndings.{ends_after_turns, ends_at_turns}
use Rattle.xray_program.proofs.work.perform.Goals as goal

pub returns-in_err-inputs : goal.returns-in_err-inputs
returns-in_err-inputs g c =
    let seen = desk_view g.D.Desk.held g.D.Desk.read_faults g.D.Desk.write_faults in
    let got = sink_view g.O.Sink.written g.O.Sink.faults in
    ends_at_turns (g.W.Work.says c.args.work.now) (g.W.Work.means c.args.work.now) (seen c.args.desk.now) (seen c.take.new.desk) (got c.args.out.now)
    (g.D.Desk.along c.args.desk.now c.take.new.desk) c.from_residual.result _ c.from_residual.ensures.1 c.in_err-inputs.ensures.turns

pub returns : goal.returns
returns g c =
    let seen = desk_view g.D.Desk.held g.D.Desk.read_faults g.D.Desk.write_faults in
    let got = sink_view g.O.Sink.written g.O.Sink.faults in
    ends_after_turns g.D.Desk.along g.met.D.Desk.along_both seen (g.W.Work.says c.args.work.now) (g.W.Work.means c.args.work.now) c.in_ok-inputs.inputs
    c.args.desk.now c.take.new.desk c.finish.new.desk (got c.args.out.now) (got c.finish.new.out) c.finish.result c.in_ok-inputs.ensures.turns
    c.finish.ensures.finishes c.finish.ensures.others
