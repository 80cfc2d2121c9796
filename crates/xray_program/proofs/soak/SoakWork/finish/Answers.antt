use Rattle.std.proofs.Common.{[], None, refl, subst, sym}
use Rattle.xray_io.specs.World.{desk_view, sink_view}
use Rattle.xray_program.specs.Soak.{IsSummary}
use Rattle.xray_program.proofs.WorkEndings.{finishes}
use Rattle.xray_program.proofs.soak.SoakWork.finish.Goals as goal

pub returns-clause-finishes : goal.returns-clause-finishes
returns-clause-finishes g c =
    let seen = desk_view g.D.Desk.held g.D.Desk.read_faults g.D.Desk.write_faults in
    let got = sink_view g.O.Sink.written g.O.Sink.faults in
    let number = c.args.self.now.number in
    let text = c.bytes.result.now in
    let summary : IsSummary number text = subst (IsSummary number) (sym c.bytes.ensures) c.in_ok-summary.ensures in
    finishes _ [] text None (seen c.args.desk.now) (seen c.deliver.new.desk) (got c.args.out.now) (got c.deliver.new.out)
    (g.D.Desk.along c.args.desk.now c.deliver.new.desk) c.deliver.result (λ none any. (text, summary, refl)) c.deliver.ensures.delivers
