use Rattle.std.proofs.Common.{inr, refl}
use Rattle.xray_io.specs.Writes.{prefix_of}
use Rattle.xray_io.specs.World.{desk_view, sink_view}
use Rattle.xray_program.proofs.WorkEndings.{output_stops}
use Rattle.xray_program.proofs.CallOrder.{went_as}
use Rattle.xray_program.proofs.delivery.deliver.Goals as goal

pub returns-in_err-write-clause-delivers : goal.returns-in_err-write-clause-delivers
returns-in_err-write-clause-delivers g c =
    let seen = desk_view g.D.Desk.held g.D.Desk.read_faults g.D.Desk.write_faults in
    let got = sink_view g.O.Sink.written g.O.Sink.faults in
    output_stops (g.W.Outputs.all c.args.outputs.now) (g.P.Printed.text c.args.text.now) _ (seen c.args.desk.now) (seen c.write.new.desk) (got c.args.out.now)
    (g.D.Desk.along c.args.desk.now c.write.new.desk) c.from_residual.result _ c.from_residual.ensures.1 c.in_err-write.ensures.stops c.in_err-write.ensures.made

pub returns-in-Err-clause-delivers : goal.returns-in-Err-clause-delivers
returns-in-Err-clause-delivers g c = (
  inr (record {
    is_out = refl;
    fault = c.in-Err.ensures.writes.fault;
    whole = c.in_ok-write.ensures.whole;
    prefix = prefix_of c.write_text.ensures.writes;
  }),
  went_as (g.D.Desk.along c.args.desk.now c.write.new.desk) _ _ c.in_ok-write.ensures.made (λ calls p. inr (refl, p)),
)
