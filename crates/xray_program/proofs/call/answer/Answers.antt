use Rattle.std.proofs.Common.{Result, subst, sym}
use Rattle.xray_io.specs.World.{sink_view}
use Rattle.xray_program.specs.Answers.{Says}
use Rattle.xray_program.specs.declared.stop.Stop.{Stop}
use Rattle.xray_program.specs.private.Stops.{told_of}
use Rattle.xray_program.proofs.ErrLines.{nothing_said}
use Rattle.xray_program.proofs.call.answer.Goals as goal

pub returns-in-Ok-clause-says : goal.returns-in-Ok-clause-says
returns-in-Ok-clause-says g c =
    let heard = sink_view g.E.Sink.written g.E.Sink.faults c.args.err.now in
    let P : Result (Unit {0}) Stop → Type 0 = λ ended. Says heard heard (told_of ended) in
    subst P (sym c.in-Ok.is) (nothing_said heard)
