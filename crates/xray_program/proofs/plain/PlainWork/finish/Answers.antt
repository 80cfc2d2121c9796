use Rattle.std.proofs.Common.{[], None, refl}
use Rattle.std.specs.List.{flat_map}
use Rattle.xray_io.specs.World.{desk_view, sink_view}
use Rattle.xray_program.specs.private.Ends.{end_text}
use Rattle.xray_program.specs.Plain.{PlainPrints}
use Rattle.command_words.specs.Words as words
use Rattle.xray_program.specs.Commands.{doing_of}
use Rattle.xray_program.proofs.WorkEndings.{finishes_with}
use Rattle.xray_program.proofs.PlainThreads.{prints_all}
use Rattle.xray_program.proofs.plain.PlainWork.finish.Goals as goal

pub returns-clause-finishes : goal.returns-clause-finishes
returns-clause-finishes g c =
    let seen = desk_view g.D.Desk.held g.D.Desk.read_faults g.D.Desk.write_faults in
    let got = sink_view g.O.Sink.written g.O.Sink.faults in
    let program = c.args.image.now in
    let bounds = c.args.self.now.bounds in
    let text = flat_map end_text c.deref.result.now in
    let prints : PlainPrints program bounds text = rw c.deref.ensures.value (prints_all program bounds _ c.in_ok-ends.ensures) in
    finishes_with (doing_of (words.Plain c.args.self.now.image.now bounds)).leaves program [] text None (seen c.args.desk.now) (seen c.deliver.new.desk) (got c.args.out.now) (got c.deliver.new.out)
    (g.D.Desk.along c.args.desk.now c.deliver.new.desk) c.deliver.result (text, prints, refl) c.deliver.ensures.delivers
