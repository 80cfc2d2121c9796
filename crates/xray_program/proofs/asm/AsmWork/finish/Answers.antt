use Rattle.std.proofs.Common.{◌∙◌, ℕ, List, [], ◌∷◌, None, ap}
use Rattle.command_words.specs.Words as words
use Rattle.xray_io.specs.World.{desk_view, sink_view}
use Rattle.xray_program.specs.Commands.{doing_of}
use Rattle.xray_program.specs.Outcomes.{Done}
use Rattle.xray_program.proofs.WorkEndings.{finishes_with}
use Rattle.xray_program.proofs.asm.AsmWork.finish.Goals as goal

pub returns-clause-finishes : goal.returns-clause-finishes
returns-clause-finishes g c =
    let seen = desk_view g.D.Desk.held g.D.Desk.read_faults g.D.Desk.write_faults in
    let got = sink_view g.O.Sink.written g.O.Sink.faults in
    let s = c.args.self.now in
    finishes_with (doing_of (words.Asm s.text.now s.image.now s.threshold s.relative)).leaves c.args.file.now
    ((s.image.now, c.deref.result.now) ∷ []) [] None (seen c.args.desk.now) (seen c.deliver.new.desk)
    (got c.args.out.now) (got c.deliver.new.out) (g.D.Desk.along c.args.desk.now c.deliver.new.desk) c.deliver.result
    (ap (λ (bytes : List ℕ). Done ((s.image.now, bytes) ∷ []) []) (c.deref.ensures.value ∙ c.file.view_is)) c.deliver.ensures.delivers
