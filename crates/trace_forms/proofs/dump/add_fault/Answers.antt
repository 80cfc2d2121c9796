use Rattle.std.proofs.Common.{[], ℕ, List, Option, Ok, subst}
use Rattle.std.specs.Option.{unwrap_or}
use Rattle.xray_io.specs.Text.{AddsText, adds_nothing}
use Rattle.trace_forms.proofs.Lines.{words_of}
use Rattle.trace_forms.proofs.dump.add_fault.Goals as goal

pub returns-in-Some : goal.returns-in-Some
returns-in-Some g c =
    subst (λ (t : List ℕ). AddsText g.S.Sink.written g.S.Sink.faults g.S.Sink.along c.args.text.now c.pieces.new.self t c.pieces.result)
    (words_of c.in-Some.words c.args.fault c.in-Some.ensures) c.pieces.ensures.adds

pub returns-in-None : goal.returns-in-None
returns-in-None g c =
    subst (λ (o : Option (List ℕ)). AddsText g.S.Sink.written g.S.Sink.faults g.S.Sink.along c.args.text.now c.args.text.now (unwrap_or o []) (Ok tt))
    c.in-None.ensures (adds_nothing g.met.S.Sink.along_none c.args.text.now)
