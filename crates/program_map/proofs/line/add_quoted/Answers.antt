use Rattle.std.proofs.Common.{◌∙◌, subst, sym}
use Rattle.xray_io.specs.Text.{AddsText}
use Rattle.program_map.proofs.MapLines.{no_marks}
use Rattle.program_map.proofs.line.add_quoted.Goals as goal

pub returns : goal.returns
returns g c =
    let same = no_marks c.args.name.now (sym c.has_mark.ensures ∙ c.if-has_mark.false) in
    subst (λ t. AddsText g.S.Sink.written g.S.Sink.faults g.S.Sink.along c.args.to.now c.bytes.new.self t c.bytes.result) (sym same) c.bytes.ensures.adds
