use Rattle.std.proofs.Common.{subst}
use Rattle.xray_io.specs.Text.{AddsText}
use Rattle.xray_program.proofs.SoakTexts.{number_pieces}
use Rattle.xray_program.proofs.summary.add_number.Goals as goal

pub returns : goal.returns
returns g c =
    subst (λ t. AddsText g.S.Sink.written g.S.Sink.faults g.S.Sink.along c.args.text.now c.pieces.new.self t c.pieces.result)
    (number_pieces c.args.number _ c.from.ensures) c.pieces.ensures.adds
