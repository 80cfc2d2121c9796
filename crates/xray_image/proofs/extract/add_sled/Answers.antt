use Rattle.std.proofs.Common.{subst}
use Rattle.xray_io.specs.Text.{AddsText}
use Rattle.xray_image.proofs.ExtractText.{pieces_line}
use Rattle.xray_image.proofs.extract.add_sled.Goals as goal

pub returns : goal.returns
returns g c =
    let same = pieces_line c.args.image.now c.args.sled.now _ _ _ _ c.from-id.ensures c.kind_bytes.ensures c.truth_bytes.ensures c.name_bytes-name.ensures in
    subst (λ t. AddsText g.S.Sink.written g.S.Sink.faults g.S.Sink.along c.args.text.now c.pieces.new.self t c.pieces.result) same c.pieces.ensures.adds
