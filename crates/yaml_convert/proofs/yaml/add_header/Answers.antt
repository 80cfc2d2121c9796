use Rattle.std.proofs.Common.{subst}
use Rattle.xray_io.specs.Text.{AddsText}
use Rattle.yaml_convert.proofs.YamlLines.{header_pieces}
use Rattle.yaml_convert.proofs.yaml.add_header.Goals as goal

pub returns : goal.returns
returns g c =
    let same = header_pieces c.args.header.now _ _ _ _ c.from.ensures c.truth.ensures c.truth-2.ensures c.from-2.ensures in
    subst (λ t. AddsText g.S.Sink.written g.S.Sink.faults g.S.Sink.along c.args.text.now c.pieces.new.self t c.pieces.result) same c.pieces.ensures.adds
