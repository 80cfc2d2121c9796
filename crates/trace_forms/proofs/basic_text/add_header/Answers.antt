use Rattle.std.proofs.Common.{subst}
use Rattle.xray_io.specs.Text.{AddsText}
use Rattle.trace_forms.proofs.Pieces.{header_pieces}
use Rattle.trace_forms.proofs.basic_text.add_header.Goals as goal

pub returns : goal.returns
returns g c =
    let same = header_pieces c.args.header.now _ _ _ _ c.to_le_bytes-version.ensures c.to_le_bytes-form.ensures c.to_le_bytes-flags.ensures c.to_le_bytes-frequency.ensures in
    subst (λ t. AddsText g.S.Sink.written g.S.Sink.faults g.S.Sink.along c.args.text.now c.pieces.new.self t c.pieces.result) same c.pieces.ensures.adds
