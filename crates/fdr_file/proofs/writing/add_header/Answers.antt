use Rattle.std.proofs.Common.{ap, subst, ◌∙◌}
use Rattle.byteorder.specs.Endian.{little_bytes}
use Rattle.xray_io.specs.Text.{AddsText}
use Rattle.fdr_file.proofs.FileBytes.{header_parts}
use Rattle.fdr_file.proofs.writing.add_header.Goals as goal

pub returns-clause-adds : goal.returns-clause-adds
returns-clause-adds g c =
    let same = header_parts c.args.header.now _ _ _ _ _ c.to_le_bytes-version.ensures c.to_le_bytes-form.ensures (c.to_le_bytes-flags.ensures ∙ ap (little_bytes 4) c.flags.ensures) c.to_le_bytes-frequency.ensures c.to_le_bytes-size.ensures in
    subst (λ t. AddsText g.S.Sink.written g.S.Sink.faults g.S.Sink.along c.args.text.now c.pieces.new.self t c.pieces.result) same c.pieces.ensures.adds
