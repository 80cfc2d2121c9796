use Rattle.std.proofs.Common.{refl, subst}
use Rattle.xray_io.specs.Text.{AddsText}
use Rattle.fdr_file.proofs.FileBytes.{block_parts}
use Rattle.fdr_file.proofs.writing.add_block.Goals as goal

pub returns-clause-adds : goal.returns-clause-adds
returns-clause-adds g c =
    let same = block_parts c.args.buffer.now _ _ _ c.bytes-bytes.ensures.bytes refl c.extents-extents.ensures in
    subst (λ t. AddsText g.S.Sink.written g.S.Sink.faults g.S.Sink.along c.args.text.now c.pieces.new.self t c.pieces.result) same c.pieces.ensures.adds
