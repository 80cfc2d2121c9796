use Rattle.std.proofs.Common.{All, Ok, take}
use Rattle.std.specs.List.{flat_map}
use Rattle.xray_io.specs.Text.{AddsText}
use Rattle.fdr_file.specs.Files.{BlockFits, block_bytes}
use Rattle.fdr_file.proofs.writing.add_blocks.Given as goal

abbrev pub invariant-loop-buffer : goal.invariant-loop-buffer
invariant-loop-buffer g l = record {
  fit : All BlockFits (take l.buffer-index l.buffers);
  adds : AddsText g.S.Sink.written g.S.Sink.faults g.S.Sink.along l.fn.text l.text (flat_map block_bytes (take l.buffer-index l.buffers)) (Ok tt);
}
