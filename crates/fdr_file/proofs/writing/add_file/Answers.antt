use Rattle.std.specs.List.{flat_map}
use Rattle.std.proofs.lemmas.Result.{on_ok_weaker}
use Rattle.xray_io.specs.Text.{adds_more, adds_stop, adds_failed}
use Rattle.fdr_file.specs.Files.{block_bytes}
use Rattle.fdr_file.proofs.WrittenIsGrammar.{file_is_trace}
use Rattle.fdr_file.proofs.writing.add_file.Goals as goal

pub returns-in_err-add_header-clause-adds : goal.returns-in_err-add_header-clause-adds
returns-in_err-add_header-clause-adds g c =
    adds_failed (adds_stop (flat_map block_bytes c.args.buffers.now) c.in_err-add_header.ensures.adds) c.from_residual.result c.from_residual.ensures.1

pub returns-clause-adds : goal.returns-clause-adds
returns-clause-adds g c = adds_more g.met.S.Sink.along_both c.in_ok-add_header.ensures.adds c.add_blocks.ensures.adds

pub returns-clause-trace : goal.returns-clause-trace
returns-clause-trace g c =
    on_ok_weaker c.add_blocks.result (file_is_trace c.args.header.now c.args.buffers.now c.add_header.ensures.fits) c.add_blocks.ensures.fit
