use Rattle.std.proofs.Common.{refl, get_or}
use Rattle.xray_io.specs.Text.{adds_nothing}
use Rattle.map_names.specs.Spelling.{single_byte}
use Rattle.program_map.proofs.ItemTexts.{adds_broken, adds_next}
use Rattle.program_map.proofs.line.add_doubled.Goals as goal

pub loop-byte-init : goal.loop-byte-init
loop-byte-init g c = adds_nothing g.met.S.Sink.along_none c.args.to.now

pub loop-byte-preserved : goal.loop-byte-preserved
loop-byte-preserved g c =
    adds_next g.met.S.Sink.along_both single_byte c.args.name.now c.loop-byte.byte-index 0 (get_or c.args.name.now c.loop-byte.byte-index 0) c.loop-byte-test.true refl
    c.loop-byte.invariant c.in_ok-add_byte.ensures

pub returns-in_err-add_byte : goal.returns-in_err-add_byte
returns-in_err-add_byte g c =
    adds_broken g.met.S.Sink.along_both single_byte c.args.name.now c.loop-byte.byte-index 0 (get_or c.args.name.now c.loop-byte.byte-index 0) c.loop-byte-test.true refl
    c.loop-byte.invariant c.in_err-add_byte.ensures c.from_residual.result c.from_residual.ensures.1
