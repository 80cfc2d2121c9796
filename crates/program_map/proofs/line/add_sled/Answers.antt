use Rattle.std.proofs.Common.{subst}
use Rattle.xray_io.specs.Text.{AddsText}
use Rattle.program_map.proofs.MapLines.{pieces_line}
use Rattle.program_map.proofs.line.add_sled.Goals as goal

pub returns : goal.returns
returns g c =
    let same = pieces_line c.args.sled.now c.from-id.result c.from-version.result c.map_kind_word-kind.result.now c.map_truth_word-always.result.now c.args.name.now
    c.from-id.ensures c.from-version.ensures c.map_kind_word-kind.ensures c.map_truth_word-always.ensures in
    subst (λ t. AddsText g.S.Sink.written g.S.Sink.faults g.S.Sink.along c.args.to.now c.add_to.new.to t c.add_to.result) same c.add_to.ensures.adds
