use Rattle.std.proofs.Common.{rules}
use Rattle.xray_io.specs.Text.{writes_all, writes_failed}
use Rattle.fdr_file.proofs.writing.write_file.Goals as goal

pub returns-in_err-add_file-clause-writes : goal.returns-in_err-add_file-clause-writes
returns-in_err-add_file-clause-writes g c =
    let failed =
    writes_failed {along = g.S.Sink.along} c.args.sink.now c.new-text.result c.add_file.new.text c.new-text.ensures.sink c.new-text.ensures.waits
    c.in_err-add_file.ensures.adds c.from_residual.result c.from_residual.ensures.1 in
    search rules

pub returns-clause-writes : goal.returns-clause-writes
returns-clause-writes g c =
    let writes =
    writes_all {along = g.S.Sink.along} g.met.S.Sink.along_both c.args.sink.now _ c.new-text.result c.add_file.new.text c.new-text.ensures.sink c.new-text.ensures.waits
    c.in_ok-add_file.ensures.adds c.done.ensures.writes in
    search rules
