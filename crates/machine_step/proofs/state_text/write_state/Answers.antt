use Rattle.std.proofs.Common.{rules}
use Rattle.xray_io.specs.Text.{writes_all, writes_failed}
use Rattle.machine_step.proofs.state_text.write_state.Goals as goal

pub returns-in_err-add_state : goal.returns-in_err-add_state
returns-in_err-add_state g c =
    let failed =
    writes_failed {along = g.S.Sink.along} c.args.sink.now c.new-text.result c.add_state.new.text c.new-text.ensures.sink c.new-text.ensures.waits
    c.in_err-add_state.ensures c.from_residual.result c.from_residual.ensures.1 in
    search rules

pub returns : goal.returns
returns g c =
    let writes =
    writes_all {along = g.S.Sink.along} g.met.S.Sink.along_both c.args.sink.now _ c.new-text.result c.add_state.new.text c.new-text.ensures.sink c.new-text.ensures.waits
    c.in_ok-add_state.ensures c.done.ensures.writes in
    search rules
