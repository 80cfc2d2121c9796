use Rattle.std.proofs.Common.{refl}
use Rattle.command_words.specs.Reports.{ByIds, ByImage, ByMap}
use Rattle.command_words.specs.Views.{source_view}
use Rattle.map_names.specs.MapNames.{named}
use Rattle.xray_io.specs.World.{desk_view}
use Rattle.xray_program.specs.Commands.{takes_report}
use Rattle.xray_program.specs.Inputs.{map_form}
use Rattle.xray_program.specs.private.ReportTakes.{AreOfReport}
use Rattle.xray_program.proofs.KeptForms.{kept_stopped, kept_turn}
use Rattle.xray_program.proofs.TakenInputs.{at_first, given, passed, report_stopped, stopped, turn_as}
use Rattle.xray_program.proofs.report_inputs.take_report.Goals as goal

pub returns-in_err-log : goal.returns-in_err-log
returns-in_err-log g c =
    let desk = desk_view g.D.Desk.held g.D.Desk.read_faults g.D.Desk.write_faults in
    let form = g.K.StreamKind.form c.args.kind.now in
    let means = g.K.StreamKind.means c.args.kind.now in
    let both = g.met.D.Desk.along_both in
    let took = c.in_err-log.ensures in
    report_stopped desk both g.met.D.Desk.along_none form c.args.log.now (source_view c.args.names) (AreOfReport means) _ _ c.from_residual.ensures.1
    (record { taken = took.taken; calls = took.calls; held = took.held; later = took.later; writes = took.writes; calm = tt })

pub returns-in-Ids : goal.returns-in-Ids
returns-in-Ids g c =
    let desk = desk_view g.D.Desk.held g.D.Desk.read_faults g.D.Desk.write_faults in
    let form = g.K.StreamKind.form c.args.kind.now in
    let means = g.K.StreamKind.means c.args.kind.now in
    let both = g.met.D.Desk.along_both in
    let took = c.in_ok-log.ensures in
    let start = at_first desk g.met.D.Desk.along_none (takes_report form c.args.log.now ByIds) c.args.desk.now in
    let log = passed both _ _ _ _ start
    (turn_as form c.args.log.now took.taken.0 took.taken.2 took.held took.later took.writes took.calm took.calls) in
    rw c.in-Ids.is (given (AreOfReport means) _ _ log (took.taken.1, refl))

pub returns-in_err-image-in-Image : goal.returns-in_err-image-in-Image
returns-in_err-image-in-Image g c =
    let desk = desk_view g.D.Desk.held g.D.Desk.read_faults g.D.Desk.write_faults in
    let form = g.K.StreamKind.form c.args.kind.now in
    let means = g.K.StreamKind.means c.args.kind.now in
    let both = g.met.D.Desk.along_both in
    let took = c.in_ok-log.ensures in
    let start = at_first desk g.met.D.Desk.along_none (takes_report form c.args.log.now (ByImage c.in-Image.name.now)) c.args.desk.now in
    let log = passed both _ _ _ _ start
    (turn_as form c.args.log.now took.taken.0 took.taken.2 took.held took.later took.writes took.calm took.calls) in
    rw c.in-Image.is (stopped both _ _ _ (AreOfReport means) _ _ c.from_residual-in_err-image-in-Image.ensures.1 log c.in_err-image-in-Image.ensures.turn)

pub returns-in_ok-image-in-Image : goal.returns-in_ok-image-in-Image
returns-in_ok-image-in-Image g c =
    let desk = desk_view g.D.Desk.held g.D.Desk.read_faults g.D.Desk.write_faults in
    let form = g.K.StreamKind.form c.args.kind.now in
    let means = g.K.StreamKind.means c.args.kind.now in
    let both = g.met.D.Desk.along_both in
    let took = c.in_ok-log.ensures in
    let start = at_first desk g.met.D.Desk.along_none (takes_report form c.args.log.now (ByImage c.in-Image.name.now)) c.args.desk.now in
    let log = passed both _ _ _ _ start
    (turn_as form c.args.log.now took.taken.0 took.taken.2 took.held took.later took.writes took.calm took.calls) in
    let image = passed both _ _ _ _ log c.in_ok-image-in-Image.ensures.turn in
    rw c.in-Image.is (given (AreOfReport means) _ _ image (took.taken.1, refl))

pub returns-in_err-map-in-Map : goal.returns-in_err-map-in-Map
returns-in_err-map-in-Map g c =
    let desk = desk_view g.D.Desk.held g.D.Desk.read_faults g.D.Desk.write_faults in
    let form = g.K.StreamKind.form c.args.kind.now in
    let means = g.K.StreamKind.means c.args.kind.now in
    let both = g.met.D.Desk.along_both in
    let took = c.in_ok-log.ensures in
    let start = at_first desk g.met.D.Desk.along_none (takes_report form c.args.log.now (ByMap c.in-Map.name.now)) c.args.desk.now in
    let log = passed both _ _ _ _ start
    (turn_as form c.args.log.now took.taken.0 took.taken.2 took.held took.later took.writes took.calm took.calls) in
    rw c.in-Map.is (stopped both _ _ _ (AreOfReport means) _ _ c.from_residual-in_err-map-in-Map.ensures.1 log
    (kept_stopped map_form named c.in-Map.name.now _ _ _ c.in_err-map-in-Map.ensures.turn))

pub returns-in_ok-map-in-Map : goal.returns-in_ok-map-in-Map
returns-in_ok-map-in-Map g c =
    let desk = desk_view g.D.Desk.held g.D.Desk.read_faults g.D.Desk.write_faults in
    let form = g.K.StreamKind.form c.args.kind.now in
    let means = g.K.StreamKind.means c.args.kind.now in
    let both = g.met.D.Desk.along_both in
    let took = c.in_ok-log.ensures in
    let start = at_first desk g.met.D.Desk.along_none (takes_report form c.args.log.now (ByMap c.in-Map.name.now)) c.args.desk.now in
    let log = passed both _ _ _ _ start
    (turn_as form c.args.log.now took.taken.0 took.taken.2 took.held took.later took.writes took.calm took.calls) in
    let map = passed both _ _ _ _ log (kept_turn map_form named c.in-Map.name.now _ _ _ c.in_ok-map-in-Map.ensures.turn) in
    rw c.in-Map.is (given (AreOfReport means) _ _ map (took.taken.1, refl))
