use Rattle.std.proofs.Common.{◌≡◌, ◌∙◌, List, [], None, ap, subst}
use Rattle.account_report.specs.declared.text.AccountLayout.{AccountLayout}
use Rattle.call_rows.specs.CallText.{call_list_text}
use Rattle.call_rows.specs.declared.row.CallRow.{CallRow}
use Rattle.fdr_file.specs.declared.trace.Trace.{Trace}
use Rattle.function_names.specs.Name.{naming}
use Rattle.map_names.specs.Naming.{Naming}
use Rattle.xray_io.specs.World.{desk_view, sink_view}
use Rattle.xray_program.specs.Account.{format_of}
use Rattle.xray_program.specs.Calls.{calls_report}
use Rattle.xray_program.specs.Outcomes.{Done}
use Rattle.xray_program.specs.private.Meant.{CallsMean}
use Rattle.xray_program.specs.private.NamesTaken.{named_by}
use Rattle.xray_program.proofs.WorkEndings.{finishes}
use Rattle.xray_program.proofs.calls.CallsWork.finish.Goals as goal

pub returns-clause-finishes : goal.returns-clause-finishes
returns-clause-finishes g c =
    let seen = desk_view g.D.Desk.held g.D.Desk.read_faults g.D.Desk.write_faults in
    let got = sink_view g.O.Sink.written g.O.Sink.faults in
    let options = c.args.self.now.options in
    let inputs = c.args.inputs.now in
    let shown = naming c.as_names.result in
    let names = named_by inputs.names in
    let text = call_list_text c.format_of.result shown c.deref.result.now in
    let same : (trace : Trace) → CallsMean options inputs.log trace → text ≡ calls_report options trace names =
    λ trace means.
    ap (λ (format : AccountLayout). call_list_text format shown c.deref.result.now) c.format_of.ensures
    ∙ (ap (λ (given : Naming). call_list_text (format_of options.format) given c.deref.result.now) c.as_names.ensures
    ∙ ap (λ (rows : List CallRow). call_list_text (format_of options.format) names rows) (c.deref.ensures.value ∙ means)) in
    finishes _ [] text None
    (seen c.args.desk.now) (seen c.deliver.new.desk) (got c.args.out.now) (got c.deliver.new.out) (g.D.Desk.along c.args.desk.now c.deliver.new.desk) c.deliver.result
    (λ read says. subst (λ given. Done [] text ≡ Done [] (calls_report options read.0 given)) says.1 (ap (Done []) (same read.0 says.0))) c.deliver.ensures.delivers
