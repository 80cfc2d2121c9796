use Rattle.std.proofs.Common.{◌≡◌, ◌∙◌, ℕ, List, [], None, ap, subst}
use Rattle.account_report.specs.Account.{account_of}
use Rattle.account_report.specs.AccountText.{account_text}
use Rattle.account_report.specs.Ordered.{arranged}
use Rattle.account_report.specs.declared.row.AccountRow.{AccountRow}
use Rattle.account_report.specs.declared.text.AccountLayout.{AccountLayout}
use Rattle.fdr_file.specs.declared.trace.Trace.{Trace}
use Rattle.function_names.specs.Name.{naming}
use Rattle.map_names.specs.Naming.{Naming}
use Rattle.xray_io.specs.World.{desk_view, sink_view}
use Rattle.xray_program.specs.Account.{account_report, format_of, is_descending, key_of}
use Rattle.xray_program.specs.Outcomes.{Done}
use Rattle.xray_program.specs.private.Meant.{AccountMeans}
use Rattle.xray_program.specs.private.NamesTaken.{named_by}
use Rattle.xray_program.proofs.WorkEndings.{finishes}
use Rattle.xray_program.proofs.account.AccountWork.finish.Goals as goal

pub returns-clause-finishes : goal.returns-clause-finishes
returns-clause-finishes g c =
    let seen = desk_view g.D.Desk.held g.D.Desk.read_faults g.D.Desk.write_faults in
    let got = sink_view g.O.Sink.written g.O.Sink.faults in
    let options = c.args.self.now.options in
    let inputs = c.args.inputs.now in
    let shown = naming c.as_names.result in
    let names = named_by inputs.names in
    let number = inputs.log.latencies in
    let text = account_text c.format_of.result number shown c.deref.result.now in
    let same : (trace : Trace) → AccountMeans options inputs.log trace → text ≡ account_report options trace names =
    λ trace means.
    ap (λ (format : AccountLayout). account_text format number shown c.deref.result.now) c.format_of.ensures
    ∙ (ap (λ (given : Naming). account_text (format_of options.format) number given c.deref.result.now) c.as_names.ensures
    ∙ (ap (λ (rows : List AccountRow). account_text (format_of options.format) number names rows) (c.deref.ensures.value ∙ means.rows)
    ∙ ap (λ (n : ℕ). account_text (format_of options.format) n names (arranged (key_of options.sort) (is_descending options.order) options.top (account_of trace.blocks))) means.latencies)) in
    finishes _ [] text None
    (seen c.args.desk.now) (seen c.deliver.new.desk) (got c.args.out.now) (got c.deliver.new.out) (g.D.Desk.along c.args.desk.now c.deliver.new.desk) c.deliver.result
    (λ read says. subst (λ given. Done [] text ≡ Done [] (account_report options read.0 given)) says.1 (ap (Done []) (same read.0 says.0))) c.deliver.ensures.delivers
