use Rattle.std.proofs.Common.{◌∙◌, ap, subst}
use Rattle.std.specs.Prelude.{sum_by}
use Rattle.account_report.specs.declared.row.AccountRow.{AccountRow}
use Rattle.xray_io.specs.Text.{AddsText}
use Rattle.xray_program.proofs.SoakTexts.{trace_pieces}
use Rattle.xray_program.proofs.summary.add_trace.Goals as goal

pub returns : goal.returns
returns g c =
    let back = c.args.back.now in
    let pairs = c.pairs.ensures ∙ ap (sum_by (λ (row : AccountRow). row.count)) c.deref.ensures.value in
    let entries = c.entries.ensures ∙ ap (sum_by (λ (row : AccountRow). row.entries)) c.deref-2.ensures.value in
    let exits = c.exits.ensures ∙ ap (sum_by (λ (row : AccountRow). row.exits)) c.deref-3.ensures.value in
    subst (λ t. AddsText g.S.Sink.written g.S.Sink.faults g.S.Sink.along c.args.text.now c.pieces.new.self t c.pieces.result)
    (trace_pieces back.bytes back.rows.items _ _ _ _ c.from.ensures pairs entries exits) c.pieces.ensures.adds
