use Rattle.std.proofs.Common.{ℕ, List, [], None, refl, subst}
use Rattle.audit_check.specs.Statements.{AuditStatement}
use Rattle.audit_check.specs.Texts.{verdict_text}
use Rattle.audit_check.specs.Verdicts.{IsJudged}
use Rattle.patch_script.specs.Refusals.{commands_of}
use Rattle.xray_io.specs.World.{desk_view, sink_view}
use Rattle.command_words.specs.Words as words
use Rattle.xray_program.specs.Commands.{doing_of}
use Rattle.xray_program.proofs.WorkEndings.{finishes_with}
use Rattle.xray_program.proofs.check.CheckWork.finish.Goals as goal

pub returns-clause-finishes : goal.returns-clause-finishes
returns-clause-finishes g c =
    let seen = desk_view g.D.Desk.held g.D.Desk.read_faults g.D.Desk.write_faults in
    let got = sink_view g.O.Sink.written g.O.Sink.faults in
    let s = c.args.self.now in
    let inputs = c.args.inputs.now in
    let verdict = c.in_ok-verdict.verdict in
    let stated = subst (λ (s : AuditStatement). IsJudged inputs.image (commands_of inputs.script.lines) s c.bytes-trace.result.now verdict)
    c.audit-audit.ensures c.in_ok-verdict.ensures in
    let judged : IsJudged inputs.image (commands_of inputs.script.lines) inputs.audit inputs.trace verdict =
    subst (λ (t : List ℕ). IsJudged inputs.image (commands_of inputs.script.lines) inputs.audit t verdict) c.bytes-trace.ensures stated in
    finishes_with (doing_of (words.Check s.image.now s.script.now s.trace.now s.audit.now)).leaves (inputs.image, inputs.audit, inputs.script, inputs.trace) []
    (verdict_text verdict) None (seen c.args.desk.now)
    (seen c.deliver.new.desk) (got c.args.out.now) (got c.deliver.new.out) (g.D.Desk.along c.args.desk.now c.deliver.new.desk) c.deliver.result
    (verdict, judged, refl) c.deliver.ensures.delivers
