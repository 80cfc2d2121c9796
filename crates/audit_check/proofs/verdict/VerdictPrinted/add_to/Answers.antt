use Rattle.std.proofs.Common.{subst, sym}
use Rattle.xray_io.specs.Text.{AddsText}
use Rattle.audit_check.specs.declared.verdict.Verdict.{Verdict}
use Rattle.audit_check.specs.Texts.{verdict_text}
use Rattle.audit_check.proofs.verdict.VerdictPrinted.add_to.Goals as goal

pub returns-in-Recycled : goal.returns-in-Recycled
returns-in-Recycled g c = record {
  adds =
      let added = c.bytes-in-Recycled in
      subst (λ (v : Verdict). AddsText g.S.Sink.written g.S.Sink.faults g.S.Sink.along c.args.to.now added.new.self (verdict_text v) added.result)
      (sym c.in-Recycled.is) added.ensures.adds;
}
