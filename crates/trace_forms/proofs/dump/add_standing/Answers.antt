use Rattle.std.proofs.Common.{Ok, Result, subst}
use Rattle.fdr_record.specs.declared.fault.RecFault.{RecFault}
use Rattle.fdr_record.specs.declared.rec.Rec.{Rec}
use Rattle.xray_io.specs.Text.{AddsText, adds_nothing}
use Rattle.trace_forms.specs.Dumps.{standing_line}
use Rattle.trace_forms.proofs.dump.add_standing.Goals as goal

pub returns-in-Ok : goal.returns-in-Ok
returns-in-Ok g c =
    subst (λ (found : Result Rec RecFault). AddsText g.S.Sink.written g.S.Sink.faults g.S.Sink.along c.args.text.now c.add_record.new.text
    (standing_line (c.args.at, found)) c.add_record.result) c.in-Ok.ensures c.add_record.ensures

pub returns-in-Err : goal.returns-in-Err
returns-in-Err g c =
    subst (λ (found : Result Rec RecFault). AddsText g.S.Sink.written g.S.Sink.faults g.S.Sink.along c.args.text.now c.args.text.now
    (standing_line (c.args.at, found)) (Ok tt)) c.in-Err.ensures (adds_nothing g.met.S.Sink.along_none c.args.text.now)
