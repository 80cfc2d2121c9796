use Rattle.std.proofs.Common.{ℕ, List, [], ◌∷◌, None, Ok, Err, refl, ap, subst}
use Rattle.audit_check.specs.Statements.{AuditStatement, statement_of}
use Rattle.patch_script.specs.Plans.{Plan}
use Rattle.patch_script.specs.Refusals.{commands_of}
use Rattle.run_order.specs.Answers.{IsOrdered}
use Rattle.run_order.specs.FreeScripts.{free_text}
use Rattle.step_sim.specs.WrittenSchedules.{schedule_text}
use Rattle.xray_io.specs.World.{desk_view, sink_view}
use Rattle.command_words.specs.Words as words
use Rattle.xray_program.specs.Commands.{doing_of}
use Rattle.xray_program.specs.Outcomes.{Done}
use Rattle.xray_program.proofs.WorkEndings.{finishes_of, finishes_with}
use Rattle.xray_program.proofs.OrderEndings.{is_answer, is_refused, order_refuses}
use Rattle.xray_program.proofs.load_order.LoadOrderWork.finish.Goals as goal

pub returns-in-Ok-clause-finishes : goal.returns-in-Ok-clause-finishes
returns-in-Ok-clause-finishes g c =
    let seen = desk_view g.D.Desk.held g.D.Desk.read_faults g.D.Desk.write_faults in
    let got = sink_view g.O.Sink.written g.O.Sink.faults in
    let s = c.args.self.now in
    let inputs = c.args.inputs.now in
    let order = c.in-Ok.order in
    let text = c.text.result.now in
    let given = is_answer c.order_run.result order (IsOrdered inputs.image (commands_of c.script.result.now.lines) (statement_of c.audit-audit.result.now)) c.in-Ok.is c.order_run.ensures in
    let stated = subst (λ (st : AuditStatement). IsOrdered inputs.image (commands_of c.script.result.now.lines) st (Ok order)) c.audit-audit.ensures given in
    let ordered = subst (λ (plan : Plan). IsOrdered inputs.image (commands_of plan.lines) inputs.audit (Ok order)) c.script.ensures stated in
    finishes_with (doing_of (words.Order s.image.now s.script.now s.audit.now s.free.now s.schedule.now)).leaves (inputs.image, inputs.audit, inputs.script)
    ((s.free.now, free_text text) ∷ (s.schedule.now, schedule_text order) ∷ []) [] None (seen c.args.desk.now) (seen c.deliver.new.desk)
    (got c.args.out.now) (got c.deliver.new.out) (g.D.Desk.along c.args.desk.now c.deliver.new.desk) c.deliver.result
    (Ok order, ordered, ap (λ (t : List ℕ). Done ((s.free.now, free_text t) ∷ (s.schedule.now, schedule_text order) ∷ []) []) c.text.ensures)
    c.deliver.ensures.delivers

pub returns-in-Err-clause-finishes : goal.returns-in-Err-clause-finishes
returns-in-Err-clause-finishes g c =
    let seen = desk_view g.D.Desk.held g.D.Desk.read_faults g.D.Desk.write_faults in
    let got = sink_view g.O.Sink.written g.O.Sink.faults in
    let s = c.args.self.now in
    let inputs = c.args.inputs.now in
    finishes_of (doing_of (words.Order s.image.now s.script.now s.audit.now s.free.now s.schedule.now)).leaves (inputs.image, inputs.audit, inputs.script) (seen c.args.desk.now) (seen c.args.desk.now) (got c.args.out.now) (got c.args.out.now)
    (g.D.Desk.along c.args.desk.now c.args.desk.now) (Err c.fault_stop.result)
    (order_refuses s.audit.now s.free.now s.schedule.now inputs.image inputs.audit inputs.script (seen c.args.desk.now) (got c.args.out.now)
    (g.D.Desk.along c.args.desk.now c.args.desk.now) (record { calls = []; way = g.met.D.Desk.along_none c.args.desk.now; are = refl })
    c.in-Err.fault c.fault_stop.result
    (is_refused inputs.image inputs.script.plan c.script.result.now inputs.audit (statement_of c.audit-audit.result.now) c.order_run.result c.in-Err.fault c.script.ensures c.audit-audit.ensures
    c.in-Err.is c.order_run.ensures) c.fault_stop.ensures)
