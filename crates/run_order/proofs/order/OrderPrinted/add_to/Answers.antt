use Rattle.std.proofs.Common.{◌∙◌, ℕ, List, ap, subst}
use Rattle.xray_io.specs.Text.{AddsText}
use Rattle.step_sim.specs.WrittenSchedules.{schedule_text}
use Rattle.run_order.proofs.LineTexts.{lines_text}
use Rattle.run_order.proofs.order.OrderPrinted.add_to.Goals as goal

pub returns : goal.returns
returns g c = record {
  adds =
      subst (λ (bytes : List ℕ). AddsText g.S.Sink.written g.S.Sink.faults g.S.Sink.along c.args.to.now c.add_lines.new.to bytes c.add_lines.result)
      (lines_text c.deref.result.now ∙ ap schedule_text (c.deref.ensures.value ∙ c.self.view_is)) c.add_lines.ensures;
}
