use Rattle.std.proofs.Common.{◌≤◌, sym, ap, ◌∙◌, arith, length}
use Rattle.std.specs.Prelude.{Ok}
use Rattle.std.specs.Str.Lines.{lines}
use Rattle.std.proofs.lemmas.Grind.{common_steps}
use Rattle.text_lines.specs.Lines.{numbered_lines}
use Rattle.step_sim.specs.private.Readings.{listed, read_on}
use Rattle.step_sim.proofs.ScheduleFaults.{line_read, schedule_begins}
use Rattle.step_sim.proofs.schedule.read_schedule.Goals as goal

pub loop-line-init : goal.loop-line-init
loop-line-init c =
    let few : length (lines c.args.text.now) ≤ 1048576 = grind arith in
    record {
      left = schedule_begins c.args.threads c.args.text.now few
          ∙ ap (λ turns. read_on c.args.threads turns (numbered_lines c.args.text.now)) (sym c.in_ok-lines.ensures.items)
          ∙ ap (read_on c.args.threads c.in_ok-lines.lines.items) (sym (c.into_iter-line-iterator.ensures.into_iter_gives ∙ c.with_few_lines-line-items.ensures.lines));
      within = grind (arith, common_steps);
    }

pub loop-line-preserved-in-Continue-branch-4 : goal.loop-line-preserved-in-Continue-branch-4
loop-line-preserved-in-Continue-branch-4 c = record {
  left = c.loop-line.invariant.left ∙ ap (read_on c.args.threads c.loop-line.lines.items) c.in-Some.ensures.steps
      ∙ line_read c.args.threads c.loop-line.lines.items c.in-Some-2.turns (c.in-Some.line.number, c.in-Some.line.bytes.now) c.next.new.self
      (sym (ap (λ turns. listed (Ok turns)) c.in-Some-2.is) ∙ c.in_ok-turns.ensures.reads)
      ∙ ap (λ ts. read_on c.args.threads ts c.next.new.self) (sym c.in_ok-push.ensures.items);
  within = grind (arith, common_steps);
}
