use Rattle.std.proofs.Common.{sym, ◌∙◌}
use Rattle.runtime_log.proofs.Stretches.{recorder_says, walk_says}
use Rattle.runtime_log.proofs.blocks.RecorderEvents.stretch.Goals as goal

pub returns-clause-gives : goal.returns-clause-gives
returns-clause-gives c =
    let old = c.args.self.now in
    let at = c.is_at.ensures c.if-not-is_at.false in (
      old.walk.rest.now,
      recorder_says old.pending c.args.after.now c.in_ok-stretch.stretch old.walk.rest.now _ _ (sym c.is_some.ensures ∙ c.if-is_some.false)
          (walk_says c.args.after.now old.walk c.in_ok-stretch.walk c.in_ok-stretch.stretch at.0 at.1 at.2 at.3 at.4 c.in_ok-stretch.ensures.past),
    )
