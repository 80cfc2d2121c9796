use Rattle.std.proofs.Common.{refl}
use Rattle.std.proofs.lemmas.Result.{on_ok_weaker}
use Rattle.call_rows.proofs.FrameSteps.{spent_last}
use Rattle.call_rows.proofs.frames.spend.Goals as goal

pub returns-in-Some : goal.returns-in-Some
returns-in-Some c =
    on_ok_weaker c.spend.result
    (λ spent.
    spent_last c.args.frames.now.items c.args.frames.now.len c.args.duration c.in-Some.frame.now c.spend.new.self c.args.frames.now.ok.0
    (c.in-Some.ensures.variant.0 refl) c.in-Some.ensures.value spent) c.spend.ensures
