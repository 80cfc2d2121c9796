use Rattle.std.proofs.lemmas.Result.{on_ok_weaker}
use Rattle.call_rows.proofs.kept.KeptCallsTaker.event.Goals as goal

pub returns-clause-took : goal.returns-clause-took
returns-clause-took c =
    on_ok_weaker c.add-answer.result
    (λ added blocks last keeps.
    let is = added blocks last keeps in record { thread = is.thread; pid = is.pid; follows = is.follows; collects = is.collects }) c.add-answer.ensures.added
