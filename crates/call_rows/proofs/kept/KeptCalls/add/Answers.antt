use Rattle.std.proofs.Common.{refl}
use Rattle.std.proofs.lemmas.Result.{on_ok_weaker}
use Rattle.call_rows.proofs.KeptSteps.{kept_more}
use Rattle.call_rows.proofs.kept.KeptCalls.add.Goals as goal

pub returns-clause-added : goal.returns-clause-added
returns-clause-added c =
    on_ok_weaker c.add_wanted.result
    (λ collects blocks last keeps.
    kept_more c.args.self.now _ blocks last c.args.event.now c.in_ok-row.row refl refl refl c.in_ok-row.ensures.row c.in_ok-row.ensures.end c.in_ok-row.ensures.follows collects
    keeps) c.add_wanted.ensures.added
