use Rattle.account_report.specs.private.Tallies.{durations_in}
use Rattle.account_report.proofs.LowIds.{changed_at, one_item}
use Rattle.account_report.proofs.tallies.add_first.Goals as goal

pub returns-clause-tallied : goal.returns-clause-tallied
returns-clause-tallied c = λ func.
    changed_at c.reach.new.first.items c.args.first.now.items c.args.event.now.func func c.args.event.now.kind (durations_in c.args.pair.now) c.index_mut.result.now c.add.new.self
    c.in_ok-reach.ensures.there c.in_ok-reach.ensures.same
    (one_item c.reach.new.first.items c.args.event.now.func c.index_mut.result.now c.in_ok-reach.ensures.there c.index_mut.ensures.value) c.in_ok-add.ensures
