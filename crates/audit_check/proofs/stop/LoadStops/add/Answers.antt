use Rattle.audit_check.proofs.JoinedStops.{more_at_last}
use Rattle.audit_check.proofs.stop.LoadStops.add.Goals as goal

pub returns-then-joins : goal.returns-then-joins
returns-then-joins c = more_at_last c.args.self.now.earlier.items c.args.self.now.last c.args.stop (c.joins.ensures.same c.if-joins.true)
