use Rattle.audit_check.proofs.NextSearches.{next_held, next_none, next_sought}
use Rattle.audit_check.proofs.follower.Follower.next_found.Goals as goal

pub returns-in_err-place-clause-found : goal.returns-in_err-place-clause-found
returns-in_err-place-clause-found c =
    next_none c.args.self.now c.args.sled c.args.mark c.args.bound c.from_residual.result c.in_err-place.was c.from_residual.ensures

pub returns-in_err-from-clause-found : goal.returns-in_err-from-clause-found
returns-in_err-from-clause-found c =
    next_held c.args.self.now c.args.sled c.args.mark c.in_ok-place.place c.args.bound c.released.result (c.released.ensures.free, c.released.ensures.held)
    c.from_residual-in_err-from.result c.in_ok-place.was c.in_err-from.was c.from_residual-in_err-from.ensures

pub returns-clause-found : goal.returns-clause-found
returns-clause-found c =
    next_sought c.args.self.now c.args.sled c.args.mark c.in_ok-place.place c.args.bound c.released.result (c.released.ensures.free, c.released.ensures.held)
    c.released.new.self c.sled.result c.sought_for-sought.result.now c.in_ok-from.from c.released.ensures.same c.in_ok-place.was c.in_ok-from.was
    c.sled.ensures c.sought_for-sought.ensures.searches c.find_all.result c.find_all.ensures.found
