use Rattle.std.proofs.Common.{Option, subst, sym, ◌∙◌}
use Rattle.audit_check.specs.declared.follower.Found.{Found}
use Rattle.audit_check.specs.private.Searches.{FindsNext}
use Rattle.audit_check.proofs.NextSearches.{adds_here}
use Rattle.audit_check.proofs.FollowerGuesses.{is_that}
use Rattle.audit_check.proofs.follower.Follower.add_loads.Goals as goal

pub returns-then-eq-clause-added : goal.returns-then-eq-clause-added
returns-then-eq-clause-added c = λ next.
    let f = c.args.self.now in
    adds_here f c.args.sled c.args.mark c.args.bound c.in-Some.here c.args.loads.now c.add.new.self
    (is_that f.place c.in-Some.here.place (sym c.eq.ensures ∙ c.if-eq.true)) c.in_ok-add.ensures
    (subst (λ (o : Option Found). FindsNext f c.args.sled c.args.mark c.args.bound o) c.in-Some.is next)
