use Rattle.std.proofs.Common.{ℕ, Option, Some, None, refl, ◌≡◌}
use Rattle.audit_check.proofs.NextSearches.{adds_held, adds_sought}
use Rattle.audit_check.proofs.follower.Follower.add_next.Goals as goal

none_is : (o : Option ℕ) → ((x : ℕ) → o ≡ Some x → ⊥) → o ≡ None
none_is None never = refl
none_is (Some x) never = absurd (never x refl)

pub returns-in_default-released-clause-added : goal.returns-in_default-released-clause-added
returns-in_default-released-clause-added c =
    adds_held c.args.self.now c.args.sled c.args.mark c.in-Some.place c.args.bound c.released.result (c.released.ensures.free, c.released.ensures.held)
    c.args.loads.now c.in-Some.is (none_is c.released.result c.in_default-released.not-Some)

pub returns-clause-added : goal.returns-clause-added
returns-clause-added c =
    adds_sought c.args.self.now c.args.sled c.args.mark c.in-Some.place c.args.bound c.released.result (c.released.ensures.free, c.released.ensures.held)
    c.released.new.self c.sled.result c.sought_for-sought.result.now c.in-Some-released.from c.released.ensures.same c.in-Some.is c.in-Some-released.is
    c.sled.ensures c.sought_for-sought.ensures.searches c.args.loads.now c.add_all.new.loads c.in_ok-add_all.ensures.added
