use Rattle.std.proofs.Common.{◌≡◌, ◌-◌, length}
use Rattle.audit_check.specs.private.Judging.{ArePassed}
use Rattle.audit_check.proofs.follower.Follower.pass_awaits.Given as goal

-- the awaits that were passed don't bound the passing
abbrev pub invariant-awaits : goal.invariant-awaits
invariant-awaits l =
    (l.self ≡ record l.initial.self { awaits = l.self.awaits })
    × (ArePassed l.initial.self l.initial.self.passing l.initial.self.awaits → ArePassed l.self l.initial.self.passing l.self.awaits)

abbrev pub decreases-awaits : goal.decreases-awaits
decreases-awaits l = length l.self.course.now.awaits.items - l.self.awaits
