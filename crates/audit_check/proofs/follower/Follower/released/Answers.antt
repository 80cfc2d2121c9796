use Rattle.std.proofs.Common.{◌≡◌, false, sym, true, ◌∙◌}
use Rattle.audit_check.proofs.FollowerGuesses.{held_here, is_another, is_that, not_held}
use Rattle.audit_check.proofs.follower.Follower.released.Goals as goal

pub returns-then-eq-clause-free : goal.returns-then-eq-clause-free
returns-then-eq-clause-free c = λ free.
    let f = c.args.self.now in
    let held = held_here f.hold f.passing (is_that f.hold f.passing (sym c.eq.ensures ∙ c.if-eq.true)) in
    absurd (let q : true ≡ false = sym held ∙ free in cc)

pub returns-else-eq-clause-held : goal.returns-else-eq-clause-held
returns-else-eq-clause-held c = λ held.
    let f = c.args.self.now in
    let free = not_held f.hold f.passing (is_another f.hold f.passing (sym c.eq.ensures ∙ c.if-eq.false)) in
    absurd (let q : true ≡ false = sym held ∙ free in cc)
