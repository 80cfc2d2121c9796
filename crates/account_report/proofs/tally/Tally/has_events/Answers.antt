use Rattle.std.proofs.Common.{◌≡◌, ◌∙◌, ◌||◌, Bool, true, false, ap, sym, arith, nat_lt}
use Rattle.std.proofs.lemmas.Bool.Decides.{nat_tests}
use Rattle.account_report.specs.private.Tallies.{has_events}
use Rattle.account_report.proofs.tally.Tally.has_events.Goals as goal

pub returns-then-self-gt0 : goal.returns-then-self-gt0
returns-then-self-gt0 c =
    let some : nat_lt 0 c.self.inside.entries ≡ true = grind (arith, nat_tests) in
    let told : has_events (record { durations = c.self.inside.durations.items; entries = c.self.inside.entries; exits = c.self.inside.exits }) ≡ true =
    ap (λ (b : Bool). b || nat_lt 0 c.self.inside.exits) some in
    some ∙ (sym told ∙ ap has_events c.self.view_is)

pub returns-else-self-gt0 : goal.returns-else-self-gt0
returns-else-self-gt0 c =
    let none : nat_lt 0 c.self.inside.entries ≡ false = grind (arith, nat_tests) in
    let told : has_events (record { durations = c.self.inside.durations.items; entries = c.self.inside.entries; exits = c.self.inside.exits }) ≡ nat_lt 0 c.self.inside.exits =
    ap (λ (b : Bool). b || nat_lt 0 c.self.inside.exits) none in
    sym told ∙ ap has_events c.self.view_is
