use Rattle.std.proofs.Common.{◌≡◌, ◌∙◌, false, arith, count_by, nat_lt, sym}
use Rattle.std.proofs.lemmas.Bool.Decides.{nat_tests}
use Rattle.stack_rebuild.specs.private.Counts.{is_of}
use Rattle.stack_rebuild.proofs.InnermostCall.{from_innermost-none}
use Rattle.stack_rebuild.proofs.open_calls.OpenCalls.end_call.Goals as goal

pub returns-then-not-branch : goal.returns-then-not-branch
returns-then-not-branch c =
    let few : nat_lt 0 (count_by (is_of c.args.func) c.args.self.now) ≡ false = sym c.in_ok-has_open.ensures.found ∙ c.if-not-branch.true in
    let none : count_by (is_of c.args.func) c.args.self.now ≡ 0 = grind (arith, nat_tests) in
    (from_innermost-none c.args.func c.args.self.now none, c.has_open.ensures.same)
