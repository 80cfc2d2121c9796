use Rattle.std.proofs.Common.{◌≡◌, ◌≤◌, arith, length, refl, subst}
use Rattle.patch_script.specs.Refusals.{commands_of}
use Rattle.audit_check.proofs.NextSearches.{placed_first}
use Rattle.audit_check.proofs.FollowerSteps.{begins}
use Rattle.audit_check.proofs.follower.Follower.new.Goals as goal

pub returns-clause-judged : goal.returns-clause-judged
returns-clause-judged c = λ program threads image script_threads course.
    let heads : length c.in_ok-vec.field-0.items ≡ length c.args.image.now.sleds =
    omega (arith, c.in_ok-vec.ensures.len, c.in_ok-vec.field-0.ok.0, c.sled_count.ensures) in
    begins _ program threads (commands_of c.args.script.now.lines) image course heads c.requires.0
    (subst (λ n. c.args.thread ≤ n) script_threads c.requires.1) c.hold_of.ensures refl refl refl

pub returns-clause-placed : goal.returns-clause-placed
returns-clause-placed c = λ program threads course. placed_first program threads (commands_of c.args.script.now.lines) _ course refl
