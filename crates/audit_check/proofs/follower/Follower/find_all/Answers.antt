use Rattle.std.proofs.Common.{arith}
use Rattle.std.proofs.lemmas.Option.{slice_get-get_or}
use Rattle.audit_check.proofs.AllSearches.{counted_next}
use Rattle.audit_check.proofs.FollowerGuesses.{same_then}
use Rattle.audit_check.proofs.follower.Follower.find_all.Goals as goal

pub loop-i-preserved : goal.loop-i-preserved
loop-i-preserved c =
    let kept = c.loop-i.invariant in
    let stop = c.in_ok-stop.stop in
    record {
      same = same_then c.args.self.now c.loop-i.self c.find.new.self kept.same c.find.ensures.same;
      few = omega (arith, kept.few, c.in_ok-stop.ensures.few);
      counted = counted_next c.args.self.now c.args.sought.now c.args.sled c.args.from c.args.bound c.loop-i.self c.loop-i.i c.loop-i.found.place
          c.loop-i.found.loads _ stop kept.same (slice_get-get_or c.args.sought.now c.loop-i.i _ c.loop-i-test.true) c.in_ok-stop.ensures.found kept.counted;
    }
