use Rattle.std.proofs.Common.{◌∷◌, [], arith, ap, length, length-append, subst}
use Rattle.patch_script.specs.Plans.{Plan}
use Rattle.sled_rule.specs.Seats.{script_of}
use Rattle.thread_run.specs.Workers.{IsFreshThread}
use Rattle.thread_run.proofs.StartedWorkers.{one_more_fresh}
use Rattle.thread_run.proofs.recorded.new_cpus.Goals as goal

pub loop-number-preserved : goal.loop-number-preserved
loop-number-preserved c =
    let kept = c.loop-number.invariant in
    let made = c.in_ok-cpu.ensures in
    let old = c.loop-number.cpus.items in
    record {
      count = omega (arith, ap length c.in_ok-push.ensures.items, length-append old (c.in_ok-cpu.cpu ∷ []), kept.count);
      fresh = one_more_fresh (script_of c.args.table.now) c.args.limits old c.push.new.self.items c.in_ok-cpu.cpu c.loop-number.number kept.count kept.fresh
          (subst (λ (p : Plan). IsFreshThread p c.in_ok-cpu.cpu) c.script.ensures made.fresh) made.number made.limits c.in_ok-push.ensures.items;
    }
