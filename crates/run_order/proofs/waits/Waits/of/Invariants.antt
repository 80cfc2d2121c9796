use Rattle.std.proofs.Common.{◌≡◌, ◌≤◌, ◌-◌, take}
use Rattle.patch_script.specs.Micros.{micros}
use Rattle.patch_script.specs.Refusals.{commands_of}
use Rattle.run_order.specs.private.Waits.{waits_from}
use Rattle.run_order.proofs.waits.Waits.of.Given as goal

-- the waits so far
abbrev pub invariant-steps : goal.invariant-steps
invariant-steps l = record {
  within : l.place ≤ l.total;
  waits : l.places.items ≡ waits_from l.image l.threads 0 (take l.place (micros l.image l.threads (commands_of l.script.lines)));
}

abbrev pub decreases-steps : goal.decreases-steps
decreases-steps l = l.total - l.place
