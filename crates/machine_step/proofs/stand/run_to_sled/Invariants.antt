use Rattle.std.proofs.Common.{◌+◌, length}
use Rattle.machine_step.specs.private.Machine.{IsWithin}
use Rattle.machine_step.proofs.MachineRuns.{measure}
use Rattle.machine_step.proofs.WayToSled.{OnWay}
use Rattle.machine_step.proofs.stand.run_to_sled.Given as goal

abbrev pub invariant-steps : goal.invariant-steps
invariant-steps l = record {
  way : OnWay l.steps l.limits l.start l.fn.machine l.place l.machine;
  within : IsWithin l.limits l.machine;
}

abbrev pub decreases-steps : goal.decreases-steps
decreases-steps l = measure l.limits (length l.steps.units + 1) l.place l.machine
