use Rattle.std.proofs.Common.{◌+◌, length}
use Rattle.machine_step.specs.private.Machine.{state_at, IsWithin}
use Rattle.machine_step.proofs.MachineRuns.{Stands, measure}
use Rattle.machine_step.proofs.running.run.Given as goal

abbrev pub invariant-steps : goal.invariant-steps
invariant-steps l = record {
  stands : Stands l.steps l.limits (state_at l.steps.entry l.fn.machine) l.place l.machine;
  within : IsWithin l.limits l.machine;
}

abbrev pub decreases-steps : goal.decreases-steps
decreases-steps l = measure l.limits (length l.steps.units + 1) l.place l.machine
