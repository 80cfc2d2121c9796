-- The passings of a plain run fit the records of events.
use Rattle.std.proofs.Common.{ℕ, ◌+◌, ◌*◌, ◌/◌, ◌<◌, ◌^◌, List, arith}
use Rattle.std.specs.Prelude.{All}
use Rattle.std.proofs.lemmas.Nat.{mod_below}
use Rattle.xray_image.specs.Program.{IsAccepted, Program}
use Rattle.machine_step.specs.declared.limits.Limits.{Limits}
use Rattle.machine_step.specs.declared.end.End.{End}
use Rattle.machine_step.specs.PlainStep.{Passing, PlainRun, State}
use Rattle.machine_step.specs.Setups.{AreLimits}
use Rattle.machine_step.proofs.EachPassing.{OfEach, steps_each}
use Rattle.traced_run.specs.Fits.{PassingFits}
use Rattle.traced_run.proofs.SmallArguments.{run_arguments}
use Rattle.traced_run.proofs.SmallIds.{small_id}

-- ---- ids and stamps

pub run_ids : (bytes : List ℕ) (program : Program) (limits : Limits) (thread : ℕ) (passed : List Passing) (end : End) (last : State)
    → IsAccepted bytes program → PlainRun program limits thread passed end last → All (λ p. p.id < 2 ^ 28) passed
run_ids bytes program limits thread passed end last accepted (n, run) =
    steps_each (λ p. p.id < 2 ^ 28) program limits thread n _ passed end last (λ s k sled found. small_id bytes program k sled accepted found) run

-- all of a passing that any state before it lets fit
record StampFits (p : Passing) : Type 0 where
  cpu : p.cpu < 2 ^ 16
  id : p.id < 2 ^ 28
  counter : p.counter < 2 ^ 64

pub run_fits : (bytes : List ℕ) (program : Program) (limits : Limits) (thread : ℕ) (passed : List Passing) (end : End) (last : State)
    → IsAccepted bytes program → AreLimits limits → thread < 2 ^ 64 → PlainRun program limits thread passed end last → All PassingFits passed
run_fits bytes program limits thread passed end last accepted its few (n, run) =
    let stamps = steps_each StampFits program limits thread n _ passed end last each run in
    let arguments = run_arguments bytes program accepted limits thread passed end last few (n, run) in
    λ k d below.
    let stamp = stamps k d below in
    record { cpu = stamp.cpu; id = stamp.id; counter = stamp.counter; argument = arguments k d below }
  where
    each : OfEach StampFits program limits thread
    each s k sled found = record {
      cpu =
          let below = mod_below (thread + s.passings / limits.migrate) limits.cpus its.some_cpu in
          omega (arith, below, its.few_cpus);
      id = small_id bytes program k sled accepted found;
      counter = mod_below (limits.tsc + limits.tick * s.instructions) (2 ^ 64) (omega arith);
    }
