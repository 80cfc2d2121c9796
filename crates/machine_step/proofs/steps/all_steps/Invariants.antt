use Rattle.std.proofs.Common.{◌≡◌, ◌≤◌, ◌+◌, vec_len, vec_capacity}
use Rattle.machine_step.proofs.Accepted.{HoldsSteps}
use Rattle.machine_step.proofs.steps.all_steps.Given as goal

abbrev pub invariant-loop-place : goal.invariant-loop-place
invariant-loop-place l = record {
  count : vec_len l.all ≡ l.place;
  room : l.count + 1 ≤ vec_capacity l.all;
  holds : HoldsSteps l.image l.all.items;
}
