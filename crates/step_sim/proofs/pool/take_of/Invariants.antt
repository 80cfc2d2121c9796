use Rattle.std.proofs.Common.{◌≡◌, ◌≢◌, ℕ, ◌+◌, ◌-◌, ◌≤◌, ◌++◌, drop, vec_len}
use Rattle.std.specs.Prelude.{filter, vec_capacity}
use Rattle.step_sim.specs.private.Counts.{is_of}
use Rattle.step_sim.proofs.pool.take_of.Given as goal

abbrev pub invariant-loop-place : goal.invariant-loop-place
invariant-loop-place l = record {
  kept : l.kept.items ++ filter (is_of l.thread) (drop l.place l.rest.items) ≡ l.initial.kept.items ++ filter (is_of l.thread) l.initial.rest.items;
  others : (other : ℕ) → other ≢ l.thread → filter (is_of other) l.rest.items ≡ filter (is_of other) l.initial.rest.items;
  len : vec_len l.kept + vec_len l.rest ≡ vec_len l.initial.kept + vec_len l.initial.rest;
  capacity : vec_capacity l.kept ≡ vec_capacity l.initial.kept;
  within : l.place ≤ vec_len l.rest;
}

abbrev pub decreases-loop-place : goal.decreases-loop-place
decreases-loop-place l = vec_len l.rest - l.place
