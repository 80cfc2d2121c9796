use Rattle.std.proofs.Common.{◌≡◌, ℕ, ◌+◌, ◌<◌, ◌≤◌, ◌++◌, vec_len}
use Rattle.std.specs.Prelude.{filter, vec_capacity}
use Rattle.std.specs.List.{flat_map}
use Rattle.step_sim.specs.Recorded.{numbers_from}
use Rattle.step_sim.specs.private.Counts.{is_of}
use Rattle.step_sim.proofs.pool.Pool.collect.Given as goal

abbrev pub invariant-loop-before : goal.invariant-loop-before
invariant-loop-before l = record {
  room : vec_len l.kept + (vec_len l.rest + vec_len l.hands) ≤ vec_capacity l.kept;
  gathered : l.kept.items ≡ flat_map (λ t. filter (is_of t) l.initial.rest.items ++ filter (is_of t) l.initial.hands.items) (numbers_from 1 l.before);
  rest : (t : ℕ) → l.before < t → filter (is_of t) l.rest.items ≡ filter (is_of t) l.initial.rest.items;
  hands : (t : ℕ) → l.before < t → filter (is_of t) l.hands.items ≡ filter (is_of t) l.initial.hands.items;
}
