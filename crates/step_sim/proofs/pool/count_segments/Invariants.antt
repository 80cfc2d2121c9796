use Rattle.std.proofs.Common.{◌≡◌, ◌<◌, ℕ, Some, length}
use Rattle.std.specs.Prelude.{slice_get, vec_capacity}
use Rattle.fdr_buffer.specs.Filled.{Filled}
use Rattle.step_sim.specs.private.Counts.{segments_held}
use Rattle.step_sim.proofs.pool.count_segments.Given as goal

abbrev pub invariant-loop-i : goal.invariant-loop-i
invariant-loop-i l = record {
  count : length l.segments.items ≡ l.i;
  each : (k : ℕ) (hand : Filled) (n : ℕ) → k < l.i → slice_get l.hands k ≡ Some hand → slice_get l.sealed k ≡ Some n
      → slice_get l.segments.items k ≡ Some (segments_held hand n);
  capacity : vec_capacity l.segments ≡ vec_capacity l.initial.segments;
}
