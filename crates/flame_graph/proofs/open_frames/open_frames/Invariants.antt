use Rattle.std.proofs.Common.{◌≡◌, ◌<◌, ◌≤◌, ℕ, length}
use Rattle.flame_graph.specs.private.Walking.{opening_at}
use Rattle.flame_graph.proofs.open_frames.open_frames.Given as goal

abbrev pub invariant-opening : goal.invariant-opening
invariant-opening l = record {
  lefts : length l.openings.lefts ≡ 4096;
  firsts : length l.openings.firsts ≡ 4096;
  stay : (n : ℕ) → n < l.standing → opening_at l.openings n ≡ opening_at l.fn.openings n;
  opened : (n : ℕ) → l.standing ≤ n → n < l.outer → opening_at l.openings n ≡ record { left = l.left; first = l.first };
}
