-- The turns of a replay: those of a line, those of a schedule, and those up to the end of a thread.
use Rattle.std.specs.Prelude.{ℕ, List}
use Rattle.step_sim.specs.declared.turns.Turns.{Turns}
use Rattle.step_sim.specs.Plays.{ThreadRunsOut, ThreadsRunOut, line_played, lines_played}
use Rattle.step_sim.specs.Replay.{Cast, Moment, first_moment, moment_rules}
use Rattle.step_sim.specs.Pool.{Pooling, Pooled, first_pooled, pooled_rules}

-- the turns of a line of the schedule, and of all its lines
abbrev pub line_turns : Cast → Moment → Turns → Moment
line_turns cast = line_played (moment_rules cast)

abbrev pub scheduled : Cast → List Turns → Moment
scheduled cast schedule = lines_played (moment_rules cast) (first_moment cast) schedule

-- a thread runs out, and so do n threads from a thread on
abbrev pub RunsOut : Cast → ℕ → Moment → Moment → Type 0
RunsOut cast = ThreadRunsOut (moment_rules cast)

abbrev pub AllRunOut : Cast → ℕ → ℕ → Moment → Moment → Type 0
AllRunOut cast = ThreadsRunOut (moment_rules cast)

-- the turns of a line, and of all lines, of a replay with buffers
abbrev pub pooled_line : Cast → Pooling → Pooled → Turns → Pooled
pooled_line cast pooling = line_played (pooled_rules cast pooling)

abbrev pub pooled_lines : Cast → Pooling → List Turns → Pooled
pooled_lines cast pooling schedule = lines_played (pooled_rules cast pooling) (first_pooled cast pooling) schedule

-- in such a replay, a thread runs out, and so do n threads from a thread on
abbrev pub PooledRunsOut : Cast → Pooling → ℕ → Pooled → Pooled → Type 0
PooledRunsOut cast pooling = ThreadRunsOut (pooled_rules cast pooling)

abbrev pub AllPooledRunOut : Cast → Pooling → ℕ → ℕ → Pooled → Pooled → Type 0
AllPooledRunOut cast pooling = ThreadsRunOut (pooled_rules cast pooling)
