-- Plays of a schedule: turns that change a state, in the order of the schedule, and after them each thread to its end.
use Rattle.std.specs.Prelude.{◌≡◌, ℕ, zero, suc, ◌+◌, List, Option, None, fold}
use Rattle.step_sim.specs.declared.turns.Turns.{Turns}
use Rattle.step_sim.specs.declared.turns.Turns.TheVariants.{Thread, Patcher}

-- What is played: what a turn of a thread makes of a state, what a turn of the patcher makes of it, and the word that a
-- thread loads next. A thread that loads none has ended.
pub record Rules (State : Type 0) : Type 0 where
  pub thread : ℕ → State → State
  pub patcher : State → State
  pub wanted : ℕ → State → Option ℕ

-- n turns
abbrev pub turns : {X : Type 0} → ℕ → (X → X) → X → X
turns zero turn state = state
turns (suc n) turn state = turns n turn (turn state)

-- the turns of a line of the schedule
abbrev pub line_played : {X : Type 0} → Rules X → X → Turns → X
line_played rules state (Thread thread count) = turns count (rules.thread thread) state
line_played rules state (Patcher count) = turns count rules.patcher state

-- the turns of all its lines
abbrev pub lines_played : {X : Type 0} → Rules X → X → List Turns → X
lines_played rules first schedule = fold (line_played rules) first schedule

-- a thread runs out: it makes as many turns as bring it to its end
abbrev pub ThreadRunsOut : {X : Type 0} → Rules X → ℕ → X → X → Type 0
ThreadRunsOut rules thread before after =
    (n : ℕ) × (after ≡ turns n (rules.thread thread) before) × (rules.wanted thread after ≡ None)

-- n threads run out, one after the other, from a thread on
abbrev pub ThreadsRunOut : {X : Type 0} → Rules X → ℕ → ℕ → X → X → Type 0
ThreadsRunOut rules zero thread before after = after ≡ before
ThreadsRunOut {X = X} rules (suc n) thread before after =
    (mid : X) × ThreadRunsOut rules thread before mid × ThreadsRunOut rules n (thread + 1) mid after

-- Where a schedule brings a state with this many threads. Its lines come in order. After them each thread runs out,
-- thread 1 first. Micro steps that are left then are no part of this: no thread sees them.
abbrev pub Plays : {X : Type 0} → Rules X → (threads : ℕ) → (first : X) → List Turns → (last : X) → Type 0
Plays rules threads first schedule last = ThreadsRunOut rules threads 1 (lines_played rules first schedule) last
