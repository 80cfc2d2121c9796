-- A replay with buffers goes through the moments of the replay without them, and leaves one queue.
use Rattle.std.proofs.Common.{◌≡◌, ℕ, ◌+◌, List, length, None, refl, sym, ap, ◌∙◌, arith}
use Rattle.std.specs.Prelude.{◌&&◌, ◌==◌, false, nat_lt}
use Rattle.std.proofs.lemmas.Bool.Decides.{nat_tests}
use Rattle.handler_word.specs.declared.mark.Mark.{Mark}
use Rattle.step_sim.specs.declared.turns.Turns.{Turns}
use Rattle.step_sim.specs.Plays.{Plays, turns}
use Rattle.step_sim.specs.Replay.{Cast, Replay, first_moment, marks_at, moment_rules, thread_turn, wanted_by}
use Rattle.step_sim.specs.private.Turns.{line_turns, pooled_line}
use Rattle.step_sim.specs.Pool.{Pooled, PooledReplay, Pooling, first_pooled, pooled_rules, pooled_turn}
use Rattle.step_sim.proofs.PlayLemmas.{Shows, line_shown, one_end, play_after, play_shown, turns_shown}
use Rattle.step_sim.proofs.ReplayAlong.{turn_without}

-- ---- moments

shows_moments : (cast : Cast) (pooling : Pooling) → Shows (λ (p : Pooled). p.moment) (pooled_rules cast pooling) (moment_rules cast)
shows_moments cast pooling = record { thread = λ thread p. refl; patcher = λ p. refl; wanted = λ thread p. refl }

pub thread_moment : (cast : Cast) (pooling : Pooling) (thread n : ℕ) (p : Pooled)
    → (turns n (pooled_turn cast pooling thread) p).moment ≡ turns n (thread_turn cast thread) p.moment
thread_moment cast pooling thread n p =
    turns_shown (λ (q : Pooled). q.moment) (pooled_turn cast pooling thread) (thread_turn cast thread) (λ q. refl) n p

pub line_moment : (cast : Cast) (pooling : Pooling) (p : Pooled) (line : Turns) → (pooled_line cast pooling p line).moment ≡ line_turns cast p.moment line
line_moment cast pooling p line =
    line_shown (λ (q : Pooled). q.moment) (pooled_rules cast pooling) (moment_rules cast) (shows_moments cast pooling) p line

-- a replay with buffers ends at the moment at which the one without them does
pub last_moment : (cast : Cast) (pooling : Pooling) (schedule : List Turns) (last : Pooled) → PooledReplay cast pooling schedule last
    → Plays (moment_rules cast) (length cast.passings) (first_moment cast) schedule last.moment
last_moment cast pooling schedule last out =
    play_shown (λ (p : Pooled). p.moment) (pooled_rules cast pooling) (moment_rules cast) (shows_moments cast pooling) (length cast.passings)
    (first_pooled cast pooling) schedule last out

pub is_replay : (cast : Cast) (pooling : Pooling) (schedule : List Turns) (last : Pooled) → PooledReplay cast pooling schedule last
    → Replay cast schedule (marks_at cast last.moment)
is_replay cast pooling schedule last out = (last.moment, last_moment cast pooling schedule last out, refl)

pub has_buffers : (cast : Cast) (pooling : Pooling) (schedule : List Turns) (marks : List (List Mark)) → Replay cast schedule marks
    → (last : Pooled) × PooledReplay cast pooling schedule last × (marks ≡ marks_at cast last.moment)
has_buffers cast pooling schedule marks (end, out, is) =
    let all = play_after (λ (p : Pooled). p.moment) (pooled_rules cast pooling) (moment_rules cast) (shows_moments cast pooling)
    (length cast.passings) (first_pooled cast pooling) schedule end out in
    (all.0, all.1, is ∙ ap (marks_at cast) (sym all.2))

-- ---- one queue

no_more : (n : ℕ) → (nat_lt 0 n && (n == n + 1)) ≡ false
no_more n = grind (arith, nat_tests)

-- the turn of a thread that has ended does nothing
pub ended_still : (cast : Cast) (pooling : Pooling) (thread : ℕ) (p : Pooled) → wanted_by cast thread p.moment ≡ None
    → pooled_turn cast pooling thread p ≡ p
ended_still cast pooling thread p e =
    rw (turn_without cast thread p.moment e) (rw (no_more (pooling.segment_count thread p.moment)) refl)

pub same_queue : (cast : Cast) (pooling : Pooling) (schedule : List Turns) (last other : Pooled) → PooledReplay cast pooling schedule last
    → PooledReplay cast pooling schedule other → last ≡ other
same_queue cast pooling schedule last other ran again =
    one_end (pooled_rules cast pooling) (ended_still cast pooling) (length cast.passings) (first_pooled cast pooling) schedule last other ran again
