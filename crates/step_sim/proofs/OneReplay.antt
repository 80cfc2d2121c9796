-- A schedule leaves each thread only one list of marks.
use Rattle.std.proofs.Common.{◌≡◌, ℕ, List, length, None, refl, sym, ap, ◌∙◌}
use Rattle.handler_word.specs.declared.mark.Mark.{Mark}
use Rattle.step_sim.specs.declared.turns.Turns.{Turns}
use Rattle.step_sim.specs.Replay.{Cast, Moment, Replay, first_moment, marks_at, moment_rules, thread_turn, wanted_by}
use Rattle.step_sim.proofs.PlayLemmas.{one_end}

-- the turn of a thread that has ended does nothing
ended_still : (cast : Cast) (thread : ℕ) (m : Moment) → wanted_by cast thread m ≡ None → thread_turn cast thread m ≡ m
ended_still cast thread m e = rw e refl

pub same_marks : (cast : Cast) (schedule : List Turns) (marks others : List (List Mark))
    → Replay cast schedule marks → Replay cast schedule others → marks ≡ others
same_marks cast schedule marks others (last, ran, is) (last', ran', is') =
    is ∙ ap (marks_at cast) (one_end (moment_rules cast) (ended_still cast) (length cast.passings) (first_moment cast) schedule last last' ran ran')
    ∙ sym is'
