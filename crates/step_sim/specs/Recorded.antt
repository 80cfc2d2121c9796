-- The events that the threads of a replay have recorded, and their segments.
use Rattle.std.specs.Prelude.{◌+◌, ℕ, zero, suc, List, [], ◌∷◌, length}
use Rattle.patch_script.specs.Micros.{hold_of}
use Rattle.fdr_record.specs.declared.event.Event.{Event}
use Rattle.fdr_buffer.specs.Segments.{segments}
use Rattle.machine_step.specs.Events.{recorded}
use Rattle.machine_step.specs.Loads.{marks_of}
use Rattle.machine_step.specs.PlainStep.{Passing}
use Rattle.step_sim.specs.Replay.{Cast, Moment, of_thread, thread_count}
use Rattle.step_sim.specs.Pool.{Pooling}

-- the events that a thread has recorded at a moment, by the passings of each thread
abbrev pub events_at : Cast → List (List Passing) → ℕ → Moment → List Event
events_at cast passed thread moment =
    recorded (of_thread passed thread)
    (marks_of cast.program (thread_count cast) thread (hold_of thread cast.script) (of_thread cast.passings thread) (of_thread moment.loads thread))

-- its segments in buffers of this size
abbrev pub segments_at : Cast → List (List Passing) → ℕ → ℕ → Moment → List (List Event)
segments_at cast passed size thread moment = segments size (events_at cast passed thread moment)

-- a replay with this many spare buffers of this size
abbrev pub pooling_of : Cast → List (List Passing) → ℕ → ℕ → Pooling
pooling_of cast passed size spare =
    record { segment_count = λ thread moment. length (segments_at cast passed size thread moment); spare = spare }

-- n numbers from one on
abbrev pub numbers_from : ℕ → ℕ → List ℕ
numbers_from first zero = []
numbers_from first (suc n) = first ∷ numbers_from (first + 1) n
