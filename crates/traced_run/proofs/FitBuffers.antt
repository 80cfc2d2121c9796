-- What a run leaves in its buffers fits them.
use Rattle.std.proofs.Common.{◌≡◌, ℕ, zero, suc, ◌+◌, ◌<◌, ◌≤◌, ◌^◌, List, [], ◌∷◌, ◌++◌, Some, refl, sym, subst, arith, length, drop}
use Rattle.std.specs.Prelude.{All, IfSome, IsTrue, slice_get}
use Rattle.std.specs.List.{AllByRecursion, enumerate_from, flat_map}
use Rattle.std.proofs.lemmas.List.Concat.{flat_map-cons}
use Rattle.std.proofs.lemmas.List.Elements.{All-append, All-drop, All-from_recursion, All-map, All-nil, recursion_from_All}
use Rattle.std.proofs.lemmas.Option.{slice_get_within}
use Rattle.xray_io.specs.declared.wall.Wall.{Wall}
use Rattle.xray_image.specs.Program.{IsAccepted, Program}
use Rattle.handler_word.specs.declared.mark.Mark.{Mark}
use Rattle.handler_word.specs.declared.mark.Mark.TheVariants as marks
use Rattle.fdr_record.specs.declared.event.Event.{Event}
use Rattle.fdr_buffer.specs.declared.buffer.TheConstants.{LEAST_SIZE}
use Rattle.fdr_buffer.specs.Fits.{BufferFits}
use Rattle.fdr_buffer.specs.Segments.{EventFits, body, has_room, segments}
use Rattle.machine_step.specs.declared.setup.Setup.{Setup}
use Rattle.machine_step.specs.Events.{event_of, recorded}
use Rattle.machine_step.specs.PlainStep.{Passing}
use Rattle.machine_step.specs.Setups.{IsSetup}
use Rattle.traced_run.specs.Fits.{PassingFits}
use Rattle.traced_run.specs.Kept.{buffer_of, kept_buffers, segments_of, stamp_of, thread_buffers}
use Rattle.traced_run.specs.Runs.{IsRun, ThreadRun, events_of}
use Rattle.traced_run.proofs.FitPassings.{run_fits}
use Rattle.traced_run.proofs.Oldest.{HoldAll}
use Rattle.traced_run.proofs.RecordedEvents.{no_argument, recorded_each}

-- ---- events

event_fits : (p : Passing) (mark : Mark) → PassingFits p → IfSome (event_of p mark) EventFits
event_fits p marks.Skipped fits = tt
event_fits p marks.NoHandler fits = tt
event_fits p marks.NotLogging fits = tt
event_fits p marks.Recorded fits =
    record { cpu = fits.cpu; func = fits.id; tsc = fits.counter; arg = omega arith; logged = no_argument p.kind }
event_fits p marks.RecordedArg fits = record { cpu = fits.cpu; func = fits.id; tsc = fits.counter; arg = fits.argument; logged = tt }

events_fit : (passed : List Passing) (marks : List Mark) → All PassingFits passed → All EventFits (recorded passed marks)
events_fit = recorded_each PassingFits EventFits event_fits

-- ---- segments

-- what is true of each segment of a run
record SegmentFits (size : ℕ) (events : List Event) : Type 0 where
  room : IsTrue (has_room size events)
  fit : AllByRecursion EventFits events

front_fits : (xs ys : List Event) → AllByRecursion EventFits (xs ++ ys) → AllByRecursion EventFits xs
front_fits [] ys fit = tt
front_fits (x ∷ xs) ys (here, rest) = (here, front_fits xs ys rest)

rest_fits : (xs ys : List Event) → AllByRecursion EventFits (xs ++ ys) → AllByRecursion EventFits ys
rest_fits [] ys fit = fit
rest_fits (x ∷ xs) ys (here, rest) = rest_fits xs ys rest

segments_fit : (size : ℕ) (segs : List (List Event)) → AllByRecursion (λ s. IsTrue (has_room size s)) segs
    → AllByRecursion EventFits (flat_map (λ s. s) segs) → AllByRecursion (SegmentFits size) segs
segments_fit size [] room fit = tt
segments_fit size (s ∷ segs) (here, rest) fit =
    let parts = subst (AllByRecursion EventFits) (flat_map-cons (λ (x : List Event). x) s segs) fit in
    (record { room = here; fit = front_fits s (flat_map (λ x. x) segs) parts }, segments_fit size segs rest (rest_fits s (flat_map (λ x. x) segs) parts))

-- ---- buffers

-- the laws of segments
abbrev pub HaveRoom : Type 0
HaveRoom = (size : ℕ) (events : List Event) → LEAST_SIZE ≤ size → All (λ s. IsTrue (has_room size s)) (segments size events)

abbrev pub BodiesHaveRoom : Type 0
BodiesHaveRoom =
    (size thread : ℕ) (wall : Wall) (pid : ℕ) (events : List Event) → IsTrue (has_room size events) → length (body thread wall pid events) ≤ size

buffer_fits : BodiesHaveRoom → (setup : Setup) (thread : ℕ) → IsSetup setup → thread < 2 ^ 32 → (serial : ℕ) (events : List Event)
    → SegmentFits setup.size events → BufferFits (buffer_of (stamp_of setup) thread (serial, events))
buffer_fits bodies setup thread fits few serial events its = record {
  preamble = record { thread = few; secs = fits.wall_is.secs; micros = omega (arith, fits.wall_is.micros); pid = omega (arith, fits.pid) };
  events = All-from_recursion EventFits events its.fit;
  within = bodies setup.size thread setup.wall setup.pid events its.room;
  most = fits.most;
}

numbered_fit : BodiesHaveRoom → (setup : Setup) (thread : ℕ) → IsSetup setup → thread < 2 ^ 32 → (k : ℕ) (segs : List (List Event))
    → AllByRecursion (SegmentFits setup.size) segs
    → AllByRecursion (λ (x : ℕ × List Event). BufferFits (buffer_of (stamp_of setup) thread x)) (enumerate_from k segs)
numbered_fit bodies setup thread fits few k [] its = tt
numbered_fit bodies setup thread fits few k (s ∷ segs) (here, rest) =
    (buffer_fits bodies setup thread fits few k s here, numbered_fit bodies setup thread fits few (k + 1) segs rest)

thread_fits : HoldAll → HaveRoom → BodiesHaveRoom → (setup : Setup) (thread : ℕ) (run : ThreadRun) → IsSetup setup → thread < 2 ^ 32
    → All PassingFits run.passed → All BufferFits (thread_buffers setup (thread, run))
thread_fits hold room bodies setup thread run fits few passings =
    let events = recursion_from_All EventFits (events_of run) (events_fit run.passed run.marks passings) in
    let segs = segments_of setup.size run in
    let each = segments_fit setup.size segs (recursion_from_All _ segs (room setup.size (events_of run) fits.least))
    (subst (AllByRecursion EventFits) (sym (hold setup.size (events_of run))) events) in
    All-map BufferFits (buffer_of (stamp_of setup) thread) (drop run.lost (enumerate_from 0 segs))
    (All-drop (λ x. BufferFits (buffer_of (stamp_of setup) thread x)) run.lost (enumerate_from 0 segs)
    (All-from_recursion (λ x. BufferFits (buffer_of (stamp_of setup) thread x)) (enumerate_from 0 segs)
    (numbered_fit bodies setup thread fits few 0 segs each)))

-- ---- all threads

all_fit : HoldAll → HaveRoom → BodiesHaveRoom → (setup : Setup) (n : ℕ) (runs : List ThreadRun) → IsSetup setup → n + length runs ≤ 2 ^ 32
    → ((i : ℕ) (run : ThreadRun) → slice_get runs i ≡ Some run → All PassingFits run.passed)
    → All BufferFits (flat_map (thread_buffers setup) (enumerate_from n runs))
all_fit hold room bodies setup n [] fits few passings = All-nil BufferFits
all_fit hold room bodies setup n (run ∷ runs) fits few passings =
    subst (All BufferFits) (sym (flat_map-cons (thread_buffers setup) (n, run) (enumerate_from (n + 1) runs)))
    (All-append BufferFits (thread_buffers setup (n, run)) (flat_map (thread_buffers setup) (enumerate_from (n + 1) runs))
    (thread_fits hold room bodies setup n run fits (omega (arith, few)) (passings zero run refl))
    (all_fit hold room bodies setup (n + 1) runs fits (omega (arith, few)) (λ i. passings (suc i))))

pub run_buffers_fit : HoldAll → HaveRoom → BodiesHaveRoom → (bytes : List ℕ) (program : Program) (setup : Setup) (runs : List ThreadRun)
    → IsAccepted bytes program → IsSetup setup → IsRun program setup runs → All BufferFits (kept_buffers setup runs)
run_buffers_fit hold room bodies bytes program setup runs accepted fits is =
    all_fit hold room bodies setup 1 runs fits (omega (arith, is.count, fits.few_threads))
    (λ i run found.
    let within = slice_get_within runs i run found in
    run_fits bytes program setup.limits (i + 1) run.passed run.end run.last accepted fits.limits_are
    (omega (arith, within, is.count, fits.few_threads)) (is.plain i run found))
