-- The segments of a thread, as they are recorded and compared with a trace.
use Rattle.std.proofs.Common.{◌≡◌, ℕ, ◌+◌, ◌≤◌, true, false, List, [], ◌∷◌, ◌++◌, length, refl, sym, ap, subst, ◌∙◌, arith, append_assoc, length-append}
use Rattle.std.specs.Prelude.{MatchBool, IsFalse, IsTrue, nat_le, if◌then◌else◌}
use Rattle.xray_io.specs.declared.wall.Wall.{Wall}
use Rattle.fdr_record.specs.declared.event.Event.{Event}
use Rattle.fdr_buffer.specs.declared.buffer.TheConstants.{LEAST_SIZE}
use Rattle.fdr_buffer.specs.Filled.{Filled}
use Rattle.fdr_buffer.specs.Segments.{has_room, segments}
use Rattle.fdr_file.specs.Files.{block_bytes}
use Rattle.machine_step.specs.declared.setup.Setup.{Setup}
use Rattle.traced_run.specs.Kept.{buffer_of, stamp_of}
use Rattle.audit_check.specs.declared.blocks.Recording.{Recording}
use Rattle.audit_check.specs.declared.blocks.TraceLeft.{TraceLeft}
use Rattle.audit_check.specs.private.Blocks.{HasCompared, HasNoted, IsOpen, IsUnopened, begun_with, kept_bytes, whole_of}
use Rattle.audit_check.proofs.ThreadSegments.{kept_more, opens, whole_is}

-- ---- laws of segments

-- one event is one segment
abbrev pub First : Type 0
First = (size : ℕ) (event : Event) → segments size (event ∷ []) ≡ (event ∷ []) ∷ []

-- an event joins the last segment if there is room
abbrev pub Joined : Type 0
Joined = (size : ℕ) (events opened : List Event) (whole : List (List Event)) (event : Event) → segments size events ≡ whole ++ opened ∷ []
    → IsTrue (has_room size (opened ++ event ∷ [])) → segments size (events ++ event ∷ []) ≡ whole ++ (opened ++ event ∷ []) ∷ []

-- or it begins another one
abbrev pub Cut : Type 0
Cut = (size : ℕ) (events opened : List Event) (whole : List (List Event)) (event : Event) → segments size events ≡ whole ++ opened ∷ []
    → IsFalse (has_room size (opened ++ event ∷ [])) → segments size (events ++ event ∷ []) ≡ whole ++ opened ∷ (event ∷ []) ∷ []

-- ---- a thread without events

pub noted_none : (setup : Setup) (thread lost : ℕ) (r : Recording) → LEAST_SIZE ≤ setup.size → r.thread ≡ thread → r.lost ≡ lost → r.buffer.size ≡ setup.size
    → r.wall ≡ setup.wall → r.pid ≡ setup.pid → r.buffer.begun ≡ false → r.whole ≡ 0 → HasNoted setup thread lost [] r
noted_none setup thread lost r least thread_is lost_is size wall pid closed whole = record {
  least = least;
  thread_is = thread_is;
  lost_is = lost_is;
  size = size;
  wall = wall;
  pid = pid;
  opened = subst (λ b. MatchBool b (IsOpen setup thread [] r) (IsUnopened [] r)) (sym closed) (record { none = refl; whole = whole });
}

-- ---- one more event

module _ (setup : Setup) (thread lost : ℕ) (events : List Event) (r : Recording) (has : HasNoted setup thread lost events r) where
  unopened : r.buffer.begun ≡ false → IsUnopened events r
  unopened closed = subst (λ b. MatchBool b (IsOpen setup thread events r) (IsUnopened events r)) closed has.opened

  pub open_one : r.buffer.begun ≡ true → IsOpen setup thread events r
  open_one begun = subst (λ b. MatchBool b (IsOpen setup thread events r) (IsUnopened events r)) begun has.opened

  -- other events, with the same stamps
  noted_again : (others : List Event) (g : Recording) → g.thread ≡ r.thread → g.lost ≡ r.lost → g.buffer.size ≡ r.buffer.size → g.wall ≡ r.wall → g.pid ≡ r.pid
      → MatchBool g.buffer.begun (IsOpen setup thread others g) (IsUnopened others g) → HasNoted setup thread lost others g
  noted_again others g thread_is lost_is size wall pid opened = record {
    least = has.least;
    thread_is = thread_is ∙ has.thread_is;
    lost_is = lost_is ∙ has.lost_is;
    size = size ∙ has.size;
    wall = wall ∙ has.wall;
    pid = pid ∙ has.pid;
    opened = opened;
  }

  -- a segment that is begun
  abbrev filled : ℕ → ℕ → Wall → ℕ → Event → ℕ → Filled
  filled size number wall pid event serial =
      record { size = size; begun = true; thread = number; serial = serial; wall = wall; pid = pid; events = event ∷ [] }

  buffer_is : (event : Event) (serial : ℕ) → filled r.buffer.size r.thread r.wall r.pid event serial ≡ buffer_of (stamp_of setup) thread (serial, event ∷ [])
  buffer_is event serial =
      ap (λ n. filled n r.thread r.wall r.pid event serial) has.size
      ∙ (ap (λ n. filled setup.size n r.wall r.pid event serial) has.thread_is
      ∙ (ap (λ (w : Wall). filled setup.size thread w r.pid event serial) has.wall ∙ ap (λ n. filled setup.size thread setup.wall n event serial) has.pid))

  -- the first one
  module _ (first : First) (closed : r.buffer.begun ≡ false) (event : Event) where
    one_event : events ++ event ∷ [] ≡ event ∷ []
    one_event = ap (λ (es : List Event). es ++ event ∷ []) (unopened closed).none

    one_segment : segments setup.size (events ++ event ∷ []) ≡ [] ++ (event ∷ []) ∷ []
    one_segment = ap (segments setup.size) one_event ∙ first setup.size event

    pub noted_first : HasNoted setup thread lost (events ++ event ∷ []) (begun_with r event)
    noted_first =
        noted_again (events ++ event ∷ []) (begun_with r event) refl refl refl refl refl
        (opens setup thread (events ++ event ∷ []) (event ∷ []) [] (begun_with r event) one_segment refl (unopened closed).whole (buffer_is event r.whole))

    pub compared_first : (all before : List ℕ) (t : TraceLeft) → HasCompared all (before ++ kept_bytes setup lost thread (whole_of setup.size events)) t
        → HasCompared all (before ++ kept_bytes setup lost thread (whole_of setup.size (events ++ event ∷ []))) t
    compared_first all before t compared =
        let none : whole_of setup.size events ≡ [] = ap (whole_of setup.size) (unopened closed).none in
        let still : whole_of setup.size (events ++ event ∷ []) ≡ [] = whole_is setup.size (events ++ event ∷ []) (event ∷ []) [] one_segment in
        subst (λ (segs : List (List Event)). HasCompared all (before ++ kept_bytes setup lost thread segs) t) (none ∙ sym still) compared

  -- one that joins the last segment
  module _ (joined : Joined) (begun : r.buffer.begun ≡ true) (event : Event) (room : IsTrue (has_room r.buffer.size (r.buffer.events ++ event ∷ []))) where
    abbrev pub with_event : Recording
    with_event = record r { buffer = record r.buffer { events = r.buffer.events ++ event ∷ [] } }

    joined_segments : segments setup.size (events ++ event ∷ []) ≡ whole_of setup.size events ++ (r.buffer.events ++ event ∷ []) ∷ []
    joined_segments =
        joined setup.size events r.buffer.events (whole_of setup.size events) event (open_one begun).segments_are
        (subst (λ n. IsTrue (has_room n (r.buffer.events ++ event ∷ []))) has.size room)

    pub noted_joined : HasNoted setup thread lost (events ++ event ∷ []) with_event
    noted_joined =
        noted_again (events ++ event ∷ []) with_event refl refl refl refl refl
        (subst (λ b. MatchBool b (IsOpen setup thread (events ++ event ∷ []) with_event) (IsUnopened (events ++ event ∷ []) with_event)) (sym begun)
        (opens setup thread (events ++ event ∷ []) (r.buffer.events ++ event ∷ []) (whole_of setup.size events) with_event joined_segments refl (open_one begun).whole
        (ap (λ (b : Filled). record b { events = r.buffer.events ++ event ∷ [] }) (open_one begun).buffer)))

    pub compared_joined : (all before : List ℕ) (t : TraceLeft) → HasCompared all (before ++ kept_bytes setup lost thread (whole_of setup.size events)) t
        → HasCompared all (before ++ kept_bytes setup lost thread (whole_of setup.size (events ++ event ∷ []))) t
    compared_joined all before t compared =
        let same : whole_of setup.size (events ++ event ∷ []) ≡ whole_of setup.size events =
        whole_is setup.size (events ++ event ∷ []) (r.buffer.events ++ event ∷ []) (whole_of setup.size events) joined_segments in
        subst (λ (segs : List (List Event)). HasCompared all (before ++ kept_bytes setup lost thread segs) t) (sym same) compared

  -- the open segment, compared
  abbrev pub Compares : TraceLeft → TraceLeft → Type 0
  Compares t t' =
      (all before : List ℕ) → HasCompared all before t
      → HasCompared all (before ++ (if nat_le r.lost r.whole then block_bytes r.buffer else [])) t'

  compared_open : (begun : r.buffer.begun ≡ true) (all before : List ℕ) (t t' : TraceLeft) → Compares t t'
      → HasCompared all (before ++ kept_bytes setup lost thread (whole_of setup.size events)) t
      → HasCompared all (before ++ kept_bytes setup lost thread (whole_of setup.size events ++ r.buffer.events ∷ [])) t'
  compared_open begun all before t t' compares compared =
      let segs = whole_of setup.size events in
      let open_here = open_one begun in
      let Kept : ℕ → ℕ → Filled → Type 0 = λ first count buffer. HasCompared all
      ((before ++ kept_bytes setup lost thread segs) ++ (if nat_le first count then block_bytes buffer else [])) t' in
      let here : Kept r.lost r.whole r.buffer = compares all (before ++ kept_bytes setup lost thread segs) compared in
      let buffer : r.buffer ≡ buffer_of (stamp_of setup) thread (length segs, r.buffer.events) =
      open_here.buffer ∙ ap (λ n. buffer_of (stamp_of setup) thread (n, r.buffer.events)) open_here.whole in
      let there : Kept lost (length segs) (buffer_of (stamp_of setup) thread (length segs, r.buffer.events)) =
      subst (λ n. Kept n (length segs) (buffer_of (stamp_of setup) thread (length segs, r.buffer.events))) has.lost_is
      (subst (λ n. Kept r.lost n (buffer_of (stamp_of setup) thread (length segs, r.buffer.events))) open_here.whole
      (subst (λ (b : Filled). Kept r.lost r.whole b) buffer here)) in
      subst (λ (l : List ℕ). HasCompared all l t')
      (append_assoc before (kept_bytes setup lost thread segs)
      (if nat_le lost (length segs) then block_bytes (buffer_of (stamp_of setup) thread (length segs, r.buffer.events)) else [])
      ∙ ap (λ (l : List ℕ). before ++ l) (sym (kept_more setup lost thread segs r.buffer.events))) there

  -- one that begins another segment
  module _ (cut : Cut) (begun : r.buffer.begun ≡ true) (event : Event) (full : has_room r.buffer.size (r.buffer.events ++ event ∷ []) ≡ false) where
    abbrev pub next_one : Recording
    next_one = begun_with (record r { whole = r.whole + 1 }) event

    abbrev whole_now : List (List Event)
    whole_now = whole_of setup.size events ++ r.buffer.events ∷ []

    cut_segments : segments setup.size (events ++ event ∷ []) ≡ whole_now ++ (event ∷ []) ∷ []
    cut_segments =
        cut setup.size events r.buffer.events (whole_of setup.size events) event (open_one begun).segments_are
        (subst (λ n. IsFalse (has_room n (r.buffer.events ++ event ∷ []))) has.size full)
        ∙ sym (append_assoc (whole_of setup.size events) (r.buffer.events ∷ []) ((event ∷ []) ∷ []))

    count : r.whole + 1 ≡ length whole_now
    count =
        let before = (open_one begun).whole in omega (arith, before, length-append (whole_of setup.size events) (r.buffer.events ∷ []))

    pub noted_cut : HasNoted setup thread lost (events ++ event ∷ []) next_one
    noted_cut =
        noted_again (events ++ event ∷ []) next_one refl refl refl refl refl
        (opens setup thread (events ++ event ∷ []) (event ∷ []) whole_now next_one cut_segments refl count (buffer_is event (r.whole + 1)))

    pub compared_cut : (all before : List ℕ) (t t' : TraceLeft) → Compares t t'
        → HasCompared all (before ++ kept_bytes setup lost thread (whole_of setup.size events)) t
        → HasCompared all (before ++ kept_bytes setup lost thread (whole_of setup.size (events ++ event ∷ []))) t'
    compared_cut all before t t' compares compared =
        let same : whole_of setup.size (events ++ event ∷ []) ≡ whole_now = whole_is setup.size (events ++ event ∷ []) (event ∷ []) whole_now cut_segments in
        subst (λ (segs : List (List Event)). HasCompared all (before ++ kept_bytes setup lost thread segs) t') (sym same)
        (compared_open begun all before t t' compares compared)

  -- ---- the end

  pub count_open : (begun : r.buffer.begun ≡ true) → r.whole + 1 ≡ length (segments setup.size events)
  count_open begun =
      let open_here = open_one begun in
      let before = open_here.whole in
      omega (arith, before, ap length open_here.segments_are, length-append (whole_of setup.size events) (r.buffer.events ∷ []))

  pub compared_last : (begun : r.buffer.begun ≡ true) (all before : List ℕ) (t t' : TraceLeft) → Compares t t'
      → HasCompared all (before ++ kept_bytes setup lost thread (whole_of setup.size events)) t
      → HasCompared all (before ++ kept_bytes setup lost thread (segments setup.size events)) t'
  compared_last begun all before t t' compares compared =
      subst (λ (segs : List (List Event)). HasCompared all (before ++ kept_bytes setup lost thread segs) t') (sym (open_one begun).segments_are)
      (compared_open begun all before t t' compares compared)

  pub count_none : r.buffer.begun ≡ false → 0 ≡ length (segments setup.size events)
  count_none closed = sym (ap (λ (es : List Event). length (segments setup.size es)) (unopened closed).none)

  pub compared_empty : r.buffer.begun ≡ false → (all before : List ℕ) (t : TraceLeft)
      → HasCompared all (before ++ kept_bytes setup lost thread (whole_of setup.size events)) t
      → HasCompared all (before ++ kept_bytes setup lost thread (segments setup.size events)) t
  compared_empty closed all before t compared =
      let none : whole_of setup.size events ≡ [] = ap (whole_of setup.size) (unopened closed).none in
      let no_segments : segments setup.size events ≡ [] = ap (segments setup.size) (unopened closed).none in
      subst (λ (segs : List (List Event)). HasCompared all (before ++ kept_bytes setup lost thread segs) t) (none ∙ sym no_segments) compared
