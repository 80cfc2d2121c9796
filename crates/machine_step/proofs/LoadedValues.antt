-- What a loaded value says: which event comes, whether the thread stays held, and how much nearer its end is.
use Rattle.std.proofs.Common.{◌≡◌, ℕ, suc, ◌+◌, ◌-◌, ◌*◌, ◌<◌, ◌≤◌, ◌==◌, Bool, true, false, List, [], ◌∷◌, ◌++◌, length, Option, Some, None, refl, sym, ap, ◌∙◌, subst, eq-eqb, length-append, arith, inl, inr}
use Rattle.std.specs.Prelude.{◌↔◌, ◌⊎◌, if◌then◌else◌, IsSome}
use Rattle.std.specs.List.{cons_option}
use Rattle.std.proofs.lemmas.Bool.{eqb-true, ne_eqb}
use Rattle.std.proofs.lemmas.List.{append-nil}
use Rattle.std.proofs.lemmas.Option.{slice_get_within}
use Rattle.std.proofs.Math.Nat.{mul-suc}
use Rattle.fdr_record.specs.declared.event.Event.{Event}
use Rattle.xray_image.specs.Program.{Program}
use Rattle.sled_words.specs.declared.part.Part.{Part}
use Rattle.sled_words.specs.declared.part.Part.TheVariants as parts
use Rattle.sled_words.specs.Words.{arg_handler_word, handler_word, part_number, release_word, state_word, word_of}
use Rattle.sled_words.specs.Parts.{patched_head}
use Rattle.handler_word.specs.declared.mark.Mark.{Mark}
use Rattle.handler_word.specs.declared.mark.Mark.TheVariants as marks
use Rattle.handler_word.specs.MarkList.{MarkList, is_recorded}
use Rattle.machine_step.specs.declared.cpu.Cpu.TheInside.{Inside}
use Rattle.machine_step.specs.declared.end.End.{End}
use Rattle.machine_step.specs.declared.machine.Machine.{Machine}
use Rattle.machine_step.specs.declared.stage.Next.{Next}
use Rattle.machine_step.specs.declared.stage.Next.TheVariants.{Loads, Ends}
use Rattle.machine_step.specs.declared.stage.Stage.{Stage}
use Rattle.machine_step.specs.declared.stage.Stage.TheVariants as stages
use Rattle.machine_step.specs.declared.stand.Stand.{Stand}
use Rattle.machine_step.specs.declared.stand.Stand.TheVariants.{Gate, Loading, Ended}
use Rattle.machine_step.specs.declared.want.Want.TheVariants as wants
use Rattle.machine_step.specs.Events.{event_of, events_in, recorded}
use Rattle.machine_step.specs.private.Inside.{traced, recording_in, want_at, IsAtPassing, IsSound, StandsSo}
use Rattle.machine_step.specs.private.Machine.{state_at}
use Rattle.machine_step.specs.PlainStep.{State, Passing, PlainRun, passing_at}
use Rattle.machine_step.specs.Loads.{sled_logs_args}
use Rattle.machine_step.specs.private.Stages.{word_at, recording_at, handlers_by, after_load}
use Rattle.machine_step.specs.Traced.{IsKept, MarksAdded, ending_mark, loads_left, stage_count, steps_left}
use Rattle.machine_step.proofs.StagesLeft.{left_at, other_part, own_part, part_small, past_parts, steps_left_at}
use Rattle.machine_step.proofs.ThreadAfterLoad.{IsBetween, passed_on}
use Rattle.machine_step.proofs.OpenedPassing.{loading_at, standing}
use Rattle.machine_step.proofs.ThreadOnPlainRun.{before_of, goes_on_by}
use Rattle.machine_step.proofs.WordsAt.{release_stage, state_stage}

-- ---- which event comes

-- a passing is recorded only after a state of 2
loads_or_loads : (b : Bool) (x y : Stage) (mark : Mark) → (if b then Loads x else Loads y) ≡ Ends mark → ⊥
loads_or_loads true x y mark is = cc
loads_or_loads false x y mark is = cc

loads_or_unrecorded : (b : Bool) (x : Stage) (mark other : Mark) → is_recorded other ≡ false → is_recorded mark ≡ true
    → (if b then Loads x else Ends other) ≡ Ends mark → ⊥
loads_or_unrecorded true x mark other not is same = cc
loads_or_unrecorded false x mark other not is same = let marks : other ≡ mark = cc in cc (ap is_recorded marks)

unrecorded_or_loads : (b : Bool) (x : Stage) (mark other : Mark) → is_recorded other ≡ false → is_recorded mark ≡ true
    → (if b then Ends other else Loads x) ≡ Ends mark → ⊥
unrecorded_or_loads true x mark other not is same = let marks : other ≡ mark = cc in cc (ap is_recorded marks)
unrecorded_or_loads false x mark other not is same = cc

state_is : (recording : Mark) (value : ℕ) (b : Bool) (mark : Mark) → (value == 2) ≡ b → is_recorded mark ≡ true
    → Ends (if b then recording else marks.NotLogging) ≡ Ends mark → value ≡ 2
state_is recording value true mark is recorded same = eqb-true value 2 is
state_is recording value false mark is recorded same = let marks : marks.NotLogging ≡ mark = cc in absurd (cc (ap is_recorded marks))

recorded_after : (program : Program) (threads thread k : ℕ) (logs : Bool) (at_stage : Stage) (value : ℕ) (mark : Mark)
    → after_load logs at_stage value ≡ Ends mark → is_recorded mark ≡ true
    → (word_at program threads thread k at_stage ≡ state_word program) × (value ≡ 2)
recorded_after program threads thread k logs stages.Release value mark is recorded =
    absurd (loads_or_loads (value == 0) stages.Release stages.Head mark is)
recorded_after program threads thread k logs stages.Head value mark is recorded =
    absurd (loads_or_unrecorded (value == patched_head) stages.Id mark marks.Skipped refl recorded is)
recorded_after program threads thread k logs stages.Id value mark is recorded = absurd cc
recorded_after program threads thread k logs stages.Opcode value mark is recorded = absurd cc
recorded_after program threads thread k logs stages.Offset value mark is recorded = absurd cc
recorded_after program threads thread k logs stages.ArgHandler value mark is recorded =
    absurd (loads_or_loads (value == 0) stages.Handler stages.ArgState mark is)
recorded_after program threads thread k logs stages.Handler value mark is recorded =
    absurd (unrecorded_or_loads (value == 0) stages.State mark marks.NoHandler refl recorded is)
recorded_after program threads thread k logs stages.State value mark is recorded =
    (refl, state_is marks.Recorded value (value == 2) mark refl recorded is)
recorded_after program threads thread k logs stages.ArgState value mark is recorded =
    (refl, state_is marks.RecordedArg value (value == 2) mark refl recorded is)

-- and after that it is
recorded_at : (logs : Bool) (at_stage : Stage) (value : ℕ) (mark : Mark) → (at_stage ≡ stages.State) ⊎ (at_stage ≡ stages.ArgState) → value ≡ 2
    → after_load logs at_stage value ≡ Ends mark → is_recorded mark ≡ true
recorded_at logs at_stage value mark (inl at) two is =
    let here : after_load logs stages.State 2 ≡ Ends mark =
    ap (after_load logs stages.State) (sym two) ∙ (ap (λ (s : Stage). after_load logs s value) (sym at) ∙ is) in
    let same : marks.Recorded ≡ mark = cc in ap is_recorded (sym same)
recorded_at logs at_stage value mark (inr at) two is =
    let here : after_load logs stages.ArgState 2 ≡ Ends mark =
    ap (after_load logs stages.ArgState) (sym two) ∙ (ap (λ (s : Stage). after_load logs s value) (sym at) ∙ is) in
    let same : marks.RecordedArg ≡ mark = cc in ap is_recorded (sym same)

-- the stages of the state word
at_state : (a : Inside) → IsSound a → (place k : ℕ) (at_stage : Stage) → a.stand ≡ Loading place k at_stage
    → (traced a).want ≡ wants.Load (state_word a.steps.now) → (at_stage ≡ stages.State) ⊎ (at_stage ≡ stages.ArgState)
at_state a sound place k at_stage is wanted =
    let before = before_of a sound place k (loading_at a sound place k at_stage is) in
    let within = slice_get_within a.steps.now.sleds k before.sled before.found in
    let by_stand : want_at a.steps.now a.threads a.thread a.machine.passings (Loading place k at_stage) ≡ wants.Load (state_word a.steps.now) =
    ap (want_at a.steps.now a.threads a.thread a.machine.passings) (sym is) ∙ wanted in
    let words : word_at a.steps.now a.threads a.thread k at_stage ≡ state_word a.steps.now = cc in
    state_stage a.steps.now a.threads a.thread k at_stage within sound.setup.some_thread sound.setup.no_more words

wants_state : (a : Inside) (place k : ℕ) (at_stage : Stage) → a.stand ≡ Loading place k at_stage
    → word_at a.steps.now a.threads a.thread k at_stage ≡ state_word a.steps.now
    → (traced a).want ≡ wants.Load (state_word a.steps.now)
wants_state a place k at_stage is same =
    ap (want_at a.steps.now a.threads a.thread a.machine.passings) is ∙ ap (λ (w : ℕ). wants.Load w) same

-- a mark that records has an event, and no other
some_recorded : (p : Passing) (mark : Mark) → IsSome (event_of p mark) → is_recorded mark ≡ true
some_recorded p marks.Skipped is = absurd cc
some_recorded p marks.NoHandler is = absurd cc
some_recorded p marks.NotLogging is = absurd cc
some_recorded p marks.Recorded is = refl
some_recorded p marks.RecordedArg is = refl

recorded_some : (p : Passing) (mark : Mark) → is_recorded mark ≡ true → IsSome (event_of p mark)
recorded_some p marks.Skipped is = absurd cc
recorded_some p marks.NoHandler is = absurd cc
recorded_some p marks.NotLogging is = absurd cc
recorded_some p marks.Recorded is = refl
recorded_some p marks.RecordedArg is = refl

pub some_at_end : (a : Inside) → IsSound a → (place k : ℕ) (at_stage : Stage) (value : ℕ) (mark : Mark) (p : Passing) (answer : Option Event)
    → a.stand ≡ Loading place k at_stage → after_load (sled_logs_args a.steps.now k) at_stage value ≡ Ends mark → answer ≡ event_of p mark
    → IsSome answer ↔ ((traced a).want ≡ wants.Load (state_word a.steps.now)) × (value ≡ 2)
some_at_end a sound place k at_stage value mark p answer is following answered = (
  λ some.
      let here = recorded_after a.steps.now a.threads a.thread k (sled_logs_args a.steps.now k) at_stage value mark following
      (some_recorded p mark (subst (λ (o : Option Event). IsSome o) answered some)) in
      (wants_state a place k at_stage is here.0, here.1),
  λ (wanted, two).
      let at = at_state a sound place k at_stage is wanted in
      let recorded = recorded_at (sled_logs_args a.steps.now k) at_stage value mark at two following in
      subst (λ (o : Option Event). IsSome o) (sym answered) (recorded_some p mark recorded),
)

-- a load of the state word ends the passing
state_ends : (logs : Bool) (at_stage next : Stage) (value : ℕ) → (at_stage ≡ stages.State) ⊎ (at_stage ≡ stages.ArgState)
    → after_load logs at_stage value ≡ Loads next → ⊥
state_ends logs at_stage next value (inl at) is =
    let here : after_load logs stages.State value ≡ Loads next = ap (λ (s : Stage). after_load logs s value) (sym at) ∙ is in cc
state_ends logs at_stage next value (inr at) is =
    let here : after_load logs stages.ArgState value ≡ Loads next = ap (λ (s : Stage). after_load logs s value) (sym at) ∙ is in cc

pub some_goes_on : (a : Inside) → IsSound a → (place k : ℕ) (at_stage next : Stage) (value : ℕ) (answer : Option Event)
    → a.stand ≡ Loading place k at_stage → after_load (sled_logs_args a.steps.now k) at_stage value ≡ Loads next → answer ≡ None
    → IsSome answer ↔ ((traced a).want ≡ wants.Load (state_word a.steps.now)) × (value ≡ 2)
some_goes_on a sound place k at_stage next value answer is following none = (
  λ some. absurd (no_event answer none some),
  λ (wanted, two).
      absurd (state_ends (sled_logs_args a.steps.now k) at_stage next value (at_state a sound place k at_stage is wanted) following),
)
  where
    no_event : (o : Option Event) → o ≡ None → IsSome o → ⊥
    no_event None is some = cc
    no_event (Some e) is some = cc

-- ---- the events of its passings

no_marks_recorded : (passed : List Passing) → recorded passed [] ≡ []
no_marks_recorded [] = refl
no_marks_recorded (p ∷ passed) = refl

one_event : (answer : Option Event) (events : List Event) → events ≡ [] → cons_option answer events ≡ events_in answer
one_event None events none = none
one_event (Some event) events none = ap (λ es. event ∷ es) none

before_all : (answer : Option Event) (xs ys zs : List Event) → xs ≡ ys ++ zs → cons_option answer xs ≡ cons_option answer ys ++ zs
before_all None xs ys zs same = same
before_all (Some event) xs ys zs same = ap (λ es. event ∷ es) same

-- one more mark adds the event of its passing, if that is recorded
recorded_more : (passed : List Passing) (next : Passing) (later : List Passing) (ms : List Mark) (mark : Mark) → length ms ≡ length passed
    → recorded (passed ++ next ∷ later) (ms ++ mark ∷ []) ≡ recorded (passed ++ next ∷ later) ms ++ events_in (event_of next mark)
recorded_more [] next later [] mark long = one_event (event_of next mark) (recorded later []) (no_marks_recorded later)
recorded_more [] next later (m ∷ ms) mark long = absurd (omega arith)
recorded_more (p ∷ passed) next later [] mark long = absurd (omega arith)
recorded_more (p ∷ passed) next later (m ∷ ms) mark long =
    before_all (event_of p m) (recorded (passed ++ next ∷ later) (ms ++ mark ∷ [])) (recorded (passed ++ next ∷ later) ms) (events_in (event_of next mark))
    (recorded_more passed next later ms mark (omega arith))

pub events_more : (a : Inside) → (sound : IsSound a) → (place k : ℕ) (at : IsAtPassing a place k) (ms : List Mark) (mark : Mark) (answer : Option Event)
    → ms ≡ a.marks.items ++ mark ∷ []
    → ((address j : ℕ) → answer ≡ event_of (passing_at a.limits a.thread (state_at address a.machine) j (before_of a sound place k at).sled) mark)
    → (all : List Passing) (end : End) (last : State) → PlainRun a.steps.now a.limits a.thread all end last
    → recorded all ms ≡ recorded all a.marks.items ++ events_in answer
events_more a sound place k at ms mark answer more answered all end last run =
    let before = before_of a sound place k at in
    let on = goes_on_by a sound place k at all end last run in
    let long : length a.marks.items ≡ length at.passed = sound.made ∙ sym at.count in
    let events : events_in answer ≡ events_in (event_of at.next mark) =
    ap events_in (answered at.address k ∙ ap (λ (p : Passing). event_of p mark) (sym before.next_is)) in
    ap (recorded all) more
    ∙ (ap (λ (ps : List Passing). recorded ps (a.marks.items ++ mark ∷ [])) on.is
    ∙ (recorded_more at.passed at.next on.later a.marks.items mark long
    ∙ (sym (ap (λ (ps : List Passing). recorded ps a.marks.items ++ events_in (event_of at.next mark)) on.is)
    ∙ ap (λ es. recorded all a.marks.items ++ es) (sym events))))

-- ---- the marks

pub marks_added : (program : Program) (threads thread made : ℕ) (old new : List Mark) (mark : Mark) → new ≡ old ++ mark ∷ []
    → (stand : Stand) → IsBetween stand → MarksAdded old new (want_at program threads thread made stand)
marks_added program threads thread made old new mark is (Gate place k) between = (mark, is)
marks_added program threads thread made old new mark is (Loading place k at) between = absurd between
marks_added program threads thread made old new mark is (Ended end) between = (mark, is)

-- a part of a sled after its head ends no passing
mark_of_part : (program : Program) (k : ℕ) (part : Part) → k < length program.sleds → (part_number parts.Head ≡ part_number part → ⊥)
    → (recording : Mark) (value : ℕ) → ending_mark program recording (wants.Load (word_of k part)) value ≡ []
mark_of_part program k part within apart recording value =
    let small = part_small part in
    let word = word_of k part in
    let head = other_part program parts.Head part k apart in
    let handler : (word == handler_word program) ≡ false = ne_eqb word (handler_word program) (λ same. omega arith) in
    let state : (word == state_word program) ≡ false = ne_eqb word (state_word program) (λ same. omega arith) in
    rw (head, handler, state) refl

-- the mark that a load leads to
abbrev pub mark_in : Next → List Mark
mark_in (Loads next) = []
mark_in (Ends mark) = mark ∷ []

-- the log's state ends one
mark_of_state : (program : Program) (recording : Mark) (value : ℕ)
    → ending_mark program recording (wants.Load (state_word program)) value ≡ mark_in (Ends (if value == 2 then recording else marks.NotLogging))
mark_of_state program recording value =
    let word = state_word program in
    let head = past_parts program parts.Head word (omega arith) in
    let handler : (word == handler_word program) ≡ false = ne_eqb word (handler_word program) (λ same. omega arith) in
    let state : (word == state_word program) ≡ true = eq-eqb word (state_word program) refl in
    rw (head, handler, state) (by_value (value == 2))
  where
    by_value : (b : Bool) → (if b then recording ∷ [] else marks.NotLogging ∷ []) ≡ (if b then recording else marks.NotLogging) ∷ []
    by_value true = refl
    by_value false = refl

mark_at : (program : Program) (threads thread k : ℕ) (at_stage : Stage) (value : ℕ) → k < length program.sleds → 0 < thread
    → ending_mark program (recording_at at_stage) (wants.Load (word_at program threads thread k at_stage)) value
    ≡ mark_in (after_load (sled_logs_args program k) at_stage value)
mark_at program threads thread k stages.Release value within some =
    let word = release_word program thread in
    let head = past_parts program parts.Head word (omega arith) in
    let handler : (word == handler_word program) ≡ false = ne_eqb word (handler_word program) (λ same. omega arith) in
    let state : (word == state_word program) ≡ false = ne_eqb word (state_word program) (λ same. omega arith) in
    rw (head, handler, state) (by_value (value == 0))
  where
    by_value : (b : Bool) → [] ≡ mark_in (if b then Loads stages.Release else Loads stages.Head)
    by_value true = refl
    by_value false = refl
mark_at program threads thread k stages.Head value within some =
    let head = own_part program parts.Head k within in rw head (by_value (value == patched_head))
  where
    by_value : (b : Bool) → (if b then [] else marks.Skipped ∷ []) ≡ mark_in (if b then Loads stages.Id else Ends marks.Skipped)
    by_value true = refl
    by_value false = refl
mark_at program threads thread k stages.Id value within some = mark_of_part program k parts.Id within (λ same. omega arith) marks.Recorded value
mark_at program threads thread k stages.Opcode value within some = mark_of_part program k parts.Opcode within (λ same. omega arith) marks.Recorded value
mark_at program threads thread k stages.Offset value within some = mark_of_part program k parts.Offset within (λ same. omega arith) marks.Recorded value
mark_at program threads thread k stages.ArgHandler value within some =
    let word = arg_handler_word program threads in
    let head = past_parts program parts.Head word (omega arith) in
    let handler : (word == handler_word program) ≡ false = ne_eqb word (handler_word program) (λ same. omega arith) in
    let state : (word == state_word program) ≡ false = ne_eqb word (state_word program) (λ same. omega arith) in
    rw (head, handler, state) (by_value (value == 0))
  where
    by_value : (b : Bool) → [] ≡ mark_in (if b then Loads stages.Handler else Loads stages.ArgState)
    by_value true = refl
    by_value false = refl
mark_at program threads thread k stages.Handler value within some =
    let word = handler_word program in
    let head = past_parts program parts.Head word (omega arith) in
    let handler : (word == handler_word program) ≡ true = eq-eqb word (handler_word program) refl in
    rw (head, handler) (by_value (value == 0))
  where
    by_value : (b : Bool) → (if b then marks.NoHandler ∷ [] else []) ≡ mark_in (if b then Ends marks.NoHandler else Loads stages.State)
    by_value true = refl
    by_value false = refl
mark_at program threads thread k stages.State value within some = mark_of_state program marks.Recorded value
mark_at program threads thread k stages.ArgState value within some = mark_of_state program marks.RecordedArg value

pub mark_left : (a : Inside) → IsSound a → (place k : ℕ) (at_stage : Stage) (value : ℕ) (following : Next) → a.stand ≡ Loading place k at_stage
    → after_load (sled_logs_args a.steps.now k) at_stage value ≡ following
    → ending_mark a.steps.now (traced a).recording (traced a).want value ≡ mark_in following
mark_left a sound place k at_stage value following is leads =
    let program = a.steps.now in
    let before = before_of a sound place k (loading_at a sound place k at_stage is) in
    let within = slice_get_within program.sleds k before.sled before.found in
    ap (λ (s : Stand). ending_mark program (recording_in s) (want_at program a.threads a.thread a.machine.passings s) value) is
    ∙ mark_at program a.threads a.thread k at_stage value within sound.setup.some_thread
    ∙ ap mark_in leads

pub mark_goes_on : (a : Inside) → IsSound a → (place k : ℕ) (at_stage next : Stage) (value : ℕ) → a.stand ≡ Loading place k at_stage
    → after_load (sled_logs_args a.steps.now k) at_stage value ≡ Loads next
    → a.marks.items ≡ a.marks.items ++ ending_mark a.steps.now (traced a).recording (traced a).want value
mark_goes_on a sound place k at_stage next value is leads =
    let none = mark_left a sound place k at_stage value (Loads next) is leads in
    sym (ap (λ ms. a.marks.items ++ ms) none ∙ append-nil a.marks.items)

pub mark_ends : (a : Inside) → IsSound a → (place k : ℕ) (at_stage : Stage) (value : ℕ) (mark : Mark) (ms : List Mark) → a.stand ≡ Loading place k at_stage
    → after_load (sled_logs_args a.steps.now k) at_stage value ≡ Ends mark → ms ≡ a.marks.items ++ mark ∷ []
    → ms ≡ a.marks.items ++ ending_mark a.steps.now (traced a).recording (traced a).want value
mark_ends a sound place k at_stage value mark ms is leads more =
    more ∙ ap (λ ms. a.marks.items ++ ms) (sym (mark_left a sound place k at_stage value (Ends mark) is leads))

-- ---- a value that keeps the thread held

-- it is a release word of 0
release_at : (a : Inside) → IsSound a → (place k : ℕ) (at_stage : Stage) → a.stand ≡ Loading place k at_stage
    → (traced a).want ≡ wants.Load (release_word a.steps.now a.thread) → at_stage ≡ stages.Release
release_at a sound place k at_stage is wanted =
    let before = before_of a sound place k (loading_at a sound place k at_stage is) in
    let within = slice_get_within a.steps.now.sleds k before.sled before.found in
    let by_stand : want_at a.steps.now a.threads a.thread a.machine.passings (Loading place k at_stage) ≡ wants.Load (release_word a.steps.now a.thread) =
    ap (want_at a.steps.now a.threads a.thread a.machine.passings) (sym is) ∙ wanted in
    let words : word_at a.steps.now a.threads a.thread k at_stage ≡ release_word a.steps.now a.thread = cc in
    release_stage a.steps.now a.threads a.thread k at_stage within sound.setup.some_thread sound.setup.no_more words

pub kept_same : (a : Inside) → IsSound a → (place k : ℕ) (at_stage next : Stage) (value : ℕ) → a.stand ≡ Loading place k at_stage
    → after_load (sled_logs_args a.steps.now k) at_stage value ≡ Loads next → IsKept (traced a) value → traced (standing a (Loading place k next)) ≡ traced a
kept_same a sound place k at_stage next value is following kept =
    let at = release_at a sound place k at_stage is kept.word in
    let logs = sled_logs_args a.steps.now k in
    let by_value : after_load logs stages.Release 0 ≡ Loads next =
    sym (ap (after_load logs stages.Release) kept.unset) ∙ (ap (λ (s : Stage). after_load logs s value) (sym at) ∙ following) in
    let same : stages.Release ≡ next = cc in
    let stands : Loading place k next ≡ a.stand = ap (Loading place k) (sym same ∙ sym at) ∙ sym is in
    ap (λ (s : Stand). traced (standing a s)) stands

pub kept_not : (a : Inside) → IsSound a → (place k : ℕ) (at_stage : Stage) (value : ℕ) (mark : Mark) → a.stand ≡ Loading place k at_stage
    → after_load (sled_logs_args a.steps.now k) at_stage value ≡ Ends mark → IsKept (traced a) value → ⊥
kept_not a sound place k at_stage value mark is following kept =
    let at = release_at a sound place k at_stage is kept.word in
    let logs = sled_logs_args a.steps.now k in
    let by_value : after_load logs stages.Release 0 ≡ Ends mark =
    sym (ap (after_load logs stages.Release) kept.unset) ∙ (ap (λ (s : Stage). after_load logs s value) (sym at) ∙ following) in
    cc

-- ---- how far it is from its end

-- a load that goes on comes to a nearer stage, unless it is a release word of 0
pub next_left : (logs : Bool) (at_stage next : Stage) (value : ℕ) → after_load logs at_stage value ≡ Loads next → ((at_stage ≡ stages.Release) × (value ≡ 0) → ⊥)
    → left_at next < left_at at_stage
next_left logs stages.Release next value following free = by_value (value == 0) refl following
  where
    by_value : (b : Bool) → (value == 0) ≡ b → (if b then Loads stages.Release else Loads stages.Head) ≡ Loads next
        → left_at next < left_at stages.Release
    by_value true is same = absurd (free (refl, eqb-true value 0 is))
    by_value false is same = let at : stages.Head ≡ next = cc in subst (λ (s : Stage). left_at s < left_at stages.Release) at (omega arith)
next_left logs stages.Head next value following free = by_value (value == patched_head) following
  where
    by_value : (b : Bool) → (if b then Loads stages.Id else Ends marks.Skipped) ≡ Loads next
        → left_at next < left_at stages.Head
    by_value true same = let at : stages.Id ≡ next = cc in subst (λ (s : Stage). left_at s < left_at stages.Head) at (omega arith)
    by_value false same = absurd cc
next_left logs stages.Id next value following free =
    let at : stages.Opcode ≡ next = cc in subst (λ (s : Stage). left_at s < left_at stages.Id) at (omega arith)
next_left logs stages.Opcode next value following free =
    let at : stages.Offset ≡ next = cc in subst (λ (s : Stage). left_at s < left_at stages.Opcode) at (omega arith)
next_left logs stages.Offset next value following free = by_kind logs following
  where
    by_kind : (b : Bool) → Loads (handlers_by b) ≡ Loads next → left_at next < left_at stages.Offset
    by_kind true same = let at : stages.ArgHandler ≡ next = cc in subst (λ (s : Stage). left_at s < left_at stages.Offset) at (omega arith)
    by_kind false same = let at : stages.Handler ≡ next = cc in subst (λ (s : Stage). left_at s < left_at stages.Offset) at (omega arith)
next_left logs stages.ArgHandler next value following free = by_value (value == 0) following
  where
    by_value : (b : Bool) → (if b then Loads stages.Handler else Loads stages.ArgState) ≡ Loads next
        → left_at next < left_at stages.ArgHandler
    by_value true same = let at : stages.Handler ≡ next = cc in subst (λ (s : Stage). left_at s < left_at stages.ArgHandler) at (omega arith)
    by_value false same = let at : stages.ArgState ≡ next = cc in subst (λ (s : Stage). left_at s < left_at stages.ArgHandler) at (omega arith)
next_left logs stages.Handler next value following free = by_value (value == 0) following
  where
    by_value : (b : Bool) → (if b then Ends marks.NoHandler else Loads stages.State) ≡ Loads next
        → left_at next < left_at stages.Handler
    by_value true same = absurd cc
    by_value false same = let at : stages.State ≡ next = cc in subst (λ (s : Stage). left_at s < left_at stages.Handler) at (omega arith)
next_left logs stages.State next value following free = absurd cc
next_left logs stages.ArgState next value following free = absurd cc

pub nearer_on : (a : Inside) → IsSound a → (place k : ℕ) (at_stage next : Stage) (value : ℕ) → a.stand ≡ Loading place k at_stage
    → after_load (sled_logs_args a.steps.now k) at_stage value ≡ Loads next → (IsKept (traced a) value → ⊥)
    → loads_left (traced (standing a (Loading place k next))) < loads_left (traced a)
nearer_on a sound place k at_stage next value is following free =
    let program = a.steps.now in
    let before = before_of a sound place k (loading_at a sound place k at_stage is) in
    let within = slice_get_within program.sleds k before.sled before.found in
    let held = (subst (StandsSo a) is sound.stands).1 in
    let not_kept : (at_stage ≡ stages.Release) × (value ≡ 0) → ⊥ = λ here. free (record {
      held = held here.0 ∙ ap Some (sym sound.made);
      word = ap (want_at program a.threads a.thread a.machine.passings) (is ∙ ap (Loading place k) here.0);
      unset = here.1;
    }) in
    let less = next_left (sled_logs_args program k) at_stage next value following not_kept in
    let new = steps_left_at program a.threads a.thread k next within sound.setup.some_thread sound.setup.no_more in
    let old : steps_left program a.threads a.thread (traced a).want ≡ left_at at_stage =
    ap (λ (s : Stand). steps_left program a.threads a.thread (want_at program a.threads a.thread a.machine.passings s)) is ∙ steps_left_at program a.threads a.thread k at_stage within sound.setup.some_thread sound.setup.no_more in
    omega arith

-- each stage has a load before it
pub some_left : (at_stage : Stage) → 0 < left_at at_stage
some_left stages.Release = omega arith
some_left stages.Head = omega arith
some_left stages.Id = omega arith
some_left stages.Opcode = omega arith
some_left stages.Offset = omega arith
some_left stages.ArgHandler = omega arith
some_left stages.Handler = omega arith
some_left stages.State = omega arith
some_left stages.ArgState = omega arith

between_left : (program : Program) (threads thread made : ℕ) (stand : Stand) → IsBetween stand → steps_left program threads thread (want_at program threads thread made stand) ≤ stage_count program threads thread
between_left program threads thread made (Gate place k) between = omega arith
between_left program threads thread made (Loading place k at) between = absurd between
between_left program threads thread made (Ended end) between = omega arith

-- one passing fewer
one_fewer : (each left old new at : ℕ) → new ≤ each → 0 < at → left ≡ suc old → each * old + new < each * left + at
one_fewer each left old new at below some more =
    let product : each * left ≡ each * old + each = ap (λ x. each * x) more ∙ mul-suc each old in omega arith

pub nearer_end : (a : Inside) → IsSound a → (place k : ℕ) (at_stage : Stage) → a.stand ≡ Loading place k at_stage
    → (m : Machine) (ms : MarkList) (stand : Stand) (mark : Mark) → ms.items ≡ a.marks.items ++ mark ∷ [] → IsBetween stand
    → loads_left (traced (passed_on a m ms stand)) < loads_left (traced a)
nearer_end a sound place k at_stage is m ms stand mark more between =
    let program = a.steps.now in
    let before = before_of a sound place k (loading_at a sound place k at_stage is) in
    let within = slice_get_within program.sleds k before.sled before.found in
    let long : length ms.items ≡ length a.marks.items + 1 = ap length more ∙ length-append a.marks.items (mark ∷ []) in
    let old : steps_left program a.threads a.thread (traced a).want ≡ left_at at_stage =
    ap (λ (s : Stand). steps_left program a.threads a.thread (want_at program a.threads a.thread a.machine.passings s)) is ∙ steps_left_at program a.threads a.thread k at_stage within sound.setup.some_thread sound.setup.no_more in
    let some = some_left at_stage in
    one_fewer (stage_count program a.threads a.thread) (a.limits.passings - length a.marks.items) (a.limits.passings - length ms.items)
    (steps_left program a.threads a.thread (want_at program a.threads a.thread m.passings stand)) (steps_left program a.threads a.thread (traced a).want)
    (between_left program a.threads a.thread m.passings stand between) (omega arith)
    (omega (arith, before.left, sound.made))
