-- What one more load does to a thread's marks, and to the word that it loads next.
use Rattle.std.proofs.Common.{◌≡◌, ℕ, suc, ◌+◌, ◌==◌, Bool, true, false, List, [], ◌∷◌, ◌++◌, length, Option, Some, refl, sym, ap, ◌∙◌, subst, arith}
use Rattle.std.specs.Prelude.{if◌then◌else◌}
use Rattle.xray_image.specs.Program.{Program}
use Rattle.sled_words.specs.Parts.{patched_head}
use Rattle.handler_word.specs.declared.mark.Mark.{Mark}
use Rattle.handler_word.specs.declared.mark.Mark.TheVariants as marks
use Rattle.machine_step.specs.declared.stage.Stage.{Stage}
use Rattle.machine_step.specs.declared.stage.Stage.TheVariants as stages
use Rattle.machine_step.specs.declared.stage.Next.{Next}
use Rattle.machine_step.specs.declared.stage.Next.TheVariants.{Loads, Ends}
use Rattle.machine_step.specs.Loads.{Load, Reading, Wants, Marked, from_start, from_release, from_head, from_id, from_opcode, from_offset, from_arg_handler, from_handler, from_state, is_held_at, marks_from, next_from, recording_from, sled_logs_args}
use Rattle.machine_step.specs.private.Stages.{word_at, recording_at, stage_by, first_stage, handlers_by, after_load}

-- ---- one passing

-- the loads of a passing from a stage on
abbrev pub from_stage : Program → ℕ → ℕ → ℕ → Stage → List Load → Reading
from_stage program threads thread k stages.Release loads = from_release program threads thread k loads
from_stage program threads thread k stages.Head loads = from_head program threads k loads
from_stage program threads thread k stages.Id loads = from_id program threads k loads
from_stage program threads thread k stages.Opcode loads = from_opcode program threads k loads
from_stage program threads thread k stages.Offset loads = from_offset program threads k loads
from_stage program threads thread k stages.ArgHandler loads = from_arg_handler program threads loads
from_stage program threads thread k stages.Handler loads = from_handler program loads
from_stage program threads thread k stages.State loads = from_state program marks.Recorded loads
from_stage program threads thread k stages.ArgState loads = from_state program marks.RecordedArg loads

pub starts : (program : Program) (threads thread k : ℕ) (held : Bool) (loads : List Load)
    → from_start program threads thread held k loads ≡ from_stage program threads thread k (stage_by held) loads
starts program threads thread k true loads = refl
starts program threads thread k false loads = refl

-- after a load
abbrev pub read_on : Program → ℕ → ℕ → ℕ → Next → List Load → Reading
read_on program threads thread k (Loads stage) loads = from_stage program threads thread k stage loads
read_on program threads thread k (Ends mark) loads = Marked mark loads

read_if : (program : Program) (threads thread k : ℕ) (b : Bool) (x y : Next) (loads : List Load)
    → (if b then read_on program threads thread k x loads else read_on program threads thread k y loads) ≡ read_on program threads thread k (if b then x else y) loads
read_if program threads thread k true x y loads = refl
read_if program threads thread k false x y loads = refl

-- after the offset
handlers_read : (program : Program) (threads thread k : ℕ) (b : Bool) (loads : List Load)
    → (if b then from_arg_handler program threads loads else from_handler program loads) ≡ from_stage program threads thread k (handlers_by b) loads
handlers_read program threads thread k true loads = refl
handlers_read program threads thread k false loads = refl

stage_reads : (program : Program) (threads thread k : ℕ) (stage : Stage) (load : Load) (more : List Load)
    → from_stage program threads thread k stage (load ∷ more) ≡ read_on program threads thread k (after_load (sled_logs_args program k) stage load.value) more
stage_reads program threads thread k stages.Release load more = read_if program threads thread k (load.value == 0) (Loads stages.Release) (Loads stages.Head) more
stage_reads program threads thread k stages.Head load more = read_if program threads thread k (load.value == patched_head) (Loads stages.Id) (Ends marks.Skipped) more
stage_reads program threads thread k stages.Id load more = refl
stage_reads program threads thread k stages.Opcode load more = refl
stage_reads program threads thread k stages.Offset load more = handlers_read program threads thread k (sled_logs_args program k) more
stage_reads program threads thread k stages.ArgHandler load more = read_if program threads thread k (load.value == 0) (Loads stages.Handler) (Loads stages.ArgState) more
stage_reads program threads thread k stages.Handler load more = read_if program threads thread k (load.value == 0) (Ends marks.NoHandler) (Loads stages.State) more
stage_reads program threads thread k stages.State load more = refl
stage_reads program threads thread k stages.ArgState load more = refl

stage_wants : (program : Program) (threads thread k : ℕ) (stage : Stage)
    → from_stage program threads thread k stage [] ≡ Wants (word_at program threads thread k stage) (recording_at stage)
stage_wants program threads thread k stages.Release = refl
stage_wants program threads thread k stages.Head = refl
stage_wants program threads thread k stages.Id = refl
stage_wants program threads thread k stages.Opcode = refl
stage_wants program threads thread k stages.Offset = refl
stage_wants program threads thread k stages.ArgHandler = refl
stage_wants program threads thread k stages.Handler = refl
stage_wants program threads thread k stages.State = refl
stage_wants program threads thread k stages.ArgState = refl

-- a passing loads a release word only at its beginning
pub release_after : (logs : Bool) (from : Stage) (value : ℕ) → after_load logs from value ≡ Loads stages.Release → from ≡ stages.Release
release_after logs stages.Release value is = refl
release_after logs stages.Head value is = absurd (loads_or_ends (value == patched_head) is)
  where
    loads_or_ends : (b : Bool) → (if b then Loads stages.Id else Ends marks.Skipped) ≡ Loads stages.Release → ⊥
    loads_or_ends true is = cc
    loads_or_ends false is = cc
release_after logs stages.Id value is = absurd cc
release_after logs stages.Opcode value is = absurd cc
release_after true stages.Offset value is = absurd cc
release_after false stages.Offset value is = absurd cc
release_after logs stages.ArgHandler value is = absurd (one_or_other (value == 0) is)
  where
    one_or_other : (b : Bool) → (if b then Loads stages.Handler else Loads stages.ArgState) ≡ Loads stages.Release → ⊥
    one_or_other true is = cc
    one_or_other false is = cc
release_after logs stages.Handler value is = absurd (ends_or_loads (value == 0) is)
  where
    ends_or_loads : (b : Bool) → (if b then Ends marks.NoHandler else Loads stages.State) ≡ Loads stages.Release → ⊥
    ends_or_loads true is = cc
    ends_or_loads false is = cc
release_after logs stages.State value is = absurd cc
release_after logs stages.ArgState value is = absurd cc

-- if loads bring a passing to a word, they bring it to a stage
record OpenAt (program : Program) (threads thread k : ℕ) (from : Stage) (loads : List Load) (word : ℕ) (recording : Mark) : Type 0 where
  at : Stage
  begins : at ≡ stages.Release → from ≡ stages.Release
  word_is : word ≡ word_at program threads thread k at
  recording_is : recording ≡ recording_at at
  on : (more : List Load) → from_stage program threads thread k from (loads ++ more) ≡ from_stage program threads thread k at more

open_on : (program : Program) (threads thread k : ℕ) (from : Stage) (load : Load) (loads : List Load) (word : ℕ) (recording : Mark)
    → ((stage : Stage) → from_stage program threads thread k stage loads ≡ Wants word recording → OpenAt program threads thread k stage loads word recording)
    → (next : Next) → after_load (sled_logs_args program k) from load.value ≡ next → read_on program threads thread k next loads ≡ Wants word recording
    → OpenAt program threads thread k from (load ∷ loads) word recording
open_on program threads thread k from load loads word recording later (Loads stage) following is =
    let found = later stage is in
    record {
      at = found.at;
      begins = λ release. release_after (sled_logs_args program k) from load.value (following ∙ ap Loads (found.begins release));
      word_is = found.word_is;
      recording_is = found.recording_is;
      on = λ more. stage_reads program threads thread k from load (loads ++ more)
          ∙ (ap (λ (n : Next). read_on program threads thread k n (loads ++ more)) following ∙ found.on more);
    }
open_on program threads thread k from load loads word recording later (Ends mark) following is = absurd cc

open_at : (program : Program) (threads thread k : ℕ) (from : Stage) (loads : List Load) (word : ℕ) (recording : Mark)
    → from_stage program threads thread k from loads ≡ Wants word recording → OpenAt program threads thread k from loads word recording
open_at program threads thread k from [] word recording is =
    let wants : Wants (word_at program threads thread k from) (recording_at from) ≡ Wants word recording = sym (stage_wants program threads thread k from) ∙ is in
    record { at = from; begins = λ release. release; word_is = cc; recording_is = cc; on = λ more. refl }
open_at program threads thread k from (load ∷ loads) word recording is =
    open_on program threads thread k from load loads word recording (λ stage wants. open_at program threads thread k stage loads word recording wants)
    (after_load (sled_logs_args program k) from load.value) refl (sym (stage_reads program threads thread k from load loads) ∙ is)

closed_on : (program : Program) (threads thread k : ℕ) (loads : List Load) (mark : Mark) (following more : List Load)
    → ((stage : Stage) → from_stage program threads thread k stage loads ≡ Marked mark following
    → from_stage program threads thread k stage (loads ++ more) ≡ Marked mark (following ++ more))
    → (next : Next) → read_on program threads thread k next loads ≡ Marked mark following
    → read_on program threads thread k next (loads ++ more) ≡ Marked mark (following ++ more)
closed_on program threads thread k loads mark following more later (Loads stage) is = later stage is
closed_on program threads thread k loads mark following more later (Ends m) is = cc

-- loads after its mark belong to the next passing
closed_at : (program : Program) (threads thread k : ℕ) (from : Stage) (loads : List Load) (mark : Mark) (following more : List Load)
    → from_stage program threads thread k from loads ≡ Marked mark following
    → from_stage program threads thread k from (loads ++ more) ≡ Marked mark (following ++ more)
closed_at program threads thread k from [] mark following more is =
    let wants = stage_wants program threads thread k from in absurd cc
closed_at program threads thread k from (load ∷ loads) mark following more is =
    stage_reads program threads thread k from load (loads ++ more)
    ∙ closed_on program threads thread k loads mark following more (λ stage marked. closed_at program threads thread k stage loads mark following more marked)
    (after_load (sled_logs_args program k) from load.value) (sym (stage_reads program threads thread k from load loads) ∙ is)

-- ---- all passings

-- the marks, the next word and the mark that records, by the reading of the first passing
abbrev marks_by : Reading → (List Load → List Mark) → List Mark
marks_by (Wants word recording) later = []
marks_by (Marked mark following) later = mark ∷ later following

abbrev next_by : Reading → (List Load → Option ℕ) → Option ℕ
next_by (Wants word recording) later = Some word
next_by (Marked mark following) later = later following

abbrev recording_by : Reading → (List Load → Mark) → Mark
recording_by (Wants word recording) later = recording
recording_by (Marked mark following) later = later following

pub marks_step : (program : Program) (threads thread : ℕ) (hold : Option ℕ) (number k : ℕ) (sleds : List ℕ) (loads : List Load) (reading : Reading)
    → from_start program threads thread (is_held_at hold number) k loads ≡ reading
    → marks_from program threads thread hold number (k ∷ sleds) loads ≡ marks_by reading (marks_from program threads thread hold (number + 1) sleds)
marks_step program threads thread hold number k sleds loads (Wants word recording) is = rw is refl
marks_step program threads thread hold number k sleds loads (Marked mark following) is = rw is refl

pub next_step : (program : Program) (threads thread : ℕ) (hold : Option ℕ) (number k : ℕ) (sleds : List ℕ) (loads : List Load) (reading : Reading)
    → from_start program threads thread (is_held_at hold number) k loads ≡ reading
    → next_from program threads thread hold number (k ∷ sleds) loads ≡ next_by reading (next_from program threads thread hold (number + 1) sleds)
next_step program threads thread hold number k sleds loads (Wants word recording) is = rw is refl
next_step program threads thread hold number k sleds loads (Marked mark following) is = rw is refl

pub recording_step : (program : Program) (threads thread : ℕ) (hold : Option ℕ) (number k : ℕ) (sleds : List ℕ) (loads : List Load) (reading : Reading)
    → from_start program threads thread (is_held_at hold number) k loads ≡ reading
    → recording_from program threads thread hold number (k ∷ sleds) loads ≡ recording_by reading (recording_from program threads thread hold (number + 1) sleds)
recording_step program threads thread hold number k sleds loads (Wants word recording) is = rw is refl
recording_step program threads thread hold number k sleds loads (Marked mark following) is = rw is refl

first_reading : (program : Program) (threads thread k : ℕ) (held : Bool)
    → from_start program threads thread held k [] ≡ Wants (word_at program threads thread k (stage_by held)) marks.Recorded
first_reading program threads thread k true = refl
first_reading program threads thread k false = refl

-- without loads there are no marks, and the first passing begins
pub no_marks : (program : Program) (threads thread : ℕ) (hold : Option ℕ) (number : ℕ) (sleds : List ℕ) → marks_from program threads thread hold number sleds [] ≡ []
no_marks program threads thread hold number [] = refl
no_marks program threads thread hold number (k ∷ sleds) =
    marks_step program threads thread hold number k sleds [] _ (first_reading program threads thread k (is_held_at hold number))

pub first_next : (program : Program) (threads thread : ℕ) (hold : Option ℕ) (number k : ℕ) (sleds : List ℕ)
    → next_from program threads thread hold number (k ∷ sleds) [] ≡ Some (word_at program threads thread k (first_stage hold number))
first_next program threads thread hold number k sleds =
    next_step program threads thread hold number k sleds [] _ (first_reading program threads thread k (is_held_at hold number))

-- and it would record without an argument
pub first_recording : (program : Program) (threads thread : ℕ) (hold : Option ℕ) (number : ℕ) (sleds : List ℕ)
    → recording_from program threads thread hold number sleds [] ≡ marks.Recorded
first_recording program threads thread hold number [] = refl
first_recording program threads thread hold number (k ∷ sleds) =
    recording_step program threads thread hold number k sleds [] _ (first_reading program threads thread k (is_held_at hold number))

-- what one more load does to the marks, the next word and the mark that records, in a passing of a sled with others
-- after it, by what the load leads to
abbrev pub Adds : Program → ℕ → ℕ → Option ℕ → ℕ → ℕ → List ℕ → List Mark → List Mark → Option ℕ → Mark → Next → Type 0
Adds program threads thread hold number k rest before after wanted recording (Loads stage) =
    (after ≡ before) × (wanted ≡ Some (word_at program threads thread k stage)) × (recording ≡ recording_at stage)
Adds program threads thread hold number k rest before after wanted recording (Ends mark) =
    (after ≡ before ++ mark ∷ []) × (wanted ≡ next_from program threads thread hold (number + length before + 1) rest [])
    × (recording ≡ marks.Recorded)

-- one more mark before all others
adds_in_front : (program : Program) (threads thread : ℕ) (hold : Option ℕ) (number k : ℕ) (rest : List ℕ) (mark : Mark) (before after all all' : List Mark)
    (wanted wanted' : Option ℕ) (recording recording' : Mark) (next : Next) → all ≡ mark ∷ before → all' ≡ mark ∷ after → wanted' ≡ wanted → recording' ≡ recording
    → Adds program threads thread hold (number + 1) k rest before after wanted recording next
    → Adds program threads thread hold number k rest all all' wanted' recording' next
adds_in_front program threads thread hold number k rest mark before after all all' wanted wanted' recording recording' (Loads at) is is' same alike (marks, next, records) =
    (cc, cc, alike ∙ records)
adds_in_front program threads thread hold number k rest mark before after all all' wanted wanted' recording recording' (Ends last) is is' same alike (marks, next, records) =
    let longer : length all ≡ suc (length before) = ap length is in
    let count : (number + 1) + length before + 1 ≡ number + length all + 1 = omega arith in (
      is' ∙ (ap (λ ms. mark ∷ ms) marks ∙ sym (ap (λ ms. ms ++ last ∷ []) is)),
      same ∙ (next ∙ ap (λ n. next_from program threads thread hold n rest []) count),
      alike ∙ records,
    )

-- a load at a stage of the first passing
adds_first : (program : Program) (threads thread : ℕ) (hold : Option ℕ) (number k : ℕ) (sleds : List ℕ) (loads : List Load) (next : Next)
    → from_start program threads thread (is_held_at hold number) k loads ≡ read_on program threads thread k next []
    → Adds program threads thread hold number k sleds []
    (marks_from program threads thread hold number (k ∷ sleds) loads) (next_from program threads thread hold number (k ∷ sleds) loads)
    (recording_from program threads thread hold number (k ∷ sleds) loads) next
adds_first program threads thread hold number k sleds loads (Loads stage) is =
    let wants = is ∙ stage_wants program threads thread k stage in
    let reading : Reading = Wants (word_at program threads thread k stage) (recording_at stage) in (
      marks_step program threads thread hold number k sleds loads reading wants,
      next_step program threads thread hold number k sleds loads reading wants,
      recording_step program threads thread hold number k sleds loads reading wants,
    )
adds_first program threads thread hold number k sleds loads (Ends mark) is =
    let count : number + 1 ≡ number + 0 + 1 = omega arith in (
      marks_step program threads thread hold number k sleds loads (Marked mark []) is ∙ ap (λ ms. mark ∷ ms) (no_marks program threads thread hold (number + 1) sleds),
      next_step program threads thread hold number k sleds loads (Marked mark []) is ∙ ap (λ n. next_from program threads thread hold n sleds []) count,
      recording_step program threads thread hold number k sleds loads (Marked mark []) is ∙ first_recording program threads thread hold (number + 1) sleds,
    )

-- if loads want a word, they are in a passing, at one of its stages
pub record InPassing (program : Program) (threads thread : ℕ) (hold : Option ℕ) (number : ℕ) (sleds : List ℕ) (loads : List Load) (word : ℕ) : Type 0 where
  pub sled : ℕ
  pub rest : List ℕ
  pub before : List ℕ
  pub passed : sleds ≡ before ++ sled ∷ rest
  pub count : length before ≡ length (marks_from program threads thread hold number sleds loads)
  pub at : Stage
  pub held : at ≡ stages.Release → is_held_at hold (number + length (marks_from program threads thread hold number sleds loads)) ≡ true
  pub word_is : word ≡ word_at program threads thread sled at
  pub recording_is : recording_from program threads thread hold number sleds loads ≡ recording_at at
  pub adds : (load : Load) → Adds program threads thread hold number sled rest
      (marks_from program threads thread hold number sleds loads) (marks_from program threads thread hold number sleds (loads ++ load ∷ []))
      (next_from program threads thread hold number sleds (loads ++ load ∷ [])) (recording_from program threads thread hold number sleds (loads ++ load ∷ [])) (after_load (sled_logs_args program sled) at load.value)

-- a passing begins with the release word if the thread is held
held_if : (held : Bool) → stage_by held ≡ stages.Release → held ≡ true
held_if true is = refl
held_if false is = absurd cc

in_first : (program : Program) (threads thread : ℕ) (hold : Option ℕ) (number k : ℕ) (sleds : List ℕ) (loads : List Load) (word : ℕ) (recording : Mark)
    → from_start program threads thread (is_held_at hold number) k loads ≡ Wants word recording
    → InPassing program threads thread hold number (k ∷ sleds) loads word
in_first program threads thread hold number k sleds loads word recording is =
    let held = is_held_at hold number in
    let found = open_at program threads thread k (stage_by held) loads word recording (sym (starts program threads thread k held loads) ∙ is) in
    let none : marks_from program threads thread hold number (k ∷ sleds) loads ≡ [] =
    marks_step program threads thread hold number k sleds loads (Wants word recording) is in
    record {
      sled = k;
      rest = sleds;
      before = [];
      passed = refl;
      count = sym (ap length none);
      at = found.at;
      held = λ release.
          let here : number ≡ number + length (marks_from program threads thread hold number (k ∷ sleds) loads) = omega (arith, ap length none) in
          subst (λ (n : ℕ). is_held_at hold n ≡ true) here (held_if held (found.begins release));
      word_is = found.word_is;
      recording_is = recording_step program threads thread hold number k sleds loads (Wants word recording) is ∙ found.recording_is;
      adds = λ load. subst (λ (ms : List Mark). Adds program threads thread hold number k sleds ms
          (marks_from program threads thread hold number (k ∷ sleds) (loads ++ load ∷ [])) (next_from program threads thread hold number (k ∷ sleds) (loads ++ load ∷ []))
          (recording_from program threads thread hold number (k ∷ sleds) (loads ++ load ∷ []))
          (after_load (sled_logs_args program k) found.at load.value)) (sym none)
          (adds_first program threads thread hold number k sleds (loads ++ load ∷ []) (after_load (sled_logs_args program k) found.at load.value)
          (starts program threads thread k held (loads ++ load ∷ []) ∙ (found.on (load ∷ []) ∙ stage_reads program threads thread k found.at load [])));
    }

in_later : (program : Program) (threads thread : ℕ) (hold : Option ℕ) (number k : ℕ) (sleds : List ℕ) (loads : List Load) (word : ℕ) (mark : Mark) (following : List Load)
    → from_start program threads thread (is_held_at hold number) k loads ≡ Marked mark following
    → InPassing program threads thread hold (number + 1) sleds following word
    → InPassing program threads thread hold number (k ∷ sleds) loads word
in_later program threads thread hold number k sleds loads word mark following is later =
    let held = is_held_at hold number in
    let all : marks_from program threads thread hold number (k ∷ sleds) loads ≡ mark ∷ marks_from program threads thread hold (number + 1) sleds following =
    marks_step program threads thread hold number k sleds loads (Marked mark following) is in
    record {
      sled = later.sled;
      rest = later.rest;
      before = k ∷ later.before;
      passed = ap (λ ks. k ∷ ks) later.passed;
      count = ap suc later.count ∙ sym (ap length all);
      at = later.at;
      held = λ release.
          let there : number + 1 + length (marks_from program threads thread hold (number + 1) sleds following)
          ≡ number + length (marks_from program threads thread hold number (k ∷ sleds) loads) = omega (arith, ap length all) in
          subst (λ (n : ℕ). is_held_at hold n ≡ true) there (later.held release);
      word_is = later.word_is;
      recording_is = recording_step program threads thread hold number k sleds loads (Marked mark following) is ∙ later.recording_is;
      adds = λ load.
          let more = starts program threads thread k held (loads ++ load ∷ []) ∙ closed_at program threads thread k (stage_by held) loads mark following (load ∷ [])
          (sym (starts program threads thread k held loads) ∙ is) in
          adds_in_front program threads thread hold number later.sled later.rest mark _ _ _ _ _ _ _ _ (after_load (sled_logs_args program later.sled) later.at load.value) all
          (marks_step program threads thread hold number k sleds (loads ++ load ∷ []) (Marked mark (following ++ load ∷ [])) more)
          (next_step program threads thread hold number k sleds (loads ++ load ∷ []) (Marked mark (following ++ load ∷ [])) more)
          (recording_step program threads thread hold number k sleds (loads ++ load ∷ []) (Marked mark (following ++ load ∷ [])) more)
          (later.adds load);
    }

in_by : (program : Program) (threads thread : ℕ) (hold : Option ℕ) (number k : ℕ) (sleds : List ℕ) (loads : List Load) (word : ℕ)
    → ((following : List Load) → next_from program threads thread hold (number + 1) sleds following ≡ Some word → InPassing program threads thread hold (number + 1) sleds following word)
    → (reading : Reading) → from_start program threads thread (is_held_at hold number) k loads ≡ reading
    → next_from program threads thread hold number (k ∷ sleds) loads ≡ Some word
    → InPassing program threads thread hold number (k ∷ sleds) loads word
in_by program threads thread hold number k sleds loads word later (Wants w recording) is wants =
    let other = next_step program threads thread hold number k sleds loads (Wants w recording) is in
    let same : w ≡ word = cc in
    in_first program threads thread hold number k sleds loads word recording (is ∙ ap (λ v. Wants v recording) same)
in_by program threads thread hold number k sleds loads word later (Marked mark following) is wants =
    in_later program threads thread hold number k sleds loads word mark following is
    (later following (sym (next_step program threads thread hold number k sleds loads (Marked mark following) is) ∙ wants))

pub in_passing : (program : Program) (threads thread : ℕ) (hold : Option ℕ) (number : ℕ) (sleds : List ℕ) (loads : List Load) (word : ℕ)
    → next_from program threads thread hold number sleds loads ≡ Some word → InPassing program threads thread hold number sleds loads word
in_passing program threads thread hold number [] loads word wants = absurd cc
in_passing program threads thread hold number (k ∷ sleds) loads word wants =
    in_by program threads thread hold number k sleds loads word
    (λ following next. in_passing program threads thread hold (number + 1) sleds following word next)
    (from_start program threads thread (is_held_at hold number) k loads) refl wants
