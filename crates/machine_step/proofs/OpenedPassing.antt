-- A traced thread that is let into a passing.
use Rattle.std.proofs.Common.{◌≡◌, ℕ, ◌<◌, ◌≤◌, ◌==◌, inl, inr, Bool, true, false, List, length, Option, Some, None, refl, sym, ap, ◌∙◌, subst, arith}
use Rattle.std.specs.Prelude.{◌↔◌, slice_get, IsTrue}
use Rattle.std.proofs.lemmas.Bool.{eqb-true}
use Rattle.std.proofs.lemmas.Option.{slice_get_within}
use Rattle.xray_image.specs.declared.sled.Sled.{Sled}
use Rattle.xray_image.specs.Program.{Program}
use Rattle.sled_words.specs.Words.{IsCodeWord}
use Rattle.handler_word.specs.declared.mark.Mark.{Mark}
use Rattle.handler_word.specs.declared.mark.Mark.TheVariants as marks
use Rattle.machine_step.specs.declared.cpu.Cpu.TheInside.{Inside}
use Rattle.machine_step.specs.declared.stage.Stage.{Stage}
use Rattle.machine_step.specs.declared.stage.Stage.TheVariants as stages
use Rattle.machine_step.specs.declared.stand.Stand.{Stand}
use Rattle.machine_step.specs.declared.stand.Stand.TheVariants.{Gate, Loading, Ended}
use Rattle.machine_step.specs.declared.want.Want.{Want}
use Rattle.machine_step.specs.PlainStep.{Passing}
use Rattle.machine_step.specs.private.Inside.{traced, recording_in, want_at, IsAtPassing, IsSound, IsStageOf, StandsSo}
use Rattle.machine_step.specs.Loads.{Load, is_held_at}
use Rattle.machine_step.specs.private.Stages.{AllowsAt, word_at, recording_at, first_stage, stage_by}
use Rattle.machine_step.specs.Traced.{Allows, HasLoaded, IsLoadable, IsWant, StandsAs, Traced, wanted_after}
use Rattle.machine_step.proofs.ThreadOnPlainRun.{before_of, begins_at, stands_before, stands_past}
use Rattle.machine_step.proofs.WordsAt.{allowed_at, allows_at}

-- what it wants says where it is, wherever that is
stands_as : (a : Inside) → IsSound a → (stand : Stand) → StandsSo a stand
    → StandsAs (traced a) (want_at a.steps.now a.threads a.thread a.machine.passings stand)
stands_as a sound (Gate place k) at = stands_before a sound place k at
stands_as a sound (Loading place k at) (here, at_stage) = stands_before a sound place k here
stands_as a sound (Ended end) past = stands_past a sound end past

pub stands : (a : Inside) → IsSound a → (stand : Stand) → a.stand ≡ stand
    → StandsAs (traced a) (want_at a.steps.now a.threads a.thread a.machine.passings stand)
stands a sound stand is = stands_as a sound stand (subst (StandsSo a) is sound.stands)

-- the sled that it is before is one of the image's
pub sled_within : (a : Inside) → IsSound a → (place k : ℕ) → IsAtPassing a place k → k < length a.steps.now.sleds
sled_within a sound place k at =
    let before = before_of a sound place k at in slice_get_within a.steps.now.sleds k before.sled before.found

pub loading_at : (a : Inside) → IsSound a → (place k : ℕ) (at_stage : Stage) → a.stand ≡ Loading place k at_stage → IsAtPassing a place k
loading_at a sound place k at_stage is = (subst (StandsSo a) is sound.stands).0

pub gate_at : (a : Inside) → IsSound a → (place k : ℕ) → a.stand ≡ Gate place k → IsAtPassing a place k
gate_at a sound place k is = subst (StandsSo a) is sound.stands

-- the first stage is the release word's only if the script holds the thread
held_by : (held passing : ℕ) (b : Bool) → (held == passing) ≡ b → stage_by b ≡ stages.Release → held ≡ passing
held_by held passing true is same = eqb-true held passing is
held_by held passing false is same = absurd cc

pub first_of_hold : (hold : Option ℕ) (passing : ℕ) → IsStageOf hold passing (first_stage hold passing)
first_of_hold None passing same = absurd cc
first_of_hold (Some held) passing same = ap Some (held_by held passing (held == passing) refl same)

-- a passing that begins would record without an argument
begun_by : (b : Bool) → recording_at (stage_by b) ≡ marks.Recorded
begun_by true = refl
begun_by false = refl

pub first_records : (hold : Option ℕ) (passing : ℕ) → recording_at (first_stage hold passing) ≡ marks.Recorded
first_records hold passing = begun_by (is_held_at hold passing)

-- its fields, with another stand
abbrev pub standing : Inside → Stand → Inside
standing a stand = record a { stand = stand }

same_at : (a : Inside) (stand : Stand) (place k : ℕ) → IsAtPassing a place k → IsAtPassing (standing a stand) place k
same_at a stand place k at = record { address = at.address; at = at.at; passed = at.passed; next = at.next; count = at.count; comes = at.comes }

pub sound_loading : (a : Inside) → IsSound a → (place k : ℕ) (at_stage : Stage) → IsAtPassing a place k
    → IsStageOf a.hold a.machine.passings at_stage → IsSound (standing a (Loading place k at_stage))
sound_loading a sound place k at_stage at held = record {
  setup = sound.setup;
  within = sound.within;
  room = sound.room;
  made = sound.made;
  stands = (same_at a (Loading place k at_stage) place k at, held);
}

-- the loads stay, and the first word of the passing is wanted
pub opened_loads : (a : Inside) → IsSound a → (place k : ℕ) (at_stage : Stage) → a.stand ≡ Gate place k
    → at_stage ≡ first_stage a.hold a.machine.passings → (all : List Passing) (loads : List Load)
    → HasLoaded (traced a) all loads → HasLoaded (traced (standing a (Loading place k at_stage))) all loads
opened_loads a sound place k at_stage is first all loads has =
    let wants = subst (λ (s : Stand). IsWant (traced a) all (wanted_after (traced a) all loads) has.end (want_at a.steps.now a.threads a.thread a.machine.passings s)) is has.wants in
    let next = begins_at a sound place k (gate_at a sound place k is) all has.end has.last (wanted_after (traced a) all loads) has.run wants.1 in
    record {
      end = has.end;
      last = has.last;
      run = has.run;
      wants = next ∙ ap (λ (s : Stage). Some (word_at a.steps.now a.threads a.thread k s)) (sym first);
      wanted = has.wanted;
      allowed = has.allowed;
      marks = has.marks;
      recording = ap recording_at first ∙ (first_records a.hold a.machine.passings ∙ (sym (ap recording_in is) ∙ has.recording));
    }

-- nothing but what it wants changes
pub opened_same : (a : Inside) (place k : ℕ) (at_stage : Stage) → a.stand ≡ Gate place k → at_stage ≡ first_stage a.hold a.machine.passings
    → traced (standing a (Loading place k at_stage)) ≡ record (traced a) { want = (traced (standing a (Loading place k at_stage))).want }
opened_same a place k at_stage is first =
    let wants : Want = (traced (standing a (Loading place k at_stage))).want in
    ap (λ (r : Mark). let t : Traced = record (traced a) { recording = r; want = wants } in t)
    (ap recording_at first ∙ (first_records a.hold a.machine.passings ∙ sym (ap recording_in is)))

-- what it wants says where it is
pub stands_now : (a : Inside) → IsSound a → StandsAs (traced a) (traced a).want
stands_now a sound = stands a sound a.stand refl

pub stands_seen : (a : Inside) (t : Traced) → traced a ≡ t → IsSound a → StandsAs t t.want
stands_seen a t view sound = subst (λ (t : Traced). StandsAs t t.want) view (stands_now a sound)

-- ---- which values are allowed

-- what is allowed at its stage is what it allows
pub allows_by : (a : Inside) → IsSound a → (place k : ℕ) (at_stage : Stage) (value : ℕ) → a.stand ≡ Loading place k at_stage → (answer : Bool)
    → ((sled : Sled) → slice_get a.steps.now.sleds k ≡ Some sled → IsTrue answer ↔ AllowsAt a.steps.now.trampolines sled at_stage value)
    → IsTrue answer ↔ Allows (traced a) (traced a).want value
allows_by a sound place k at_stage value is answer allows =
    let at = loading_at a sound place k at_stage is in
    let before = before_of a sound place k at in
    let here = allows before.sled before.found in
    subst (λ (s : Stand). IsTrue answer ↔ Allows (traced a) (want_at a.steps.now a.threads a.thread a.machine.passings s) value) (sym is) (
      λ true. allowed_at a.steps.now a.threads a.thread k value before.sled at_stage sound.setup.some_thread before.found (here.0 true),
      λ allowed. here.1 (allows_at a.steps.now a.threads a.thread k value before.sled at_stage sound.setup.some_thread before.found allowed),
    )

-- ---- the word that it wants

-- the words of a passing are code words
word_within : (program : Program) (threads thread k : ℕ) (at_stage : Stage) → k < length program.sleds → thread ≤ threads
    → IsCodeWord program threads (word_at program threads thread k at_stage)
word_within program threads thread k stages.Release within no_more = inl (omega arith)
word_within program threads thread k stages.Head within no_more = inl (omega arith)
word_within program threads thread k stages.Id within no_more = inl (omega arith)
word_within program threads thread k stages.Opcode within no_more = inl (omega arith)
word_within program threads thread k stages.Offset within no_more = inl (omega arith)
word_within program threads thread k stages.ArgHandler within no_more = inr refl
word_within program threads thread k stages.Handler within no_more = inl (omega arith)
word_within program threads thread k stages.State within no_more = inl (omega arith)
word_within program threads thread k stages.ArgState within no_more = inl (omega arith)

loadable : (a : Inside) → IsSound a → (stand : Stand) → StandsSo a stand
    → IsLoadable (traced a) (want_at a.steps.now a.threads a.thread a.machine.passings stand)
loadable a sound (Gate place k) at = tt
loadable a sound (Loading place k at_stage) (at, held) =
    word_within a.steps.now a.threads a.thread k at_stage (sled_within a sound place k at) sound.setup.no_more
loadable a sound (Ended end) past = tt

pub loadable_now : (a : Inside) → IsSound a → IsLoadable (traced a) (traced a).want
loadable_now a sound = loadable a sound a.stand sound.stands

pub loadable_seen : (a : Inside) (t : Traced) → traced a ≡ t → IsSound a → IsLoadable t t.want
loadable_seen a t view sound = subst (λ (t : Traced). IsLoadable t t.want) view (loadable_now a sound)
