-- What giving a value to a traced thread leaves, in the words of the contract.
use Rattle.std.proofs.Common.{◌≡◌, ℕ, Bool, List, [], ◌∷◌, ◌++◌, Option, Some, sym, ap, ◌∙◌, subst}
use Rattle.std.specs.Prelude.{slice_get}
use Rattle.fdr_record.specs.declared.event.Event.{Event}
use Rattle.xray_image.specs.declared.sled.Sled.{Sled}
use Rattle.xray_image.specs.Program.{Program}
use Rattle.sled_words.specs.Allowed.{IsAllowed}
use Rattle.handler_word.specs.declared.mark.Mark.{Mark}
use Rattle.handler_word.specs.MarkList.{MarkList}
use Rattle.machine_step.specs.declared.cpu.Cpu.TheInside.{Inside}
use Rattle.machine_step.specs.declared.end.End.{End}
use Rattle.machine_step.specs.declared.machine.Machine.{Machine}
use Rattle.machine_step.specs.declared.stage.Next.{Next}
use Rattle.machine_step.specs.declared.stage.Next.TheVariants.{Loads, Ends}
use Rattle.machine_step.specs.declared.stage.Stage.{Stage}
use Rattle.machine_step.specs.declared.stand.Stand.{Stand}
use Rattle.machine_step.specs.declared.stand.Stand.TheVariants.{Loading}
use Rattle.machine_step.specs.Events.{event_of, events_in, recorded}
use Rattle.machine_step.specs.private.Inside.{traced, want_at, IsAtPassing, IsSound, IsStageOf, StandsSo}
use Rattle.machine_step.specs.Loads.{Load, sled_logs_args}
use Rattle.machine_step.specs.private.Machine.{state_at, IsWithin}
use Rattle.machine_step.specs.PlainStep.{State, Passing, PlainRun, passing_at}
use Rattle.machine_step.specs.private.Stages.{word_at, after_load}
use Rattle.machine_step.specs.private.Standing.{IsAtSled, PassesTo}
use Rattle.machine_step.specs.Traced.{Allows, HasLoaded, load_of}
use Rattle.machine_step.proofs.ThreadAfterLoad.{Ending, IsBetween, passed_on, goes_on_loads, ends_loads, is_between}
use Rattle.machine_step.proofs.LoadedValues.{events_more}
use Rattle.machine_step.proofs.MarksAfterLoad.{release_after}
use Rattle.machine_step.proofs.OpenedPassing.{standing}
use Rattle.machine_step.proofs.ThreadOnPlainRun.{before_of}

-- the value is allowed for the word of its stage
allowed_here : (a : Inside) (place k : ℕ) (at_stage : Stage) (value : ℕ) → a.stand ≡ Loading place k at_stage → Allows (traced a) (traced a).want value
    → IsAllowed a.steps.now a.threads a.thread (word_at a.steps.now a.threads a.thread k at_stage) value
allowed_here a place k at_stage value is allows =
    subst (λ (s : Stand). Allows (traced a) (want_at a.steps.now a.threads a.thread a.machine.passings s) value) is allows

load_here : (a : Inside) (place k : ℕ) (at_stage : Stage) (value : ℕ) → a.stand ≡ Loading place k at_stage
    → load_of (want_at a.steps.now a.threads a.thread a.machine.passings (Loading place k at_stage)) value ≡ load_of (traced a).want value
load_here a place k at_stage value is =
    ap (λ (s : Stand). load_of (want_at a.steps.now a.threads a.thread a.machine.passings s) value) (sym is)

-- what the load leads to, at a sled of the thread's own program
pub leads : (a : Inside) (image : Program) (k : ℕ) (at_stage : Stage) (value : ℕ) (next : Next) → image ≡ a.steps.now
    → next ≡ after_load (sled_logs_args image k) at_stage value → after_load (sled_logs_args a.steps.now k) at_stage value ≡ next
leads a image k at_stage value next same is = sym (is ∙ ap (λ (q : Program). after_load (sled_logs_args q k) at_stage value) same)

pub clause_goes_on : (a : Inside) → IsSound a → (place k : ℕ) (at_stage next : Stage) (value : ℕ) → a.stand ≡ Loading place k at_stage
    → after_load (sled_logs_args a.steps.now k) at_stage value ≡ Loads next → Allows (traced a) (traced a).want value
    → (all : List Passing) (loads : List Load) → HasLoaded (traced a) all loads
    → HasLoaded (traced (standing a (Loading place k next))) all (loads ++ load_of (traced a).want value)
clause_goes_on a sound place k at_stage next value is following allows all loads has =
    subst (λ (ls : List Load). HasLoaded (traced (standing a (Loading place k next))) all (loads ++ ls)) (load_here a place k at_stage value is)
    (goes_on_loads a sound place k at_stage next value is following (allowed_here a place k at_stage value is allows) all loads has)

pub clause_ends : (a : Inside) → IsSound a → (place k : ℕ) (at_stage : Stage) (value : ℕ) → (is : a.stand ≡ Loading place k at_stage) (mark : Mark)
    → after_load (sled_logs_args a.steps.now k) at_stage value ≡ Ends mark → Allows (traced a) (traced a).want value
    → (m : Machine) (ms : MarkList) (stand : Stand) (at : IsAtPassing a place k) → Ending a m ms stand at.address mark
    → (all : List Passing) (loads : List Load) → HasLoaded (traced a) all loads
    → HasLoaded (traced (passed_on a m ms stand)) all (loads ++ load_of (traced a).want value)
clause_ends a sound place k at_stage value is mark following allows m ms stand at ending all loads has =
    subst (λ (ls : List Load). HasLoaded (traced (passed_on a m ms stand)) all (loads ++ ls)) (load_here a place k at_stage value is)
    (ends_loads a sound place k at_stage value is mark following (allowed_here a place k at_stage value is allows) m ms stand at ending all loads has)

-- the passing ended in this way
pub ending_of : (a : Inside) (place k : ℕ) (at : IsAtPassing a place k) (m : Machine) (ms : MarkList) (stand : Stand) (mark : Mark)
    → IsWithin a.limits m → ms.items ≡ a.marks.items ++ mark ∷ [] → ms.room ≡ a.marks.room
    → ((address j : ℕ) → IsAtSled a.steps.now a.limits address place j a.machine → PassesTo a.steps.now a.limits address a.machine stand m)
    → Ending a m ms stand at.address mark
ending_of a place k at m ms stand mark within items room passes =
    let passing = passes at.address k at.at a.thread in
    record { within = within; items = items; room = room; made = passing.0; runs = passing.1 }

pub between_of : (a : Inside) (place k : ℕ) (at : IsAtPassing a place k) (m : Machine) (ms : MarkList) (stand : Stand) (mark : Mark)
    → Ending a m ms stand at.address mark → IsBetween stand
between_of a place k at m ms stand mark ending =
    is_between a.steps.now a.limits a.thread at.address a.machine m (ending.made ∷ []) stand ending.runs

-- the events, with that of the passing
pub clause_events : (a : Inside) → IsSound a → (place k : ℕ) → IsAtPassing a place k → (ms : List Mark) (mark : Mark) (answer : Option Event) (sled : Sled)
    → ms ≡ a.marks.items ++ mark ∷ [] → slice_get a.steps.now.sleds k ≡ Some sled
    → ((address j : ℕ) → answer ≡ event_of (passing_at a.limits a.thread (state_at address a.machine) j sled) mark)
    → (all : List Passing) (end : End) (last : State) → PlainRun a.steps.now a.limits a.thread all end last
    → recorded all ms ≡ recorded all a.marks.items ++ events_in answer
clause_events a sound place k at ms mark answer sled more found answered =
    let before = before_of a sound place k at in
    let same : sled ≡ before.sled = one sled before.sled (sym found ∙ before.found) in
    events_more a sound place k at ms mark answer more (λ address j.
    answered address j
    ∙ ap (λ (s : Sled). event_of (passing_at a.limits a.thread (state_at address a.machine) j s) mark) same)
  where
    one : (s t : Sled) → Some s ≡ Some t → s ≡ t
    one s t is = cc

-- a release word is loaded again only after a release word
pub stage_after : (logs : Bool) (hold : Option ℕ) (passing : ℕ) (at_stage next : Stage) (value : ℕ) → after_load logs at_stage value ≡ Loads next
    → IsStageOf hold passing at_stage → IsStageOf hold passing next
stage_after logs hold passing at_stage next value following held same = held (release_after logs at_stage value (following ∙ ap Loads same))

pub held_at : (a : Inside) → IsSound a → (place k : ℕ) (at_stage : Stage) → a.stand ≡ Loading place k at_stage → IsStageOf a.hold a.machine.passings at_stage
held_at a sound place k at_stage is = (subst (StandsSo a) is sound.stands).1
