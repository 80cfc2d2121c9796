-- A passing whose loads are made before the thread is told of them.
use Rattle.std.proofs.Common.{◌≡◌, ◌<◌, ◌++◌, ℕ, Bool, List, length, refl, sym, ap, ◌∙◌, arith}
use Rattle.xray_image.specs.Program.{Program}
use Rattle.sled_words.specs.declared.part.Part.TheVariants.{Head}
use Rattle.sled_words.specs.Words.{release_word, word_of}
use Rattle.machine_step.specs.declared.cpu.Cpu.TheInside.{Inside}
use Rattle.machine_step.specs.declared.stage.Next.{Next}
use Rattle.machine_step.specs.declared.stage.Next.TheVariants.{Loads}
use Rattle.machine_step.specs.declared.stage.Stage.{Stage}
use Rattle.machine_step.specs.declared.stage.Stage.TheVariants as stages
use Rattle.machine_step.specs.declared.stand.Stand.{Stand}
use Rattle.machine_step.specs.declared.stand.Stand.TheVariants.{Gate, Loading, Ended}
use Rattle.machine_step.specs.declared.underway.Underway.{Underway}
use Rattle.machine_step.specs.declared.want.Want.TheVariants as wants
use Rattle.machine_step.specs.private.Inside.{traced, want_at, IsSound}
use Rattle.machine_step.specs.private.Stages.{after_load, word_at}
use Rattle.machine_step.specs.Loads.{Load, sled_logs_args}
use Rattle.machine_step.specs.PlainStep.{Passing}
use Rattle.machine_step.specs.Traced.{Allows, HasLoaded, IsKept, Traced, ending_mark, load_of, loads_left}
use Rattle.machine_step.specs.Underway.{IsPassingOf, WantsHead, in_passing}
use Rattle.machine_step.proofs.GivenThread.{clause_goes_on}
use Rattle.machine_step.proofs.LoadedValues.{mark_in, mark_left, nearer_on}
use Rattle.machine_step.proofs.MarksAfterLoad.{release_after}
use Rattle.machine_step.proofs.OpenedPassing.{loading_at, sled_within, sound_loading, standing}
use Rattle.machine_step.proofs.WordsAt.{release_stage}

-- ---- where the thread is

-- the head of a sled is the word of no other stage
head_only : (program : Program) (threads thread own k : ℕ) (at_stage : Stage) → k < length program.sleds
    → word_at program threads thread own at_stage ≡ word_of k Head → own ≡ k
head_only program threads thread own k stages.Release within same = absurd (omega arith)
head_only program threads thread own k stages.Head within same = omega arith
head_only program threads thread own k stages.Id within same = absurd (omega arith)
head_only program threads thread own k stages.Opcode within same = absurd (omega arith)
head_only program threads thread own k stages.Offset within same = absurd (omega arith)
head_only program threads thread own k stages.ArgHandler within same = absurd (omega arith)
head_only program threads thread own k stages.Handler within same = absurd (omega arith)
head_only program threads thread own k stages.State within same = absurd (omega arith)
head_only program threads thread own k stages.ArgState within same = absurd (omega arith)

-- a thread that wants the head of a sled is in a passing of it
pub record IsLoadingAt (a : Inside) (k : ℕ) : Type 0 where
  pub place : ℕ
  pub at_stage : Stage
  pub is : a.stand ≡ Loading place k at_stage

by_want : (a : Inside) (k : ℕ) → k < length a.steps.now.sleds → (stand : Stand) → a.stand ≡ stand
    → want_at a.steps.now a.threads a.thread a.machine.passings stand ≡ wants.Load (word_of k Head) → IsLoadingAt a k
by_want a k within (Gate place own) is wants = absurd cc
by_want a k within (Ended end) is wants = absurd cc
by_want a k within (Loading place own at_stage) is wants =
    let words : word_at a.steps.now a.threads a.thread own at_stage ≡ word_of k Head = cc in
    let same = head_only a.steps.now a.threads a.thread own k at_stage within words in
    record { place = place; at_stage = at_stage; is = is ∙ ap (λ (n : ℕ). Loading place n at_stage) same }

pub loading_of : (a : Inside) (u : Underway) → IsPassingOf (traced a) u → IsLoadingAt a u.sled
loading_of a u of = by_want a u.sled of.exists a.stand refl of.head

-- ---- the thread, once it has come to where the passing is

-- its fields
abbrev pub come_to : (a : Inside) (u : Underway) → ℕ → Inside
come_to a u place = standing a (Loading place u.sled u.stage)

come_sound : (a : Inside) → IsSound a → (u : Underway) → IsPassingOf (traced a) u → (here : IsLoadingAt a u.sled) → IsSound (come_to a u here.place)
come_sound a sound u of here =
    sound_loading a sound here.place u.sled u.stage (loading_at a sound here.place u.sled here.at_stage here.is) (λ held. absurd (of.free held))

-- ---- what a load brings

-- it doesn't come back to the release word
pub still_free : (logs : Bool) (u : Underway) (next : Stage) (value : ℕ) → (u.stage ≡ stages.Release → ⊥) → after_load logs u.stage value ≡ Loads next
    → next ≡ stages.Release → ⊥
still_free logs u next value free following same = free (release_after logs u.stage value (following ∙ ap Loads same))

pub loads_on : (a : Inside) → IsSound a → (u : Underway) → IsPassingOf (traced a) u → (next : Stage) (value : ℕ)
    → after_load (sled_logs_args a.steps.now u.sled) u.stage value ≡ Loads next
    → Allows (in_passing (traced a) u) (in_passing (traced a) u).want value → (passed : List Passing) (loads : List Load)
    → HasLoaded (in_passing (traced a) u) passed loads
    → HasLoaded (in_passing (traced a) (record { sled = u.sled; stage = next })) passed (loads ++ load_of (in_passing (traced a) u).want value)
loads_on a sound u of next value following allows passed loads has =
    let here = loading_of a u of in
    clause_goes_on (come_to a u here.place) (come_sound a sound u of here) here.place u.sled u.stage next value refl following allows passed loads has

-- it ends the passing, or doesn't
pub mark_by : (a : Inside) → IsSound a → (u : Underway) → IsPassingOf (traced a) u → (value : ℕ) (next : Next)
    → after_load (sled_logs_args a.steps.now u.sled) u.stage value ≡ next
    → ending_mark a.steps.now (in_passing (traced a) u).recording (in_passing (traced a) u).want value ≡ mark_in next
mark_by a sound u of value next following =
    let here = loading_of a u of in
    mark_left (come_to a u here.place) (come_sound a sound u of here) here.place u.sled u.stage value next refl following

-- no load of it holds the thread
pub kept_never : (a : Inside) → IsSound a → (u : Underway) → IsPassingOf (traced a) u → (value : ℕ) → IsKept (in_passing (traced a) u) value → ⊥
kept_never a sound u of value kept =
    let words : word_at a.steps.now a.threads a.thread u.sled u.stage ≡ release_word a.steps.now a.thread = by_load _ _ kept.word in
    of.free (release_stage a.steps.now a.threads a.thread u.sled u.stage of.exists sound.setup.some_thread sound.setup.no_more words)
  where
    by_load : (x y : ℕ) → wants.Load x ≡ wants.Load y → x ≡ y
    by_load x y is = cc

pub nearer_by : (a : Inside) → IsSound a → (u : Underway) → IsPassingOf (traced a) u → (next : Stage) (value : ℕ)
    → after_load (sled_logs_args a.steps.now u.sled) u.stage value ≡ Loads next
    → loads_left (in_passing (traced a) (record { sled = u.sled; stage = next })) < loads_left (in_passing (traced a) u)
nearer_by a sound u of next value following =
    let here = loading_of a u of in
    nearer_on (come_to a u here.place) (come_sound a sound u of here) here.place u.sled u.stage next value refl following (kept_never a sound u of value)

-- ---- the passing of a thread that wants the head of a sled

pub passing_of : (a : Inside) → IsSound a → (place : ℕ) (u : Underway) → a.stand ≡ Loading place u.sled u.stage → u.stage ≡ stages.Head
    → IsPassingOf (traced a) u
passing_of a sound place u is head = record {
  exists = sled_within a sound place u.sled (loading_at a sound place u.sled u.stage is);
  head =
      ap (want_at a.steps.now a.threads a.thread a.machine.passings) is
      ∙ ap (λ (s : Stage). wants.Load (word_at a.steps.now a.threads a.thread u.sled s)) head;
  free = λ held. let same : stages.Head ≡ stages.Release = sym head ∙ held in cc;
}

pub wants_head_of : (t : Traced) (u : Underway) → IsPassingOf t u → WantsHead t
wants_head_of t u of = record { sled = u.sled; exists = of.exists; head = of.head }
