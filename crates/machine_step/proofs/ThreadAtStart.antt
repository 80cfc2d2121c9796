-- A traced thread before its first load.
use Rattle.std.proofs.Common.{◌≡◌, ℕ, ◌+◌, List, [], length, refl, sym, ap, ◌∙◌, arith}
use Rattle.std.specs.Prelude.{All}
use Rattle.xray_image.specs.Program.{Program}
use Rattle.sled_words.specs.Allowed.{IsAllowed}
use Rattle.machine_step.specs.declared.cpu.Cpu.TheInside.{Inside}
use Rattle.machine_step.specs.declared.end.End.{End}
use Rattle.machine_step.specs.declared.stand.Stand.{Stand}
use Rattle.machine_step.specs.declared.stand.Stand.TheVariants.{Gate, Loading, Ended}
use Rattle.machine_step.specs.PlainStep.{State, Passing, PlainRun, opening, passing_at}
use Rattle.machine_step.specs.private.Inside.{traced, want_at, IsOfThread, IsSound, StandsSo}
use Rattle.machine_step.specs.Loads.{Load, next_from}
use Rattle.machine_step.specs.private.Machine.{state_at, first_machine, IsWithin}
use Rattle.machine_step.specs.private.Standing.{RunsBy}
use Rattle.machine_step.specs.Traced.{HasLoaded, IsFresh, IsLoad, sleds_passed, wanted_after}
use Rattle.machine_step.proofs.Accepted.{are_in_order}
use Rattle.machine_step.proofs.ThreadAfterLoad.{IsBetween, between_recording, is_between, wants_at}
use Rattle.machine_step.proofs.MarksAfterLoad.{first_recording, no_marks}
use Rattle.machine_step.proofs.PlainWays.{way_count, run_count}
use Rattle.machine_step.proofs.WayToSled.{at_passing}

-- its fields before the first load
pub record Begun (a : Inside) : Type 0 where
  pub setup : IsOfThread a.steps.now a.limits a.thread a.threads
  pub within : IsWithin a.limits a.machine
  pub room : a.marks.room ≡ a.limits.passings
  pub unmarked : a.marks.items ≡ []
  pub runs : RunsBy a.steps.now a.limits a.thread a.steps.now.entry (first_machine a.thread) [] a.stand a.machine

stands_begun : (a : Inside) → Begun a → (stand : Stand)
    → RunsBy a.steps.now a.limits a.thread a.steps.now.entry (first_machine a.thread) [] stand a.machine
    → StandsSo a stand × (a.machine.passings ≡ 0)
stands_begun a begun (Gate place k) (there, at, (n, reached)) =
    let program = a.steps.now in
    let count : a.machine.passings ≡ 0 + 0 = way_count program a.limits a.thread n (opening program a.thread) (state_at there a.machine) [] reached in
    let next = at_passing program (are_in_order begun.setup.bytes program begun.setup.accepted) a.limits a.thread there place k a.machine at.step begun.within
    at.placed at.is_step at.due in (
      record {
        address = there;
        at = at;
        passed = [];
        next = passing_at a.limits a.thread (state_at there a.machine) k next.sled;
        count = omega arith;
        comes = record { steps = n; reached = reached; following = next.next; passes = next.passes };
      },
      omega arith,
    )
stands_begun a begun (Loading place k at) run = absurd run
stands_begun a begun (Ended end) (there, (n, run)) =
    let program = a.steps.now in
    let count : a.machine.passings ≡ 0 + 0 = run_count program a.limits a.thread n (opening program a.thread) (state_at there a.machine) [] end run in
    (record { address = there; passed = []; count = omega arith; run = (n, run) }, omega arith)

pub sound_begun : (a : Inside) → Begun a → IsSound a
sound_begun a begun =
    let stands = stands_begun a begun a.stand begun.runs in
    let none : length a.marks.items ≡ 0 = ap length begun.unmarked in
    record {
      setup = begun.setup;
      within = begun.within;
      room = begun.room;
      made = omega (arith, stands.1);
      stands = stands.0;
    }

no_load : (program : Program) (threads thread made : ℕ) (stand : Stand) → IsBetween stand → IsLoad (want_at program threads thread made stand) → ⊥
no_load program threads thread made (Gate place k) between load = load
no_load program threads thread made (Loading place k at) between load = between
no_load program threads thread made (Ended end) between load = load

pub fresh_begun : (a : Inside) → Begun a → IsFresh (traced a)
fresh_begun a begun = record {
  no_marks = begun.unmarked;
  no_load = no_load a.steps.now a.threads a.thread a.machine.passings a.stand
      (is_between a.steps.now a.limits a.thread a.steps.now.entry (first_machine a.thread) a.machine [] a.stand begun.runs);
}

all_none : {X : Type 0} (P : X → Type 0) → All P []
all_none P k d below = absurd (omega arith)

pub loads_begun : (a : Inside) → Begun a → (all : List Passing) (end : End) (last : State) → PlainRun a.steps.now a.limits a.thread all end last
    → HasLoaded (traced a) all []
loads_begun a begun all end last run =
    let sound = sound_begun a begun in
    let none : length a.marks.items ≡ 0 = ap length begun.unmarked in
    let between = is_between a.steps.now a.limits a.thread a.steps.now.entry (first_machine a.thread) a.machine [] a.stand begun.runs in
    record {
      end = end;
      last = last;
      run = run;
      wanted = λ i load found. absurd cc;
      allowed = all_none (λ (load : Load). IsAllowed a.steps.now a.threads a.thread load.word load.value);
      marks = begun.unmarked ∙ sym (no_marks a.steps.now a.threads a.thread a.hold 0 (sleds_passed all));
      recording = between_recording a.stand between ∙ sym (first_recording a.steps.now a.threads a.thread a.hold 0 (sleds_passed all));
      wants = wants_at a sound [] all all end last (wanted_after (traced a) all []) run refl none
          (ap (λ n. next_from a.steps.now a.threads a.thread a.hold n (sleds_passed all) []) (sym none))
          a.stand sound.stands between;
    }
