use Rattle.std.proofs.Common.{◌≡◌, ◌<◌, ◌++◌, List, Option, Some, None, length, refl, sym, subst, arith}
use Rattle.std.specs.Prelude.{◌↔◌, IsSome, slice_get}
use Rattle.xray_image.specs.declared.sled.Sled.{Sled}
use Rattle.xray_image.specs.Program.{Program}
use Rattle.fdr_record.specs.declared.event.Event.{Event}
use Rattle.sled_words.specs.Words.{state_word}
use Rattle.machine_step.specs.declared.end.End.{End}
use Rattle.machine_step.specs.declared.stand.Stand.TheVariants.{Loading}
use Rattle.machine_step.specs.declared.want.Want.TheVariants as wants
use Rattle.machine_step.specs.Events.{events_in, recorded}
use Rattle.machine_step.specs.private.Inside.{traced, want_at, IsAtPassing}
use Rattle.machine_step.specs.private.Machine.{state_at}
use Rattle.machine_step.specs.Loads.{Load, sled_logs_args}
use Rattle.machine_step.specs.PlainStep.{Passing, PlainRun, State, passing_at}
use Rattle.machine_step.specs.Traced.{Allows, HasLoaded, IsKept, MarksAdded, Traced, ending_mark, load_of, loads_left}
use Rattle.machine_step.proofs.GivenThread.{between_of, clause_ends, clause_events, clause_goes_on, ending_of, held_at, leads, stage_after}
use Rattle.machine_step.proofs.ThreadAfterLoad.{Ending, IsBetween, passed_on, sound_after}
use Rattle.machine_step.proofs.LoadedValues.{kept_not, kept_same, mark_ends, mark_goes_on, marks_added, nearer_end, nearer_on, some_at_end, some_goes_on}
use Rattle.machine_step.proofs.OpenedPassing.{loading_at, sled_within, sound_loading, standing}
use Rattle.machine_step.proofs.ThreadOnPlainRun.{before_of}
use Rattle.machine_step.proofs.cpu.Cpu.give.Goals as goal

pub invariant_of-self : goal.invariant_of-self
invariant_of-self c =
    let a = c.self.inside in
    let at = loading_at a c.self.invariant c.in-Loading.place c.in-Loading.sled c.in-Loading.stage c.in-Loading.is in
    sound_loading a c.self.invariant c.in-Loading.place c.in-Loading.sled c.in-Loads.stage at
    (stage_after (sled_logs_args a.steps.now c.in-Loading.sled) a.hold a.machine.passings c.in-Loading.stage c.in-Loads.stage c.args.value (leads c.self.inside _ c.in-Loading.sled c.in-Loading.stage c.args.value _ c.image-image.ensures.program c.in-Loads.ensures)
    (held_at a c.self.invariant c.in-Loading.place c.in-Loading.sled c.in-Loading.stage c.in-Loading.is))

pub after_load-requires : goal.after_load-requires
after_load-requires c =
    let a = c.self.inside in
    let at = loading_at a c.self.invariant c.in-Loading.place c.in-Loading.sled c.in-Loading.stage c.in-Loading.is in
    subst (λ (program : Program). c.in-Loading.sled < length program.sleds) (sym c.image-image.ensures.program)
    (sled_within a c.self.invariant c.in-Loading.place c.in-Loading.sled at)

pub event_at-event-requires-clause-sled : goal.event_at-event-requires-clause-sled
event_at-event-requires-clause-sled c =
    let a = c.self.inside in
    let at = loading_at a c.self.invariant c.in-Loading.place c.in-Loading.sled c.in-Loading.stage c.in-Loading.is in
    subst (λ (program : Program). c.in-Loading.sled < length program.sleds) (sym c.image-image.ensures.program)
    (sled_within a c.self.invariant c.in-Loading.place c.in-Loading.sled at)

pub add-requires : goal.add-requires
add-requires c =
    let a = c.self.inside in
    let at = loading_at a c.self.invariant c.in-Loading.place c.in-Loading.sled c.in-Loading.stage c.in-Loading.is in
    let before = before_of a c.self.invariant c.in-Loading.place c.in-Loading.sled at in
    omega (arith, before.left, c.self.invariant.room, c.self.invariant.made)

-- the passing that ends
here : (c : goal.After-self-in-Ends-1) → IsAtPassing c.self.inside c.in-Loading.place c.in-Loading.sled
here c = loading_at c.self.inside c.self.invariant c.in-Loading.place c.in-Loading.sled c.in-Loading.stage c.in-Loading.is

ending : (c : goal.After-self-in-Ends-1)
    → Ending c.self.inside c.pass_sled-self-inside.new.machine c.add.new.self c.pass_sled-self-inside.result (here c).address c.in-Ends.mark
ending c =
    ending_of c.self.inside c.in-Loading.place c.in-Loading.sled (here c) c.pass_sled-self-inside.new.machine c.add.new.self c.pass_sled-self-inside.result c.in-Ends.mark
    c.pass_sled-self-inside.ensures.within c.add.ensures.items c.add.ensures.room c.pass_sled-self-inside.ensures.passes

between : (c : goal.After-self-in-Ends-1) → IsBetween c.pass_sled-self-inside.result
between c =
    between_of c.self.inside c.in-Loading.place c.in-Loading.sled (here c) c.pass_sled-self-inside.new.machine c.add.new.self c.pass_sled-self-inside.result c.in-Ends.mark (ending c)

-- its sled
sled_here : goal.After-self-in-Ends-1 → Sled
sled_here c = (before_of c.self.inside c.self.invariant c.in-Loading.place c.in-Loading.sled (here c)).sled

found_here : (c : goal.After-self-in-Ends-1) → slice_get c.self.inside.steps.now.sleds c.in-Loading.sled ≡ Some (sled_here c)
unfolding sled_here
found_here c = (before_of c.self.inside c.self.invariant c.in-Loading.place c.in-Loading.sled (here c)).found

found : (c : goal.After-self-in-Ends-1) → slice_get c.image-image.result.now.sleds c.in-Loading.sled ≡ Some (sled_here c)
found c = subst (λ (program : Program). slice_get program.sleds c.in-Loading.sled ≡ Some (sled_here c)) (sym c.image-image.ensures.program) (found_here c)

pub invariant_of-self-in-Ends : goal.invariant_of-self-in-Ends
invariant_of-self-in-Ends c =
    sound_after c.self.inside c.self.invariant c.in-Loading.place c.in-Loading.sled (here c) c.pass_sled-self-inside.new.machine c.add.new.self
    c.pass_sled-self-inside.result c.in-Ends.mark (ending c)

pub returns-in-Loads-clause-loads : goal.returns-in-Loads-clause-loads
returns-in-Loads-clause-loads c =
    let a = c.self.inside in
    subst (λ (t : Traced). Allows t t.want c.args.value → (passed : List Passing) (loads : List Load) → HasLoaded t passed loads
    → HasLoaded (traced (standing a (Loading c.in-Loading.place c.in-Loading.sled c.in-Loads.stage))) passed (loads ++ load_of t.want c.args.value)) c.self.view_is
    (clause_goes_on a c.self.invariant c.in-Loading.place c.in-Loading.sled c.in-Loading.stage c.in-Loads.stage c.args.value c.in-Loading.is (leads c.self.inside _ c.in-Loading.sled c.in-Loading.stage c.args.value _ c.image-image.ensures.program c.in-Loads.ensures)) c.requires

pub returns-in-Loads-clause-mark : goal.returns-in-Loads-clause-mark
returns-in-Loads-clause-mark c =
    let a = c.self.inside in
    subst (λ (t : Traced). a.marks.items ≡ t.marks ++ ending_mark t.program t.recording t.want c.args.value) c.self.view_is
    (mark_goes_on a c.self.invariant c.in-Loading.place c.in-Loading.sled c.in-Loading.stage c.in-Loads.stage c.args.value c.in-Loading.is (leads c.self.inside _ c.in-Loading.sled c.in-Loading.stage c.args.value _ c.image-image.ensures.program c.in-Loads.ensures))

pub returns-in-Loads-clause-some : goal.returns-in-Loads-clause-some
returns-in-Loads-clause-some c =
    let none : Option Event = None in
    subst (λ (t : Traced). IsSome none ↔ (t.want ≡ wants.Load (state_word t.program)) × (c.args.value ≡ 2)) c.self.view_is
    (some_goes_on c.self.inside c.self.invariant c.in-Loading.place c.in-Loading.sled c.in-Loading.stage c.in-Loads.stage c.args.value none c.in-Loading.is (leads c.self.inside _ c.in-Loading.sled c.in-Loading.stage c.args.value _ c.image-image.ensures.program c.in-Loads.ensures) refl)

pub returns-in-Loads-clause-kept : goal.returns-in-Loads-clause-kept
returns-in-Loads-clause-kept c =
    let a = c.self.inside in
    subst (λ (t : Traced). IsKept t c.args.value → traced (standing a (Loading c.in-Loading.place c.in-Loading.sled c.in-Loads.stage)) ≡ t) c.self.view_is
    (kept_same a c.self.invariant c.in-Loading.place c.in-Loading.sled c.in-Loading.stage c.in-Loads.stage c.args.value c.in-Loading.is (leads c.self.inside _ c.in-Loading.sled c.in-Loading.stage c.args.value _ c.image-image.ensures.program c.in-Loads.ensures))

pub returns-in-Loads-clause-nearer : goal.returns-in-Loads-clause-nearer
returns-in-Loads-clause-nearer c =
    let a = c.self.inside in
    subst (λ (t : Traced). (IsKept t c.args.value → ⊥) → loads_left (traced (standing a (Loading c.in-Loading.place c.in-Loading.sled c.in-Loads.stage))) < loads_left t)
    c.self.view_is
    (nearer_on a c.self.invariant c.in-Loading.place c.in-Loading.sled c.in-Loading.stage c.in-Loads.stage c.args.value c.in-Loading.is (leads c.self.inside _ c.in-Loading.sled c.in-Loading.stage c.args.value _ c.image-image.ensures.program c.in-Loads.ensures))

pub returns-in-Ends-clause-loads : goal.returns-in-Ends-clause-loads
returns-in-Ends-clause-loads c =
    let a = c.self.inside in
    subst (λ (t : Traced). Allows t t.want c.args.value → (passed : List Passing) (loads : List Load) → HasLoaded t passed loads
    → HasLoaded (traced (passed_on a c.pass_sled-self-inside.new.machine c.add.new.self c.pass_sled-self-inside.result)) passed
    (loads ++ load_of t.want c.args.value)) c.self.view_is
    (λ allows. clause_ends a c.self.invariant c.in-Loading.place c.in-Loading.sled c.in-Loading.stage c.args.value c.in-Loading.is c.in-Ends.mark (leads c.self.inside _ c.in-Loading.sled c.in-Loading.stage c.args.value _ c.image-image.ensures.program c.in-Ends.ensures) allows
    c.pass_sled-self-inside.new.machine c.add.new.self c.pass_sled-self-inside.result (here c) (ending c)) c.requires

pub returns-in-Ends-clause-marks : goal.returns-in-Ends-clause-marks
returns-in-Ends-clause-marks c =
    let a = c.self.inside in
    subst (λ (t : Traced). MarksAdded t.marks c.add.new.self.items
    (want_at a.steps.now a.threads a.thread c.pass_sled-self-inside.new.machine.passings c.pass_sled-self-inside.result)) c.self.view_is
    (marks_added a.steps.now a.threads a.thread c.pass_sled-self-inside.new.machine.passings a.marks.items c.add.new.self.items c.in-Ends.mark
    c.add.ensures.items c.pass_sled-self-inside.result (between c))

pub returns-in-Ends-clause-mark : goal.returns-in-Ends-clause-mark
returns-in-Ends-clause-mark c =
    let a = c.self.inside in
    subst (λ (t : Traced). c.add.new.self.items ≡ t.marks ++ ending_mark t.program t.recording t.want c.args.value) c.self.view_is
    (mark_ends a c.self.invariant c.in-Loading.place c.in-Loading.sled c.in-Loading.stage c.args.value c.in-Ends.mark c.add.new.self.items c.in-Loading.is
    (leads c.self.inside _ c.in-Loading.sled c.in-Loading.stage c.args.value _ c.image-image.ensures.program c.in-Ends.ensures) c.add.ensures.items)

pub returns-in-Ends-clause-some : goal.returns-in-Ends-clause-some
returns-in-Ends-clause-some c =
    subst (λ (t : Traced). IsSome c.event_at-event.result ↔ (t.want ≡ wants.Load (state_word t.program)) × (c.args.value ≡ 2)) c.self.view_is
    (some_at_end c.self.inside c.self.invariant c.in-Loading.place c.in-Loading.sled c.in-Loading.stage c.args.value c.in-Ends.mark
    (passing_at c.self.inside.limits c.self.inside.thread (state_at 0 c.self.inside.machine) 0 (sled_here c)) c.event_at-event.result c.in-Loading.is
    (leads c.self.inside _ c.in-Loading.sled c.in-Loading.stage c.args.value _ c.image-image.ensures.program c.in-Ends.ensures)
    (c.event_at-event.ensures 0 0 (sled_here c) (found c)))

pub returns-in-Ends-clause-event : goal.returns-in-Ends-clause-event
returns-in-Ends-clause-event c =
    subst (λ (t : Traced). (passed : List Passing) (end : End) (last : State) → PlainRun t.program t.limits t.thread passed end last
    → recorded passed c.add.new.self.items ≡ recorded passed t.marks ++ events_in c.event_at-event.result) c.self.view_is
    (clause_events c.self.inside c.self.invariant c.in-Loading.place c.in-Loading.sled (here c) c.add.new.self.items c.in-Ends.mark c.event_at-event.result (sled_here c)
    c.add.ensures.items (found_here c) (λ address j. c.event_at-event.ensures address j (sled_here c) (found c)))

pub returns-in-Ends-clause-kept : goal.returns-in-Ends-clause-kept
returns-in-Ends-clause-kept c =
    let a = c.self.inside in
    subst (λ (t : Traced). IsKept t c.args.value → traced (passed_on a c.pass_sled-self-inside.new.machine c.add.new.self c.pass_sled-self-inside.result) ≡ t)
    c.self.view_is
    (λ kept. absurd (kept_not a c.self.invariant c.in-Loading.place c.in-Loading.sled c.in-Loading.stage c.args.value c.in-Ends.mark c.in-Loading.is (leads c.self.inside _ c.in-Loading.sled c.in-Loading.stage c.args.value _ c.image-image.ensures.program c.in-Ends.ensures) kept))

pub returns-in-Ends-clause-nearer : goal.returns-in-Ends-clause-nearer
returns-in-Ends-clause-nearer c =
    let a = c.self.inside in
    subst (λ (t : Traced). (IsKept t c.args.value → ⊥)
    → loads_left (traced (passed_on a c.pass_sled-self-inside.new.machine c.add.new.self c.pass_sled-self-inside.result)) < loads_left t) c.self.view_is
    (λ free. nearer_end a c.self.invariant c.in-Loading.place c.in-Loading.sled c.in-Loading.stage c.in-Loading.is c.pass_sled-self-inside.new.machine c.add.new.self
    c.pass_sled-self-inside.result c.in-Ends.mark c.add.ensures.items (between c))
