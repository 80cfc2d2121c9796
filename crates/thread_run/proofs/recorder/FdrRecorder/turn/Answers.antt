use Rattle.std.proofs.Common.{◌≡◌, ◌<◌, ◌-◌, ◌^◌, ◌∙◌, ap, length, refl, subst, sym}
use Rattle.fdr_buffer.specs.Filled.{Filled}
use Rattle.buffer_queue.specs.Passes.{IsOf, PassIs}
use Rattle.thread_run.specs.Recordings.{Recording}
use Rattle.thread_run.specs.private.Segments.{IsNextOf, IsPreambleOf, in_hand}
use Rattle.thread_run.proofs.NotedEvents.{hand_next, sealed_of_pool, sealed_preamble, turn_few, turn_leaves}
use Rattle.thread_run.proofs.recorder.FdrRecorder.turn.Goals as goal

pub next_segment-next-requires-clause-next : goal.next_segment-next-requires-clause-next
next_segment-next-requires-clause-next g c is =
    let (events, at, few) = c.requires.room in
    let r : Recording = record { pass = c.self.inside.pass; hand = c.in-Some.hand } in
    let held : in_hand c.self.inside.hand ≡ c.in-Some.hand = sym (ap in_hand c.in-Some.ensures.value) in
    let same : c.args.self.now ≡ r =
    sym c.self.view_is ∙ ap (λ (h : Filled). record { pass = c.self.inside.pass; hand = h }) held in
    let Next : Recording → Type 0 = λ r. IsNextOf r.pass r.hand in
    subst Next same (hand_next c.args.self.now events at few (ap (λ (r : Recording). r.hand.begun) same ∙ is))

pub invariant_of-self : goal.invariant_of-self
invariant_of-self g c =
    let (events, at, few) = c.requires.room in
    let pass : PassIs = c.self.inside.pass in
    let r : Recording = record { pass = c.self.inside.pass; hand = c.in-Some.hand } in
    let held : in_hand c.self.inside.hand ≡ c.in-Some.hand = sym (ap in_hand c.in-Some.ensures.value) in
    let same : c.args.self.now ≡ r =
    sym c.self.view_is ∙ ap (λ (h : Filled). record { pass = c.self.inside.pass; hand = h }) held in
    let sealed = c.next_segment-next.ensures.pass in
    let kept = c.self.invariant in (
      refl,
      subst (IsOf c.self.inside.pool.now) (sym sealed) (sealed_of_pool c.self.inside.pool.now pass c.in-Some.hand kept.1),
      subst (λ (p : PassIs). IsPreambleOf p c.self.inside.preamble) (sym sealed) (sealed_preamble c.self.inside.preamble pass c.in-Some.hand kept.2),
      subst (λ (p : PassIs). length p.sealed < 2 ^ 32 - 1) (sym sealed) (turn_few c.args.self.now r events same at few),
    )

pub returns : goal.returns
returns g c =
    let r : Recording = record { pass = c.self.inside.pass; hand = c.in-Some.hand } in
    let held : in_hand c.self.inside.hand ≡ c.in-Some.hand = sym (ap in_hand c.in-Some.ensures.value) in
    let same : c.args.self.now ≡ r =
    sym c.self.view_is ∙ ap (λ (h : Filled). record { pass = c.self.inside.pass; hand = h }) held in
    turn_leaves r c.args.self.now c.next_segment-next.new.pass c.next_segment-next.result c.args.event.now same c.requires.anew
    c.next_segment-next.ensures.pass c.next_segment-next.ensures.next
