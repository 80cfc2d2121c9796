use Rattle.std.proofs.Common.{◌≡◌, ◌∙◌, ◌<◌, ◌≤◌, ◌+◌, ◌-◌, ◌++◌, ℕ, List, [], Vec, Global, arith, map, refl, subst, sym}
use Rattle.std.specs.Prelude.{replicate}
use Rattle.std.specs.Borrow.{Bor}
use Rattle.step_sim.specs.declared.turns.Turns.{Turns}
use Rattle.step_sim.specs.declared.turns.Turns.TheVariants.{Patcher}
use Rattle.audit_check.specs.declared.stop.Stop.{Stop}
use Rattle.audit_check.specs.Stops.{places_of}
use Rattle.run_order.specs.private.Ordered.{turns_from}
use Rattle.run_order.specs.private.Stops.{AllFrom, IsUpTo, places_in}
use Rattle.run_order.proofs.MergedTurns.{all_items, places_of_items, same_places, stops_left, stops_of_all}
use Rattle.run_order.proofs.StopToStop.{lines_are, up_to_last, up_to_next}
use Rattle.run_order.proofs.merging.schedule_lines.Goals as goal

pub stops-init : goal.stops-init
stops-init c =
    let old : List (Bor (List Stop)) = c.in_ok-left.left.items in
    let stops : AllFrom c.args.start old =
    stops_of_all c.args.start old (map (λ (v : Vec Stop Global). v.items) c.args.threads.now) c.in_ok-left.ensures.left
    (all_items (λ (v : Vec Stop Global). v.items) c.args.start c.args.threads.now c.requires.stops) in
    let held : AllFrom c.args.start c.deref.result.now = subst (AllFrom c.args.start) (sym c.deref.ensures.value) stops in
    let same : places_in old ≡ map (λ (v : Vec Stop Global). places_of v.items) c.args.threads.now =
    same_places old (map (λ (v : Vec Stop Global). v.items) c.args.threads.now) c.in_ok-left.ensures.left
    ∙ places_of_items (λ (v : Vec Stop Global). v.items) c.args.threads.now in
    record {
      count = c.in_ok-left.ensures.count;
      low = omega arith;
      high = c.requires.start;
      after = c.next_place-next.ensures.late c.args.start (omega (arith, c.ranges.start.fits)) held;
      up =
          subst (λ (all : List (List ℕ)). IsUpTo c.args.start c.args.start c.args.total all old c.new-lines.result) same
          (record { turns = []; joined = c.new-lines.ensures.joined; whole = refl; steps = omega (arith, c.new-lines.ensures.steps) });
      none = subst (AllFrom c.next_place-next.result) c.deref.ensures.value (c.next_place-next.ensures.next c.args.start held);
    }

pub stops-preserved : goal.stops-preserved
stops-preserved c =
    let old : List (Bor (List Stop)) = c.stops.left.items in
    let new : List (Bor (List Stop)) = c.add_turns.new.left.items in
    let kept = c.stops.invariant in
    let within : c.stops.next ≤ c.args.total = omega (arith, c.stops-test.true) in
    let later : AllFrom (c.stops.next + 1) new = stops_left c.stops.next old new c.in_ok-add_turns.ensures.passed kept.none in
    let held : AllFrom (c.stops.next + 1) c.deref-in-stops.result.now = subst (AllFrom (c.stops.next + 1)) (sym c.deref-in-stops.ensures.value) later in
    record {
      count = c.in_ok-add_turns.ensures.passed.count ∙ kept.count;
      low = omega (arith, kept.low, kept.after);
      high = within;
      after = omega (arith, c.next_place-next-in-stops.ensures.late (c.stops.next + 1) (omega (arith, c.stops-test.true, c.requires.total)) held);
      up =
          up_to_next c.args.start c.stops.place c.stops.next c.args.total (map (λ (v : Vec Stop Global). places_of v.items) c.args.threads.now) old new
          c.stops.lines c.micro_steps.new.self c.add_turns.new.lines kept.low kept.after within kept.up kept.none
          c.micro_steps.ensures.joined c.micro_steps.ensures.steps c.in_ok-add_turns.ensures.passed
          c.in_ok-add_turns.ensures.added c.in_ok-add_turns.ensures.steps;
      none = subst (AllFrom c.next_place-next-in-stops.result) c.deref-in-stops.ensures.value (c.next_place-next-in-stops.ensures.next (c.stops.next + 1) held);
    }

pub stops-smaller : goal.stops-smaller
stops-smaller c =
    let old : List (Bor (List Stop)) = c.stops.left.items in
    let new : List (Bor (List Stop)) = c.add_turns.new.left.items in
    let later : AllFrom (c.stops.next + 1) new = stops_left c.stops.next old new c.in_ok-add_turns.ensures.passed c.stops.invariant.none in
    let held : AllFrom (c.stops.next + 1) c.deref-in-stops.result.now = subst (AllFrom (c.stops.next + 1)) (sym c.deref-in-stops.ensures.value) later in
    let after : c.stops.next + 1 ≤ c.next_place-next-in-stops.result =
    c.next_place-next-in-stops.ensures.late (c.stops.next + 1) (omega (arith, c.stops-test.true, c.requires.total)) held in
    omega (arith, after, c.stops-test.true)

pub returns : goal.returns
returns c =
    let left : List (Bor (List Stop)) = c.stops.left.items in
    let kept = c.stops.invariant in
    let all : List (List ℕ) = map (λ (v : Vec Stop Global). places_of v.items) c.args.threads.now in
    let steps : ℕ = c.args.total - c.stops.place in
    let past : c.args.total < c.stops.next = omega (arith, c.stops-test.false) in
    lines_are (λ (v : Vec Turns Global). v.items) c.done.result (kept.up.turns ++ replicate steps (Patcher 1)) (turns_from all c.args.start (c.args.total - c.args.start))
    c.micro_steps-2.new.self (c.micro_steps-2.ensures.joined kept.up.turns kept.up.joined)
    (up_to_last c.args.start c.stops.place c.stops.next c.args.total all left c.stops.lines kept.up kept.none kept.high past) c.done.ensures
