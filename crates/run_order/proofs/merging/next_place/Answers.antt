use Rattle.std.proofs.Common.{ℕ, ◌≡◌, ◌≤◌, [], List, Some, None, take, get_or, arith, subst, sym, ap, ◌∙◌}
use Rattle.std.specs.Borrow.{Bor}
use Rattle.std.specs.Option.{option_copied}
use Rattle.std.specs.Prelude.{slice_get}
use Rattle.std.proofs.lemmas.List.{take_all}
use Rattle.std.proofs.lemmas.Option.{slice_get-get_or}
use Rattle.audit_check.specs.declared.stop.Stop.{Stop}
use Rattle.run_order.specs.private.Stops.{AllFrom}
use Rattle.run_order.proofs.PlacesWithoutLoads.{due_more, late_first, late_more, own_first, own_none}
use Rattle.run_order.proofs.ReplayAlongPlaces.{take_next}
use Rattle.run_order.proofs.merging.next_place.Goals as goal
use Rattle.run_order.proofs.merging.next_place.Goals.{in-Some, in_default}

pub loop-stops-preserved : goal.loop-stops-preserved
loop-stops-preserved c =
    let left : List (Bor (List Stop)) = c.args.left.now in
    let i : ℕ = c.loop-stops.stops-index in
    let stops : Bor (List Stop) = get_or left i (record { ref_ptr = (0, 0); now = [] }) in
    let there : slice_get left i ≡ Some stops = slice_get-get_or left i (record { ref_ptr = (0, 0); now = [] }) c.loop-stops-test.true in
    let next : ℕ = c.loop-stops.next in
    elim c.match-first.branch [
      | in-Some w ↦
          let stop : Stop = w.in-Some.stop.now in
          let first : slice_get stops.now 0 ≡ Some stop = sym c.first.ensures.value ∙ ap option_copied w.in-Some.is in
          let low : c.match-first.next ≤ stop.place = omega (arith, w.next-is, w.min-next.ensures) in
          let less : c.match-first.next ≤ next = omega (arith, w.next-is, w.min-next.ensures) in
          record {
            next =
                subst (λ (l : List (Bor (List Stop))). (from : ℕ) → AllFrom from l → AllFrom c.match-first.next l) (sym (take_next left i stops there))
                (due_more next c.match-first.next (take i left) stops less (λ from are. own_first c.match-first.next stops.now stop first low from are)
                c.loop-stops.invariant.next);
            late =
                subst (λ (l : List (Bor (List Stop))). (from : ℕ) → from ≤ 4294967295 → AllFrom from l → from ≤ c.match-first.next) (sym (take_next left i stops there))
                (late_more 4294967295 next c.match-first.next (take i left) stops
                (λ from before are. omega (arith, before, w.next-is, w.min-next.ensures, late_first stops.now stop first from are)) c.loop-stops.invariant.late);
          }
      | in_default w ↦
          let first : slice_get stops.now 0 ≡ None = sym c.first.ensures.value ∙ ap option_copied w.in_default.is in
          let less : c.match-first.next ≤ next = omega (arith, w.next-is) in
          record {
            next =
                subst (λ (l : List (Bor (List Stop))). (from : ℕ) → AllFrom from l → AllFrom c.match-first.next l) (sym (take_next left i stops there))
                (due_more next c.match-first.next (take i left) stops less (λ from are. own_none c.match-first.next stops.now first from are)
                c.loop-stops.invariant.next);
            late =
                subst (λ (l : List (Bor (List Stop))). (from : ℕ) → from ≤ 4294967295 → AllFrom from l → from ≤ c.match-first.next) (sym (take_next left i stops there))
                (late_more 4294967295 next c.match-first.next (take i left) stops (λ from before are. omega (arith, before, w.next-is)) c.loop-stops.invariant.late);
          }
    ]

pub returns-clause-next : goal.returns-clause-next
returns-clause-next c =
    let all : take c.loop-stops.stops-index c.args.left.now ≡ c.args.left.now = take_all c.loop-stops.stops-index c.args.left.now (omega (arith, c.loop-stops-test.false)) in
    subst (λ (left : List (Bor (List Stop))). (from : ℕ) → AllFrom from left → AllFrom c.loop-stops.next left) all c.loop-stops.invariant.next

pub returns-clause-late : goal.returns-clause-late
returns-clause-late c =
    let all : take c.loop-stops.stops-index c.args.left.now ≡ c.args.left.now = take_all c.loop-stops.stops-index c.args.left.now (omega (arith, c.loop-stops-test.false)) in
    subst (λ (left : List (Bor (List Stop))). (from : ℕ) → from ≤ 4294967295 → AllFrom from left → from ≤ c.loop-stops.next) all c.loop-stops.invariant.late
