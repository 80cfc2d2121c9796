use Rattle.std.proofs.Common.{◌≤◌, ◌-◌, ℕ, List, ap, arith, rules, subst, sym, ◌∙◌}
use Rattle.std.specs.Prelude.{nat_lt}
use Rattle.std.proofs.lemmas.List.Sorted.{IsPartitionPoint-from_clause}
use Rattle.run_order.proofs.WaitsBefore.{before, counted_before, few_waits}
use Rattle.run_order.proofs.waits.Waits.free_place.Goals as goal

pub overflow_cast-result : goal.overflow_cast-result
overflow_cast-result c =
    let list : List ℕ = c.deref.result.now in
    let count = counted_before c.args.self.now.places.items list c.args.place c.partition_point.result c.deref.ensures.value c.requires
    c.partition_point.ensures.bound (λ parted. IsPartitionPoint-from_clause (λ wait. nat_lt wait c.args.place) _ _ c.partition_point.ensures.partitioned parted
    (λ a r q k. search rules)) in
    let low : before c.args.place list ≤ c.args.place =
    subst (λ (ws : List ℕ). before c.args.place ws ≤ c.args.place) (sym c.deref.ensures.value) (few_waits c.args.self.now.places.items c.args.place c.requires) in
    omega (arith, count, low, c.ranges.place.fits)

pub overflow_sub-result : goal.overflow_sub-result
overflow_sub-result c =
    let list : List ℕ = c.deref.result.now in
    let count = counted_before c.args.self.now.places.items list c.args.place c.partition_point.result c.deref.ensures.value c.requires
    c.partition_point.ensures.bound (λ parted. IsPartitionPoint-from_clause (λ wait. nat_lt wait c.args.place) _ _ c.partition_point.ensures.partitioned parted
    (λ a r q k. search rules)) in
    let low : before c.args.place list ≤ c.args.place =
    subst (λ (ws : List ℕ). before c.args.place ws ≤ c.args.place) (sym c.deref.ensures.value) (few_waits c.args.self.now.places.items c.args.place c.requires) in
    omega (arith, count, low)

pub returns : goal.returns
returns c =
    let list : List ℕ = c.deref.result.now in
    let count = counted_before c.args.self.now.places.items list c.args.place c.partition_point.result c.deref.ensures.value c.requires
    c.partition_point.ensures.bound (λ parted. IsPartitionPoint-from_clause (λ wait. nat_lt wait c.args.place) _ _ c.partition_point.ensures.partitioned parted
    (λ a r q k. search rules)) in
    ap (λ n. c.args.place - n) (sym count ∙ ap (before c.args.place) c.deref.ensures.value)
