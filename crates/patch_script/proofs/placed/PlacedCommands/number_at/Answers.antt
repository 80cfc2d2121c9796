use Rattle.std.proofs.Common.{◌≡◌, ◌≤◌, ◌-◌, true, false, length, List, sym, subst, rules, arith}
use Rattle.std.specs.Prelude.{nat_le}
use Rattle.std.specs.List.Sorted.{IsNonDecreasingBy, IsPartitionPoint}
use Rattle.std.proofs.lemmas.List.Sorted.{IsPartitionPoint-from_clause, IsPartitionedBy-leb}
use Rattle.patch_script.specs.declared.placed.Placed.{Placed}
use Rattle.patch_script.proofs.Places.{begins_in_order, some_begins, is_at}
use Rattle.patch_script.proofs.placed.PlacedCommands.number_at.Goals as goal

pub overflow_sub-result : goal.overflow_sub-result
overflow_sub-result c =
    let list = c.deref.result.now in
    let same : list ≡ c.args.self.now.commands.items = c.deref.ensures.value in
    let in_order = subst (λ (xs : List Placed). IsNonDecreasingBy (λ one. one.before) xs) (sym same) (begins_in_order c.args.self.now c.requires.sound) in
    let parts = IsPartitionPoint-from_clause (λ one. nat_le one.before c.args.place) _ _ c.partition_point.ensures.partitioned (IsPartitionedBy-leb (λ one. one.before) list c.args.place in_order) (λ a r q k. search rules) in
    some_begins c.args.self.now c.requires.sound c.args.place c.requires.within c.partition_point.result
    (subst (λ (xs : List Placed). c.partition_point.result ≤ length xs) same c.partition_point.ensures.bound)
    (subst (λ (xs : List Placed). IsPartitionPoint (λ y. nat_le y.before c.args.place ≡ true) (λ y. nat_le y.before c.args.place ≡ false) xs c.partition_point.result) same parts)

pub returns : goal.returns
returns c =
    let list = c.deref.result.now in
    let same : list ≡ c.args.self.now.commands.items = c.deref.ensures.value in
    let in_order = subst (λ (xs : List Placed). IsNonDecreasingBy (λ one. one.before) xs) (sym same) (begins_in_order c.args.self.now c.requires.sound) in
    let parts = IsPartitionPoint-from_clause (λ one. nat_le one.before c.args.place) _ _ c.partition_point.ensures.partitioned (IsPartitionedBy-leb (λ one. one.before) list c.args.place in_order) (λ a r q k. search rules) in
    let bound = subst (λ (xs : List Placed). c.partition_point.result ≤ length xs) same c.partition_point.ensures.bound in
    let point = subst (λ (xs : List Placed). IsPartitionPoint (λ y. nat_le y.before c.args.place ≡ true) (λ y. nat_le y.before c.args.place ≡ false) xs c.partition_point.result) same parts in
    let some = some_begins c.args.self.now c.requires.sound c.args.place c.requires.within c.partition_point.result bound point in
    is_at c.args.self.now c.requires.sound c.args.place c.requires.within c.partition_point.result bound point (c.partition_point.result - 1) (omega (arith, some))
