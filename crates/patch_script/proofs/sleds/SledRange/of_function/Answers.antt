use Rattle.std.proofs.Common.{rules}
use Rattle.std.specs.Prelude.{nat_lt, nat_le}
use Rattle.std.proofs.lemmas.List.Sorted.{IsPartitionPoint-from_clause, IsPartitionedBy-ltb, IsPartitionedBy-leb}
use Rattle.patch_script.proofs.Ranges.{id_range}
use Rattle.patch_script.proofs.sleds.SledRange.of_function.Goals as goal

pub returns : goal.returns
returns c =
    let sleds = c.args.sleds.now in
    let lower = IsPartitionPoint-from_clause (λ s. nat_lt s.id c.args.id) _ _ c.partition_point.ensures.partitioned (IsPartitionedBy-ltb (λ s. s.id) sleds c.args.id c.requires.in_order) (λ a r q k. search rules) in
    let upper = IsPartitionPoint-from_clause (λ s. nat_le s.id c.args.id) _ _ c.partition_point-2.ensures.partitioned (IsPartitionedBy-leb (λ s. s.id) sleds c.args.id c.requires.in_order) (λ a r q k. search rules) in
    id_range sleds c.args.id c.partition_point.result c.partition_point-2.result c.partition_point.ensures.bound c.partition_point-2.ensures.bound lower upper
