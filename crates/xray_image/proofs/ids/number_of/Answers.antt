use Rattle.std.proofs.Common.{rules}
use Rattle.std.specs.Prelude.{nat_lt}
use Rattle.std.proofs.lemmas.List.Sorted.{IsPartitionPoint-from_clause, IsPartitionedBy-ltb}
use Rattle.xray_image.proofs.EntryIds.{not_falling, stands_there}
use Rattle.xray_image.proofs.ids.number_of.Goals as goal

pub returns : goal.returns
returns c =
    let functions = c.args.functions.now in
    let parted = IsPartitionedBy-ltb (λ f. f.start) functions c.args.start (not_falling (λ f. f.start) functions c.requires.ascend) in
    let point = IsPartitionPoint-from_clause (λ f. nat_lt f.start c.args.start) _ _ c.partition_point.ensures.partitioned parted (λ a r q k. search rules) in
    stands_there (λ f. f.start) functions c.args.start c.partition_point.result c.requires.ascend c.requires.known c.partition_point.ensures.bound point
