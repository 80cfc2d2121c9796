use Rattle.std.proofs.Common.{ℕ, Some, sym, ap, ◌∙◌, rules, arith}
use Rattle.std.specs.Prelude.{nat_le}
use Rattle.std.proofs.lemmas.Bool.{eq-eqb, eqb-true, ltb-true}
use Rattle.std.proofs.lemmas.Option.{none-some, same_Some}
use Rattle.std.proofs.lemmas.List.Sorted.{IsPartitionPoint-from_clause, IsPartitionedBy-leb}
use Rattle.xray_image.proofs.EntryIds.{not_falling}
use Rattle.xray_image.proofs.Entries.{ascend_entries, last_function, no_function_below}
use Rattle.xray_image.proofs.sled_map.lies_in.Goals as goal

pub returns-then-count-gt0 : goal.returns-then-count-gt0
returns-then-count-gt0 c =
    let functions = c.args.functions.now in
    let parted = IsPartitionedBy-leb (λ f. f.start) functions c.args.address (not_falling (λ f. f.start) functions (ascend_entries functions c.requires)) in
    let point = IsPartitionPoint-from_clause (λ f. nat_le f.start c.args.address) _ _ c.partition_point-count.ensures.partitioned parted (λ a r q k. search rules) in
    let last = last_function c.args.address functions c.partition_point-count.result point c.partition_point-count.ensures.bound c.if-count-gt0.true in (
      λ same. last ∙ ap (λ (s : ℕ). Some s) (eqb-true _ _ same),
      λ lies. eq-eqb _ _ (same_Some _ _ (sym last ∙ lies)),
    )

pub returns-else-count-gt0 : goal.returns-else-count-gt0
returns-else-count-gt0 c =
    let functions = c.args.functions.now in
    let parted = IsPartitionedBy-leb (λ f. f.start) functions c.args.address (not_falling (λ f. f.start) functions (ascend_entries functions c.requires)) in
    let point = IsPartitionPoint-from_clause (λ f. nat_le f.start c.args.address) _ _ c.partition_point-count.ensures.partitioned parted (λ a r q k. search rules) in
    let none = no_function_below c.args.address functions c.partition_point-count.result point (omega (arith, c.if-count-gt0.false)) in (
      λ some. absurd (let more = ltb-true _ _ some in omega (arith, c.if-count-gt0.false)),
      λ lies. absurd (none-some c.args.start (sym none ∙ lies)),
    )
