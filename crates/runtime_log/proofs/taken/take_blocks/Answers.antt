use Rattle.std.proofs.Common.{List, sym, subst, arith, rules}
use Rattle.std.specs.Prelude.{is_some}
use Rattle.std.proofs.lemmas.Cmp.{nat_list_cmp_total}
use Rattle.std.proofs.lemmas.Fn.{always_returns_same, filter_same}
use Rattle.std.proofs.lemmas.List.Sorted.{length_permutation, ranks_by}
use Rattle.runtime_log.specs.declared.blocks.LogBlock.{LogBlock as Placed}
use Rattle.runtime_log.specs.Taken.{chosen, undoubled}
use Rattle.runtime_log.specs.private.Choices.{AreAt, time_key}
use Rattle.runtime_log.proofs.TakenBlocks.{at_filter, at_length, at_ordered, empty_count, is_earlier}
use Rattle.runtime_log.proofs.taken.take_blocks.Goals as goal

pub returns : goal.returns
returns c = λ version said are.
    let bytes = c.args.bytes.now in
    let once = c.in_ok-taken.ensures.keeps version said are in
    let first = c.in_ok-taken.taken.items in
    let kept = filter_same _ (λ (p : Placed). is_some p.first) _ (λ x b f' k. search rules) _ _ c.retain.ensures.filtered in
    let at = subst (λ (ps : List Placed). AreAt bytes version ps (chosen said)) (sym kept) (at_filter bytes version first (undoubled said) once) in
    let up = c.sort_unstable_by.ensures.sorted is_earlier (ranks_by nat_list_cmp_total time_key) (always_returns_same _ _ _ (λ a r f' k. search rules)) in
    let o = at_ordered bytes version _ _ (chosen said) at c.sort_unstable_by.ensures.permutation up in
    let all = at_length bytes version c.args.blocks.now said are in
    let first_long = at_length bytes version first (undoubled said) once in
    let taken_long = at_length bytes version c.sort_unstable_by.new.self.items o.taken o.at in
    let chosen_long = length_permutation (chosen said) o.taken o.all in (
      o.taken,
      record { all = o.all; sorted = o.sorted },
      o.at,
      record {
        doubled = omega (arith, all, first_long, c.len-once.ensures, c.in_ok-taken.taken.ok.0);
        empty = omega (arith, first_long, taken_long, chosen_long, c.len-once.ensures, c.len.ensures, c.in_ok-taken.taken.ok.0, c.sort_unstable_by.new.self.ok.0, empty_count (undoubled said));
      },
    )
