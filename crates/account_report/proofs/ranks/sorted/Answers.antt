use Rattle.std.proofs.Common.{◌≡◌, ◌∙◌, ℕ, ap}
use Rattle.std.proofs.lemmas.List.Sorted.{IsNonDecreasingBy-from_sort}
use Rattle.account_report.specs.Ascending.{ascending}
use Rattle.account_report.specs.private.Ranks.{ranks_from}
use Rattle.account_report.proofs.AscendingLists.{ascending-sorted}
use Rattle.account_report.proofs.ranks.sorted.Goals as goal

pub returns : goal.returns
returns c =
    let sorted : c.sort_unstable.new.self ≡ ascending c.args.durations.now =
    ascending-sorted c.args.durations.now c.sort_unstable.new.self c.sort_unstable.ensures.permutation
    (IsNonDecreasingBy-from_sort (λ (x : ℕ). x) c.sort_unstable.new.self c.sort_unstable.ensures.sorted) in
    c.items.ensures ∙ ap ranks_from sorted
