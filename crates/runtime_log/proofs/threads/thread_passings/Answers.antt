use Rattle.std.proofs.Common.{rules}
use Rattle.std.proofs.lemmas.Fn.{always_returns_same}
use Rattle.std.proofs.lemmas.List.Sorted.{IsNonDecreasingBy-from_sort_by_key}
use Rattle.runtime_log.specs.declared.basic.Passing.{Passing}
use Rattle.runtime_log.proofs.ThreadsKept.{threads_sorted}
use Rattle.runtime_log.proofs.threads.thread_passings.Goals as goal

pub returns-clause-reads : goal.returns-clause-reads
returns-clause-reads c =
    let read = c.in_ok-passings.ensures.reads in
    let ordered = c.sort_by_key.new.self.items in
    let stable = c.sort_by_key.ensures.stable (λ (p : Passing). p.thread) (always_returns_same _ _ _ (λ a r f' k. search rules)) in
    let sorted = IsNonDecreasingBy-from_sort_by_key (λ (p : Passing). p.thread) ordered c.in_ok-sort_by_key.ensures.sorted (λ a r q k. search rules) in
    (read.0, read.1, threads_sorted c.args.version c.args.bytes.now read.0 c.in_ok-passings.passings.items ordered read.2 stable sorted, read.3)
