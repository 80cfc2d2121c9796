use Rattle.std.proofs.Common.{List, ap, subst, sym, ◌∙◌, rules}
use Rattle.std.specs.Prelude.{All, IsPermutation, IsTrue, filter}
use Rattle.std.proofs.lemmas.List.Sorted.{IsPermutation-refl}
use Rattle.std.proofs.lemmas.Fn.{always_returns_same, filter_same}
use Rattle.fdr_buffer.specs.Filled.{Filled, has_event}
use Rattle.traced_run.specs.Kept.{kept_buffers}
use Rattle.trace_flush.proofs.KeptOrder.{kept_ordered}
use Rattle.trace_flush.proofs.OneOrder.{place, in_order, one_order}
use Rattle.trace_flush.proofs.TraceOfRun.{begun_all}
use Rattle.trace_flush.proofs.order.arrange.Goals as goal

pub returns-clause-kept : goal.returns-clause-kept
returns-clause-kept c =
    let left = filter_same _ has_event _ (λ x b f' k. search rules) _ _ c.retain.ensures.filtered in
    let P : List Filled → Type 0 = λ buffers. IsPermutation buffers c.sort_unstable_by_key.new.self.items in
    subst P left c.sort_unstable_by_key.ensures.permutation

pub returns-clause-order : goal.returns-clause-order
returns-clause-order c =
    in_order _ (c.sort_unstable_by_key.ensures.sorted place (always_returns_same _ _ _ (λ a r f' k. search rules)))

pub returns-clause-exact : goal.returns-clause-exact
returns-clause-exact c = λ wanted strict also. one_order _ wanted _ (returns-clause-kept c) (returns-clause-order c) strict also

pub returns-clause-run : goal.returns-clause-run
returns-clause-run c = λ setup runs also. returns-clause-exact c (kept_buffers setup runs) (kept_ordered setup runs) also

pub returns-clause-stay : goal.returns-clause-stay
returns-clause-stay c = λ setup runs is.
    let kept = kept_buffers setup runs in
    let same = ap (filter has_event) is ∙ c.kept_buffers_hold_events.ensures.all setup runs in
    let P : List Filled → Type 0 = λ buffers. IsPermutation buffers kept in
    returns-clause-run c setup runs (subst P (sym same) (IsPermutation-refl kept))

pub returns-clause-begun : goal.returns-clause-begun
returns-clause-begun c = λ setup runs is.
    let P : List Filled → Type 0 = All (λ buffer. IsTrue buffer.begun) in
    subst P (sym (returns-clause-stay c setup runs is)) (begun_all setup 1 runs)
