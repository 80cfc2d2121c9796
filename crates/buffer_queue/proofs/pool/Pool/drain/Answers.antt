use Rattle.std.proofs.Common.{◌≡◌, ◌<◌, [], ◌∷◌, List, length, subst, arith, ap, ◌∙◌, slice_index_or}
use Rattle.std.specs.Prelude.{remove}
use Rattle.crossbeam_queue.specs.Passes.{view}
use Rattle.fdr_buffer.specs.Filled.{Filled}
use Rattle.machine_step.specs.declared.setup.Setup.{Setup}
use Rattle.buffer_queue.specs.declared.view.View.{View}
use Rattle.buffer_queue.specs.Left.{IsLeft}
use Rattle.buffer_queue.specs.Passes.{PassIs, PoolIs, sealed_of}
use Rattle.buffer_queue.proofs.pool.Pool.drain.Goals as goal

first_and_rest : (first : PassIs) (all : List PassIs) → 0 < length all → first ≡ slice_index_or all 0 first → first.sealed ∷ sealed_of (remove all 0) ≡ sealed_of all
first_and_rest first [] some_pass e = absurd (omega arith)
first_and_rest first (x ∷ xs) some_pass e = ap (λ (p : PassIs). p.sealed ∷ sealed_of xs) e

-- the rows of pass 1 are those of all passes
all_rows : (v w : View) (first : PassIs) (all rest : List PassIs) → w ≡ record v { returned = sealed_of rest } → v.sealed ≡ first.sealed → first ≡ slice_index_or all 0 first → rest ≡ remove all 0 → 0 < length all → w.sealed ∷ w.returned ≡ sealed_of all
all_rows v w first all rest e s f r some_pass =
    ap (λ (y : View). y.sealed ∷ y.returned) e ∙ (ap (λ (l : List Filled). l ∷ sealed_of rest) s ∙ (ap (λ (l : List PassIs). first.sealed ∷ sealed_of l) r ∙ first_and_rest first all some_pass f))

pub returns-clause-left : goal.returns-clause-left
returns-clause-left g c =
    let e = c.drain_all.ensures.left in
    let r = all_rows (view c.first.inside.pass) (view c.take_in_all-head.result) c.remove-first.result c.args.passes.items _ c.take_in_all-head.ensures.head (ap (λ (p : PassIs). p.sealed) c.first.view_is) c.remove-first.ensures.value c.remove-first.ensures.items (omega arith) in
    (e.0, e.1, subst (λ (y : Setup × List (List Filled)). IsLeft y.0 y.1 e.0) (λ i. (ap (λ (p : PoolIs). p.setup) c.self.view_is i, r i)) e.2)
