use Rattle.std.proofs.Common.{◌≡◌, ◌++◌, ◌∙◌, ℕ, List, [], reverse, ap, sym, arith}
use Rattle.stack_rebuild.specs.PathSums.{path_at, Summed}
use Rattle.stack_rebuild.proofs.path_sums.PathSums.path.Goals as goal

pub returns : goal.returns
returns c =
    let paths = c.args.self.now.paths in
    let bottom : c.climbing.number ≡ 0 = omega (arith, c.climbing-test.false) in
    let empty : path_at paths 0 ≡ [] = ap (λ (s : Summed). path_at s.paths 0) (sym c.self.view_is) ∙ c.self.invariant.numbered.root in
    c.reverse.ensures.items
    ∙ (ap (λ (front : List ℕ). front ++ reverse c.climbing.path.items) (sym (ap (path_at paths) bottom ∙ empty)) ∙ c.climbing.invariant.rest)
