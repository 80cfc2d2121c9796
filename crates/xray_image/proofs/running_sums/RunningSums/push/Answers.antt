use Rattle.std.proofs.Common.{◌≡◌, ℕ, ◌-◌, [], ◌∷◌, ◌++◌, length, ap, ◌∙◌, arith}
use Rattle.xray_image.specs.private.RunningSums.{sums_from}
use Rattle.xray_image.proofs.RunningSums.{total_pushed}
use Rattle.xray_image.proofs.running_sums.RunningSums.push.Goals as goal

pub returns-clause-sums : goal.returns-clause-sums
returns-clause-sums c =
    let s = c.args.self.now in
    let begun = c.in_ok-begin_block.ensures in
    let firsts = c.begin_block.new.self.firsts.items in
    let first = c.index.result.now in
    let steps = ap (λ v. v.items) begun.steps in
    let count : c.len-block.result ≡ length s.steps.items = omega (arith, c.begin_block.new.self.steps.ok.0, c.len-block.ensures, ap length steps) in
    let items = c.in_ok-push.ensures.items ∙ ap (λ xs. xs ++ (c.begin_block.new.self.total - first) ∷ []) steps ∙ ap (λ (t : ℕ). s.steps.items ++ (t - first) ∷ []) begun.total in
    ap (sums_from firsts 0) items ∙ total_pushed s.firsts.items s.steps.items s.total c.requires.sound firsts c.len-block.result first begun.begun count c.index.ensures
