use Rattle.std.proofs.Common.{◌≡◌, ℕ, get_or, sym, subst, arith}
use Rattle.xray_image.proofs.RunningSums.{step_there, block_there, sum_below, sum_read}
use Rattle.xray_image.proofs.running_sums.RunningSums.get.Goals as goal

pub index-requires : goal.index-requires
index-requires c =
    let s = c.args.self.now in
    omega (arith, s.firsts.ok.0, block_there s.firsts.items s.steps.items s.total c.requires.sound c.args.number 0 0 c.requires.exists)

pub index-requires-2 : goal.index-requires-2
index-requires-2 c =
    let s = c.args.self.now in
    omega (arith, s.steps.ok.0, step_there s.firsts.items s.steps.items s.total c.requires.sound c.args.number 0 0 c.requires.exists)

pub overflow_add-result : goal.overflow_add-result
overflow_add-result c =
    let s = c.args.self.now in
    let step : c.from.result ≡ get_or s.steps.items c.args.number c.from.result = subst (λ (x : ℕ). x ≡ get_or s.steps.items c.args.number x) (sym c.from.ensures) c.index-2.ensures in
    omega (arith, sum_below s.firsts.items s.steps.items s.total c.requires.sound c.args.number c.index.result.now c.from.result c.requires.exists c.index.ensures step)

pub returns-clause-sum : goal.returns-clause-sum
returns-clause-sum c =
    let s = c.args.self.now in
    let step : c.from.result ≡ get_or s.steps.items c.args.number c.from.result = subst (λ (x : ℕ). x ≡ get_or s.steps.items c.args.number x) (sym c.from.ensures) c.index-2.ensures in
    sum_read s.firsts.items s.steps.items s.total c.requires.sound c.args.number c.index.result.now c.from.result c.requires.exists c.index.ensures step

pub returns-clause-within : goal.returns-clause-within
returns-clause-within c =
    let s = c.args.self.now in
    let step : c.from.result ≡ get_or s.steps.items c.args.number c.from.result = subst (λ (x : ℕ). x ≡ get_or s.steps.items c.args.number x) (sym c.from.ensures) c.index-2.ensures in
    sum_below s.firsts.items s.steps.items s.total c.requires.sound c.args.number c.index.result.now c.from.result c.requires.exists c.index.ensures step
