use Rattle.std.proofs.Common.{arith}
use Rattle.xray_image.proofs.RunningSums.{length-sums}
use Rattle.xray_image.proofs.running_sums.RunningSums.len.Goals as goal

pub returns : goal.returns
returns c =
    let s = c.args.self.now in
    omega (arith, length-sums s.firsts.items 0 s.steps.items, s.steps.ok.0, c.len.ensures)
