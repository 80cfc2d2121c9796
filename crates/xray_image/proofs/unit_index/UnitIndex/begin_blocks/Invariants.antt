use Rattle.std.proofs.Common.{◌≡◌, ◌+◌, ◌-◌, length}
use Rattle.xray_image.specs.private.Index.{HasBegun}
use Rattle.xray_image.proofs.unit_index.UnitIndex.begin_blocks.Given as goal

abbrev pub decreases-loop-self : goal.decreases-loop-self
decreases-loop-self l = l.block + 1 - length l.self.firsts.items

abbrev pub invariant-loop-self : goal.invariant-loop-self
invariant-loop-self l = record {
  begun : HasBegun l.fn.self.firsts.items l.self.firsts.items l.block l.number;
  steps : l.self.steps ≡ l.fn.self.steps;
  base : l.self.base ≡ l.fn.self.base;
}
