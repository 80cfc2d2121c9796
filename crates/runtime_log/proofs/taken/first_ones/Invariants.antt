use Rattle.std.proofs.Common.{◌≤◌, List, length, map}
use Rattle.runtime_log.specs.declared.version.LogVersion.{LogVersion}
use Rattle.runtime_log.specs.Logs.{LogBlock}
use Rattle.runtime_log.specs.private.Choices.{AreAt, KeepsFirst}
use Rattle.runtime_log.proofs.taken.first_ones.Given as goal

-- those that are kept of the blocks so far
abbrev pub invariant-keeping : goal.invariant-keeping
invariant-keeping l = record {
  few : length l.kept.items ≤ l.block-index;
  keeps : (version : LogVersion) (said : List LogBlock) → AreAt l.bytes version l.blocks said → KeepsFirst l.bytes version said l.block-index l.kept.items (map (λ k. k.now) l.seen.keys);
}
