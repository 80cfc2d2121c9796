use Rattle.std.proofs.Common.{◌≡◌, length}
use Rattle.fdr_file.specs.Sources.{cursor_left}
use Rattle.fdr_file.proofs.source.TraceCursorEventSource.next_event.Given as goal

abbrev pub invariant-empty : goal.invariant-empty
invariant-empty l = cursor_left l.self ≡ cursor_left l.fn.self

abbrev pub decreases-empty : goal.decreases-empty
decreases-empty l = length l.self.blocks.now
