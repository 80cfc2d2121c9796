use Rattle.std.proofs.Common.{◌≡◌, ◌++◌, ◌<◌, ℕ, List, Ok, length}
use Rattle.std.specs.List.{flat_map}
use Rattle.xray_io.specs.Text.{AddsText}
use Rattle.run_order.specs.FreeScripts.{lines_with_ends}
use Rattle.run_order.specs.private.Texts.{kept_text}
use Rattle.run_order.proofs.free.FreeTextPrinted.add_to.Given as goal

abbrev pub invariant-lines : goal.invariant-lines
invariant-lines g l = record {
  done : List ℕ;
  adds : AddsText g.S.Sink.written g.S.Sink.faults g.S.Sink.along l.fn.to l.to done (Ok tt);
  whole : done ++ flat_map kept_text (lines_with_ends l.left) ≡ flat_map kept_text (lines_with_ends l.fn.self.0.now);
  few : length l.left < 4294967295;
}

abbrev pub decreases-lines : goal.decreases-lines
decreases-lines g l = length l.left
