use Rattle.std.proofs.Common.{◌≡◌, ◌+◌, ◌++◌, ◌≤◌, List, [], length}
use Rattle.fdr_buffer.specs.declared.buffer.TheConstants.{LARGEST_SIZE}
use Rattle.runtime_log.specs.Logs.{Log}
use Rattle.fdr_file.specs.declared.trace.Block.{Block}
use Rattle.runtime_log.specs.private.Notes.{AreFew}
use Rattle.runtime_log.specs.private.Packings.{HasPacked}
use Rattle.runtime_log.specs.private.Passings.{events_of_passings, runs_of}
use Rattle.runtime_log.proofs.import.pack_runs.Given as goal

-- the runs so far were packed
abbrev pub invariant-packing : goal.invariant-packing
invariant-packing l = record {
  few : AreFew l.packing.notes.facts;
  size : l.packing.buffer.size ≡ LARGEST_SIZE;
  room : l.packing.notes.facts.events + length l.left ≤ length l.passings;
  count : l.packing.notes.facts.blocks + length l.left ≤ length l.passings;
  packed : (log : Log) → HasPacked log [] l.initial.packing → (done : List Block) × HasPacked log done l.packing
      × (done ++ runs_of (events_of_passings l.version l.bytes l.left) ≡ runs_of (events_of_passings l.version l.bytes l.passings));
}

abbrev pub decreases-packing : goal.decreases-packing
decreases-packing l = length l.left
