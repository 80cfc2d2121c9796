use Rattle.fdr_file.proofs.CursorSteps.{new_events}
use Rattle.fdr_file.proofs.cursor.EventCursor.new.Goals as goal

pub returns-clause-events : goal.returns-clause-events
returns-clause-events c trace reads = new_events c.args.bytes.now c.read_header.result _ c.unwrap_or-version.result trace c.read_header.ensures c.unwrap_or-version.ensures reads
