use Rattle.step_sim.proofs.OneRecorded.{notes_none, notes_some}
use Rattle.step_sim.proofs.pool.Pool.note_any.Goals as goal

pub returns-in-Some : goal.returns-in-Some
returns-in-Some c = notes_some c.args.self.now c.note.new.self c.args.thread c.args.event c.in-Some.event c.in-Some.is c.note.ensures

pub returns-in-None : goal.returns-in-None
returns-in-None c = notes_none c.args.self.now c.args.thread c.args.event c.in-None.is
