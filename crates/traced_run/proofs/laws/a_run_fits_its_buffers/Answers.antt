use Rattle.traced_run.proofs.FitBuffers.{run_buffers_fit}
use Rattle.traced_run.proofs.laws.a_run_fits_its_buffers.Goals as goal

pub returns : goal.returns
returns c = run_buffers_fit c.segments_hold_all.ensures.all c.segments_hold_all.ensures.room c.a_body_has_room.ensures
