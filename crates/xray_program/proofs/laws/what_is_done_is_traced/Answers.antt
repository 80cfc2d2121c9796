use Rattle.xray_program.proofs.Headline.{is_headline}
use Rattle.xray_program.proofs.laws.what_is_done_is_traced.Goals as goal

pub returns : goal.returns
returns c = is_headline c.buffers_change_no_replay.ensures.moments
