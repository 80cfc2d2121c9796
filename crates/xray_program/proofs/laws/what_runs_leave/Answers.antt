use Rattle.xray_program.proofs.laws.what_runs_leave.Goals as goal

pub returns : goal.returns
returns c = record {
  tears = c.no_replay_tears_a_sled.ensures.runs;
  loses = c.a_replay_loses_few.ensures.read;
  moves = c.buffers_change_no_replay.ensures.moments;
  keeps = c.each_script_keeps_sleds.ensures;
  wanted = c.what_follows_is_allowed.ensures.wanted;
  follows = c.what_follows_is_allowed.ensures.whole;
  executes = c.a_whole_run_executes_to_its_end.ensures;
}
