use Rattle.step_sim.specs.Replay.{thread_count}
use Rattle.step_sim.proofs.ReplayAlong.{first_along, patcher_keeps, thread_keeps}
use Rattle.step_sim.proofs.along.a_replay_reads_along.Goals as goal

pub returns : goal.returns
returns c =
    let said = c.what_follows_is_allowed.ensures in
    let keeps = c.each_script_keeps_sleds.ensures in
    record {
      first = first_along;
      thread = thread_keeps;
      patcher = patcher_keeps;
      allowed = λ cast moment thread word some is wanted.
          said.next cast.program (thread_count cast) _ _ _ thread _ _ _ _ word (keeps cast.program (thread_count cast) cast.script thread) (is.along thread some) wanted;
      wanted = λ cast moment is thread some. said.wanted cast.program (thread_count cast) _ _ _ thread _ _ _ _ (is.along thread some);
      whole = λ cast moment is thread some.
          said.whole cast.program (thread_count cast) _ _ _ thread _ _ _ _ (keeps cast.program (thread_count cast) cast.script thread) (is.along thread some);
    }
