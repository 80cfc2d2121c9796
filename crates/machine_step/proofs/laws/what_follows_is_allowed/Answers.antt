use Rattle.machine_step.proofs.AllowedLoads.{loads_allowed, next_allowed}
use Rattle.machine_step.proofs.WholePassings.{follows_whole}
use Rattle.machine_step.proofs.laws.what_follows_is_allowed.Goals as goal

pub returns : goal.returns
returns c = record {
  wanted = λ program threads code start bound thread hold sleds loads place follows. follows.wanted;
  loaded = λ program threads code start bound thread hold sleds loads place keeps follows.
      loads_allowed program threads code start bound thread keeps hold sleds follows;
  next = λ program threads code start bound thread hold sleds loads place word keeps.
      next_allowed program threads code start bound thread keeps hold sleds loads place word;
  whole = λ program threads code start bound thread hold sleds loads place keeps.
      follows_whole program threads code start bound thread keeps hold sleds loads place;
}
