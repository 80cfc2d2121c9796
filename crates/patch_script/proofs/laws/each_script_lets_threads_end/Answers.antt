use Rattle.patch_script.proofs.ThreadsEnd.{lets_end}
use Rattle.patch_script.proofs.laws.each_script_lets_threads_end.Goals as goal

pub returns : goal.returns
returns c = lets_end
