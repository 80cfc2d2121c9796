use Rattle.traced_run.proofs.AcceptedCode.{distances_fit, id_fits}
use Rattle.traced_run.proofs.laws.patched_sleds_name_their_trampolines.Goals as goal

pub returns-clause-id : goal.returns-clause-id
returns-clause-id c = λ bytes program k sled a found. id_fits bytes program a k sled found

pub returns-clause-trampoline : goal.returns-clause-trampoline
returns-clause-trampoline c = λ bytes program k sled s a found at. distances_fit bytes program a k sled s found at
