use Rattle.runtime_log.proofs.OneImport.{import_is_one}
use Rattle.runtime_log.proofs.laws.one_import.Goals as goal

pub returns : goal.returns
returns c = import_is_one
