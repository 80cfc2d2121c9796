use Rattle.runtime_log.proofs.OneImport.{import_is_some}
use Rattle.runtime_log.proofs.laws.some_import.Goals as goal

pub returns : goal.returns
returns c = import_is_some
