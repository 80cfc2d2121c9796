use Rattle.audit_check.proofs.SomeReading.{some_reading}
use Rattle.audit_check.proofs.laws.some_reading.Goals as goal

pub returns : goal.returns
returns c = λ bytes. some_reading c.a_written_number_is_itself.ensures bytes
