use Rattle.audit_check.proofs.OneReading.{one_reading}
use Rattle.audit_check.proofs.laws.one_reading.Goals as goal

pub returns : goal.returns
returns c =
    let tells = c.audit_tells_its_run.ensures in
    one_reading tells.threads tells.recycled tells.setup
