use Rattle.std.proofs.Common.{◌∙◌, ap}
use Rattle.xray_io.specs.Memory.{desk_entry}
use Rattle.xray_io.proofs.memory.MemDeskDesk.append.Goals as goal

pub returns-in-Err-clause-same : goal.returns-in-Err-clause-same
returns-in-Err-clause-same c = ap desk_entry c.refuse.ensures.counted ∙ c.in-Err.ensures.same
