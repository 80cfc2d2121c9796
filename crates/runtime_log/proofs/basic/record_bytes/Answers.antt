use Rattle.std.proofs.Common.{sym, arith}
use Rattle.std.proofs.lemmas.List.{take_all}
use Rattle.runtime_log.proofs.basic.record_bytes.Goals as goal

pub returns-then-rest-lt-RECORD_BYTES : goal.returns-then-rest-lt-RECORD_BYTES
returns-then-rest-lt-RECORD_BYTES c = sym (take_all 32 c.args.rest.now (omega arith))
