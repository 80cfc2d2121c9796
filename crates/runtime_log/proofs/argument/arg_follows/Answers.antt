use Rattle.std.proofs.Common.{sym, arith}
use Rattle.runtime_log.proofs.ArgumentsBehind.{none_follows}
use Rattle.runtime_log.proofs.argument.arg_follows.Goals as goal

pub returns-then-bytes-len : goal.returns-then-bytes-len
returns-then-bytes-len c = sym (none_follows c.args.bytes.now (omega (arith, c.if-bytes-len.true, c.record_len-len.ensures)))
