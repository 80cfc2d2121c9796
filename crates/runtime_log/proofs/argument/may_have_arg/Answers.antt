use Rattle.std.proofs.Common.{arith}
use Rattle.runtime_log.proofs.ArgumentsBehind.{other_alone, short_alone, unfollowed_alone}
use Rattle.runtime_log.proofs.argument.may_have_arg.Goals as goal

pub returns-then-bytes-le-FUNCTION_BYTES : goal.returns-then-bytes-le-FUNCTION_BYTES
returns-then-bytes-le-FUNCTION_BYTES c = λ none. short_alone c.args.bytes.now (omega (arith, c.if-bytes-le-FUNCTION_BYTES.true))

pub returns-then-bytes-ne0 : goal.returns-then-bytes-ne0
returns-then-bytes-ne0 c = λ none. other_alone c.args.bytes.now c.if-bytes-ne0.true

pub returns : goal.returns
returns c = λ none. unfollowed_alone c.args.bytes.now none
