use Rattle.std.proofs.Common.{arith, rules}
use Rattle.subset_decode.proofs.CodePadding.{padded_on}
use Rattle.subset_decode.proofs.code.Code.push_all.Goals as goal

pub invariant_of-self-clause-padded : goal.invariant_of-self-clause-padded
invariant_of-self-clause-padded c =
    padded_on _ _ c.args.self.now.len _ (search rules) (search rules) (omega arith) c.args.self.now.padded
