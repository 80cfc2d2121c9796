use Rattle.std.proofs.Common.{arith}
use Rattle.sled_rule.specs.Plans.{words_in}
use Rattle.sled_rule.proofs.table.CodeTable.code_word_count.Goals as goal

pub returns : goal.returns
unfolding words_in
returns c = let counted = c.args.self.now.counted in let all = c.args.self.now.all_threads in omega arith

pub overflow_sub-result : goal.overflow_sub-result
unfolding words_in
overflow_sub-result c = let counted = c.args.self.now.counted in let all = c.args.self.now.all_threads in omega arith
