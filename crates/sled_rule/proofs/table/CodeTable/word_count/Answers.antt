use Rattle.sled_rule.specs.Plans.{words_in}
use Rattle.sled_rule.proofs.table.CodeTable.word_count.Goals as goal

pub returns : goal.returns
unfolding words_in
returns c = c.args.self.now.counted
