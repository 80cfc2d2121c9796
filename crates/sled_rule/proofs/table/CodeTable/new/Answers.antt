use Rattle.std.proofs.Common.{◌∙◌}
use Rattle.sled_rule.proofs.Laws.{code_first, few_in}
use Rattle.sled_rule.proofs.RuleAtStart.{count_is, opening_count, starts, for_the_script}
use Rattle.sled_rule.proofs.table.CodeTable.new.Goals as goal

pub of_words-requires : goal.of_words-requires
of_words-requires c =
    let script = c.args.script in
    starts script c.deref.result.now
    (c.deref.ensures.value ∙ (c.in_ok-words.ensures ∙ for_the_script script c.args.image.now c.args.threads c.requires.image c.requires.threads))
    (code_first c.stores_give_the_code.ensures.first script)

pub invariant_of-table-clause-counted : goal.invariant_of-table-clause-counted
invariant_of-table-clause-counted c =
    count_is c.args.script c.args.image.now c.args.threads c.word_count-word_len.result c.requires.image c.requires.threads c.word_count-word_len.ensures

pub invariant_of-table-clause-few_steps : goal.invariant_of-table-clause-few_steps
invariant_of-table-clause-few_steps c =
    few_in c.args.script c.micro_steps_are_few.ensures

pub invariant_of-table-clause-sized : goal.invariant_of-table-clause-sized
invariant_of-table-clause-sized c =
    let script = c.args.script in
    let words = c.deref.ensures.value ∙ (c.in_ok-words.ensures ∙ for_the_script script c.args.image.now c.args.threads c.requires.image c.requires.threads) in
    c.in_ok-table.ensures.0 ∙ opening_count script c.deref.result.now words
