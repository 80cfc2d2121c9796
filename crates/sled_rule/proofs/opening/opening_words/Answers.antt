use Rattle.std.proofs.Common.{vec_len, arith}
use Rattle.sled_rule.proofs.RuleAtStart.{grown}
use Rattle.sled_rule.proofs.opening.opening_words.Goals as goal

pub returns : goal.returns
returns c =
    grown c.args.image.now c.args.threads (vec_len c.in_ok-words.words) _ c.in_ok-words.words.items _ (omega (arith, c.in_ok-words.words.ok.0)) c.in_ok-words.ensures
    (let words = c.requires.words in omega arith) c.in_ok-resize.ensures.items
