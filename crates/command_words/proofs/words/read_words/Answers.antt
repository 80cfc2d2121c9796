use Rattle.std.proofs.Common.{◌≡◌, option_map, rules}
use Rattle.command_words.specs.Items.{texts}
use Rattle.command_words.specs.Words.{command_view, reading}
use Rattle.command_words.proofs.Outputs.{ranged}
use Rattle.command_words.proofs.words.read_words.Goals as goal

pub returns-in-Some-2-clause-ranges : goal.returns-in-Some-2-clause-ranges
returns-in-Some-2-clause-ranges c =
    let reads : option_map command_view c.command_in.result ≡ reading c.args.wall (texts c.args.words.now) = search rules in
    ranged c.args.wall (texts c.args.words.now) _ reads c.command_in.ensures.ranges
