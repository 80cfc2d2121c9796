use Rattle.command_words.proofs.OfRows.{of_their_rows}
use Rattle.command_words.proofs.Outputs.{outputs_apart}
use Rattle.command_words.proofs.laws.commands_follow_their_rows.Goals as goal

pub returns-clause-rows : goal.returns-clause-rows
returns-clause-rows c = of_their_rows

pub returns-clause-outputs : goal.returns-clause-outputs
returns-clause-outputs c = outputs_apart
