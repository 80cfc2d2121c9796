use Rattle.xray_program.proofs.CommandRows.{inputs_of_row}
use Rattle.xray_program.proofs.laws.inputs_follow_the_rows.Goals as goal

pub returns : goal.returns
returns c = inputs_of_row
