use Rattle.xray_program.proofs.CommandLaws.{only_profiles_fall}
use Rattle.xray_program.proofs.laws.only_profiles_mean_7.Goals as goal

pub returns : goal.returns
returns c = only_profiles_fall
