use Rattle.std.proofs.Common.{◌∙◌, sym}
use Rattle.layer_tests.proofs.forms.log_of.Goals as goal

pub write_basic-requires : goal.write_basic-requires
write_basic-requires c = sym c.wide_cpu.ensures ∙ c.in-None.is
