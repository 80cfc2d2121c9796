use Rattle.std.proofs.Common.{◌∙◌}
use Rattle.trace_forms.proofs.dump.add_record.Goals as goal

pub returns : goal.returns
returns g c = rw (c.as_slice.ensures ∙ c.put_line.ensures) at c.bytes.ensures.adds
