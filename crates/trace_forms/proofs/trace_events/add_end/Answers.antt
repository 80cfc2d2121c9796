use Rattle.std.proofs.Common.{◌∙◌}
use Rattle.trace_forms.proofs.trace_events.add_end.Goals as goal

pub returns : goal.returns
returns g c = rw (c.as_slice.ensures ∙ c.put_end.ensures) at c.bytes.ensures.adds
