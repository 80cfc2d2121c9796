-- Indexes in memory, for the contracts of private functions.
use Rattle.std.specs.Prelude.{Bool, true, false}
use Rattle.program_map.specs.declared.index.Form.{Form}
use Rattle.program_map.specs.declared.index.Form.TheVariants.{Absolute, Relative}
use Rattle.program_map.specs.declared.index.SledSpan.{SledSpan}
use Rattle.program_map.specs.Numbering.{AddressSpan}

abbrev pub span_held : SledSpan → AddressSpan
span_held span = record { begin = span.begin; end = span.end }

abbrev pub is_absolute_form : Form → Bool
is_absolute_form Absolute = true
is_absolute_form Relative = false
