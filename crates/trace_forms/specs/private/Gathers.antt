-- What a sink has kept.
use Rattle.std.specs.Prelude.{ℕ, List}
use Rattle.trace_forms.specs.declared.gathered.Gathered.{Gathered}

abbrev pub gathered : Gathered → List ℕ
gathered sink = sink.bytes.items
