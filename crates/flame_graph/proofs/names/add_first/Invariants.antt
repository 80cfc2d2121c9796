use Rattle.std.proofs.Common.{◌≡◌, ◌++◌, ℕ, List, Ok, length}
use Rattle.xray_io.specs.Text.{AddsText}
use Rattle.flame_graph.specs.Characters.{characters}
use Rattle.flame_graph.specs.FlameText.{xml_characters}
use Rattle.flame_graph.specs.private.Left.{characters_left}
use Rattle.flame_graph.proofs.names.add_first.Given as goal

abbrev pub invariant-characters : goal.invariant-characters
invariant-characters g l = (given : List (List ℕ)) × (characters l.name ≡ given ++ characters_left l.characters) × (length given ≡ l.counter)
    × AddsText g.S.Sink.written g.S.Sink.faults g.S.Sink.along l.fn.to l.to (xml_characters given) (Ok tt)
