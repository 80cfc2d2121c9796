use Rattle.std.proofs.Common.{ℕ, List, ap, subst}
use Rattle.xray_io.specs.Text.{AddsText}
use Rattle.flame_graph.specs.FlameText.{xml_characters}
use Rattle.flame_graph.proofs.NameCharacters.{all_taken}
use Rattle.flame_graph.proofs.names.add_xml.Goals as goal

pub returns : goal.returns
returns g c =
    let P : List ℕ → Type 0 = λ t. AddsText g.S.Sink.written g.S.Sink.faults g.S.Sink.along c.args.to.now c.add_first.new.to t c.add_first.result in
    subst P (ap xml_characters (all_taken c.args.name.now)) c.add_first.ensures
