use Rattle.std.specs.Prelude.{codes}
use Rattle.program_map.specs.MapText.{map_fact_line}
use Rattle.program_map.proofs.MapLines.{four_texts}
use Rattle.program_map.proofs.facts.MapFacts.lines.Goals as goal

pub returns : goal.returns
returns c =
    four_texts (map_fact_line c.args.self.now.sleds (codes "sleds")) (map_fact_line c.args.self.now.functions (codes "functions"))
    (map_fact_line c.args.self.now.unnamed (codes "functions without a name")) (map_fact_line c.args.self.now.left_out (codes "sleds without an id left out"))
