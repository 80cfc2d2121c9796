use Rattle.std.specs.Prelude.{codes}
use Rattle.runtime_log.specs.Facts.{count_line}
use Rattle.runtime_log.proofs.FactTexts.{four_lines}
use Rattle.runtime_log.proofs.facts.Facts.left_out.Goals as goal

pub returns : goal.returns
returns c =
    let f = c.args.self.now in
    four_lines (count_line f.custom (codes "custom events left out")) (count_line f.typed (codes "typed events left out")) (count_line f.doubled (codes "doubled blocks left out"))
    (count_line f.empty (codes "empty blocks left out"))
