use Rattle.std.specs.Prelude.{codes}
use Rattle.runtime_log.specs.Facts.{count_line}
use Rattle.runtime_log.proofs.FactTexts.{four_lines}
use Rattle.runtime_log.proofs.facts.Facts.taken.Goals as goal

pub returns : goal.returns
returns c =
    let f = c.args.self.now in
    four_lines (count_line f.blocks (codes "blocks")) (count_line f.threads (codes "threads")) (count_line f.events (codes "events")) (count_line f.arguments (codes "entries with arguments"))
