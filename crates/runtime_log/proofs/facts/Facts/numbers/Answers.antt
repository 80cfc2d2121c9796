use Rattle.std.specs.Prelude.{codes}
use Rattle.runtime_log.specs.Facts.{count_line, counter_line}
use Rattle.runtime_log.proofs.FactTexts.{numbers_lines}
use Rattle.runtime_log.proofs.facts.Facts.numbers.Goals as goal

pub returns : goal.returns
returns c =
    let f = c.args.self.now in
    numbers_lines (counter_line f.first (codes "first counter")) (counter_line f.last (codes "last counter")) (count_line f.back (codes "threads whose counter goes back"))
    (count_line f.lost (codes "arguments without an entry left out")) (count_line f.cut (codes "cut records left out")) (count_line f.frequency (codes "cycles a second"))
