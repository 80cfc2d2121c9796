use Rattle.handler_word.proofs.MarkBits.{seen_counts}
use Rattle.handler_word.proofs.marks.Marks.len.Goals as goal

pub returns-clause-count : goal.returns-clause-count
returns-clause-count c =
    let a = c.self.inside in
    let seen = seen_counts a.bytes.items a.len a.room c.args.self.now c.self.view_is in
    seen.0
