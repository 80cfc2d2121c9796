use Rattle.std.proofs.Common.{arith}
use Rattle.std.proofs.lemmas.Bool.Decides.{nat_tests}
use Rattle.handler_word.proofs.MarkBits.{seen_counts}
use Rattle.handler_word.proofs.marks.Marks.is_full.Goals as goal

pub returns : goal.returns
returns c =
    let a = c.self.inside in
    let seen = seen_counts a.bytes.items a.len a.room c.args.self.now c.self.view_is in
    rw (← seen.0, ← seen.1) (grind (arith, nat_tests))
