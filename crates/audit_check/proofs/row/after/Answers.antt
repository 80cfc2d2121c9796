use Rattle.std.proofs.lemmas.Bool.Decides.{Decides-eqb}
use Rattle.std.proofs.lemmas.Slice.Eq.{strip_prefix_is}
use Rattle.audit_check.proofs.ReadParts.{after_given}
use Rattle.audit_check.proofs.row.after.Goals as goal

pub returns : goal.returns
returns c =
    after_given c.args.word.now c.args.row.now c.strip_prefix.result
    (strip_prefix_is Decides-eqb c.args.row.now c.args.word.now c.strip_prefix.result c.strip_prefix.ensures.cases)
