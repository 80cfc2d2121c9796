use Rattle.std.proofs.Common.{◌++◌, [], Bool, subst, sym}
use Rattle.std.specs.Prelude.{if◌then◌else◌}
use Rattle.std.proofs.lemmas.Bool.{le-leb}
use Rattle.fdr_file.specs.Files.{block_bytes}
use Rattle.audit_check.specs.private.Blocks.{HasCompared}
use Rattle.audit_check.proofs.blocks.Recording.compare.Goals as goal

pub returns-then-self : goal.returns-then-self
returns-then-self c = λ all before has.
    let r = c.args.self.now in
    subst (λ (b : Bool). HasCompared all (before ++ (if b then block_bytes r.buffer else [])) c.take_block.new.self) (sym (le-leb r.lost r.whole c.if-self.true))
    (c.take_block.ensures all before has)
