use Rattle.std.proofs.Common.{ℕ, List, sym, subst, length}
use Rattle.std.proofs.lemmas.Result.{on_ok_weaker}
use Rattle.stack_rebuild.specs.private.Scanning.{AreWithin}
use Rattle.stack_rebuild.proofs.Frames.{below_end}
use Rattle.stack_rebuild.proofs.thread_stack.end_frame.Goals as goal

pub returns-in_ok-spend-in-Some-clause-within : goal.returns-in_ok-spend-in-Some-clause-within
returns-in_ok-spend-in-Some-clause-within c =
    on_ok_weaker c.add.result
    (λ sums. subst (λ (paths : List (List ℕ)). AreWithin paths c.spend.new.frames.items) (sym c.add.ensures.paths) (
      c.requires.0,
      below_end (length c.args.sums.now.paths) c.args.depth c.args.duration c.args.frames.now.items c.truncate.new.self.items c.spend.new.frames.items
          c.requires.1 c.truncate.ensures.items c.in_ok-spend-in-Some.ensures,
    )) c.add.ensures.sums
