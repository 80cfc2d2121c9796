use Rattle.std.proofs.Common.{◌∙◌, refl, sym}
use Rattle.stack_rebuild.specs.private.Scanning.{no_frame}
use Rattle.stack_rebuild.proofs.Frames.{follows_entry, follows_exit, follows_pair}
use Rattle.stack_rebuild.proofs.Results.{on_ok_both}
use Rattle.stack_rebuild.proofs.Sums.{keeps_same}
use Rattle.stack_rebuild.proofs.thread_stack.ThreadStack.take.Goals as goal

pub returns-in-Some-clause-follows : goal.returns-in-Some-clause-follows
returns-in-Some-clause-follows c =
    on_ok_both c.end_frame.result c.end_frame.ensures.rest c.end_frame.ensures.sums
    (λ cut sums pairs history known.
    follows_pair c.args.event.now history c.args.self.now.calls c.take.new.self c.args.self.now.frames.items c.end_frame.new.frames.items c.args.sums.now.paths
    c.end_frame.new.sums.paths c.args.sums.now.tallies c.end_frame.new.sums.tallies pairs c.in-Some.pair c.depth-depth.result no_frame
    (sym c.in_ok-pair.ensures.pair ∙ c.in-Some.is) c.in_ok-pair.ensures.stands c.depth-depth.ensures c.end_frame.ensures.paths cut
    (λ ps summed low. sums ps no_frame summed low) known)

pub returns-in-Entry-clause-follows : goal.returns-in-Entry-clause-follows
returns-in-Entry-clause-follows c =
    on_ok_both c.open_frame.result c.open_frame.ensures.opened c.open_frame.ensures.sums
    (λ opened sums pairs history known.
    follows_entry c.args.event.now history c.args.self.now.calls c.take.new.self c.args.self.now.frames.items c.open_frame.new.frames.items
    c.args.sums.now.paths c.open_frame.new.sums.paths c.args.sums.now.tallies c.open_frame.new.sums.tallies pairs c.in-Entry.is
    c.in_ok-pair.ensures.stands opened sums known)

pub returns-in-Exit : goal.returns-in-Exit
returns-in-Exit c = record {
  within = c.requires;
  calls = c.in_ok-pair.ensures.stands;
  keeps = keeps_same c.args.sums.now.paths c.args.sums.now.paths refl;
  follows = λ pairs history known. follows_exit c.args.event.now history c.args.self.now.calls c.take.new.self c.args.self.now.frames.items
      c.args.sums.now.paths c.args.sums.now.tallies pairs c.in-Exit.is (sym c.in_ok-pair.ensures.pair ∙ c.in-None.is) c.in_ok-pair.ensures.stands known;
}
