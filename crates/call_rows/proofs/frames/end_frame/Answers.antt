use Rattle.std.proofs.Common.{◌∙◌, ◌≡◌, sym, ap, arith, Some, reverse, take, List}
use Rattle.std.proofs.lemmas.Grind.{common_steps}
use Rattle.std.proofs.lemmas.Option.{gets}
use Rattle.std.proofs.lemmas.List.{reverse-reverse}
use Rattle.std.specs.Prelude.{slice_get}
use Rattle.call_rows.specs.declared.frames.Frame.{Frame}
use Rattle.call_rows.specs.private.Frames.{left_of, more_spent, with_spent}
use Rattle.call_rows.proofs.frames.end_frame.Goals as goal

pub returns-in_ok-spend-in-Some-clause-left : goal.returns-in_ok-spend-in-Some-clause-left
returns-in_ok-spend-in-Some-clause-left c =
    let found : slice_get c.args.frames.now.items c.args.depth ≡ Some c.in-Some.ended = grind (arith, common_steps, gets) in
    let cut : c.truncate.new.self.items ≡ take c.args.depth c.args.frames.now.items = c.truncate.ensures.items in
    let spent : c.spend.new.frames.items ≡ with_spent c.args.pair.now.duration (take c.args.depth c.args.frames.now.items) =
    sym (reverse-reverse c.spend.new.frames.items)
    ∙ (ap reverse c.in_ok-spend-in-Some.ensures
    ∙ ap (λ (fs : List Frame). reverse (more_spent c.args.pair.now.duration (reverse fs))) cut) in
    spent ∙ ap (λ f. left_of c.args.pair.now c.args.depth f c.args.frames.now.items) (sym found)
