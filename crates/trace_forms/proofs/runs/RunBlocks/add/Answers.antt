use Rattle.std.proofs.Common.{◌∙◌, ◌++◌, List, ap, sym}
use Rattle.fdr_record.specs.declared.event.Event.{Event}
use Rattle.fdr_file.specs.declared.trace.Block.{Block}
use Rattle.trace_forms.specs.private.RunBlocks.{last_run}
use Rattle.trace_forms.proofs.RunLaws.{added_some, some_run}
use Rattle.trace_forms.proofs.runs.RunBlocks.add.Goals as goal

pub returns : goal.returns
returns c = λ events held.
    let turned = c.turn_to.new.self in
    let last = turned.events.items in
    let next = (c.in_ok-turn_to.ensures events held).next c.args.event in
    let added = c.in_ok-push.ensures.items in record {
      runs = ap (λ (es : List Event). turned.blocks.items ++ last_run turned.thread turned.pid es) added
          ∙ (ap (λ (bs : List Block). turned.blocks.items ++ bs) (some_run turned.thread turned.pid last c.args.event) ∙ next);
      begun = λ none. absurd (added_some last c.args.event (sym added ∙ none));
    }
