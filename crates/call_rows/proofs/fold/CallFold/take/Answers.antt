use Rattle.std.proofs.Common.{◌≡◌, ◌∷◌, ◌++◌, List, Option, length, refl}
use Rattle.std.specs.Option.{option_to_list}
use Rattle.std.proofs.lemmas.Result.{IfOk-weaker, on_ok_weaker}
use Rattle.fdr_file.specs.ThreadEvents.{ThreadEvent}
use Rattle.stack_rebuild.specs.Histories.{thread_event}
use Rattle.call_rows.specs.declared.row.CallRow.{CallRow}
use Rattle.call_rows.specs.CallRows.{EndsAt, rows_after}
use Rattle.call_rows.specs.private.Folding.{Follows}
use Rattle.call_rows.specs.private.Frames.{row_on}
use Rattle.call_rows.proofs.FoldSteps.{follows_more, row_end_at, row_taken}
use Rattle.call_rows.proofs.fold.CallFold.take.Goals as goal

pub returns-clause-row : goal.returns-clause-row
returns-clause-row c =
    let fold = c.args.self.now in
    let e = c.args.event.now in
    IfOk-weaker c.take.result (λ (row : Option CallRow). row ≡ row_on fold.thread fold.events e fold.own)
    (λ (row : Option CallRow). (history : List ThreadEvent) → Follows fold history
    → rows_after (thread_event fold.thread c.args.pid e ∷ history) ≡ rows_after history ++ option_to_list row)
    (λ row is history follows. row_taken c.a_thread_goes_on.ensures c.each_pair_is_a_whole_call.ensures fold c.args.pid e row history is follows) c.take.ensures.row

pub returns-clause-end : goal.returns-clause-end
returns-clause-end c =
    let fold = c.args.self.now in
    let e = c.args.event.now in
    IfOk-weaker c.take.result (λ (row : Option CallRow). row ≡ row_on fold.thread fold.events e fold.own)
    (λ (row : Option CallRow). (history : List ThreadEvent) → Follows fold history → EndsAt (length history) row)
    (λ row is history follows. row_end_at fold e row history is follows) c.take.ensures.row

pub returns-clause-follows : goal.returns-clause-follows
returns-clause-follows c =
    on_ok_weaker c.take.result
    (λ next history follows.
    follows_more c.a_thread_goes_on.ensures c.args.self.now _ c.args.pid c.args.event.now history refl refl next c.in_ok-self.ensures follows) c.take.ensures.next
