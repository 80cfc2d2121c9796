use Rattle.std.proofs.Common.{ℕ, subst, sym, ap, ◌∙◌, cond}
use Rattle.fdr_record.specs.declared.event.Event.{Event}
use Rattle.fdr_file.specs.Traces.{logs_arg}
use Rattle.runtime_log.specs.private.Notes.{NotesCounter}
use Rattle.runtime_log.proofs.NotedEvents.{counting, noted_more}
use Rattle.runtime_log.proofs.notes.Notes.note.Goals as goal

pub returns-clause-notes : goal.returns-clause-notes
returns-clause-notes c = λ events e has thread event.
    let old = c.args.self.now in
    let n = c.arguments_of.result in
    let new = c.note_counter.new.self in
    let by_thread = subst (λ (k : ℕ). NotesCounter (counting old n) k c.args.event.now.tsc new) (sym thread) c.note_counter.ensures.notes in
    let by_event = subst (λ (v : Event). NotesCounter (counting old n) e.thread v.tsc new) (sym event) by_thread in
    noted_more events e old new n has (c.arguments_of.ensures ∙ ap (λ (v : Event). let x : ℕ = cond (logs_arg v.kind) 1 0 in x) (sym event)) by_event
