use Rattle.std.proofs.Common.{◌≡◌, ◌++◌, ℕ, Some, false, true, sym, ap, ◌∙◌, arith, replicate}
use Rattle.handler_word.specs.declared.mark.Mark.{Mark}
use Rattle.audit_check.proofs.ReadParts.{run_found}
use Rattle.audit_check.proofs.TakingRuns.{refused_run, same_run}
use Rattle.audit_check.proofs.thread_rows.take_next.Goals.{else-differs-via-then-differs+then-count-gt0+else-count-len, else-differs-via-then-differs+else-count-gt0, else-differs-via-else-differs}
use Rattle.audit_check.proofs.thread_rows.take_next.Goals as goal

pub returns-in_err-mark-clause-only : goal.returns-in_err-mark-clause-only
returns-in_err-mark-clause-only c = λ mark count rest unlike some fits ends text.
    absurd (refused_run c.a_written_number_is_itself.ensures c.args.row.now mark count rest c.in_err-mark.ensures (omega arith) ends text)

pub returns-then-count-len-clause-found : goal.returns-then-count-len-clause-found
returns-then-count-len-clause-found c = (
  c.differs.ensures.0 c.if-differs.true,
  (
    c.in_ok-mark.count,
    record {
      some = c.if-count-gt0.true;
      text = run_found c.args.row.now c.in_ok-mark.mark c.in_ok-mark.count c.in_ok-mark.rest.now c.in_ok-mark.ensures;
      added = c.add_run.ensures.items;
    },
  ),
)

pub returns-then-count-len-clause-only : goal.returns-then-count-len-clause-only
returns-then-count-len-clause-only c = λ mark count rest unlike some fits ends text.
    let s = same_run c.a_written_number_is_itself.ensures c.args.row.now c.in_ok-mark.mark c.in_ok-mark.count c.in_ok-mark.rest.now c.in_ok-mark.ensures
    mark count rest (omega arith) ends text in (
      s.mark_is,
      s.rest_is,
      c.add_run.ensures.items
          ∙ (ap (λ (n : ℕ). c.args.marks.now.items ++ replicate n c.in_ok-mark.mark) s.count_is
          ∙ ap (λ (m : Mark). c.args.marks.now.items ++ replicate count m) s.mark_is),
    )

pub returns-else-differs-clause-only : goal.returns-else-differs-clause-only
returns-else-differs-clause-only c = λ mark count rest unlike some fits ends text.
    let s = same_run c.a_written_number_is_itself.ensures c.args.row.now c.in_ok-mark.mark c.in_ok-mark.count c.in_ok-mark.rest.now c.in_ok-mark.ensures
    mark count rest (omega arith) ends text in
    let number : c.in_ok-mark.count ≡ count = s.count_is in
    elim c.else-differs.branch [
      | else-differs-via-then-differs+then-count-gt0+else-count-len w ↦ omega (arith, number, fits, w.if-count-len.false, w.len.ensures.count)
      | else-differs-via-then-differs+else-count-gt0 w ↦ omega (arith, number, some, w.if-count-gt0.false)
      | else-differs-via-else-differs w ↦
          let both : false ≡ true = sym w.if-differs.false ∙ c.differs.ensures.1 (λ e. unlike (e ∙ ap Some s.mark_is)) in cc
    ]
