use Rattle.std.proofs.Common.{◌≡◌, [], true, false, refl, sym, ◌∙◌}
use Rattle.std.proofs.lemmas.Slice.Eq.{bytes_eq-Decides}
use Rattle.machine_step.specs.Texts.{line_feed}
use Rattle.audit_check.proofs.TakingRuns.{marks_found, marks_none, marks_part_is}
use Rattle.audit_check.proofs.thread_rows.read_marks.Goals as goal

pub returns-in_err-part-clause-only : goal.returns-in_err-part-clause-only
returns-in_err-part-clause-only c = λ all few is. absurd (marks_none c.args.row.now all c.in_err-part.ensures is)

pub returns-in_err-rest-clause-only : goal.returns-in_err-rest-clause-only
returns-in_err-rest-clause-only c = λ all few is.
    absurd (c.in_err-rest.ensures.only all [] few (marks_part_is c.args.row.now c.in_ok-part.part.now all c.in_ok-part.ensures is))

pub returns-then-eq-clause-found : goal.returns-then-eq-clause-found
returns-then-eq-clause-found c =
    marks_found c.args.row.now c.in_ok-part.part.now c.in_ok-rest.rest.now c.take_marks.new.marks.items c.in_ok-part.ensures c.in_ok-rest.ensures.found
    ((bytes_eq-Decides c.in_ok-rest.rest.now line_feed).0 (sym c.eq.ensures ∙ c.if-eq.true))

pub returns-then-eq-clause-only : goal.returns-then-eq-clause-only
returns-then-eq-clause-only c = λ all few is.
    let m = c.in_ok-rest.ensures.only all [] few (marks_part_is c.args.row.now c.in_ok-part.part.now all c.in_ok-part.ensures is) in (refl, m.1)

pub returns-else-eq-clause-only : goal.returns-else-eq-clause-only
returns-else-eq-clause-only c = λ all few is.
    let m = c.in_ok-rest.ensures.only all [] few (marks_part_is c.args.row.now c.in_ok-part.part.now all c.in_ok-part.ensures is) in
    let both : true ≡ false = sym ((bytes_eq-Decides c.in_ok-rest.rest.now line_feed).1 m.0) ∙ (sym c.eq.ensures ∙ c.if-eq.false) in
    absurd cc
