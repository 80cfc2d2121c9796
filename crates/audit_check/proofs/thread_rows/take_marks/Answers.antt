use Rattle.std.proofs.Common.{◌≡◌, ◌≤◌, ◌∷◌, ◌++◌, List, length, MatchOption, sym, ap, subst, ◌∙◌}
use Rattle.std.specs.Prelude.{codes}
use Rattle.handler_word.specs.declared.mark.Mark.{Mark}
use Rattle.audit_check.specs.private.Marks.{marks_part}
use Rattle.audit_check.specs.Statements.{most_marks}
use Rattle.audit_check.proofs.ReadParts.{after_found}
use Rattle.audit_check.proofs.TakingRuns.{hyphen_only, without_hyphen}
use Rattle.audit_check.proofs.thread_rows.take_marks.Goals as goal

pub returns-in-Some-clause-found : goal.returns-in-Some-clause-found
returns-in-Some-clause-found c =
    after_found (codes " -") c.args.row.now c.in-Some.rest.now c.in-Some.ensures
    ∙ ap (λ (m : List Mark). marks_part m ++ c.in-Some.rest.now) (sym c.requires.empty)

pub returns-in-Some-clause-only : goal.returns-in-Some-clause-only
returns-in-Some-clause-only c = λ all rest few text.
    let h = hyphen_only c.args.row.now c.in-Some.rest.now all rest c.in-Some.ensures text in (h.0, c.requires.empty ∙ h.1)

pub returns-in-None-clause-only : goal.returns-in-None-clause-only
returns-in-None-clause-only c = λ all rest few text.
    let h = without_hyphen c.args.row.now all rest c.in-None.ensures text in
    subst (λ (m : List Mark). MatchOption c.take_runs.result ⊥ (λ left. (left.now ≡ 10 ∷ rest) × (c.take_runs.new.marks.items ≡ m))) h.marks_are
    (c.take_runs.ensures.only h.runs rest h.are h.some (subst (λ (m : List Mark). length m ≤ most_marks) (sym h.marks_are) few) h.text)
