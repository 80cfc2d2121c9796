use Rattle.std.proofs.Common.{◌≡◌, length, true, false, eq-eqb, eqb-true, sym, ap, ◌∙◌}
use Rattle.std.proofs.lemmas.List.{nil_from_length}
use Rattle.audit_check.proofs.ReadRows.{setup_tells}
use Rattle.audit_check.proofs.ReadAudits.{end_refused, whole_text}
use Rattle.audit_check.proofs.reading.Rows.end.Goals as goal

pub returns-then-is_empty : goal.returns-then-is_empty
returns-then-is_empty c = λ bytes statement may has.
    whole_text bytes statement c.args.self.now has
    (nil_from_length c.args.self.now.left.now (eqb-true (length c.args.self.now.left.now) 0 (sym c.is_empty.ensures ∙ c.if-is_empty.true)))

pub returns-else-is_empty : goal.returns-else-is_empty
returns-else-is_empty c = λ bytes statement may has.
    end_refused (setup_tells c.a_written_number_is_itself.ensures) bytes statement c.args.self.now may has
    (λ none. let both : true ≡ false =
    sym (eq-eqb (length c.args.self.now.left.now) 0 (ap length none)) ∙ (sym c.is_empty.ensures ∙ c.if-is_empty.false) in cc)
