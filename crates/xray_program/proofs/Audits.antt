-- Audits as a kind of input.
use Rattle.std.proofs.Common.{◌≡◌, ◌⊎◌, ◌∙◌, List, ℕ, Result, Ok, Err, inl, inr, refl, sym, ap}
use Rattle.audit_check.specs.declared.fault.AuditFault.{AuditFault}
use Rattle.audit_check.specs.Reading.{ReadsAsAudit}
use Rattle.audit_check.specs.Statements.{AuditStatement}
use Rattle.audit_check.specs.Texts.{audit_words}
use Rattle.xray_program.specs.Inputs.{audit_form, refused_for}
use Rattle.xray_program.specs.private.Lawful.{IsJudged, IsUnique}

-- what the reader of audits says: any bytes read as one statement, or are refused at one line
abbrev pub OneReading : Type 0
OneReading = (bytes : List ℕ) (reading other : Result AuditStatement AuditFault) → ReadsAsAudit bytes reading → ReadsAsAudit bytes other → reading ≡ other

abbrev pub SomeReading : Type 0
SomeReading = (bytes : List ℕ) → (reading : Result AuditStatement AuditFault) × ReadsAsAudit bytes reading

pub audit_unique : OneReading → IsUnique audit_form
audit_unique one = record {
  one = λ bytes a b x y. same_statement a b (one bytes (Ok a) (Ok b) x y);
  why = λ bytes r s x y. same_reason r s x.0 y.0 (one bytes (Err x.0) (Err y.0) x.1 y.1) x.2 y.2;
  not_both = λ bytes a r x y. never a y.0 (one bytes (Ok a) (Err y.0) x y.1);
}
  where
    same_statement : (a b : AuditStatement) → (let v : Result AuditStatement AuditFault = Ok a in let w : Result AuditStatement AuditFault = Ok b in v ≡ w) → a ≡ b
    same_statement a b e = cc

    never : (a : AuditStatement) (f : AuditFault) → (let v : Result AuditStatement AuditFault = Ok a in let w : Result AuditStatement AuditFault = Err f in v ≡ w) → ⊥
    never a f e = cc

    same_reason : (r s : List ℕ) (f g : AuditFault) → (let v : Result AuditStatement AuditFault = Err f in let w : Result AuditStatement AuditFault = Err g in v ≡ w)
        → r ≡ refused_for (audit_words f) → s ≡ refused_for (audit_words g) → r ≡ s
    same_reason r s f g e x y = let same : f ≡ g = cc in x ∙ ap (λ h. refused_for (audit_words h)) same ∙ sym y

pub audit_judged : SomeReading → IsJudged audit_form
audit_judged some bytes all = by_reading (some bytes).0 (some bytes).1
  where
    by_reading : (reading : Result AuditStatement AuditFault) → ReadsAsAudit bytes reading
        → ((statement : AuditStatement) × audit_form.Reads bytes statement) ⊎ ((refusal : List ℕ) × audit_form.Refuses bytes refusal)
    by_reading (Ok statement) reads = inl (statement, reads)
    by_reading (Err fault) refused = inr (refused_for (audit_words fault), (fault, refused, refl))
