-- Logs as a kind of input.
use Rattle.std.proofs.Common.{◌≡◌, ◌⊎◌, ◌∙◌, ℕ, List, Result, Ok, Err, inl, inr, refl, sym, ap}
use Rattle.runtime_log.specs.declared.facts.Facts.{Facts}
use Rattle.runtime_log.specs.declared.fault.LogFault.{LogFault}
use Rattle.runtime_log.specs.FaultWords.{log_words}
use Rattle.runtime_log.specs.Imports.{IsImport}
use Rattle.runtime_log.specs.Laws.{OneImport, SomeImport}
use Rattle.runtime_log.specs.Logs.{Log, logged}
use Rattle.xray_program.specs.Inputs.{imported_form, refused_for}
use Rattle.xray_program.specs.private.Lawful.{IsJudged, IsUnique}

never : (log : Log) (fault : LogFault) → (let v : Result Log LogFault = Ok log in let w : Result Log LogFault = Err fault in v ≡ w) → ⊥
never log fault e = cc

same_fault : (f g : LogFault) → (let v : Result Log LogFault = Err f in let w : Result Log LogFault = Err g in v ≡ w) → f ≡ g
same_fault f g e = cc

pub imported_unique : OneImport → IsUnique imported_form
imported_unique one = record {
  one = λ bytes a b x y. same a b (one bytes b.0 a.0 b.1 a.1 y x);
  why = λ bytes r s x y. x.2 ∙ ap (λ (f : LogFault). refused_for (log_words f)) (same_fault x.0 y.0 (sym x.1 ∙ y.1)) ∙ sym y.2;
  not_both = λ bytes a r x y. never x.log y.0 (sym x.says ∙ y.1);
}
  where
    same : (a b : List ℕ × Facts) → (a.0 ≡ b.0) × (a.1 ≡ b.1) → a ≡ b
    same (file, facts) (other, others) (e, f) = rw (e, f) refl

pub imported_judged : SomeImport → IsJudged imported_form
imported_judged some bytes all = by_answer (logged bytes) refl
  where
    by_answer : (answer : Result Log LogFault) → logged bytes ≡ answer
        → ((made : List ℕ × Facts) × IsImport bytes made.0 made.1)
        ⊎ ((refusal : List ℕ) × ((fault : LogFault) × (logged bytes ≡ Err fault) × (refusal ≡ refused_for (log_words fault))))
    by_answer (Ok log) e =
        let made = some bytes log e in
        inl ((made.0, made.1), made.2)
    by_answer (Err fault) e = inr (refused_for (log_words fault), (fault, e, refl))
