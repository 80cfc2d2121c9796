use Rattle.std.proofs.Common.{◌<◌, List, length, refl, subst, sym}
use Rattle.std.proofs.lemmas.Bool.{false≢true}
use Rattle.fdr_file.specs.ThreadEvents.{ThreadEvent}
use Rattle.trace_forms.specs.TraceEvents.{most_events}
use Rattle.trace_forms.proofs.trace_events.event_text.Goals as goal

pub returns-then-has_too_many-clause-many : goal.returns-then-has_too_many-clause-many
returns-then-has_too_many-clause-many c =
    let many = subst (λ (events : List ThreadEvent). most_events < length events) c.new.ensures (c.if-has_too_many.ensures.0 refl) in
    (λ same. many, λ more. refl)

pub returns-in-Some-clause-many : goal.returns-in-Some-clause-many
returns-in-Some-clause-many c = (
  λ same. absurd cc,
  λ more. absurd (false≢true (c.if-has_too_many.ensures.1 (subst (λ (events : List ThreadEvent). most_events < length events) (sym c.new.ensures) more))),
)

pub returns-in-None-clause-many : goal.returns-in-None-clause-many
returns-in-None-clause-many c = (
  λ same. absurd cc,
  λ more. absurd (false≢true (c.if-has_too_many.ensures.1 (subst (λ (events : List ThreadEvent). most_events < length events) (sym c.new.ensures) more))),
)
