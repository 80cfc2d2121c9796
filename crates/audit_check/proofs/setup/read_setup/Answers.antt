use Rattle.std.proofs.Common.{◌≡◌, Some, sym, ap, subst, ◌∙◌}
use Rattle.std.proofs.lemmas.Option.{IfSome_then, none-some, same_Some}
use Rattle.machine_step.specs.Setups.{IsSetup}
use Rattle.audit_check.specs.private.Parts.{setup_row}
use Rattle.audit_check.specs.private.Taking.{setup_in}
use Rattle.audit_check.proofs.ReadRows.{setup_found, setup_only}
use Rattle.audit_check.proofs.setup.read_setup.Goals as goal

pub returns-in_err-setup-clause-only : goal.returns-in_err-setup-clause-only
returns-in_err-setup-clause-only c = λ s is text.
    absurd (none-some s (c.in_err-setup.ensures ∙ (ap setup_in text ∙ setup_only c.a_written_number_is_itself.ensures s is)))

pub returns-clause-found : goal.returns-clause-found
returns-clause-found c =
    IfSome_then c.accepted.result c.accepted.ensures.found
    (λ s found. (
      subst IsSetup (sym found.0) found.1,
      setup_found c.args.row.now c.in_ok-setup.setup (sym c.in_ok-setup.ensures) ∙ ap setup_row (sym found.0),
    ))

pub returns-clause-only : goal.returns-clause-only
returns-clause-only c = λ s is text.
    let same : c.in_ok-setup.setup ≡ s =
    same_Some c.in_ok-setup.setup s (c.in_ok-setup.ensures ∙ (ap setup_in text ∙ setup_only c.a_written_number_is_itself.ensures s is)) in
    c.accepted.ensures.only (subst IsSetup (sym same) is) ∙ ap Some same
