use Rattle.std.proofs.Common.{◌≡◌, ◌++◌, ◌∷◌, [], Option, None, Some, true, false, List, ℕ, append-nil, ap, arith, refl, sym, take, ◌∙◌}
use Rattle.std.specs.Prelude.{is_some, not}
use Rattle.xray_image.specs.Program.{Program}
use Rattle.patch_script.specs.declared.command.PatchCommand.{PatchCommand}
use Rattle.patch_script.specs.Micros.{micros, total_of}
use Rattle.patch_script.specs.Plans.{waiting_line}
use Rattle.patch_script.specs.Refusals.{commands_of}
use Rattle.audit_check.proofs.OwnScript.{own_micro, own_place, own_within}
use Rattle.run_order.specs.FreeScripts.{is_free}
use Rattle.run_order.specs.private.Waits.{waits_from}
use Rattle.run_order.proofs.WaitsBefore.{not_free, waits_next}
use Rattle.run_order.proofs.NoWaits.{no_waits}
use Rattle.run_order.proofs.SledStores.{patch_next}
use Rattle.run_order.proofs.waits.Waits.of.Goals as goal
use Rattle.run_order.proofs.waits.Waits.of.Goals.{then-is_wait+in_ok-push, else-is_wait}

none_of : (line : Option ℕ) → is_some line ≡ false → line ≡ None
none_of None e = refl
none_of (Some line) e = absurd cc

pub returns-then-is_none : goal.returns-then-is_none
returns-then-is_none c =
    let none : waiting_line c.args.script.now.lines ≡ None = sym c.waits.ensures ∙ none_of c.waits.result (c.is_none.ensures ∙ ap not c.if-is_none.true) in
    c.new-places.ensures.items ∙ sym (no_waits c.args.image.now c.args.threads c.args.script.now.lines none)

pub steps-preserved-then-begins_patch : goal.steps-preserved-then-begins_patch
steps-preserved-then-begins_patch c =
    let program : Program = c.args.image.now in
    let threads : ℕ = c.args.threads in
    let script : List PatchCommand = commands_of c.args.script.now.lines in
    let own = c.args.script.now in
    let place : ℕ = c.steps.place in
    let total = own_place program own.program threads own.threads script c.requires.program c.requires.threads total_of c.total-total.result c.total-total.ensures.total in
    let micro = own_micro program own.program threads own.threads script c.requires.program c.requires.threads place c.micro_near-micro.result
    c.micro_near-micro.ensures.micro in
    let low = own_within program own.program threads own.threads script c.requires.program c.requires.threads place c.total-total.result
    c.total-total.ensures.total c.steps-test.true in
    let next = patch_next program threads script place c.micro_near-micro.result low micro (c.begins_patch.ensures program c.state_word-state.ensures c.if-begins_patch.true) in
    record {
      within = omega (arith, next.0, total);
      waits = c.steps.invariant.waits ∙ sym next.1;
    }

pub steps-preserved : goal.steps-preserved
steps-preserved c =
    let program : Program = c.args.image.now in
    let threads : ℕ = c.args.threads in
    let script : List PatchCommand = commands_of c.args.script.now.lines in
    let own = c.args.script.now in
    let place : ℕ = c.steps.place in
    let micro = own_micro program own.program threads own.threads script c.requires.program c.requires.threads place c.micro_near-micro.result
    c.micro_near-micro.ensures.micro in
    let low = own_within program own.program threads own.threads script c.requires.program c.requires.threads place c.total-total.result
    c.total-total.ensures.total c.steps-test.true in
    let decides : c.is_wait.result ≡ not (is_free program threads c.micro_near-micro.result) = c.is_wait.ensures program c.state_word-state.ensures in
    let before : List ℕ = waits_from program threads 0 (take place (micros program threads script)) in
    record {
      within = omega (arith, c.steps-test.true);
      waits = elim c.if-is_wait.branch [
        | then-is_wait+in_ok-push w ↦
            ap (λ places. places.items) w.places-is ∙ w.in_ok-push.ensures.items ∙ ap (λ (ws : List ℕ). ws ++ place ∷ []) c.steps.invariant.waits
            ∙ sym (waits_next program threads script place c.micro_near-micro.result false low micro (not_free _ true (sym decides ∙ w.if-is_wait.true)))
        | else-is_wait w ↦
            ap (λ places. places.items) w.places-is ∙ c.steps.invariant.waits ∙ sym (append-nil before)
            ∙ sym (waits_next program threads script place c.micro_near-micro.result true low micro (not_free _ false (sym decides ∙ w.if-is_wait.false)))
      ];
    }
