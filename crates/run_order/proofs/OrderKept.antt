-- The order of a run keeps the waits of the script.
use Rattle.std.proofs.Common.{◌≡◌, ℕ, ◌+◌, ◌-◌, ◌<◌, ◌≤◌, List, Option, Some, None, refl, sym, ap, ◌∙◌, arith, length, map}
use Rattle.std.specs.Prelude.{slice_get}
use Rattle.std.proofs.lemmas.Option.{slice_get_within}
use Rattle.xray_image.specs.Program.{Program}
use Rattle.patch_script.specs.declared.command.PatchCommand.{PatchCommand}
use Rattle.patch_script.specs.Bounds.{bound_of}
use Rattle.patch_script.specs.CodeAt.{code_at}
use Rattle.patch_script.specs.Micros.{total_of}
use Rattle.machine_step.specs.declared.setup.Setup.{Setup}
use Rattle.machine_step.specs.Traced.{sleds_passed}
use Rattle.step_sim.specs.declared.turns.Turns.{Turns}
use Rattle.traced_run.specs.Runs.{IsRun, ThreadRun}
use Rattle.audit_check.specs.Places.{load_places}
use Rattle.audit_check.proofs.SearchResults.{was_made}
use Rattle.run_order.specs.FreeScripts.{free_place}
use Rattle.run_order.specs.KeptWaits.{KeepScript, KeepScriptOf}
use Rattle.run_order.specs.RunOrders.{IsOrderOf}
use Rattle.run_order.proofs.OrderLeavesRun.{run_exists, sleds_all, sleds_exist}
use Rattle.run_order.proofs.OrderOfRun.{none_there}
use Rattle.run_order.proofs.PlacesKept.{places_kept}

pub order_kept : (program : Program) (script : List PatchCommand) (setup : Setup) (runs : List ThreadRun) (schedule : List Turns)
    → ((thread passing : ℕ) → bound_of program setup.threads script thread passing ≤ total_of program setup.threads script) → IsRun program setup runs
    → (order : IsOrderOf program setup.threads script runs schedule) → KeepScriptOf program setup.threads script runs order.places
order_kept program script setup runs schedule bounds is order i run e = by_own (slice_get order.places (i + 1 - 1)) refl
  where
    by_own : (own : Option (List ℕ)) → slice_get order.places (i + 1 - 1) ≡ own
        → (places : List ℕ) × KeepScript program setup.threads script (i + 1) (sleds_passed run.passed) run.marks places
        × (slice_get order.places (i + 1 - 1) ≡ Some (map (free_place program setup.threads script) places))
    by_own None there =
        let within = slice_get_within runs i run e in
        let low : i + 1 - 1 < length order.places = omega (arith, within, order.are.count) in
        absurd (none_there order.places (i + 1 - 1) low there)
    by_own (Some own) there =
        let within = slice_get_within runs i run e in
        let made = was_made (map (free_place program setup.threads script)) (load_places program setup.threads script (i + 1) (sleds_passed run.passed) run.marks) own
        (order.are.each i run e ∙ there) in
        let exist = run_exists program setup runs is i run e in
        let kept = places_kept program setup.threads script (i + 1) (sleds_passed run.passed) run.marks made.value (omega arith)
        (omega (arith, within, is.count)) (bounds (i + 1))
        (sleds_exist program setup.threads (code_at program setup.threads script) (i + 1) run.passed exist) (sleds_all program run.passed exist) made.given_is in
        (made.value, kept, there ∙ ap Some (sym made.makes))
