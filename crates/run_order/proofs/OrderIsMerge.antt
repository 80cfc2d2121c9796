-- The order of a run is the merge of the loads of its threads, from the start of the script without waits to its end.
use Rattle.std.proofs.Common.{List, sym, subst}
use Rattle.xray_image.specs.Program.{Program}
use Rattle.patch_script.specs.declared.command.PatchCommand.{PatchCommand}
use Rattle.patch_script.specs.Micros.{start_of, total_of}
use Rattle.machine_step.specs.declared.setup.Setup.{Setup}
use Rattle.step_sim.specs.declared.turns.Turns.{Turns}
use Rattle.traced_run.specs.Runs.{ThreadRun}
use Rattle.run_order.specs.FreeScripts.{free_commands, free_place}
use Rattle.run_order.specs.Merges.{IsMerge}
use Rattle.run_order.specs.RunOrders.{IsOrderOf}
use Rattle.run_order.proofs.FreeMicros.{AllRelease, free_start, free_total}

pub order_is_merge : (program : Program) (script : List PatchCommand) (setup : Setup) (runs : List ThreadRun) (schedule : List Turns)
    → AllRelease setup.threads script → (order : IsOrderOf program setup.threads script runs schedule)
    → IsMerge (start_of program setup.threads (free_commands script)) (total_of program setup.threads (free_commands script)) order.places schedule
order_is_merge program script setup runs schedule releases order =
    let n = setup.threads in
    subst (λ s. IsMerge s (total_of program n (free_commands script)) order.places schedule) (sym (free_start program n script releases))
    (subst (λ t. IsMerge (free_place program n script (start_of program n script)) t order.places schedule) (sym (free_total program n script releases)) order.merge)
