-- only the place has changed, and what is known of threads
use Rattle.sled_rule.specs.Seats.{patch_view, IsPatcherOf}
use Rattle.sled_patch.specs.Runs.{HasRun}
use Rattle.sled_patch.proofs.run.run_script.Given as goal

abbrev pub invariant-steps : goal.invariant-steps
invariant-steps g l = IsPatcherOf l.table l.seat × HasRun (patch_view l.fn.seat) (patch_view l.seat).place (patch_view l.seat)
