use Rattle.std.proofs.Common.{List, map}
use Rattle.patch_script.specs.Refusals.{commands_of}
use Rattle.traced_run.specs.Runs.{ThreadRun}
use Rattle.audit_check.specs.Rows.{AreRunsOf}
use Rattle.audit_check.specs.Statements.{statement_of}
use Rattle.audit_check.specs.Stops.{places_of}
use Rattle.audit_check.proofs.PlacedLoads.{PlacedUpTo}
use Rattle.audit_check.proofs.placing.place_loads.Given as goal

-- the loads of the threads so far were placed
abbrev pub invariant-loop-entry : goal.invariant-loop-entry
invariant-loop-entry l =
    (runs : List ThreadRun) → AreRunsOf l.image (statement_of l.audit) runs
    → PlacedUpTo l.image (commands_of l.script.lines) (statement_of l.audit) runs l.entry-index l.first (map (λ stops. places_of stops.items) l.threads.items)
