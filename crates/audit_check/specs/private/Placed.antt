-- Threads whose loads are placed.
use Rattle.std.specs.Prelude.{◌≡◌, ◌↔◌, ℕ, List, Option, Some, None, IsTrue, take}
use Rattle.xray_image.specs.Program.{Program}
use Rattle.handler_word.specs.declared.mark.Mark.{Mark}
use Rattle.patch_script.specs.declared.command.PatchCommand.{PatchCommand}
use Rattle.machine_step.specs.PlainStep.{Passing}
use Rattle.machine_step.specs.Traced.{sleds_passed}
use Rattle.traced_run.specs.Runs.{ThreadRun}
use Rattle.trace_flush.specs.Audit.{ThreadAudit}
use Rattle.audit_check.specs.declared.follower.Follower.{Follower}
use Rattle.audit_check.specs.declared.placing.PlaceFault.{PlaceFault}
use Rattle.audit_check.specs.declared.placing.PlaceFault.TheVariants.{Ends, Marks}
use Rattle.audit_check.specs.declared.placing.PlacedThread.{PlacedThread}
use Rattle.audit_check.specs.Places.{load_places}
use Rattle.audit_check.specs.Rows.{EndsAgree, MarksAgree}
use Rattle.audit_check.specs.Stops.{places_of}
use Rattle.audit_check.specs.private.Judging.{HasJudged}
use Rattle.audit_check.specs.private.Searches.{HasPlaced}
use Rattle.audit_check.specs.private.Walks.{first_marks}

-- the first passings of a plain run, as many as `made` says, were made: their marks were judged, and their loads have
-- these places
pub record HasStopped (program : Program) (threads : ℕ) (script : List PatchCommand) (marks : List Mark) (passed : List Passing) (made : ℕ) (follower : Follower)
    (places : List ℕ) : Type 0 where
  pub judged : HasJudged program threads script follower (sleds_passed (take made passed)) (first_marks made marks)
  pub placed : HasPlaced program threads script follower (sleds_passed (take made passed)) (first_marks made marks) places

-- what was found of a thread: the places of its loads, if its end and its marks agree
pub record IsThreadPlaced (program : Program) (threads : ℕ) (script : List PatchCommand) (thread : ℕ) (said : ThreadAudit) (run : ThreadRun) (placed : PlacedThread)
    : Type 0 where
  pub ends : IsTrue placed.agreement.ends ↔ EndsAgree said run
  pub marks : EndsAgree said run → IsTrue placed.agreement.marks ↔ MarksAgree program threads script thread said run
  pub places : EndsAgree said run → MarksAgree program threads script thread said run
      → load_places program threads script thread (sleds_passed run.passed) said.marks ≡ Some (places_of placed.stops.items)

-- the fault of the first threads of which the rows don't agree
abbrev pub fault_by : (ends marks : Option ℕ) → Option PlaceFault
fault_by (Some thread) marks = Some (Ends thread)
fault_by None (Some thread) = Some (Marks thread)
fault_by None None = None
