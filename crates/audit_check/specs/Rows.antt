-- The rows of a verdict: in what an audit and a trace have to agree with the plain runs of an image and with a script.
use Rattle.std.specs.Prelude.{◌≡◌, ◌<◌, ◌-◌, ℕ, List, length, map, sum_by}
use Rattle.xray_image.specs.Program.{Program}
use Rattle.patch_script.specs.declared.command.PatchCommand.{PatchCommand}
use Rattle.machine_step.specs.Buffers.{spare_of}
use Rattle.machine_step.specs.Traced.{sleds_passed}
use Rattle.traced_run.specs.Following.{MarksFollowScript}
use Rattle.traced_run.specs.Kept.{segment_count}
use Rattle.traced_run.specs.Runs.{IsRun, ThreadRun, events_of}
use Rattle.trace_flush.specs.Audit.{ThreadAudit}
use Rattle.audit_check.specs.Statements.{AuditStatement}

-- The runs that a statement speaks of. Each thread goes as its plain run does, and has the marks and the number of lost
-- segments that are stated.
pub record AreRunsOf (program : Program) (statement : AuditStatement) (runs : List ThreadRun) : Type 0 where
  pub run : IsRun program statement.setup runs
  pub marks : map (λ run. run.marks) runs ≡ map (λ said. said.marks) statement.threads
  pub lost : map (λ run. run.lost) runs ≡ map (λ said. said.first) statement.threads

-- ---- the rows of a thread

-- its end, and the number of its passings
pub record EndsAgree (said : ThreadAudit) (run : ThreadRun) : Type 0 where
  pub end : said.end ≡ run.end
  pub passings : said.passings ≡ length run.passed

-- its marks: one for each passing, and such that they follow the script, as one of this many threads
pub record MarksAgree (program : Program) (threads : ℕ) (script : List PatchCommand) (number : ℕ) (said : ThreadAudit) (run : ThreadRun) : Type 0 where
  pub each : length said.marks ≡ said.passings
  pub follow : MarksFollowScript program threads script number (sleds_passed run.passed) said.marks

-- its counts: of its events, of their segments in buffers of this size, and of those that are lost, not the last one
pub record CountsAgree (size : ℕ) (said : ThreadAudit) (run : ThreadRun) : Type 0 where
  pub recorded : said.recorded ≡ length (events_of run)
  pub segments : said.segments ≡ segment_count size run
  pub below : 0 < said.segments → said.first < said.segments
  pub none : said.segments ≡ 0 → said.first ≡ 0

-- ---- the row of all threads

-- Segments are recycled if the threads' queue has no spare buffer for them. A thread that has segments holds the last one
-- itself.
pub record RecycledAgrees (statement : AuditStatement) : Type 0 where
  pub sum : statement.recycled ≡ sum_by (λ said. said.first) statement.threads
  pub queue : statement.recycled ≡ sum_by (λ said. said.segments - 1) statement.threads - spare_of statement.setup
