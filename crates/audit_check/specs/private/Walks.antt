-- A thread that is taken through its plain run with the marks of an audit.
use Rattle.std.specs.Prelude.{◌≡◌, ◌<◌, ◌++◌, ◌↔◌, ℕ, zero, suc, Bool, true, false, List, [], ◌∷◌, Option, Some, None, IsTrue, slice_get, take, unwrap_or}
use Rattle.xray_image.specs.Program.{Program}
use Rattle.handler_word.specs.declared.mark.Mark.{Mark}
use Rattle.handler_word.specs.declared.mark.Mark.TheVariants.{Skipped}
use Rattle.handler_word.specs.MarkList.{recorded_count}
use Rattle.patch_script.specs.declared.command.PatchCommand.{PatchCommand}
use Rattle.machine_step.specs.declared.setup.Setup.{Setup}
use Rattle.machine_step.specs.Events.{recorded}
use Rattle.machine_step.specs.PlainStep.{Passing}
use Rattle.machine_step.specs.Traced.{Traced, sleds_passed}
use Rattle.traced_run.specs.Kept.{segments_of}
use Rattle.traced_run.specs.Runs.{ThreadRun}
use Rattle.trace_flush.specs.Audit.{ThreadAudit}
use Rattle.audit_check.specs.declared.blocks.Recording.{Recording}
use Rattle.audit_check.specs.declared.blocks.TraceLeft.{TraceLeft}
use Rattle.audit_check.specs.declared.follower.Follower.{Follower}
use Rattle.audit_check.specs.declared.judging.Agreement.{Agreement}
use Rattle.audit_check.specs.declared.verdict.Verdict.{Verdict}
use Rattle.audit_check.specs.declared.verdict.Verdict.TheVariants.{Yes, Ends, Marks, Counts, Recycled, Trace}
use Rattle.audit_check.specs.private.Blocks.{HasCompared, HasNoted, kept_bytes, whole_of}
use Rattle.audit_check.specs.private.Judging.{HasJudged}
use Rattle.audit_check.specs.Rows.{CountsAgree, EndsAgree, MarksAgree}
use Rattle.audit_check.specs.Verdicts.{AllAgree, FirstToDiffer}

-- the marks of the first passings, as many as `count` says; a passing without a mark is taken as skipped
abbrev pub first_marks : ℕ → List Mark → List Mark
first_marks zero marks = []
first_marks (suc count) [] = Skipped ∷ first_marks count []
first_marks (suc count) (mark ∷ marks) = mark ∷ first_marks count marks

-- the mark of a passing, counted from 0
abbrev pub mark_or_skipped : List Mark → ℕ → Mark
mark_or_skipped marks passing = unwrap_or (slice_get marks passing) Skipped

-- what a thread is judged and noted with
pub record Way : Type 0 where
  pub program : Program
  pub script : List PatchCommand
  pub setup : Setup
  pub thread : ℕ
  pub lost : ℕ
  pub marks : List Mark
  -- the whole trace, and the bytes of the threads before
  pub trace : List ℕ
  pub before : List ℕ

-- the way of a traced thread with these marks
pub record IsWayOf (way : Way) (t : Traced) (marks : List Mark) : Type 0 where
  pub program : t.program ≡ way.program
  pub limits : t.limits ≡ way.setup.limits
  pub thread : t.thread ≡ way.thread
  pub marks_are : way.marks ≡ marks

-- The first passings of a plain run, as many as `made` says, were made: their marks were judged, the events of these marks
-- were noted, and the trace was compared with all segments that are whole.
pub record HasWalked (way : Way) (passed : List Passing) (made : ℕ) (follower : Follower) (recording : Recording) (left : TraceLeft) : Type 0 where
  pub thread_is : follower.thread ≡ way.thread
  pub judged : HasJudged way.program way.setup.threads way.script follower (sleds_passed (take made passed)) (first_marks made way.marks)
  pub noted : HasNoted way.setup way.thread way.lost (recorded passed (first_marks made way.marks)) recording
  pub compared : HasCompared way.trace (way.before
      ++ kept_bytes way.setup way.lost way.thread (whole_of way.setup.size (recorded passed (first_marks made way.marks)))) left

-- ---- rows

-- What was found of a thread. Whether its marks agree is said if its end does, and whether its counts do if its marks do.
-- Then the trace was compared with all of its segments that are left.
pub record IsFound (way : Way) (said : ThreadAudit) (run : ThreadRun) (agreement : Agreement) (old new : TraceLeft) : Type 0 where
  pub ends : IsTrue agreement.ends ↔ EndsAgree said run
  pub marks : EndsAgree said run → IsTrue agreement.marks ↔ MarksAgree way.program way.setup.threads way.script way.thread said run
  pub counts : EndsAgree said run → MarksAgree way.program way.setup.threads way.script way.thread said run
      → IsTrue agreement.counts ↔ CountsAgree way.setup.size said run
  pub compared : EndsAgree said run → MarksAgree way.program way.setup.threads way.script way.thread said run
      → HasCompared way.trace way.before old
      → HasCompared way.trace (way.before ++ kept_bytes way.setup way.lost way.thread (segments_of way.setup.size run)) new

-- a thread that has segments has kept the last one
pub record KeepsLast (segments first : ℕ) : Type 0 where
  pub below : 0 < segments → first < segments
  pub none : segments ≡ 0 → first ≡ 0

-- the counts of a thread are those of its marks and of this many segments, and it has kept the last one
pub record AreCounted (said : ThreadAudit) (segments : ℕ) : Type 0 where
  pub recorded : said.recorded ≡ recorded_count said.marks
  pub segments_are : said.segments ≡ segments
  pub last : KeepsLast said.segments said.first

-- the first thread of which a row doesn't agree, after one more thread
abbrev pub first_of : Option ℕ → ℕ → Bool → Option ℕ
first_of before thread true = before
first_of None thread false = Some thread
first_of (Some first) thread false = Some first

-- of the first threads: this is the first of which a row doesn't agree, or it agrees of all of them
abbrev pub IsFirst : (threads : ℕ) → (ℕ → Type 0) → Option ℕ → Type 0
IsFirst threads Row None = AllAgree threads Row
IsFirst threads Row (Some thread) = FirstToDiffer threads Row thread

-- the verdict of the first threads of which the rows of a thread don't agree, and of whether the other rows agree
abbrev pub verdict_by : (ends marks counts : Option ℕ) → (recycled same : Bool) → Verdict
verdict_by (Some thread) marks counts recycled same = Ends thread
verdict_by None (Some thread) counts recycled same = Marks thread
verdict_by None None (Some thread) recycled same = Counts thread
verdict_by None None None false same = Recycled
verdict_by None None None true false = Trace
verdict_by None None None true true = Yes
