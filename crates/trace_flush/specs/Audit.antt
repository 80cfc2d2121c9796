-- The audit: what a run was made with, and how its threads ended.
use Rattle.std.specs.Prelude.{ℕ, List, [], ◌∷◌, ◌++◌, length, sum_by, codes, decimal}
use Rattle.std.specs.List.{flat_map}
use Rattle.handler_word.specs.declared.mark.Mark.{Mark}
use Rattle.handler_word.specs.MarkList.{recorded_count}
use Rattle.machine_step.specs.declared.end.End.{End}
use Rattle.machine_step.specs.declared.limits.Limits.{Limits}
use Rattle.machine_step.specs.declared.setup.Setup.{Setup}
use Rattle.machine_step.specs.Texts.{end_text, marks_line, line_feed}
use Rattle.machine_step.specs.Traced.{Traced}
use Rattle.trace_flush.specs.declared.line.AuditLine.{AuditLine}

-- What an audit says of a thread: its number and its end; its passings, and those that recorded an event; its segments,
-- and how many of them were recycled; and the marks of its passings. These are the numbers as they are printed. In the
-- audit of a run they are those of the marks and of the run.
pub record ThreadAudit : Type 0 where
  pub thread : ℕ
  pub end : End
  pub passings : ℕ
  pub recorded : ℕ
  pub segments : ℕ
  pub first : ℕ
  pub marks : List Mark

-- what is said of a thread with this line and these marks
abbrev pub thread_audit : AuditLine → List Mark → ThreadAudit
thread_audit line marks = record {
  thread = line.thread;
  end = line.end;
  passings = length marks;
  recorded = recorded_count marks;
  segments = line.segments;
  first = line.first;
  marks = marks;
}

-- what is said of threads with these lines
abbrev pub thread_audits : List AuditLine → List Traced → List ThreadAudit
thread_audits (line ∷ lines) (thread ∷ threads) = thread_audit line thread.marks ∷ thread_audits lines threads
thread_audits lines threads = []

-- how many segments of all threads were recycled, by these lines
abbrev pub recycled_by : List AuditLine → ℕ
recycled_by lines = sum_by (λ line. line.first) lines

-- ---- what the run was made with

-- the format, the threads and the buffers
abbrev pub buffers_text : Setup → List ℕ
buffers_text setup =
    codes "xray-audit 1" ++ line_feed
    ++ codes "threads=" ++ decimal setup.threads ++ codes " buffer-size=" ++ decimal setup.size ++ codes " buffer-max=" ++ decimal setup.max

-- the limits and the stamps of each thread
abbrev pub limits_text : Limits → List ℕ
limits_text limits =
    codes " fuel=" ++ decimal limits.fuel ++ codes " passings=" ++ decimal limits.passings ++ codes " tick=" ++ decimal limits.tick
    ++ codes " tsc=" ++ decimal limits.tsc ++ codes " cpus=" ++ decimal limits.cpus ++ codes " migrate=" ++ decimal limits.migrate

-- the process, the seconds and the microseconds of the wall time, and the counter's frequency
abbrev pub stamps_text : Setup → List ℕ
stamps_text setup =
    codes " pid=" ++ decimal setup.pid ++ codes " wall=" ++ decimal setup.wall.secs ++ codes "." ++ decimal setup.wall.micros
    ++ codes " frequency=" ++ decimal setup.frequency ++ line_feed

-- the first two lines
abbrev pub setup_lines : Setup → List ℕ
setup_lines setup = buffers_text setup ++ limits_text setup.limits ++ stamps_text setup

-- ---- how its threads ended

-- how a thread ended, its passings and those that recorded an event, its segments, and how many of these were recycled
abbrev pub thread_line : ThreadAudit → List ℕ
thread_line said =
    codes "thread " ++ decimal said.thread ++ codes " " ++ end_text said.end ++ codes " passings " ++ decimal said.passings
    ++ codes " recorded " ++ decimal said.recorded ++ codes " segments " ++ decimal said.segments
    ++ codes " first " ++ decimal said.first ++ line_feed

-- a thread's two lines
abbrev pub thread_lines : ThreadAudit → List ℕ
thread_lines said = thread_line said ++ marks_line said.marks

-- how many segments of all threads were recycled
abbrev pub recycled_line : ℕ → List ℕ
recycled_line recycled = codes "recycled " ++ decimal recycled ++ line_feed

-- the whole text
abbrev pub audit_text : Setup → List ThreadAudit → (recycled : ℕ) → List ℕ
audit_text setup threads recycled = setup_lines setup ++ flat_map thread_lines threads ++ recycled_line recycled
