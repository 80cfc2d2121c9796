-- The parts of what is said of a thread.
use Rattle.std.specs.Prelude.{List, ℕ, ◌++◌, codes, decimal}
use Rattle.handler_word.specs.declared.mark.Mark.{Mark}
use Rattle.machine_step.specs.Texts.{end_text, line_feed, marks_line}
use Rattle.trace_flush.specs.declared.audit.Detail.{Detail}
use Rattle.trace_flush.specs.declared.audit.Detail.TheVariants.{Audit, Summary}
use Rattle.trace_flush.specs.declared.line.AuditLine.{AuditLine}
use Rattle.trace_flush.specs.Audit.{ThreadAudit, thread_lines}
use Rattle.trace_flush.specs.Summary.{summary_line}

-- what the audit or the summary says of a thread
abbrev pub said_of : Detail → ThreadAudit → List ℕ
said_of Audit = thread_lines
said_of Summary = summary_line

-- how it ended, its passings and those that recorded an event
abbrev pub start_text : ThreadAudit → List ℕ
start_text said =
    codes "thread " ++ decimal said.thread ++ codes " " ++ end_text said.end ++ codes " passings " ++ decimal said.passings
    ++ codes " recorded " ++ decimal said.recorded

-- how many of its segments were recycled
abbrev pub first_text : AuditLine → List ℕ
first_text line = codes " first " ++ decimal line.first ++ line_feed

-- its segments, and how many of them were recycled
abbrev pub segments_text : AuditLine → List ℕ
segments_text line = codes " segments " ++ decimal line.segments ++ first_text line

-- what is said of it after its start
abbrev pub rest_of : Detail → AuditLine → List Mark → List ℕ
rest_of Audit line marks = segments_text line ++ marks_line marks
rest_of Summary line marks = first_text line
