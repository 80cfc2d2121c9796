-- The audit of a run: the lines that its threads get.
use Rattle.std.specs.Prelude.{ℕ, List, [], ◌∷◌, length, map}
use Rattle.std.specs.List.{enumerate_from}
use Rattle.handler_word.specs.MarkList.{recorded_count}
use Rattle.machine_step.specs.declared.end.End.{End}
use Rattle.machine_step.specs.declared.end.End.TheVariants.{Returned}
use Rattle.machine_step.specs.declared.setup.Setup.{Setup}
use Rattle.machine_step.specs.declared.want.Want.{Want}
use Rattle.machine_step.specs.declared.want.Want.TheVariants.{Gate, Load, Done}
use Rattle.machine_step.specs.Traced.{Traced}
use Rattle.traced_run.specs.Kept.{segment_count}
use Rattle.traced_run.specs.Losses.{recycled_of}
use Rattle.traced_run.specs.Runs.{ThreadRun}
use Rattle.trace_flush.specs.declared.line.AuditLine.{AuditLine}
use Rattle.trace_flush.specs.Audit.{ThreadAudit, audit_text}

-- the end of a thread that wants this; it means nothing for a thread that hasn't ended
abbrev pub end_of : Want → End
end_of (Gate passing) = Returned
end_of (Load word) = Returned
end_of (Done end) = end

-- the line of a thread with `segments` segments, of which `first` are lost
abbrev pub audit_line_of : Traced → ℕ → ℕ → AuditLine
audit_line_of thread segments first = record { thread = thread.thread; end = end_of thread.want; segments = segments; first = first }

-- the lines of threads
abbrev pub audit_lines_of : List Traced → List ℕ → List ℕ → List AuditLine
audit_lines_of (thread ∷ threads) (n ∷ segments) (m ∷ first) = audit_line_of thread n m ∷ audit_lines_of threads segments first
audit_lines_of threads segments first = []

-- What the audit says of a thread of a run: its number, its end, its passings and those that recorded an event, how many
-- segments it has and how many of these are lost, and its marks.
abbrev pub audit_of : Setup → ℕ × ThreadRun → ThreadAudit
audit_of setup (thread, run) = record {
  thread = thread;
  end = run.end;
  passings = length run.marks;
  recorded = recorded_count run.marks;
  segments = segment_count setup.size run;
  first = run.lost;
  marks = run.marks;
}

abbrev pub audits_of : Setup → List ThreadRun → List ThreadAudit
audits_of setup runs = map (audit_of setup) (enumerate_from 1 runs)

-- The audit of a run.
abbrev pub audit_of_run : Setup → List ThreadRun → List ℕ
audit_of_run setup runs = audit_text setup (audits_of setup runs) (recycled_of runs)
