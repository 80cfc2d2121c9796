-- The texts of verdicts and of faults.
use Rattle.std.specs.Prelude.{ℕ, List, ◌++◌, Option, Some, None, codes, decimal}
use Rattle.machine_step.specs.Texts.{line_feed}
use Rattle.audit_check.specs.declared.fault.AuditFault.{AuditFault}
use Rattle.audit_check.specs.declared.fault.AuditFault.TheVariants.{Form, NoMemory}
use Rattle.audit_check.specs.declared.verdict.Verdict.{Verdict}
use Rattle.audit_check.specs.declared.verdict.Verdict.TheVariants.{Yes, Ends, Marks, Counts, Recycled, Trace}

-- the line that prints a verdict
abbrev pub verdict_text : Verdict → List ℕ
verdict_text Yes = codes "yes" ++ line_feed
verdict_text (Ends thread) = codes "no ends " ++ decimal thread ++ line_feed
verdict_text (Marks thread) = codes "no marks " ++ decimal thread ++ line_feed
verdict_text (Counts thread) = codes "no counts " ++ decimal thread ++ line_feed
verdict_text Recycled = codes "no recycled" ++ line_feed
verdict_text Trace = codes "no trace" ++ line_feed

-- the words in which a line on err reports a fault; there are none if memory ran out, since nothing is refused then
abbrev pub audit_words : AuditFault → Option (List ℕ)
audit_words (Form line) = Some (codes "Form " ++ decimal line)
audit_words NoMemory = None
