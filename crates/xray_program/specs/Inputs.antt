-- The kinds of input.
use Rattle.std.specs.Prelude.{◌≡◌, ◌≤◌, Result, Ok, Err, ℕ, Bool, List, [], Option, codes, length, take, unwrap_or}
use Rattle.command_words.specs.Limits.{trace_limit}
use Rattle.xray_image.specs.Program.{Program, IsAccepted}
use Rattle.xray_image.specs.declared.fault.ImageFault.{ImageFault}
use Rattle.xray_image.specs.FaultWords.{image_words}
use Rattle.xray_image.specs.Table as image
use Rattle.asm_text.specs.Assembling.{assembled}
use Rattle.asm_text.specs.FaultWords.{asm_words}
use Rattle.patch_script.specs.Plans.{Plan, plan_of}
use Rattle.patch_script.specs.FaultWords.{script_words}
use Rattle.step_sim.specs.declared.turns.Turns.{Turns}
use Rattle.step_sim.specs.FaultWords.{schedule_words}
use Rattle.step_sim.specs.Schedules.{schedule_of}
use Rattle.fdr_file.specs.declared.fault.TraceFault.{TraceFault}
use Rattle.fdr_file.specs.declared.trace.Trace.{Trace}
use Rattle.fdr_file.specs.Prefixes.{IsReadable, ReadsAsTrace}
use Rattle.fdr_file.specs.Traces.{trace_of}
use Rattle.trace_words.specs.TraceWords.{trace_words}
use Rattle.map_names.specs.FaultWords.{map_words}
use Rattle.map_names.specs.Maps.{map_naming}
use Rattle.map_names.specs.Naming.{Naming}
use Rattle.program_map.specs.FaultWords.{program_words}
use Rattle.program_map.specs.Programs.{MappedProgram, program_of_elf}
use Rattle.runtime_log.specs.declared.facts.Facts.{Facts}
use Rattle.runtime_log.specs.declared.fault.LogFault.{LogFault}
use Rattle.runtime_log.specs.FaultWords.{log_words}
use Rattle.runtime_log.specs.Imports.{IsImport}
use Rattle.runtime_log.specs.Logs.{logged}
use Rattle.trace_forms.specs.BasicLogs.{basic_of}
use Rattle.trace_forms.specs.FaultWords.{basic_words}
use Rattle.audit_check.specs.declared.fault.AuditFault.{AuditFault}
use Rattle.audit_check.specs.Reading.{ReadsAsAudit}
use Rattle.audit_check.specs.Statements.{AuditStatement}
use Rattle.audit_check.specs.Texts.{audit_words}
use Rattle.xray_program.specs.Taking.{Form, any_bytes}

-- ---- the most bytes of each kind; `trace_limit` has those of a trace

abbrev pub image_limit : ℕ
image_limit = 4194304

abbrev pub text_limit : ℕ
text_limit = 4194304

abbrev pub script_limit : ℕ
script_limit = 1048576

abbrev pub schedule_limit : ℕ
schedule_limit = 16777216

abbrev pub audit_limit : ℕ
audit_limit = 67108864

abbrev pub map_limit : ℕ
map_limit = 67108864

abbrev pub program_limit : ℕ
program_limit = 4294967296

-- ---- the kinds

-- the words of a refusal, if a fault has them
abbrev pub refused_for : Option (List ℕ) → List ℕ
refused_for words = unwrap_or words []

-- an image file, which is refused for its first fault
abbrev pub image_form : Form Program
image_form = record {
  kind = codes "image";
  limit = image_limit;
  Reads = IsAccepted;
  Refuses = λ bytes refusal. (fault : ImageFault) × image.ReadsAs bytes (Err fault) × (refusal ≡ refused_for (image_words fault));
}

-- A kind of input that a function judges. Its bytes read as the value that the function gives. They are refused for the
-- fault that it gives, in the words of that fault.
abbrev pub form_by : {X F : Type 0} → (kind : List ℕ) → (limit : ℕ) → (judge : List ℕ → Result X F) → (words : F → Option (List ℕ)) → Form X
form_by {X} {F} kind limit judge words = record {
  kind = kind;
  limit = limit;
  Reads = λ bytes value. judge bytes ≡ Ok value;
  Refuses = λ bytes refusal. (fault : F) × (judge bytes ≡ Err fault) × (refusal ≡ refused_for (words fault));
}

-- the text of `asm`, which reads as the image file that it is assembled to
abbrev pub text_form : (threshold : ℕ) (relative : Bool) → Form (List ℕ)
text_form threshold relative = form_by (codes "text") text_limit (λ bytes. assembled bytes threshold relative) asm_words

-- the script of a run, for a program and a number of threads
abbrev pub script_form : Program → ℕ → Form Plan
script_form program threads = form_by (codes "script") script_limit (plan_of program threads) script_words

-- a script with its text
pub record WholeScript : Type 0 where
  pub text : List ℕ
  pub plan : Plan

-- the script of a run whose text is needed too; it is refused as any script is
abbrev pub whole_script_form : Program → ℕ → Form WholeScript
whole_script_form program threads = record {
  kind = codes "script";
  limit = script_limit;
  Reads = λ bytes script. (script.text ≡ bytes) × (plan_of program threads bytes ≡ Ok script.plan);
  Refuses = (script_form program threads).Refuses;
}

-- the schedule of a replay, for a number of threads
abbrev pub schedule_form : ℕ → Form (List Turns)
schedule_form threads = form_by (codes "schedule") schedule_limit (schedule_of threads) schedule_words

-- a trace
abbrev pub trace_form : Form Trace
trace_form = form_by (codes "trace") trace_limit trace_of trace_words

-- a trace that is only compared with others: any bytes are read
abbrev pub unread_trace_form : Form (List ℕ)
unread_trace_form = any_bytes (codes "trace") trace_limit

-- a basic log, which reads as a trace
abbrev pub basic_form : Form Trace
basic_form = form_by (codes "trace") trace_limit basic_of basic_words

-- a sled map, which reads as the names that it gives to functions
abbrev pub map_form : Form Naming
map_form = form_by (codes "map") map_limit map_naming map_words

-- a compiled program, which reads as its sled map
abbrev pub program_form : Form MappedProgram
program_form = form_by (codes "program") program_limit program_of_elf program_words

-- a log of LLVM's runtime, which reads as the file of the trace that is made of it, with the facts that are printed
abbrev pub imported_form : Form (List ℕ × Facts)
imported_form = record {
  kind = codes "log";
  limit = trace_limit;
  Reads = λ bytes made. IsImport bytes made.0 made.1;
  Refuses = λ bytes refusal. (fault : LogFault) × (logged bytes ≡ Err fault) × (refusal ≡ refused_for (log_words fault));
}

-- bytes of which a prefix is a trace, and the length of the longest
pub record Readable : Type 0 where
  pub bytes : List ℕ
  pub len : ℕ

-- no prefix of the bytes is a trace
abbrev pub ReadsNowhere : List ℕ → Type 0
ReadsNowhere bytes = (len : ℕ) → len ≤ length bytes → ReadsAsTrace (take len bytes) → ⊥

-- A file of which some prefix is a trace. If none is, it is refused for its first fault.
abbrev pub readable_form : Form Readable
readable_form = record {
  kind = codes "trace";
  limit = trace_limit;
  Reads = λ bytes t. (t.bytes ≡ bytes) × IsReadable bytes t.len;
  Refuses = λ bytes refusal. (fault : TraceFault) × ReadsNowhere bytes × (trace_of bytes ≡ Err fault) × (refusal ≡ refused_for (trace_words fault));
}

-- the audit of a run
abbrev pub audit_form : Form AuditStatement
audit_form = record {
  kind = codes "audit";
  limit = audit_limit;
  Reads = λ bytes statement. ReadsAsAudit bytes (Ok statement);
  Refuses = λ bytes refusal. (fault : AuditFault) × ReadsAsAudit bytes (Err fault) × (refusal ≡ refused_for (audit_words fault));
}
