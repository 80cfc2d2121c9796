-- `convert`: the text of a log, and when it has one.
use Rattle.std.proofs.Common.{◌≡◌, ℕ, List, Option, Some, None, Ok, Vec, option_map, ap, refl, subst}
use Rattle.std.specs.declared.alloc.Global.{Global}
use Rattle.command_words.specs.declared.report_options.ConvertFormat.{ConvertFormat}
use Rattle.command_words.specs.declared.report_options.ConvertFormat.TheVariants.{Yaml, TraceEvents, Basic}
use Rattle.fdr_file.specs.declared.trace.Trace.{Trace}
use Rattle.fdr_file.specs.ThreadEvents.{thread_events}
use Rattle.fdr_file.specs.Traces.{trace_of}
use Rattle.map_names.specs.Naming.{Naming}
use Rattle.trace_forms.specs.BasicLogs.{log_read, wide_cpu}
use Rattle.trace_forms.specs.TraceEvents.{events_read}
use Rattle.xray_program.specs.Convert.{converted, cpu_words, no_text_for}
use Rattle.xray_program.specs.declared.log.Log.{Log}
use Rattle.xray_program.specs.declared.log.Log.TheVariants as logs
use Rattle.xray_program.specs.private.Logs.{BytesFit, LogMeans, TraceFits, bytes_text}
use Rattle.yaml_convert.specs.Yaml.{yaml_read}

-- the text of bytes is that of the trace that they read as
pub bytes_say : (format : ConvertFormat) (names : Naming) (bytes : List ℕ) (t : Trace) → trace_of bytes ≡ Ok t
    → bytes_text format names bytes ≡ converted format names t
bytes_say Yaml names bytes t read = ap (yaml_read names) read
bytes_say TraceEvents names bytes t read = ap (events_read names) read
bytes_say Basic names bytes t read = ap log_read read

no_wide : (number : Option ℕ) → option_map cpu_words number ≡ None → number ≡ None
no_wide None none = refl
no_wide (Some number) none = absurd cc

-- they have a text if nothing refuses the trace
pub bytes_fit : (format : ConvertFormat) (bytes : List ℕ) (t : Trace) → trace_of bytes ≡ Ok t → no_text_for format t ≡ None → BytesFit format bytes
bytes_fit Yaml bytes t read none = (t, read)
bytes_fit TraceEvents bytes t read none = (t, read)
bytes_fit Basic bytes t read none = (t, read, no_wide (wide_cpu (thread_events t.blocks)) none)

pub trace_fits : (format : ConvertFormat) (t : Trace) → no_text_for format t ≡ None → TraceFits format t
trace_fits Yaml t none = tt
trace_fits TraceEvents t none = tt
trace_fits Basic t none = no_wide (wide_cpu (thread_events t.blocks)) none

-- ---- what is known of a log

pub bytes_kept : (log : Log) (bytes : Vec ℕ Global) (t : Trace) → log ≡ logs.Fdr bytes → LogMeans log t → trace_of bytes.items ≡ Ok t
bytes_kept log bytes t is means = subst (λ (l : Log). LogMeans l t) is means

pub trace_kept : (log : Log) (read t : Trace) → log ≡ logs.Basic read → LogMeans log t → read ≡ t
trace_kept log read t is means = (subst (λ (l : Log). LogMeans l t) is means).0
