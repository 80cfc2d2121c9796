-- What is known of a log that was judged, and how it is printed.
use Rattle.std.specs.Prelude.{◌≡◌, ℕ, List, Option, None, Ok, ⊤}
use Rattle.command_words.specs.declared.report_options.ConvertFormat.{ConvertFormat}
use Rattle.command_words.specs.declared.report_options.ConvertFormat.TheVariants as formats
use Rattle.fdr_file.specs.declared.trace.Trace.{Trace}
use Rattle.fdr_file.specs.Prefixes.{ReadsAsTrace}
use Rattle.fdr_file.specs.ThreadEvents.{thread_events}
use Rattle.fdr_file.specs.Traces.{trace_of}
use Rattle.map_names.specs.Naming.{Naming}
use Rattle.trace_forms.specs.BasicLogs.{log_of_bytes, wide_cpu}
use Rattle.trace_forms.specs.FaultWords.{basic_words}
use Rattle.trace_forms.specs.TraceEvents.{events_of_bytes}
use Rattle.trace_words.specs.TraceWords.{trace_words}
use Rattle.xray_program.specs.declared.log.Log.{Log}
use Rattle.xray_program.specs.declared.log.Log.TheVariants as logs
use Rattle.xray_program.specs.declared.log.LogFault.{LogFault}
use Rattle.xray_program.specs.declared.log.LogFault.TheVariants as faults
use Rattle.yaml_convert.specs.Yaml.{yaml_of_bytes}

-- bytes of a trace; or a trace whose CPUs fit the byte that a basic log has for them
abbrev pub LogMeans : Log → Trace → Type 0
LogMeans (logs.Fdr bytes) trace = trace_of bytes.items ≡ Ok trace
LogMeans (logs.Basic read) trace = (read ≡ trace) × (wide_cpu (thread_events read.blocks) ≡ None)

-- the words for why bytes aren't a log
abbrev pub log_words : LogFault → Option (List ℕ)
log_words (faults.Fdr fault) = trace_words fault
log_words (faults.Basic fault) = basic_words fault

-- the text of bytes in a form, and when they have one
abbrev pub bytes_text : ConvertFormat → Naming → List ℕ → List ℕ
bytes_text formats.Yaml names bytes = yaml_of_bytes names bytes
bytes_text formats.TraceEvents names bytes = events_of_bytes names bytes
bytes_text formats.Basic names bytes = log_of_bytes bytes

abbrev pub BytesFit : ConvertFormat → List ℕ → Type 0
BytesFit formats.Yaml bytes = ReadsAsTrace bytes
BytesFit formats.TraceEvents bytes = ReadsAsTrace bytes
BytesFit formats.Basic bytes = (trace : Trace) × (trace_of bytes ≡ Ok trace) × (wide_cpu (thread_events trace.blocks) ≡ None)

-- when a trace has a text in a form
abbrev pub TraceFits : ConvertFormat → Trace → Type 0
TraceFits formats.Yaml trace = ⊤
TraceFits formats.TraceEvents trace = ⊤
TraceFits formats.Basic trace = wide_cpu (thread_events trace.blocks) ≡ None
