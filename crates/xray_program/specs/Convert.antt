-- `convert`: a trace or a basic log in another form.
use Rattle.std.specs.Prelude.{◌++◌, ℕ, List, Option, Some, None, codes, decimal, if◌then◌else◌, length, nat_lt, option_map}
use Rattle.command_words.specs.declared.report_options.ConvertFormat.{ConvertFormat}
use Rattle.command_words.specs.declared.report_options.ConvertFormat.TheVariants as formats
use Rattle.command_words.specs.declared.report_options.InputForm.{InputForm}
use Rattle.command_words.specs.declared.report_options.InputForm.TheVariants as inputs
use Rattle.fdr_file.specs.declared.trace.Trace.{Trace}
use Rattle.fdr_file.specs.ThreadEvents.{ThreadEvent, thread_events}
use Rattle.trace_forms.specs.BasicLogs.{basic_bytes, wide_cpu}
use Rattle.trace_forms.specs.TraceEvents.{most_events, trace_events_text}
use Rattle.map_names.specs.Naming.{Naming}
use Rattle.xray_program.specs.Inputs.{basic_form, trace_form}
use Rattle.xray_program.specs.Taking.{Form}
use Rattle.yaml_convert.specs.Yaml.{yaml_text}

-- the kind of input, by the form that the trace has
abbrev pub log_form : InputForm → Form Trace
log_form inputs.Fdr = trace_form
log_form inputs.Basic = basic_form

-- events are too many for the text of trace events
abbrev pub too_many : List ThreadEvent → Option (List ℕ)
too_many events = if nat_lt most_events (length events) then Some (codes "Many") else None

-- this event, counted from 0, has a CPU that the record of a basic log has no room for
abbrev pub cpu_words : ℕ → List ℕ
cpu_words event = codes "Cpu " ++ decimal event

-- why a trace isn't converted to a form, if it isn't
abbrev pub no_text_for : ConvertFormat → Trace → Option (List ℕ)
no_text_for formats.Yaml t = None
no_text_for formats.TraceEvents t = too_many (thread_events t.blocks)
no_text_for formats.Basic t = option_map cpu_words (wide_cpu (thread_events t.blocks))

-- a trace in a form, with the names that are given to its functions
abbrev pub converted : ConvertFormat → Naming → Trace → List ℕ
converted formats.Yaml names t = yaml_text names t
converted formats.TraceEvents names t = trace_events_text names t
converted formats.Basic names t = basic_bytes t
