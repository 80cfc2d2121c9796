-- The forms of a log: a trace, or a basic log.
use Rattle.std.proofs.Common.{◌≡◌, codes, refl}
use Rattle.command_words.specs.Limits.{trace_limit}
use Rattle.command_words.specs.declared.report_options.InputForm.{InputForm}
use Rattle.command_words.specs.declared.report_options.InputForm.TheVariants.{Fdr, Basic}
use Rattle.fdr_file.specs.Traces.{trace_of}
use Rattle.trace_forms.specs.BasicLogs.{basic_of}
use Rattle.trace_forms.specs.FaultWords.{basic_words}
use Rattle.trace_words.specs.TraceWords.{trace_words}
use Rattle.xray_program.specs.Convert.{log_form}
use Rattle.xray_program.specs.private.Lawful.{IsKind}
use Rattle.xray_program.proofs.InputMeanings.{kind_by}

-- both have one name and one limit
pub log_kind : (input : InputForm) → (log_form input).kind ≡ codes "trace"
log_kind Fdr = refl
log_kind Basic = refl

pub log_limit : (input : InputForm) → (log_form input).limit ≡ trace_limit
log_limit Fdr = refl
log_limit Basic = refl

pub log_is_kind : (input : InputForm) → IsKind (log_form input)
log_is_kind Fdr = kind_by (codes "trace") trace_limit trace_of trace_words
log_is_kind Basic = kind_by (codes "trace") trace_limit basic_of basic_words
