use Rattle.std.proofs.Common.{◌∙◌, ◌<◌, ◌^◌, List, ap, length, subst, sym}
use Rattle.fdr_file.specs.ThreadEvents.{ThreadEvent}
use Rattle.trace_forms.specs.BasicLogs.{wide_cpu}
use Rattle.trace_forms.proofs.basic_text.wide_cpu.Goals as goal

pub find_wide-requires : goal.find_wide-requires
find_wide-requires c = subst (λ (es : List ThreadEvent). length es < 2 ^ 64) (sym c.new.ensures) c.requires

pub returns : goal.returns
returns c = c.find_wide.ensures ∙ ap wide_cpu c.new.ensures
