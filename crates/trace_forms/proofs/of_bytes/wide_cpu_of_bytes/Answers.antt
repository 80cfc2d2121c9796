use Rattle.std.proofs.Common.{◌∙◌, ◌<◌, ◌^◌, List, ap, arith, length, rules, subst, sym}
use Rattle.fdr_file.specs.ThreadEvents.{ThreadEvent}
use Rattle.trace_forms.specs.BasicLogs.{wide_cpu}
use Rattle.fdr_file.proofs.FewEvents.{few_events}
use Rattle.trace_forms.proofs.of_bytes.wide_cpu_of_bytes.Goals as goal

pub find_wide-requires : goal.find_wide-requires
find_wide-requires c =
    let bytes = c.args.bytes.now in
    let trace = c.requires.0 in
    let short : length bytes < 2 ^ 64 = search rules in
    let few = few_events bytes trace c.requires.1 in
    subst (λ (es : List ThreadEvent). length es < 2 ^ 64) (sym (c.new.ensures.events trace c.requires.1)) (omega (arith, few, short))

pub returns : goal.returns
returns c = λ trace read. c.find_wide.ensures ∙ ap wide_cpu (c.new.ensures.events trace read)
