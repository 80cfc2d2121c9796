use Rattle.command_words.specs.Views.{source_view}
use Rattle.fdr_file.specs.declared.trace.Trace.{Trace}
use Rattle.xray_program.specs.Commands.{takes_report}
use Rattle.xray_program.specs.Inputs.{trace_form}
use Rattle.xray_program.specs.private.Meant.{StacksMean}
use Rattle.xray_program.specs.private.ReportTakes.{AreOfReport}
use Rattle.xray_program.proofs.TakenInputs.{taken_known}
use Rattle.xray_program.proofs.stack.StackWork.take.Goals as goal

pub returns-clause-fits : goal.returns-clause-fits
returns-clause-fits g c =
    let s = c.args.self.now in
    taken_known (takes_report trace_form s.trace.now (source_view s.names)) (AreOfReport StacksMean) (λ inputs. (trace : Trace) × StacksMean inputs.log trace) _ _ _
    c.take_report.result (λ inputs y says. (y.0, says.0)) c.take_report.ensures
