use Rattle.std.proofs.Common.{[], refl}
use Rattle.xray_program.proofs.StartedThreads.{none_by, none_unsaid, unstarted}
use Rattle.xray_program.proofs.WorkEndings.{unsaid_on}
use Rattle.xray_program.proofs.call.perform_any_words.Goals as goal

pub returns-in_err-command-clause-ends : goal.returns-in_err-command-clause-ends
returns-in_err-command-clause-ends g c =
    unsaid_on _ _ _ c.from_residual.result _ c.from_residual.ensures.1 c.in_err-command.ensures.stops
    (record { calls = []; way = g.met.D.Desk.along_none c.args.desk.now; are = refl })

pub returns-in_err-command-clause-starts : goal.returns-in_err-command-clause-starts
returns-in_err-command-clause-starts g c =
    unstarted _ _ _ (none_by _ (none_unsaid _ _ c.in_err-command.ensures.stops) c.from_residual.result c.from_residual.ensures.1)
