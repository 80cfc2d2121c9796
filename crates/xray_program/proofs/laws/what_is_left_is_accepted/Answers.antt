use Rattle.std.proofs.Common.{arith}
use Rattle.xray_program.proofs.CheckYes.{yes_of_run, yes_of_sim}
use Rattle.xray_program.proofs.RunSetups.{options_make_a_setup}
use Rattle.xray_program.proofs.laws.what_is_left_is_accepted.Goals as goal

pub returns-clause-sim : goal.returns-clause-sim
returns-clause-sim c = λ held after i s c' t a options trace audit text ranges comes image script trace_held audit_held.
    yes_of_sim
    (record {
      short = λ bytes program setup runs accepted is run lost.
          let short = c.a_trace_is_short.ensures bytes program setup runs accepted is run lost in omega (arith, short, is.room);
      read = c.a_lawful_run_is_accepted.ensures.read;
      yes = c.a_lawful_run_is_accepted.ensures.yes;
    })
    held after i s t a options (options_make_a_setup options ranges) trace audit text image script trace_held audit_held
    c.marks_of_a_replay_follow.ensures c' comes

pub returns-clause-run : goal.returns-clause-run
returns-clause-run c = λ held after i s t a options trace audit text ranges comes image script trace_held audit_held.
    yes_of_run
    (record {
      short = λ bytes program setup runs accepted is run lost.
          let short = c.a_trace_is_short.ensures bytes program setup runs accepted is run lost in omega (arith, short, is.room);
      read = c.a_lawful_run_is_accepted.ensures.read;
      yes = c.a_lawful_run_is_accepted.ensures.yes;
    })
    held after i s t a options (options_make_a_setup options ranges) trace audit text image script trace_held audit_held comes
