use Rattle.std.proofs.Common.{◌≡◌, ap}
use Rattle.command_words.specs.declared.run_options.Bounds.{Bounds}
use Rattle.command_words.specs.declared.run_options.RunOptions.{RunOptions}
use Rattle.xray_program.specs.Setups.{setup_of}
use Rattle.xray_program.proofs.OtherOptions.{GoAlike, run_alike, sim_alike}
use Rattle.xray_program.proofs.laws.stamps_and_buffers_change_no_text.Goals as goal

go_alike : (options other : RunOptions) → options.bounds ≡ other.bounds → GoAlike (setup_of options) (setup_of other)
go_alike options other same = record {
  threads = ap (λ (b : Bounds). b.threads) same;
  fuel = ap (λ (b : Bounds). b.fuel) same;
  passings = ap (λ (b : Bounds). b.passings) same;
}

pub returns-clause-sim : goal.returns-clause-sim
returns-clause-sim c = λ held i s c' t a u b options other outputs text same comes.
    sim_alike c.what_runs_leave.ensures c.some_run.ensures.still c.stamps_change_no_run.ensures c.buffers_change_no_replay.ensures.is c.one_replay.ensures
    held i s c' t a u b (setup_of options) (setup_of other) (go_alike options other same) outputs text comes

pub returns-clause-run : goal.returns-clause-run
returns-clause-run c = λ held i s t a u b options other outputs text same comes.
    run_alike c.what_runs_leave.ensures c.some_end.ensures c.stamps_change_no_run.ensures c.some_losses_are_of_a_queue.ensures
    held i s t a u b (setup_of options) (setup_of other) (go_alike options other same) outputs text comes
