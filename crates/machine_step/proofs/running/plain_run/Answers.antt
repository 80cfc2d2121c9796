use Rattle.std.proofs.Common.{refl, subst, ◌∙◌}
use Rattle.machine_step.specs.declared.machine.Machine.{Machine}
use Rattle.machine_step.specs.private.Machine.{state_at, RunsFrom}
use Rattle.machine_step.proofs.running.plain_run.Goals as goal

pub returns-clause-run : goal.returns-clause-run
returns-clause-run c =
    let program = c.args.steps.now in
    let left = c.run-end.new.machine in
    let run = subst (λ (m : Machine). RunsFrom program c.args.limits c.args.thread (state_at program.entry m) c.run-end.result left)
    c.in_ok-machine.ensures (c.run-end.ensures c.args.thread) in
    record {
      passed = run.passed;
      last = state_at run.address left;
      run = (run.steps, run.runs);
      thread = refl;
      registers = c.copy_from_slice.ensures.items ∙ c.all.ensures.values;
      zero_flag = refl;
      output = c.into_bytes.ensures;
      instructions = refl;
      passings = refl;
    }
