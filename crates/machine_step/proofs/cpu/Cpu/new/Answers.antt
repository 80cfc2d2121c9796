use Rattle.std.proofs.Common.{[], ap, subst, arith}
use Rattle.handler_word.specs.MarkList.{MarkList}
use Rattle.machine_step.specs.declared.cpu.Cpu.TheInside.{Inside}
use Rattle.machine_step.specs.declared.machine.Machine.{Machine}
use Rattle.machine_step.specs.private.Standing.{RunsBy}
use Rattle.machine_step.proofs.ThreadAtStart.{Begun, fresh_begun, loads_begun, sound_begun}
use Rattle.machine_step.proofs.cpu.Cpu.new.Goals as goal

-- the fields of the new thread
abbrev made : goal.After-run_to_sled-stand → Inside
made c = record {
  steps = c.args.steps;
  limits = c.args.limits;
  thread = c.args.thread;
  threads = c.args.threads;
  hold = c.args.hold;
  machine = c.run_to_sled-stand.new.machine;
  marks = c.in_ok-marks.marks;
  stand = c.run_to_sled-stand.result;
}

begun : (c : goal.After-run_to_sled-stand) → Begun (made c)
begun c =
    record {
      setup = record {
        bytes = c.start.ensures.accepted.0;
        accepted = c.start.ensures.accepted.1;
        limits_are = c.requires.limits;
        some_thread = omega (arith, c.requires.thread.0);
        no_more = c.requires.thread.1;
        few = c.requires.threads;
      };
      within = c.run_to_sled-stand.ensures.within;
      room = ap (λ (ms : MarkList). ms.room) c.in_ok-marks.ensures;
      unmarked = ap (λ (ms : MarkList). ms.items) c.in_ok-marks.ensures;
      runs = subst (λ (m : Machine). RunsBy c.args.steps.now c.args.limits c.args.thread c.args.steps.now.entry m []
          c.run_to_sled-stand.result c.run_to_sled-stand.new.machine) c.in_ok-machine.ensures
          (c.run_to_sled-stand.ensures.runs c.args.steps.now.entry c.start.ensures.place c.args.thread);
    }

pub invariant_of-result : goal.invariant_of-result
invariant_of-result c = sound_begun (made c) (begun c)

pub returns-clause-fresh : goal.returns-clause-fresh
returns-clause-fresh c = fresh_begun (made c) (begun c)

pub returns-clause-loads : goal.returns-clause-loads
returns-clause-loads c = loads_begun (made c) (begun c)
