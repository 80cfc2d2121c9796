use Rattle.std.proofs.Common.{ap, sym, subst, ◌∙◌}
use Rattle.machine_step.specs.Traced.{IsLoadable, Traced}
use Rattle.sled_rule.specs.Seats.{work_view}
use Rattle.thread_run.specs.Workers.{seat_of}
use Rattle.thread_run.proofs.WorkerLoads.{counts_all, leaves_one_out, worker_again}
use Rattle.thread_run.proofs.worker.Worker.go_on.Goals as goal

pub tell-requires-clause-one : goal.tell-requires-clause-one
tell-requires-clause-one g c =
    let worker = c.args.self.now in
    leaves_one_out (work_view (seat_of worker)).count worker.cpu.marks c.want-next.result worker.cpu.want c.want-next.ensures.want c.in-Gate.is
    c.requires.following

pub returns-in-Load-clause-same : goal.returns-in-Load-clause-same
returns-in-Load-clause-same g c = worker_again g.R.Recorder.follows g.met.R.Recorder.follows_itself c.args.self.now

pub returns-in-Load-clause-going : goal.returns-in-Load-clause-going
returns-in-Load-clause-going g c =
    let worker = c.args.self.now in
    record {
      at = c.requires.at;
      count = counts_all (work_view (seat_of worker)).count worker.cpu.marks c.want-next.result worker.cpu.want _ c.want-next.ensures.want c.in-Load.is
          c.requires.following;
    }

pub returns-in-Gate-clause-want : goal.returns-in-Gate-clause-want
returns-in-Gate-clause-want g c = c.want-next.ensures.want ∙ ap (λ (t : Traced). t.want) (sym c.tell.ensures.cpu)

pub returns-in-Gate-clause-there : goal.returns-in-Gate-clause-there
returns-in-Gate-clause-there g c = subst (λ (t : Traced). IsLoadable t t.want) (sym c.tell.ensures.cpu) c.want-next.ensures.word
