use Rattle.thread_run.proofs.EachItem.{changed, is_within, ready_at}
use Rattle.thread_run.proofs.running.do_all.Goals as goal

pub for_each_mut-requires-clause-accepts : goal.for_each_mut-requires-clause-accepts
for_each_mut-requires-clause-accepts g c κs outlives i p within is = ready_at g.W.Work.ready c.args.works.now c.requires i p.now within is

pub returns : goal.returns
returns g c = record {
  works = record {
    count = c.for_each_mut.auto.s;
    each = λ i old new here there.
        let change = (c.for_each_mut.ensures i old (is_within c.args.works.now i old here)).1 in
        changed g.W.Work.worked c.args.works.now c.for_each_mut.new.s i old new change.argument.now change.after_call.now here there
        change.argument_is change.left change.call;
  };
}
