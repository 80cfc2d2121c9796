use Rattle.std.proofs.Common.{sym}
use Rattle.trace_forms.proofs.RunLaws.{run_begins, run_goes_on}
use Rattle.trace_forms.proofs.runs.RunBlocks.turn_to.Goals as goal

pub returns-then-goes_on : goal.returns-then-goes_on
returns-then-goes_on c = λ events held. record {
  next = λ event.
      let r = c.args.self.now in
      run_goes_on r.blocks.items r.thread r.pid r.events.items c.args.thread c.args.pid event events (sym c.if-goes_on.ensures) held.runs held.begun;
}

pub returns : goal.returns
returns c = λ events held. record {
  next = λ event.
      let r = c.args.self.now in
      let ended = c.end_run.new.self in
      run_begins r.blocks.items ended.blocks.items r.thread r.pid r.events.items ended.events.items c.args.thread c.args.pid event events (sym c.if-goes_on.ensures) held.runs held.begun
      c.in_ok-end_run.ensures.0 c.in_ok-end_run.ensures.1;
}
