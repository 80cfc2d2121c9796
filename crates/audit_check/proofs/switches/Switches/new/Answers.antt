use Rattle.audit_check.proofs.SwitchesAtStart.{starts}
use Rattle.audit_check.proofs.switches.Switches.new.Goals as goal

pub returns-clause-switches : goal.returns-clause-switches
returns-clause-switches c = λ script.
    starts c.args.image.now c.args.threads script _ (record {
      heads = c.in_ok-all_off.ensures.off;
      handler = c.new.ensures;
      log = c.new-2.ensures;
      arg_handler = c.new-3.ensures;
      releases = c.in_ok-all_off-2.ensures.off;
    })
