use Rattle.std.proofs.Common.{take, get_or, sym, subst, arith}
use Rattle.std.specs.Prelude.{All}
use Rattle.std.proofs.lemmas.List.{take_more}
use Rattle.std.proofs.lemmas.List.Elements.{All-push}
use Rattle.runtime_log.specs.declared.basic.Passing.{Passing}
use Rattle.runtime_log.specs.private.Passings.{IsOfRun}
use Rattle.runtime_log.proofs.threads.run_len.Goals as goal

pub run-preserved : goal.run-preserved
run-preserved c =
    let i = c.run.invariant in
    let first = c.args.first.now in
    let passings = c.args.passings.now in
    let none : Passing = record { at = 0; thread = 0; pid = 0 } in
    let next = get_or passings c.run.count none in
    let own : IsOfRun first next = (c.if-next-first.false, c.if-next-first-2.false) in
    record {
      within = omega (arith, c.run-test.true);
      same = subst (All (IsOfRun first)) (sym (take_more passings c.run.count none c.run-test.true)) (All-push (IsOfRun first) (take c.run.count passings) next i.same own);
    }
