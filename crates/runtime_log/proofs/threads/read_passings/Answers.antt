use Rattle.std.proofs.Common.{◌+◌, ℕ, arith, sym, ap, inr}
use Rattle.std.proofs.lemmas.Result.{err_from_is_err_and}
use Rattle.runtime_log.proofs.RecordedPassings.{passings_all, passings_few, passings_held, passings_next, passings_stop}
use Rattle.runtime_log.proofs.threads.read_passings.Goals as goal

pub returns-in_err-rec-clause-refuses : goal.returns-in_err-rec-clause-refuses
returns-in_err-rec-clause-refuses c =
    let i = c.records.invariant in
    let p = err_from_is_err_and c.from_residual-in_err-rec.result c.from_residual-in_err-rec.ensures.1 in
    rw (p.1, p.2) (inr (passings_stop c.args.version c.args.bytes.now c.records.at c.records.before c.records.lost c.records.passings.items _ i.reads c.records-test.true (sym c.in_err-rec.ensures.reads)))

pub records-preserved : goal.records-preserved
records-preserved c =
    let i = c.records.invariant in
    record {
      within = c.in_ok-rec.ensures.whole;
      few = omega (arith, i.few, c.one_lost-lost.ensures.few);
      reads = passings_next c.args.version c.args.bytes.now c.records.at c.records.before c.records.lost _ c.records.passings.items c.add_passing.new.passings.items c.in_ok-rec.rec i.reads c.records-test.true
          (sym c.in_ok-rec.ensures.reads) (ap (λ (n : ℕ). c.records.lost + n) c.one_lost-lost.ensures.is) c.in_ok-add_passing.ensures;
    }

pub returns-clause-reads : goal.returns-clause-reads
returns-clause-reads c =
    let r = c.records.invariant.reads in (
      r.records,
      passings_all c.args.version c.args.bytes.now c.records.at c.records.before c.records.lost c.records.passings.items r c.records-test.false,
      passings_held c.args.version c.args.bytes.now c.records.at c.records.before c.records.lost c.records.passings.items r c.records-test.false,
      r.lost_is,
    )

pub returns-clause-few : goal.returns-clause-few
returns-clause-few c = passings_few c.args.version c.args.bytes.now c.records.at c.records.before c.records.lost c.records.passings.items c.records.invariant.reads c.records.invariant.within
