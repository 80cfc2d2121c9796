use Rattle.std.proofs.Common.{◌++◌, ◌∙◌, List, [], ◌∷◌, length, get_or, ap, arith, length-append}
use Rattle.account_report.specs.private.Tallies.{Tallied, no_tally}
use Rattle.account_report.proofs.LowIds.{longer_same}
use Rattle.account_report.proofs.tallies.reach.Goals as goal

pub reaching-preserved : goal.reaching-preserved
reaching-preserved c = record {
  same = λ func.
      ap (λ (ts : List Tallied). get_or ts func no_tally) c.in_ok-push.ensures.items
      ∙ (ap (λ (t : Tallied). get_or (c.reaching.first.items ++ t ∷ []) func no_tally) c.new.ensures
      ∙ (longer_same c.reaching.first.items func ∙ c.reaching.invariant.same func));
  few = λ few. omega (arith, ap length c.in_ok-push.ensures.items, length-append {A = Tallied});
}
