use Rattle.std.proofs.Common.{List, subst, sym, ap, ◌∙◌}
use Rattle.std.proofs.lemmas.Result.{on_ok_weaker}
use Rattle.fdr_file.specs.declared.trace.Block.{Block}
use Rattle.fdr_file.specs.Scanning.{last_longer}
use Rattle.fdr_file.proofs.RecordSteps.{longer_last}
use Rattle.fdr_file.proofs.scan.note.Goals as goal

pub returns-in-Some-clause-took : goal.returns-in-Some-clause-took
returns-in-Some-clause-took g c =
    on_ok_weaker c.event.result (λ told blocks had has.
    let is = ap (last_longer c.in-Some.event) has.is ∙ longer_last c.in-Some.event has.front has.last in
    let before = subst (λ (x : List Block). g.K.Taker.took c.args.taker.now x) has.is had in
    rw c.in-Some.is (subst (λ (x : List Block). g.K.Taker.took c.event.new.self x) (sym is) (told has.front has.last before)))
    c.event.ensures.took
