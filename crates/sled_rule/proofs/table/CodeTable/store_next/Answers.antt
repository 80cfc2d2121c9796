use Rattle.std.proofs.Common.{ap, sym, ◌∙◌}
use Rattle.sled_rule.specs.declared.views.PatchView.{PatchView}
use Rattle.sled_rule.specs.Plans.{micro_in}
use Rattle.sled_rule.specs.Seats.{script_of}
use Rattle.sled_rule.specs.Views.{advanced}
use Rattle.sled_rule.proofs.Laws.{is_store}
use Rattle.sled_rule.proofs.table.CodeTable.store_next.Goals as goal

pub make_store-requires-clause-next : goal.make_store-requires-clause-next
make_store-requires-clause-next c =
    ap (λ (p : PatchView). micro_in (script_of c.args.self.now) p.place) c.next_micro.ensures.same ∙ c.in-Store.ensures.micro

pub returns-clause-view : goal.returns-clause-view
returns-clause-view c = c.make_store.ensures.view ∙ ap advanced c.next_micro.ensures.same

pub unreachable-requires : goal.unreachable-requires
unreachable-requires c =
    is_store c.next_micro.result c.requires.store.0 c.requires.store.1 (sym c.next_micro.ensures.micro ∙ c.requires.store.2) c.in-Await.is
