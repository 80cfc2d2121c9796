use Rattle.std.proofs.Common.{◌≡◌, sym, subst, rules, arith}
use Rattle.patch_script.specs.declared.micro.Micro.TheVariants.{Store}
use Rattle.patch_script.specs.Plans.{Plan}
use Rattle.sled_rule.specs.Plans.{IsCodeIn, micro_in}
use Rattle.sled_rule.specs.Seats.{patch_view}
use Rattle.sled_rule.proofs.Laws.{code_next, store_within}
use Rattle.sled_rule.proofs.SlotsApart.{slot_within}
use Rattle.sled_rule.proofs.PatcherSteps.{patches}
use Rattle.sled_rule.proofs.PatcherBounds.{advanced_within}
use Rattle.sled_rule.proofs.table.CodeTable.make_store.Goals as goal

pub store-requires : goal.store-requires
store-requires c =
    let table = c.args.self.now in let seat = c.args.seat.now in
    let sized = table.sized in let word = c.args.word in let value = c.args.value in
    let within = slot_within table.script word c.requires.within in let slot = c.code_slot.ensures table.script in (
      search rules,
      omega arith,
      patches _ (code_next c.stores_give_the_code.ensures.word _) _ _ _ _ word _ (patch_view seat) seat.is.0
          (subst (λ (z : Plan). micro_in z (patch_view seat).place ≡ Store word value) (sym table.key) c.requires.next)
          (subst (λ (z : Plan). IsCodeIn z word) (sym table.key) c.requires.within) (c.code_slot.ensures _),
    )

pub overflow_add-seat : goal.overflow_add-seat
overflow_add-seat c =
    let table = c.args.self.now in let seat = c.args.seat.now in
    let few = table.few_steps in let at = seat.at.0 in
    let within = store_within table.script (patch_view seat).place c.args.word c.args.value c.requires.next in
    omega arith

pub invariant_of-seat-clause-within : goal.invariant_of-seat-clause-within
invariant_of-seat-clause-within c =
    advanced_within _ (patch_view c.args.seat.now) c.args.word c.args.value _ c.store.ensures.2.0 c.requires.own.1 c.requires.next
