use Rattle.std.proofs.Common.{◌≡◌, ◌≤◌, sym, ap, ◌∙◌, subst, rules, arith}
use Rattle.patch_script.specs.Plans.{Plan}
use Rattle.sled_rule.specs.Slots.{progress_slot}
use Rattle.sled_rule.specs.Seats.{work_view}
use Rattle.sled_rule.proofs.ThreadSteps.{counts}
use Rattle.sled_rule.proofs.table.CodeTable.count_to.Goals as goal

pub store-requires : goal.store-requires
store-requires c =
    let table = c.args.self.now in let seat = c.args.seat.now in
    let sized = table.sized in let counted = table.counted in let one = seat.one in
    let last : seat.thread ≤ table.script.threads = subst (λ (z : Plan). seat.thread ≤ z.threads) c.requires.own.1 one.1 in
    let word : c.progress_slot-slot.result ≡ progress_slot table.script (work_view seat).thread =
    c.progress_slot-slot.ensures table.script counted ∙ ap (progress_slot table.script) seat.at.0 in (
      search rules,
      omega arith,
      counts _ _ _ _ _ _ (work_view seat) seat.is.0 (word ∙ ap (λ (z : Plan). progress_slot z (work_view seat).thread) (sym table.key)) c.requires.more,
    )
