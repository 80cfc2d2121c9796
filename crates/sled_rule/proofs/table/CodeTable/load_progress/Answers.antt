use Rattle.std.proofs.Common.{◌≡◌, ◌≤◌, sym, ap, ◌∙◌, subst, rules, arith}
use Rattle.patch_script.specs.declared.micro.Micro.TheVariants.{Await}
use Rattle.patch_script.specs.Plans.{Plan}
use Rattle.std.specs.Prelude.{slice_index}
use Rattle.sled_rule.specs.declared.views.View.{View}
use Rattle.sled_rule.specs.Plans.{micro_in}
use Rattle.sled_rule.specs.Slots.{progress_slot}
use Rattle.sled_rule.specs.Steps.{patch_of}
use Rattle.sled_rule.proofs.Laws.{code_next}
use Rattle.sled_rule.proofs.PatcherSteps.{looks}
use Rattle.sled_rule.proofs.table.CodeTable.load_progress.Goals as goal

pub load-requires : goal.load-requires
load-requires c =
    let table = c.args.self.now in let p = patch_of c.args.seat.now.me.0 in
    let sized = table.sized in let counted = table.counted in let last = c.requires.thread in
    let word : c.progress_slot-slot.result ≡ progress_slot table.script c.args.thread = c.progress_slot-slot.ensures table.script counted in (
      search rules,
      omega arith,
      looks _ (code_next c.stores_give_the_code.ensures.word _) _ _ _ _ c.args.thread c.args.count p c.requires.is
          (subst (λ (z : Plan). micro_in z p.place ≡ Await c.args.thread c.args.count) (sym table.key) c.requires.step)
          (subst (λ (z : Plan). c.args.thread ≤ z.threads) (sym table.key) last)
          (word ∙ ap (λ (z : Plan). progress_slot z c.args.thread) (sym table.key)),
    )

pub returns-clause-grows : goal.returns-clause-grows
returns-clause-grows c =
    let p = patch_of c.args.seat.now.me.0 in
    (c.load.ensures.2.0 c.args.thread c.args.count
    (subst (λ (z : Plan). micro_in z p.place ≡ Await c.args.thread c.args.count) (sym c.requires.script) c.requires.step)).0

pub returns-clause-view : goal.returns-clause-view
returns-clause-view c =
    let p = patch_of c.args.seat.now.me.0 in
    (c.load.ensures.2.0 c.args.thread c.args.count
    (subst (λ (z : Plan). micro_in z p.place ≡ Await c.args.thread c.args.count) (sym c.requires.script) c.requires.step)).1

pub returns-clause-known : goal.returns-clause-known
returns-clause-known c =
    let p = patch_of c.args.seat.now.me.0 in
    let its = c.load.ensures.2.0 c.args.thread c.args.count
    (subst (λ (z : Plan). micro_in z p.place ≡ Await c.args.thread c.args.count) (sym c.requires.script) c.requires.step) in
    subst (λ (z : View). slice_index (patch_of z).known c.args.thread ≡ c.load.result) (sym its.1) its.2
