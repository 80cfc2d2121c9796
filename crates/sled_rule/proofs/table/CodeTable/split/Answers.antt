use Rattle.std.proofs.Common.{◌≡◌, ◌<◌, sym, ap, subst, rules, arith}
use Rattle.patch_script.specs.Plans.{Plan}
use Rattle.sled_rule.specs.Plans.{start_in}
use Rattle.sled_rule.specs.Seats.{patch_view}
use Rattle.sled_rule.proofs.SeatChanges.{gives}
use Rattle.sled_rule.proofs.LoadsOf.{next_follows}
use Rattle.sled_rule.proofs.table.CodeTable.split.Goals as goal

pub overflow_add-seat : goal.overflow_add-seat
overflow_add-seat c =
    let all = c.args.self.now.all_threads in let few = c.args.self.now.few_threads in let at = c.args.seat.now.at.1 in let less = c.requires.few in omega arith

pub split_seat-next-requires : goal.split_seat-next-requires
split_seat-next-requires c =
    let table = c.args.self.now in let sized = table.sized in let p = patch_view c.args.seat.now in (
      search rules,
      omega arith,
      gives _ _ _ p c.args.seat.now.is.0 (subst (λ (z : Plan). p.place ≡ start_in z) (sym table.key) c.requires.starts)
          (subst (λ (z : Plan). p.given < z.threads) (sym table.key) c.requires.few),
    )

pub invariant_of-result-clause-follows : goal.invariant_of-result-clause-follows
invariant_of-result-clause-follows c = next_follows (patch_view c.args.seat.now) _ (ap (λ m. m.0) c.split_seat-next.ensures.4)
