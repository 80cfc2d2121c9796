use Rattle.std.proofs.Common.{sym, subst, rules, arith}
use Rattle.patch_script.specs.Plans.{Plan}
use Rattle.sled_rule.specs.Plans.{IsCodeIn}
use Rattle.sled_rule.specs.Seats.{work_view}
use Rattle.sled_rule.specs.Steps.{work_of, IsFetched}
use Rattle.sled_rule.proofs.Laws.{bound_reached}
use Rattle.sled_rule.proofs.LoadsOf.{fetched_follows}
use Rattle.sled_rule.proofs.SlotsApart.{slot_within}
use Rattle.sled_rule.proofs.ThreadSteps.{fetches}
use Rattle.sled_rule.proofs.table.CodeTable.fetch.Goals as goal

pub load-requires : goal.load-requires
load-requires c =
    let table = c.args.self.now in let sized = table.sized in let word = c.requires.word in
    let slot = c.code_slot.ensures table.script in let within = slot_within table.script c.args.word word in (
      search rules,
      omega arith,
      fetches _ (bound_reached c.awaits_bound_passings.ensures.reached _) _ _ _ _ c.args.word (work_view c.args.seat.now) c.args.seat.now.is.0
          (subst (λ (z : Plan). IsCodeIn z c.args.word) (sym table.key) word) (c.code_slot.ensures _),
    )

-- what the load found is in the word's slot
found : (c : goal.After-load) → IsFetched (work_view c.args.seat.now) c.args.word c.load.result (work_of c.load.new.seat.me.0)
found c =
    let script = c.requires.own.1 in
    c.load.ensures.2.1 c.args.word (subst (λ (z : Plan). IsCodeIn z c.args.word) (sym script) c.requires.word) (c.code_slot.ensures _)

pub invariant_of-seat-clause-follows : goal.invariant_of-seat-clause-follows
invariant_of-seat-clause-follows c = fetched_follows (work_view c.args.seat.now) c.args.word _ _ (found c) c.args.seat.now.follows
