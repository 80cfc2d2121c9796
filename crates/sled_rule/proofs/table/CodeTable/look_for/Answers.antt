use Rattle.std.proofs.Common.{arith}
use Rattle.sled_rule.specs.Seats.{patch_view, script_of}
use Rattle.sled_rule.proofs.Laws.{await_within}
use Rattle.sled_rule.proofs.PatcherBounds.{looked_within}
use Rattle.sled_rule.proofs.table.CodeTable.look_for.Goals as goal

pub overflow_add-seat : goal.overflow_add-seat
overflow_add-seat c =
    let few = c.args.self.now.few_steps in let at = c.args.seat.now.at.0 in
    let within = await_within (script_of c.args.self.now) (patch_view c.args.seat.now).place c.args.thread c.args.count c.requires.next in
    omega arith

pub invariant_of-seat-else-value-from-clause-within : goal.invariant_of-seat-else-value-from-clause-within
invariant_of-seat-else-value-from-clause-within c =
    looked_within (script_of c.args.self.now) (patch_view c.args.seat.now) c.args.thread c.args.count c.load_progress-value.result _
    c.load_progress-value.ensures.view c.requires.own.1 c.requires.next
