use Rattle.std.proofs.Common.{arith}
use Rattle.std.proofs.lemmas.List.Sorted.{IsPermutation-swap}
use Rattle.stack_rebuild.proofs.path_order.bring.Goals as goal

pub returns-then-to-len : goal.returns-then-to-len
returns-then-to-len c = IsPermutation-swap c.args.order.now.items c.swap.new.self.items _ _ (omega arith) (omega arith) c.swap.ensures.items
