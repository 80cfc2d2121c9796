-- The words of refusals.
use Rattle.std.specs.Prelude.{◌++◌, ℕ, List, Option, Some, None, codes, decimal}
use Rattle.run_order.specs.declared.fault.OrderFault.{OrderFault}
use Rattle.run_order.specs.declared.fault.OrderFault.TheVariants.{Ends, Marks, Long, NoMemory}

-- the words in which a line on err says why an audit has no order; there are none if memory ran out, since nothing is
-- refused then
abbrev pub order_words : OrderFault → Option (List ℕ)
order_words (Ends thread) = Some (codes "Ends " ++ decimal thread)
order_words (Marks thread) = Some (codes "Marks " ++ decimal thread)
order_words Long = Some (codes "Long")
order_words NoMemory = None
