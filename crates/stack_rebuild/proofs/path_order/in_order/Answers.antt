use Rattle.std.proofs.lemmas.List.Sorted.{IsPermutation-trans}
use Rattle.stack_rebuild.proofs.path_order.in_order.Goals as goal

pub walking-preserved : goal.walking-preserved
walking-preserved c = IsPermutation-trans _ _ _ c.walking.invariant c.bring.ensures
