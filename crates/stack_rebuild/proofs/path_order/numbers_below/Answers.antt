use Rattle.std.proofs.Common.{◌≡◌, ◌+◌, ◌++◌, ◌∙◌, ℕ, suc, List, [], ◌∷◌, ap, sym, arith}
use Rattle.std.specs.List.{range_with_len}
use Rattle.stack_rebuild.proofs.Orders.{range_more}
use Rattle.stack_rebuild.proofs.path_order.numbers_below.Goals as goal

pub listing-preserved : goal.listing-preserved
listing-preserved c =
    let next : c.listing.number + 1 ≡ suc c.listing.number = omega arith in
    c.in_ok-push.ensures.items
    ∙ (ap (λ (ks : List ℕ). ks ++ c.listing.number ∷ []) c.listing.invariant
    ∙ (sym (range_more 0 c.listing.number c.listing.number (omega arith)) ∙ ap (range_with_len 0) (sym next)))
