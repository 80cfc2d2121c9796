use Rattle.std.proofs.Common.{◌++◌, ◌∙◌, [], ◌∷◌, reverse, subst}
use Rattle.fdr_file.specs.ThreadEvents.{ThreadEvent}
use Rattle.call_rows.specs.private.FirstRows.{Collects}
use Rattle.call_rows.specs.private.Folding.{Follows}
use Rattle.call_rows.proofs.CallLines.{given_more, turned_more}
use Rattle.call_rows.proofs.kept.collect.Goals as goal

pub calls-preserved : goal.calls-preserved
calls-preserved c =
    let inv = c.calls.invariant in
    let given = inv.0 in
    let e : ThreadEvent = record { thread = c.in-Some.thread; pid = c.in-Some.pid; event = c.in-Some.event } in (
      given ++ e ∷ [],
      given_more _ given _ _ e inv.1 c.in-Some.ensures.next,
      subst (Follows c.next-in-Some.new.self) (turned_more given e) (c.in_ok-row.ensures.follows (reverse given) inv.2),
      λ start. subst (Collects c.add_wanted.new.self c.args.wanted.now) (turned_more given e)
          (c.in_ok-add_wanted.ensures.added (reverse given) e (inv.3 start) (c.in_ok-row.ensures.row (reverse given) inv.2) (c.in_ok-row.ensures.end (reverse given) inv.2)),
      c.add_wanted.ensures.order ∙ inv.4,
    )
