use Rattle.std.proofs.Common.{◌≡◌, ◌∷◌, ◌++◌, ◌∙◌, List, ap, subst, sym}
use Rattle.step_sim.specs.declared.turns.Turns.{Turns as Line}
use Rattle.audit_check.specs.declared.stop.Stop.{Stop}
use Rattle.run_order.specs.private.Ordered.{load_line}
use Rattle.run_order.specs.private.Lines.{HasJoined}
use Rattle.run_order.specs.private.Stops.{AreStops, loads_at}
use Rattle.run_order.proofs.StopLemmas.{first_line, none_added, other_line}
use Rattle.run_order.proofs.merging.add_loads.Goals as goal

pub returns-then-stop-place-clause-added : goal.returns-then-stop-place-clause-added
returns-then-stop-place-clause-added c turns are =
    let stop : Stop = c.in-Some.stop.now in
    let later : List Stop = c.in-Some.later.now in
    let is : c.args.left.now ≡ stop ∷ later = c.in-Some.ensures.cases.0 in
    let stops : AreStops c.args.place (stop ∷ later) = subst (AreStops c.args.place) is c.requires in
    none_added turns (load_line c.args.thread (loads_at c.args.place c.args.left.now)) c.args.lines.now
    (ap (λ (ls : List Stop). load_line c.args.thread (loads_at c.args.place ls)) is
    ∙ other_line c.args.place c.args.thread stop later stops c.if-stop-place.true) are

pub returns-clause-added : goal.returns-clause-added
returns-clause-added c turns are =
    let stop : Stop = c.in-Some.stop.now in
    let later : List Stop = c.in-Some.later.now in
    let is : c.args.left.now ≡ stop ∷ later = c.in-Some.ensures.cases.0 in
    let stops : AreStops c.args.place (stop ∷ later) = subst (AreStops c.args.place) is c.requires in
    subst (λ (ls : List Line). HasJoined (turns ++ ls) c.loads.new.self)
    (sym (ap (λ (ls : List Stop). load_line c.args.thread (loads_at c.args.place ls)) is
    ∙ first_line c.args.place c.args.thread stop later stops c.if-stop-place.false))
    (c.in_ok-loads.ensures.joined turns are)
