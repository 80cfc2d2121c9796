use Rattle.std.proofs.Common.{◌≡◌, ◌≢◌, ◌+◌, ◌-◌, ◌<◌, ℕ, List, Some, ap, arith, length, refl, subst, sym, ◌∙◌}
use Rattle.std.specs.Prelude.{slice_get}
use Rattle.std.proofs.lemmas.Option.{slice_get_read}
use Rattle.audit_check.specs.declared.stop.Stop.{Stop}
use Rattle.audit_check.specs.Stops.{AreJoined, places_of}
use Rattle.audit_check.proofs.JoinedStops.{front_of, joined_after, joined_both, joined_first, last_loads, places_after, places_both}
use Rattle.audit_check.proofs.stop.add_stop.Goals as goal
use Rattle.audit_check.proofs.stop.add_stop.Goals.{else-count-gt0-via-then-count-gt0+else-joins, else-count-gt0-via-else-count-gt0}

pub returns-then-joins-clause-places : goal.returns-then-joins-clause-places
returns-then-joins-clause-places c =
    let old : List Stop = c.args.stops.now.items in
    let i : ℕ = c.len-count.result - 1 in
    let last : Stop = c.index-last.result.now in
    let within : i < length old = omega (arith, c.len-count.ensures, c.if-count-gt0.true) in
    let judged : slice_get old i ≡ Some c.index.result.now = slice_get_read old (length old) i c.index.result.now refl within c.index.ensures in
    let there : slice_get old i ≡ Some last = slice_get_read old (length old) i last refl within c.index-last.ensures in
    let one : c.index.result.now ≡ last = cc in
    let end = front_of old last i (omega (arith, c.len-count.ensures, c.if-count-gt0.true)) there in
    let same : last.place ≡ c.args.stop.place = ap (λ (s : Stop). s.place) (sym one) ∙ c.joins.ensures.same c.if-joins.true in
    ap places_of (end.2 (record { place = last.place; loads = last.loads + c.args.stop.loads })) ∙ places_both end.0 last c.args.stop same
    ∙ places_after old end.0 last c.args.stop end.1

pub returns-then-joins-clause-joined : goal.returns-then-joins-clause-joined
returns-then-joins-clause-joined c = λ low are.
    let old : List Stop = c.args.stops.now.items in
    let i : ℕ = c.len-count.result - 1 in
    let last : Stop = c.index-last.result.now in
    let within : i < length old = omega (arith, c.len-count.ensures, c.if-count-gt0.true) in
    let there : slice_get old i ≡ Some last = slice_get_read old (length old) i last refl within c.index-last.ensures in
    let end = front_of old last i (omega (arith, c.len-count.ensures, c.if-count-gt0.true)) there in
    subst AreJoined (sym (end.2 (record { place = last.place; loads = last.loads + c.args.stop.loads })))
    (joined_both end.0 last c.args.stop.loads (subst AreJoined end.1 are))

pub returns-clause-joined : goal.returns-clause-joined
returns-clause-joined c = λ low are.
    let old : List Stop = c.args.stops.now.items in
    let stop : Stop = c.args.stop in
    let i : ℕ = c.len-count.result - 1 in
    let some : 0 < stop.loads = omega (arith, c.if-stop-eq0.false) in
    subst AreJoined (sym c.in_ok-push.ensures.items) (elim c.else-count-gt0.branch [
      | else-count-gt0-via-then-count-gt0+else-joins w ↦
          let last : Stop = w.index.result.now in
          let within : i < length old = omega (arith, c.len-count.ensures, w.if-count-gt0.true) in
          let there : slice_get old i ≡ Some last = slice_get_read old (length old) i last refl within w.index.ensures in
          let end = front_of old last i (omega (arith, c.len-count.ensures, w.if-count-gt0.true)) there in
          let fits : last.loads + stop.loads < 4294967296 =
          last_loads end.0 last stop.loads 4294967296 (subst (λ (ss : List Stop). length (places_of ss) + stop.loads < 4294967296) end.1 low) in
          let apart : last.place ≢ stop.place = w.joins.ensures.apart w.if-joins.false fits in
          joined_after old end.0 last stop end.1 are some apart
      | else-count-gt0-via-else-count-gt0 w ↦ joined_first old stop (omega (arith, c.len-count.ensures, w.if-count-gt0.false)) some
    ])
