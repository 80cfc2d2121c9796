use Rattle.std.proofs.Common.{◌≡◌, ◌++◌, ℕ, List, Some, ap, arith, get_or, length, map, sym, take, ◌∙◌}
use Rattle.std.specs.Prelude.{replicate, slice_get}
use Rattle.std.proofs.lemmas.List.{length-map}
use Rattle.std.proofs.lemmas.Option.{slice_get-get_or}
use Rattle.audit_check.specs.declared.stop.Stop.{Stop}
use Rattle.audit_check.specs.Stops.{places_of}
use Rattle.run_order.specs.private.Waits.{freed}
use Rattle.run_order.proofs.WaitsBefore.{few_more, freed_more}
use Rattle.run_order.proofs.waits.free_stops.Goals as goal

pub loop-stop-preserved : goal.loop-stop-preserved
loop-stop-preserved c =
    let stops : List Stop = c.args.stops.now in
    let i : ℕ = c.loop-stop.stop-index in
    let f : ℕ → ℕ = freed c.args.waits.now.places.items in
    let kept = c.loop-stop.invariant in
    let stop : Stop = get_or stops i (record { place = 0; loads = 0 }) in
    let there : slice_get stops i ≡ Some stop = slice_get-get_or stops i (record { place = 0; loads = 0 }) c.loop-stop-test.true in
    let few = few_more stops i stop there in
    let count : length (places_of c.loop-stop.free.items) ≡ length (places_of (take i stops)) = ap length kept.places ∙ length-map (places_of (take i stops)) f in
    record {
      places =
          c.in_ok-add_stop.ensures.places ∙ ap (λ (ps : List ℕ). ps ++ replicate stop.loads c.free_place-place.result) kept.places
          ∙ ap (λ place. map f (places_of (take i stops)) ++ replicate stop.loads place) c.free_place-place.ensures
          ∙ sym (freed_more f stops i stop there);
      joined = c.in_ok-add_stop.ensures.joined (omega (arith, few, count, c.requires.few)) kept.joined;
    }
