use Rattle.std.proofs.Common.{◌≡◌, ◌<◌, inl, inr, ℕ, List, Vec, Global, refl, sym, ap, subst, ◌∙◌, arith, length, map}
use Rattle.std.specs.Prelude.{All, Err}
use Rattle.xray_image.specs.Program.{Program}
use Rattle.patch_script.specs.declared.command.PatchCommand.{PatchCommand}
use Rattle.patch_script.specs.Micros.{start_of, total_of}
use Rattle.patch_script.specs.Refusals.{commands_of}
use Rattle.step_sim.specs.declared.turns.Turns.{Turns}
use Rattle.audit_check.specs.declared.stop.Stop.{Stop}
use Rattle.audit_check.specs.Placings.{all_places}
use Rattle.audit_check.specs.Statements.{AuditStatement, statement_of}
use Rattle.audit_check.specs.Stops.{places_of}
use Rattle.audit_check.proofs.OwnScript.{own_place}
use Rattle.run_order.specs.Answers.{IsOrdered}
use Rattle.run_order.specs.private.Ordered.{ordered}
use Rattle.run_order.specs.private.Stops.{AreStops}
use Rattle.run_order.specs.private.Waits.{freed}
use Rattle.run_order.proofs.PlacedRuns.{Answer, PassingsLimited, all_are_placed, answer_is, fault_answer, loads_fit, order_is, others_freed, others_rise, starts_low}
use Rattle.run_order.proofs.OrderLeavesRun.{BoundsWithin}
use Rattle.run_order.proofs.ordering.order_run.Goals as goal

pub returns-in-Err : goal.returns-in-Err
returns-in-Err c =
    elim (fault_answer c.args.image.now (commands_of c.args.script.now.lines) (statement_of c.args.audit.now) c.place_loads.result c.in-Err.fault c.order_fault.result
    c.order_fault.ensures c.in-Err.is c.place_loads.ensures) [
      | inl none ↦ inl (ap Err none)
      | inr ordered ↦ inr ordered
    ]

pub free_threads-requires-clause-few : goal.free_threads-requires-clause-few
free_threads-requires-clause-few c =
    let program : Program = c.args.image.now in
    let script : List PatchCommand = commands_of c.args.script.now.lines in
    let statement : AuditStatement = statement_of c.args.audit.now in
    let threads : Vec (Vec Stop Global) Global = c.in-Ok.threads in
    let placed = all_are_placed program script statement c.place_loads.result threads c.in-Ok.is c.place_loads.ensures in
    let bounds : BoundsWithin = λ p n s thread passing. c.awaits_bound_passings.ensures.within p n s thread passing in
    let limited : PassingsLimited = λ p limits thread passed end last run. c.passings_are_limited.ensures p limits thread passed end last run in
    subst (λ (all : List (Vec Stop Global)). All (λ (stops : Vec Stop Global). length (places_of stops.items) < 4294967296) all) (sym c.deref.ensures.value)
    (loads_fit bounds program script statement placed.runs placed.are (all_places threads) placed.placing.2 (Vec Stop Global) (λ stops. stops.items) threads.items threads.items
    refl limited c.requires.names)

pub of_stops-requires-clause-start : goal.of_stops-requires-clause-start
of_stops-requires-clause-start c =
    let program : Program = c.args.image.now in
    let script : List PatchCommand = commands_of c.args.script.now.lines in
    let statement : AuditStatement = statement_of c.args.audit.now in
    let threads : Vec (Vec Stop Global) Global = c.in-Ok.threads in
    let placed = all_are_placed program script statement c.place_loads.result threads c.in-Ok.is c.place_loads.ensures in
    let bounds : BoundsWithin = λ p n s thread passing. c.awaits_bound_passings.ensures.within p n s thread passing in
    let own = c.args.script.now in
    let waits : List ℕ = c.in_ok-waits.waits.places.items in
    let begin : c.free_place-start.result ≡ freed waits (start_of program statement.setup.threads script) =
    c.free_place-start.ensures
    ∙ ap (freed waits) (own_place program own.program statement.setup.threads own.threads script c.requires.program c.requires.threads start_of c.start.result c.start.ensures.start) in
    let end : c.free_place-total.result ≡ freed waits (total_of program statement.setup.threads script) =
    c.free_place-total.ensures
    ∙ ap (freed waits) (own_place program own.program statement.setup.threads own.threads script c.requires.program c.requires.threads total_of c.total.result c.total.ensures.total) in
    let low = starts_low bounds program script statement placed.runs placed.are (all_places threads) placed.placing.2 waits c.in_ok-waits.ensures in
    omega (arith, low, begin, end)

pub of_stops-requires-clause-stops : goal.of_stops-requires-clause-stops
of_stops-requires-clause-stops c =
    let program : Program = c.args.image.now in
    let script : List PatchCommand = commands_of c.args.script.now.lines in
    let statement : AuditStatement = statement_of c.args.audit.now in
    let threads : Vec (Vec Stop Global) Global = c.in-Ok.threads in
    let placed = all_are_placed program script statement c.place_loads.result threads c.in-Ok.is c.place_loads.ensures in
    let bounds : BoundsWithin = λ p n s thread passing. c.awaits_bound_passings.ensures.within p n s thread passing in
    let own = c.args.script.now in
    let waits : List ℕ = c.in_ok-waits.waits.places.items in
    let begin : c.free_place-start.result ≡ freed waits (start_of program statement.setup.threads script) =
    c.free_place-start.ensures
    ∙ ap (freed waits) (own_place program own.program statement.setup.threads own.threads script c.requires.program c.requires.threads start_of c.start.result c.start.ensures.start) in
    let free : List (Vec Stop Global) = c.in_ok-free.free.items in
    let freed_are : map (λ (stops : Vec Stop Global). places_of stops.items) free
    ≡ map (λ (stops : Vec Stop Global). map (freed waits) (places_of stops.items)) threads.items =
    c.in_ok-free.ensures.places ∙ ap (map (λ (stops : Vec Stop Global). map (freed waits) (places_of stops.items))) c.deref.ensures.value in
    subst (λ (all : List (Vec Stop Global)). All (λ (stops : Vec Stop Global). AreStops c.free_place-start.result stops.items) all) (sym c.deref-2.ensures.value)
    (subst (λ s. All (λ (stops : Vec Stop Global). AreStops s stops.items) free) (sym begin)
    (others_rise bounds program script statement placed.runs placed.are (all_places threads) placed.placing.2 (Vec Stop Global) (λ stops. stops.items) threads.items free refl
    waits c.in_ok-waits.ensures freed_are c.in_ok-free.ensures.joined))

pub returns : goal.returns
returns c =
    let program : Program = c.args.image.now in
    let script : List PatchCommand = commands_of c.args.script.now.lines in
    let statement : AuditStatement = statement_of c.args.audit.now in
    let threads : Vec (Vec Stop Global) Global = c.in-Ok.threads in
    let placed = all_are_placed program script statement c.place_loads.result threads c.in-Ok.is c.place_loads.ensures in
    let bounds : BoundsWithin = λ p n s thread passing. c.awaits_bound_passings.ensures.within p n s thread passing in
    let own = c.args.script.now in
    let waits : List ℕ = c.in_ok-waits.waits.places.items in
    let begin : c.free_place-start.result ≡ freed waits (start_of program statement.setup.threads script) =
    c.free_place-start.ensures
    ∙ ap (freed waits) (own_place program own.program statement.setup.threads own.threads script c.requires.program c.requires.threads start_of c.start.result c.start.ensures.start) in
    let end : c.free_place-total.result ≡ freed waits (total_of program statement.setup.threads script) =
    c.free_place-total.ensures
    ∙ ap (freed waits) (own_place program own.program statement.setup.threads own.threads script c.requires.program c.requires.threads total_of c.total.result c.total.ensures.total) in
    let free : List (Vec Stop Global) = c.in_ok-free.free.items in
    let freed_are : map (λ (stops : Vec Stop Global). places_of stops.items) free
    ≡ map (λ (stops : Vec Stop Global). map (freed waits) (places_of stops.items)) threads.items =
    c.in_ok-free.ensures.places ∙ ap (map (λ (stops : Vec Stop Global). map (freed waits) (places_of stops.items))) c.deref.ensures.value in
    let lists : List (List ℕ) = map (λ (stops : Vec Stop Global). places_of stops.items) c.deref-2.result.now in
    let lists_are : lists ≡ map (map (freed waits)) (all_places threads) =
    ap (map (λ (stops : Vec Stop Global). places_of stops.items)) c.deref-2.ensures.value
    ∙ others_freed bounds program script statement placed.runs placed.are (all_places threads) placed.placing.2 (Vec Stop Global) (λ stops. stops.items) threads.items free refl
    waits c.in_ok-waits.ensures freed_are in
    let schedule : List Turns = ordered c.free_place-start.result c.free_place-total.result lists in
    let order = order_is bounds program script statement placed.runs placed.are (all_places threads) placed.placing.2 waits c.in_ok-waits.ensures schedule
    (ap (λ s. ordered s c.free_place-total.result lists) begin
    ∙ ap (λ t. ordered (freed waits (start_of program statement.setup.threads script)) t lists) end
    ∙ ap (ordered (freed waits (start_of program statement.setup.threads script)) (freed waits (total_of program statement.setup.threads script))) lists_are) in
    elim c.of_stops.ensures [
      | inl none ↦ inl none
      | inr is ↦
          inr (subst (λ (answer : Answer). IsOrdered program script statement answer) (sym is)
          (answer_is bounds program script statement placed.runs placed.are (all_places threads) placed.placing.2 placed.placing.0 placed.placing.1 schedule order))
    ]
