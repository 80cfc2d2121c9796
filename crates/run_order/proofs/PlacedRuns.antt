-- The order of a run whose loads are placed.
use Rattle.std.proofs.Common.{◌≡◌, inl, inr, ℕ, Vec, Global, zero, suc, ◌+◌, ◌-◌, ◌<◌, ◌≤◌, Bool, true, false, cond, List, [], ◌∷◌, ◌++◌, Option, Some, None, refl, sym, ap, subst, ◌∙◌, arith, length, map, get_or}
use Rattle.std.specs.Prelude.{◌⊎◌, All, Ok, Err, Result, option_map, replicate, slice_get}
use Rattle.std.proofs.lemmas.List.{length-map}
use Rattle.std.proofs.lemmas.Option.{slice_get-get_or, slice_get-map, slice_get_within}
use Rattle.xray_image.specs.Program.{Program}
use Rattle.patch_script.specs.declared.command.PatchCommand.{PatchCommand}
use Rattle.patch_script.specs.Bounds.{bound_of}
use Rattle.patch_script.specs.CodeAt.{code_at}
use Rattle.patch_script.specs.Micros.{hold_of, start_of, total_of}
use Rattle.machine_step.specs.declared.end.End.{End}
use Rattle.machine_step.specs.declared.limits.Limits.{Limits}
use Rattle.machine_step.specs.PlainStep.{Passing, PlainRun, State}
use Rattle.machine_step.specs.Traced.{sleds_passed}
use Rattle.traced_run.specs.Runs.{ThreadRun}
use Rattle.step_sim.specs.declared.turns.Turns.{Turns}
use Rattle.audit_check.specs.declared.placing.PlaceFault.{PlaceFault}
use Rattle.audit_check.specs.declared.placing.PlaceFault.TheVariants as places
use Rattle.audit_check.specs.declared.stop.Stop.{Stop}
use Rattle.audit_check.specs.Places.{load_places}
use Rattle.audit_check.specs.Placings.{AreLoadPlaces, ArePlaced, all_places, placed_by}
use Rattle.audit_check.specs.Rows.{AreRunsOf}
use Rattle.audit_check.specs.Statements.{NamesThreads, AuditStatement}
use Rattle.audit_check.specs.Stops.{AreJoined, places_of}
use Rattle.run_order.specs.declared.fault.OrderFault.{OrderFault}
use Rattle.run_order.specs.declared.fault.OrderFault.TheVariants.{Long, NoMemory}
use Rattle.run_order.specs.Answers.{AllEndsAgree, IsOrdered, AllMarksAgree}
use Rattle.run_order.specs.FreeScripts.{free_place}
use Rattle.run_order.specs.Orders.{is_long}
use Rattle.run_order.specs.private.Ordered.{ordered}
use Rattle.machine_step.specs.Follows.{Rise}
use Rattle.run_order.specs.RunOrders.{IsOrderOf}
use Rattle.run_order.specs.private.Ordering.{cut, fault_of}
use Rattle.run_order.specs.private.Stops.{AreStops}
use Rattle.run_order.specs.private.Waits.{freed, waits_of}
use Rattle.run_order.proofs.FewLoads.{loads_few}
use Rattle.run_order.specs.Merges.{IsMerge}
use Rattle.audit_check.proofs.SearchResults.{was_made}
use Rattle.run_order.proofs.FreeMicros.{places_rise}
use Rattle.run_order.proofs.MergedLoads.{order_merges}
use Rattle.run_order.proofs.WaitsBefore.{freed_is}
use Rattle.run_order.proofs.OrderOfRun.{none_there}
use Rattle.run_order.proofs.OrderLeavesRun.{BoundsWithin, run_exists, sleds_exist, starts_within}
use Rattle.run_order.proofs.ThreadLoads.{passings_placed, rise_mapped}

abbrev pub Answer : Type 0
Answer = Result (List Turns) OrderFault

-- no plain run makes more passings than its limits allow
abbrev pub PassingsLimited : Type 0
PassingsLimited = (program : Program) (limits : Limits) (thread : ℕ) (passed : List Passing) (end : End) (last : State)
    → PlainRun program limits thread passed end last → length passed ≤ limits.passings

-- ---- stops that rise

-- loads at one place, and then the others
rise_past : (from last n place : ℕ) (rest : List ℕ) → 0 < n → Rise from last (replicate n place ++ rest) → (from ≤ place) × Rise place last rest
rise_past from last zero place rest some rise = absurd (omega (arith, some))
rise_past from last (suc zero) place rest some rise = (rise.0, rise.2)
rise_past from last (suc (suc n)) place rest some rise =
    let later = rise_past place last (suc n) place rest (omega arith) rise.2 in (rise.0, later.1)

pub joined_rise : (from last : ℕ) (stops : List Stop) → AreJoined stops → Rise from last (places_of stops) → AreStops from stops
joined_rise from last [] joined rise = tt
joined_rise from last (stop ∷ []) joined rise =
    let past = rise_past from last stop.loads stop.place [] joined rise in (past.0, joined, tt)
joined_rise from last (stop ∷ next ∷ later) joined rise =
    let past = rise_past from last stop.loads stop.place (places_of (next ∷ later)) joined.0 rise in
    let rest = joined_rise stop.place last (next ∷ later) joined.2 past.1 in
    let after : stop.place + 1 ≤ next.place = omega (arith, rest.0, joined.1) in
    (past.0, joined.0, (after, rest.1, rest.2))

map_within : (f g : ℕ → ℕ) (from last : ℕ) (places : List ℕ) → ((place : ℕ) → place ≤ last → f place ≡ g place) → Rise from last places → map f places ≡ map g places
map_within f g from last [] same rise = refl
map_within f g from last (place ∷ places) same rise =
    ap (λ p. p ∷ map f places) (same place rise.1) ∙ ap (λ (ps : List ℕ). g place ∷ ps) (map_within f g place last places same rise.2)

-- ---- the order

module _ (bounds : BoundsWithin) (program : Program) (script : List PatchCommand) (statement : AuditStatement) (runs : List ThreadRun) (are : AreRunsOf program statement runs)
    (all : List (List ℕ)) (load : AreLoadPlaces program statement.setup.threads script runs all) where
  abbrev threads : ℕ
  threads = statement.setup.threads

  abbrev start : ℕ
  start = start_of program threads script

  abbrev total : ℕ
  total = total_of program threads script

  abbrev free : ℕ → ℕ
  free = free_place program threads script

  -- the run of a thread whose loads have these places
  run_at : (i : ℕ) (own : List ℕ) → slice_get all i ≡ Some own
      → (run : ThreadRun) × (slice_get runs i ≡ Some run) × (load_places program threads script (i + 1) (sleds_passed run.passed) run.marks ≡ Some own)
  run_at i own at = by_run (slice_get runs i) refl
    where
      by_run : (r : Option ThreadRun) → slice_get runs i ≡ r
          → (run : ThreadRun) × (slice_get runs i ≡ Some run) × (load_places program threads script (i + 1) (sleds_passed run.passed) run.marks ≡ Some own)
      by_run None e =
          let within = slice_get_within all i own at in
          absurd (none_there runs i (omega (arith, within, load.count)) e)
      by_run (Some run) e =
          let back : i + 1 - 1 ≡ i = omega arith in
          (run, e, load.each i run e ∙ ap (slice_get all) back ∙ at)

  pub places_few : PassingsLimited → NamesThreads statement → (i : ℕ) (own : List ℕ) → slice_get all i ≡ Some own → length own ≤ 20971520
  places_few limited names i own at =
      let run = run_at i own at in
      let few = loads_few program threads script (i + 1) (sleds_passed run.0.passed) run.0.marks own run.2 in
      let passings = limited program statement.setup.limits (i + 1) run.0.passed run.0.end run.0.last (are.run.plain i run.0 run.1) in
      let count : length (sleds_passed run.0.passed) ≡ length run.0.passed = length-map run.0.passed (λ (p : Passing). p.sled) in
      omega (arith, few, passings, count, names.setup_is.limits_are.passings)

  rise_at : (i : ℕ) (own : List ℕ) → slice_get all i ≡ Some own → Rise start total own
  rise_at i own at =
      let run = run_at i own at in
      (passings_placed program threads (code_at program threads script) (i + 1) (bound_of program threads script (i + 1)) (hold_of (i + 1) script) total
      (bounds program threads script (i + 1)) 0 start (sleds_passed run.0.passed) run.0.marks own
      (sleds_exist program threads (code_at program threads script) (i + 1) run.0.passed (run_exists program statement.setup runs are.run i run.0 run.1)) run.2).rise

  free_rise : (i : ℕ) (own : List ℕ) → slice_get all i ≡ Some own → Rise (free start) (free total) (map free own)
  free_rise i own at = rise_mapped free (places_rise program threads script) start total own (rise_at i own at)

  module _ (waits : List ℕ) (waits_are : waits ≡ waits_of program threads script) where
    freed_at : (place : ℕ) → place ≤ total → freed waits place ≡ free place
    freed_at place low = ap (λ (ws : List ℕ). freed ws place) waits_are ∙ freed_is program threads script place low

    pub freed_places : (i : ℕ) (own : List ℕ) → slice_get all i ≡ Some own → map (freed waits) own ≡ map free own
    freed_places i own at = map_within (freed waits) free start total own freed_at (rise_at i own at)

    pub all_freed : map (map (freed waits)) all ≡ map (map free) all
    all_freed = each_freed all (λ i own at. freed_places i own at)
      where
        each_freed : (lists : List (List ℕ)) → ((i : ℕ) (own : List ℕ) → slice_get lists i ≡ Some own → map (freed waits) own ≡ map free own)
            → map (map (freed waits)) lists ≡ map (map free) lists
        each_freed [] same = refl
        each_freed (own ∷ lists) same =
            ap (λ (ps : List ℕ). ps ∷ map (map (freed waits)) lists) (same 0 own refl)
            ∙ ap (λ (ls : List (List ℕ)). map free own ∷ ls) (each_freed lists (λ i other e. same (suc i) other e))

    pub starts_low : freed waits start ≤ freed waits total
    starts_low =
        let low = starts_within program threads script in
        omega (arith, freed_at start low, freed_at total (omega arith), places_rise program threads script start total low)

    -- the stops of a thread rise
    pub stops_rise : (i : ℕ) (own : List ℕ) (stops : List Stop) → slice_get all i ≡ Some own → places_of stops ≡ map (freed waits) own → AreJoined stops
        → AreStops (freed waits start) stops
    stops_rise i own stops at same joined =
        let low = starts_within program threads script in
        subst (λ s. AreStops s stops) (sym (freed_at start low))
        (joined_rise (free start) (free total) stops joined
        (subst (Rise (free start) (free total)) (sym (same ∙ freed_places i own at)) (free_rise i own at)))

    pub order_is : (schedule : List Turns)
        → schedule ≡ ordered (freed waits start) (freed waits total) (map (map (freed waits)) all)
        → IsOrderOf program threads script runs schedule
    order_is schedule same =
        let low = starts_within program threads script in
        let begin : freed waits start ≡ free start = freed_at start low in
        let end : freed waits total ≡ free total = freed_at total (omega arith) in
        let made : schedule ≡ ordered (free start) (free total) (map (map free) all) =
        same ∙ (ap (λ s. ordered s (freed waits total) (map (map (freed waits)) all)) begin
        ∙ (ap (λ t. ordered (free start) t (map (map (freed waits)) all)) end ∙ ap (ordered (free start) (free total)) all_freed)) in
        record {
          places = map (map free) all;
          are = record {
            count = length-map all (map free) ∙ load.count;
            each = λ i run e.
                ap (option_map (map free)) (load.each i run e) ∙ sym (slice_get-map (map free) all (i + 1 - 1));
          };
          merge = subst (IsMerge (free start) (free total) (map (map free) all)) (sym made)
              (order_merges (free start) (free total) (map (map free) all) (places_rise program threads script start total low)
              (λ i own there.
              let was = was_made (map free) (slice_get all i) own (sym (slice_get-map (map free) all i) ∙ there) in
              subst (Rise (free start) (free total)) was.makes (free_rise i was.value was.given_is)));
        }

  -- the same of stops in some kind of lists
  module _ (V : Type 0) (items : V → List Stop) (owns others : List V) (all_is : map (λ v. places_of (items v)) owns ≡ all) where
    own_at : (k : ℕ) (d : V) → k < length owns → slice_get all k ≡ Some (places_of (items (get_or owns k d)))
    own_at k d low =
        ap (λ (ls : List (List ℕ)). slice_get ls k) (sym all_is) ∙ slice_get-map (λ v. places_of (items v)) owns k
        ∙ ap (option_map (λ v. places_of (items v))) (slice_get-get_or owns k d low)

    pub loads_fit : PassingsLimited → NamesThreads statement → All (λ v. length (places_of (items v)) < 4294967296) owns
    loads_fit limited names k d low =
        let few = places_few limited names k (places_of (items (get_or owns k d))) (own_at k d low) in
        omega (arith, few)

    module _ (waits : List ℕ) (waits_are : waits ≡ waits_of program threads script)
        (freed_are : map (λ v. places_of (items v)) others ≡ map (λ v. map (freed waits) (places_of (items v))) owns) where
      pub others_count : length others ≡ length owns
      others_count =
          sym (length-map others (λ v. places_of (items v))) ∙ ap length freed_are ∙ length-map owns (λ v. map (freed waits) (places_of (items v)))

      pub others_few : length others ≡ length runs
      others_few =
          others_count ∙ sym (length-map owns (λ v. places_of (items v))) ∙ ap length all_is ∙ load.count

      pub others_freed : map (λ v. places_of (items v)) others ≡ map (map (freed waits)) all
      others_freed = freed_are ∙ twice owns ∙ ap (map (map (freed waits))) all_is
        where
          twice : (vs : List V) → map (λ v. map (freed waits) (places_of (items v))) vs ≡ map (map (freed waits)) (map (λ v. places_of (items v)) vs)
          twice [] = refl
          twice (v ∷ vs) = ap (λ (ls : List (List ℕ)). map (freed waits) (places_of (items v)) ∷ ls) (twice vs)

      pub others_rise : All (λ v. AreJoined (items v)) others → All (λ v. AreStops (freed waits start) (items v)) others
      others_rise joined k d low =
          let within : k < length owns = omega (arith, low, others_count) in
          let there : slice_get (map (λ v. places_of (items v)) others) k ≡ Some (places_of (items (get_or others k d))) =
          slice_get-map (λ v. places_of (items v)) others k ∙ ap (option_map (λ v. places_of (items v))) (slice_get-get_or others k d low) in
          let here : slice_get (map (λ v. map (freed waits) (places_of (items v))) owns) k ≡ Some (map (freed waits) (places_of (items (get_or owns k d)))) =
          slice_get-map (λ v. map (freed waits) (places_of (items v))) owns k
          ∙ ap (option_map (λ v. map (freed waits) (places_of (items v)))) (slice_get-get_or owns k d within) in
          let both : ◌≡◌ {A = Option (List ℕ)} (Some (places_of (items (get_or others k d)))) (Some (map (freed waits) (places_of (items (get_or owns k d))))) =
          sym there ∙ ap (λ (ls : List (List ℕ)). slice_get ls k) freed_are ∙ here in
          let same : places_of (items (get_or others k d)) ≡ map (freed waits) (places_of (items (get_or owns k d))) = cc in
          stops_rise waits waits_are k (places_of (items (get_or owns k d))) (items (get_or others k d)) (own_at k d within) same (joined k d low)

  pub answer_is : AllEndsAgree program script statement runs → AllMarksAgree program script statement runs → (schedule : List Turns)
      → IsOrderOf program threads script runs schedule → IsOrdered program script statement (cut schedule)
  answer_is ends marks schedule order = by_length (is_long schedule) refl
    where
      by_length : (long : Bool) → is_long schedule ≡ long → IsOrdered program script statement (cut schedule)
      by_length true long =
          subst (λ (a : Answer). IsOrdered program script statement a) (sym (ap (λ b. let a : Answer = cond b (Err Long) (Ok schedule) in a) long))
          (record { runs = runs; are = are; answer_is = (ends, marks, (schedule, order, long)) })
      by_length false short =
          subst (λ (a : Answer). IsOrdered program script statement a) (sym (ap (λ b. let a : Answer = cond b (Err Long) (Ok schedule) in a) short))
          (record { runs = runs; are = are; answer_is = (ends, marks, order, short) })

-- ---- faults

pub fault_is : (program : Program) (script : List PatchCommand) (statement : AuditStatement) (fault : PlaceFault)
    → ArePlaced program script statement (Err fault) → IsOrdered program script statement (Err (fault_of fault))
fault_is program script statement (places.Ends thread) placed = record { runs = placed.runs; are = placed.are; answer_is = placed.placing }
fault_is program script statement (places.Marks thread) placed = record { runs = placed.runs; are = placed.are; answer_is = placed.placing }
fault_is program script statement places.NoMemory placed = absurd placed.placing

-- what comes of loads that are placed
abbrev pub Placing : Type 0
Placing = Result (Vec (Vec Stop Global) Global) PlaceFault

abbrev pub ArePlacedOr : Program → List PatchCommand → AuditStatement → Placing → Type 0
ArePlacedOr program script statement answer = (answer ≡ Err places.NoMemory) ⊎ ArePlaced program script statement (placed_by answer)

pub fault_answer : (program : Program) (script : List PatchCommand) (statement : AuditStatement) (answer : Placing) (fault : PlaceFault) (given : OrderFault)
    → given ≡ fault_of fault → answer ≡ Err fault → ArePlacedOr program script statement answer
    → (given ≡ NoMemory) ⊎ IsOrdered program script statement (Err given)
fault_answer program script statement answer fault given is same placed = by_case (subst (ArePlacedOr program script statement) same placed)
  where
    by_case : ArePlacedOr program script statement (Err fault) → (given ≡ NoMemory) ⊎ IsOrdered program script statement (Err given)
    by_case (inl none) =
        let out : fault ≡ places.NoMemory = cc in
        inl (is ∙ ap fault_of out)
    by_case (inr are) = inr (subst (λ (f : OrderFault). IsOrdered program script statement (Err f)) (sym is) (fault_is program script statement fault are))

pub all_are_placed : (program : Program) (script : List PatchCommand) (statement : AuditStatement) (answer : Placing) (threads : Vec (Vec Stop Global) Global)
    → answer ≡ Ok threads → ArePlacedOr program script statement answer → ArePlaced program script statement (Ok (all_places threads))
all_are_placed program script statement answer threads same placed = by_case (subst (ArePlacedOr program script statement) same placed)
  where
    by_case : ArePlacedOr program script statement (Ok threads) → ArePlaced program script statement (Ok (all_places threads))
    by_case (inl none) = absurd cc
    by_case (inr are) = are

-- ---- a script
