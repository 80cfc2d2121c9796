-- The loads of a thread, at the places that the searches of its passings find.
use Rattle.std.proofs.Common.{◌≡◌, inl, inr, ℕ, zero, suc, ◌+◌, ◌<◌, ◌≤◌, Bool, true, false, List, [], ◌∷◌, ◌++◌, Option, Some, None, refl, sym, ap, subst, ◌∙◌, arith, length, length-append, map, take}
use Rattle.std.specs.Prelude.{◌⊎◌, slice_get}
use Rattle.std.proofs.lemmas.List.{length-map}
use Rattle.xray_image.specs.Program.{Program}
use Rattle.handler_word.specs.declared.mark.Mark.{Mark}
use Rattle.handler_word.specs.declared.mark.Mark.TheVariants.{Skipped, NoHandler, NotLogging, Recorded, RecordedArg}
use Rattle.patch_script.specs.declared.command.PatchCommand.{PatchCommand}
use Rattle.patch_script.specs.declared.command.PatchCommand.TheVariants as commands
use Rattle.patch_script.specs.Bounds.{bound_of}
use Rattle.patch_script.specs.CodeAt.{code_at}
use Rattle.patch_script.specs.Micros.{hold_of, start_of, total_of}
use Rattle.machine_step.specs.Loads.{Load, Marked, Reading, Wants, from_head, is_held_at, marks_from, marks_of, next_from, next_load}
use Rattle.step_sim.specs.Replay.{Cast, of_thread, thread_count}
use Rattle.run_order.specs.FreeScripts.{free_commands, free_place}
use Rattle.machine_step.specs.Follows.{Rise}
use Rattle.run_order.specs.Placed.{ArePlaced}
use Rattle.audit_check.specs.Places.{Search, found_by, load_places, passing_searches, load_places_from}
use Rattle.run_order.proofs.FreeMicros.{AllRelease, free_code, free_start, free_total, places_rise}
use Rattle.run_order.proofs.FirstPassing.{go_on}
use Rattle.run_order.proofs.PassingLoads.{IsLoadAt, Leads, passing_led}
use Rattle.audit_check.proofs.SearchResults.{found_on}
use Rattle.run_order.proofs.RisingSearches.{found_rises}

-- ---- lists

-- an item of two lists is one of the first, or one of the second
pub split_get : {X : Type 0} (xs ys : List X) (i : ℕ) (x : X) → slice_get (xs ++ ys) i ≡ Some x
    → ((slice_get xs i ≡ Some x) × (take i (xs ++ ys) ≡ take i xs)) ⊎ ((j : ℕ) × (slice_get ys j ≡ Some x) × (take i (xs ++ ys) ≡ xs ++ take j ys))
split_get [] ys i x e = inr (i, e, refl)
split_get (y ∷ xs) ys zero x e = inl (e, refl)
split_get {X = X} (y ∷ xs) ys (suc i) x e = elim (split_get xs ys i x e) [
  | inl here ↦ inl (here.0, ap (λ (zs : List X). y ∷ zs) here.1)
  | inr there ↦ inr (there.0, there.1, ap (λ (zs : List X). y ∷ zs) there.2)
]

-- so are two items at one index, of lists whose first parts are as long
split_both : {X Y : Type 0} (xs xs' : List X) (ys ys' : List Y) (i : ℕ) (x : X) (y : Y) → length xs ≡ length ys
    → slice_get (xs ++ xs') i ≡ Some x → slice_get (ys ++ ys') i ≡ Some y
    → ((slice_get xs i ≡ Some x) × (slice_get ys i ≡ Some y)) ⊎ ((j : ℕ) × (slice_get xs' j ≡ Some x) × (slice_get ys' j ≡ Some y))
split_both [] xs' [] ys' i x y same e f = inr (i, e, f)
split_both [] xs' (b ∷ ys) ys' i x y same e f = absurd (omega (arith, same))
split_both (a ∷ xs) xs' [] ys' i x y same e f = absurd (omega (arith, same))
split_both (a ∷ xs) xs' (b ∷ ys) ys' zero x y same e f = inl (e, f)
split_both (a ∷ xs) xs' (b ∷ ys) ys' (suc i) x y same e f = split_both xs xs' ys ys' i x y (omega (arith, same)) e f

-- ---- places that rise

rise_later : (from mid last : ℕ) (places : List ℕ) → from ≤ mid → Rise mid last places → Rise from last places
rise_later from mid last [] low rise = tt
rise_later from mid last (place ∷ places) low rise = (omega (arith, low, rise.0), rise.1, rise.2)

pub rise_join : (from mid last : ℕ) (xs ys : List ℕ) → from ≤ mid → mid ≤ last → Rise from mid xs → Rise mid last ys → Rise from last (xs ++ ys)
rise_join from mid last [] ys low high rise rest = rise_later from mid last ys low rest
rise_join from mid last (x ∷ xs) ys low high rise rest = (rise.0, omega (arith, rise.1, high), rise_join x mid last xs ys rise.1 high rise.2 rest)

pub rise_mapped : (f : ℕ → ℕ) → ((a b : ℕ) → a ≤ b → f a ≤ f b) → (from last : ℕ) (places : List ℕ) → Rise from last places
    → Rise (f from) (f last) (map f places)
rise_mapped f grows from last [] rise = tt
rise_mapped f grows from last (place ∷ places) rise =
    (grows from place rise.0, grows place last rise.1, rise_mapped f grows place last places rise.2)

-- ---- searches

-- there is one
abbrev HasSearch : List Search → Type 0
HasSearch [] = ⊥
HasSearch (search ∷ later) = Unit {0}

some_rises : (searches : List Search) → HasSearch searches → (last from : ℕ) (found : ℕ × List ℕ) → found_by last from searches ≡ Some found
    → (from ≤ found.0) × (found.0 ≤ last) × Rise from found.0 found.1
some_rises [] has last from found e = absurd has
some_rises (search ∷ later) has last from found e =
    let on = found_on last from search later found e in
    found_rises last from (search ∷ later) found e (omega (arith, on.there.low, on.there.high))

-- ---- a passing

module _ (program : Program) (threads : ℕ) (code : ℕ → ℕ → ℕ) where
  leads_ends : (places : List ℕ) (loads : List Load) (mark : Mark) (reads : List Load → Reading) → Leads program threads code reads places loads mark
      → (rest : List Load) → reads (loads ++ rest) ≡ Marked mark rest
  leads_ends [] [] mark reads leads rest = leads rest
  leads_ends [] (load ∷ loads) mark reads leads rest = absurd leads
  leads_ends (place ∷ places) [] mark reads leads rest = absurd leads
  leads_ends (place ∷ places) (load ∷ loads) mark reads leads rest =
      leads_ends places loads mark (λ more. reads (load ∷ more)) leads.2 rest

  leads_wants : (places : List ℕ) (loads : List Load) (mark : Mark) (reads : List Load → Reading) → Leads program threads code reads places loads mark
      → (i : ℕ) (load : Load) → slice_get loads i ≡ Some load → (recording : Mark) × (reads (take i loads) ≡ Wants load.word recording)
  leads_wants [] [] mark reads leads i load e = absurd cc
  leads_wants [] (first ∷ loads) mark reads leads i load e = absurd leads
  leads_wants (place ∷ places) [] mark reads leads i load e = absurd leads
  leads_wants (place ∷ places) (first ∷ loads) mark reads leads zero load e =
      let same : first ≡ load = cc in
      (leads.0.0, leads.0.1 ∙ ap (λ (l : Load). Wants l.word leads.0.0) same)
  leads_wants (place ∷ places) (first ∷ loads) mark reads leads (suc i) load e =
      leads_wants places loads mark (λ more. reads (first ∷ more)) leads.2 i load e

  leads_count : (places : List ℕ) (loads : List Load) (mark : Mark) (reads : List Load → Reading) → Leads program threads code reads places loads mark
      → length places ≡ length loads
  leads_count [] [] mark reads leads = refl
  leads_count [] (load ∷ loads) mark reads leads = absurd leads
  leads_count (place ∷ places) [] mark reads leads = absurd leads
  leads_count (place ∷ places) (load ∷ loads) mark reads leads =
      let rest = leads_count places loads mark (λ more. reads (load ∷ more)) leads.2 in
      omega (arith, rest)

  leads_values : (places : List ℕ) (loads : List Load) (mark : Mark) (reads : List Load → Reading) → Leads program threads code reads places loads mark
      → (i place : ℕ) (load : Load) → slice_get places i ≡ Some place → slice_get loads i ≡ Some load → IsLoadAt program threads code place load
  leads_values [] [] mark reads leads i place load e f = absurd cc
  leads_values [] (first ∷ loads) mark reads leads i place load e f = absurd leads
  leads_values (at ∷ places) [] mark reads leads i place load e f = absurd leads
  leads_values (at ∷ places) (first ∷ loads) mark reads leads zero place load e f =
      let same_place : at ≡ place = cc in
      let same_load : first ≡ load = cc in
      subst (λ (p : ℕ). IsLoadAt program threads code p load) same_place (subst (IsLoadAt program threads code at) same_load leads.1)
  leads_values (at ∷ places) (first ∷ loads) mark reads leads (suc i) place load e f =
      leads_values places loads mark (λ more. reads (first ∷ more)) leads.2 i place load e f

  -- ---- a thread that isn't held

  module _ (thread : ℕ) where
    next_marked : (number sled : ℕ) (sleds : List ℕ) (loads rest : List Load) (mark : Mark) → from_head program threads sled loads ≡ Marked mark rest
        → next_from program threads thread None number (sled ∷ sleds) loads ≡ next_from program threads thread None (number + 1) sleds rest
    next_marked number sled sleds loads rest mark e = rw e refl

    next_wants : (number sled : ℕ) (sleds : List ℕ) (loads : List Load) (word : ℕ) (recording : Mark) → from_head program threads sled loads ≡ Wants word recording
        → next_from program threads thread None number (sled ∷ sleds) loads ≡ Some word
    next_wants number sled sleds loads word recording e = rw e refl

    marks_marked : (number sled : ℕ) (sleds : List ℕ) (loads rest : List Load) (mark : Mark) → from_head program threads sled loads ≡ Marked mark rest
        → marks_from program threads thread None number (sled ∷ sleds) loads ≡ mark ∷ marks_from program threads thread None (number + 1) sleds rest
    marks_marked number sled sleds loads rest mark e = rw e refl

    -- loads at these places are all loads of passings at these sleds, numbered from a number on, and give these marks
    pub record AreLoadsOf (number : ℕ) (sleds : List ℕ) (marks : List Mark) (places : List ℕ) (loads : List Load) : Type 0 where
      pub wanted : (i : ℕ) (load : Load) → slice_get loads i ≡ Some load → next_from program threads thread None number sleds (take i loads) ≡ Some load.word
      pub ended : next_from program threads thread None number sleds loads ≡ None
      pub marks_are : marks_from program threads thread None number sleds loads ≡ marks
      pub count : length places ≡ length loads
      pub values : (i place : ℕ) (load : Load) → slice_get places i ≡ Some place → slice_get loads i ≡ Some load → IsLoadAt program threads code place load

    no_loads : (number : ℕ) → AreLoadsOf number [] [] [] []
    no_loads number = record {
      wanted = λ i load e. absurd cc;
      ended = refl;
      marks_are = refl;
      count = refl;
      values = λ i place load e f. absurd cc;
    }

    -- the loads of a passing, and then those of the others
    more_loads : (number sled : ℕ) (sleds : List ℕ) (mark : Mark) (marks : List Mark) (places later : List ℕ) (own rest : List Load)
        → Leads program threads code (from_head program threads sled) places own mark → AreLoadsOf (number + 1) sleds marks later rest
        → AreLoadsOf number (sled ∷ sleds) (mark ∷ marks) (places ++ later) (own ++ rest)
    more_loads number sled sleds mark marks places later own rest leads are = record {
      wanted = λ i load e. by_part i load (split_get own rest i load e);
      ended =
          next_marked number sled sleds (own ++ rest) rest mark (leads_ends places own mark (from_head program threads sled) leads rest) ∙ are.ended;
      marks_are =
          marks_marked number sled sleds (own ++ rest) rest mark (leads_ends places own mark (from_head program threads sled) leads rest)
          ∙ ap (λ (ms : List Mark). mark ∷ ms) are.marks_are;
      count =
          let first = leads_count places own mark (from_head program threads sled) leads in
          omega (arith, length-append places later, length-append own rest, first, are.count);
      values = λ i place load e f.
          elim (split_both places later own rest i place load (leads_count places own mark (from_head program threads sled) leads) e f) [
            | inl here ↦ leads_values places own mark (from_head program threads sled) leads i place load here.0 here.1
            | inr there ↦ are.values there.0 place load there.1 there.2
          ];
    }
      where
        by_part : (i : ℕ) (load : Load)
            → ((slice_get own i ≡ Some load) × (take i (own ++ rest) ≡ take i own)) ⊎ ((j : ℕ) × (slice_get rest j ≡ Some load) × (take i (own ++ rest) ≡ own ++ take j rest))
            → next_from program threads thread None number (sled ∷ sleds) (take i (own ++ rest)) ≡ Some load.word
        by_part i load (inl (found, taken)) =
            let wants = leads_wants places own mark (from_head program threads sled) leads i load found in
            ap (λ (ls : List Load). next_from program threads thread None number (sled ∷ sleds) ls) taken
            ∙ next_wants number sled sleds (take i own) load.word wants.0 wants.1
        by_part i load (inr (j, found, taken)) =
            ap (λ (ls : List Load). next_from program threads thread None number (sled ∷ sleds) ls) taken
            ∙ next_marked number sled sleds (own ++ take j rest) (take j rest) mark (leads_ends places own mark (from_head program threads sled) leads (take j rest))
            ∙ are.wanted j load found

    -- ---- what the searches of all passings find

    -- sleds that exist
    abbrev pub Exist : List ℕ → Type 0
    Exist [] = Unit {0}
    Exist (sled ∷ sleds) = (sled < length program.sleds) × Exist sleds

    pub record Placed (bound : ℕ → ℕ) (number from last : ℕ) (sleds : List ℕ) (marks : List Mark) (places : List ℕ) : Type 0 where
      pub loads : List Load
      pub are : AreLoadsOf number sleds marks places loads
      pub rise : Rise from last places

    -- a passing has a search
    has_search : (held : Bool) (sled : ℕ) (mark : Mark) → HasSearch (passing_searches program threads code thread held sled mark)
    has_search true sled mark = tt
    has_search false sled Skipped = tt
    has_search false sled NoHandler = tt
    has_search false sled NotLogging = tt
    has_search false sled Recorded = tt
    has_search false sled RecordedArg = tt

    pub passing_rises : (held : Bool) (sled : ℕ) (mark : Mark) (last from : ℕ) (found : ℕ × List ℕ)
        → found_by last from (passing_searches program threads code thread held sled mark) ≡ Some found
        → (from ≤ found.0) × (found.0 ≤ last) × Rise from found.0 found.1
    passing_rises held sled mark last from found e = some_rises (passing_searches program threads code thread held sled mark) (has_search held sled mark) last from found e

    pub passings_placed : (bound : ℕ → ℕ) (hold : Option ℕ) (last : ℕ) → ((n : ℕ) → bound n ≤ last) → (number from : ℕ) (sleds : List ℕ) (marks : List Mark)
        (places : List ℕ) → Exist sleds → load_places_from program threads code bound thread hold number from sleds marks ≡ Some places
        → Placed bound number from last sleds marks places
    passings_placed bound hold last within number from [] [] places exist e =
        let none : [] ≡ places = cc in
        subst (λ (ps : List ℕ). Placed bound number from last [] [] ps) none (record { loads = []; are = no_loads number; rise = tt })
    passings_placed bound hold last within number from [] (mark ∷ marks) places exist e = absurd cc
    passings_placed bound hold last within number from (sled ∷ sleds) [] places exist e = absurd cc
    passings_placed bound hold last within number from (sled ∷ sleds) (mark ∷ marks) places exist e =
        let first = go_on program threads code bound thread hold number from sled mark sleds marks places e in
        let found : ℕ × List ℕ = first.found in
        let later : List ℕ = first.later in
        let own = passing_led program threads code sled exist.0 thread (is_held_at hold number) mark (bound number) from found first.found_is in
        let rest = passings_placed bound hold last within (number + 1) found.0 sleds marks later exist.1 first.later_are in
        let rises = passing_rises (is_held_at hold number) sled mark (bound number) from found first.found_is in
        let whole : Placed bound number from last (sled ∷ sleds) (mark ∷ marks) (found.1 ++ later) = record {
          loads = own.loads ++ rest.loads;
          are = more_loads number sled sleds mark marks found.1 later own.loads rest.loads own.leads rest.are;
          rise = rise_join from found.0 last found.1 later rises.0 (omega (arith, rises.1, within number)) rises.2 rest.rise;
        } in
        subst (λ (ps : List ℕ). Placed bound number from last (sled ∷ sleds) (mark ∷ marks) ps) first.makes whole

-- ---- a script without waits

pub no_hold : (thread : ℕ) (script : List PatchCommand) → hold_of thread (free_commands script) ≡ None
no_hold thread [] = refl
no_hold thread (commands.Patch ∷ script) = no_hold thread script
no_hold thread (commands.Unpatch ∷ script) = no_hold thread script
no_hold thread (commands.PatchFunction id ∷ script) = no_hold thread script
no_hold thread (commands.UnpatchFunction id ∷ script) = no_hold thread script
no_hold thread (commands.SetHandler ∷ script) = no_hold thread script
no_hold thread (commands.RemoveHandler ∷ script) = no_hold thread script
no_hold thread (commands.SetArgHandler ∷ script) = no_hold thread script
no_hold thread (commands.RemoveArgHandler ∷ script) = no_hold thread script
no_hold thread (commands.Init ∷ script) = no_hold thread script
no_hold thread (commands.Finalize ∷ script) = no_hold thread script
no_hold thread (commands.Go ∷ script) = no_hold thread script
no_hold thread (commands.Hold held passing ∷ script) = no_hold thread script
no_hold thread (commands.Release released ∷ script) = no_hold thread script
no_hold thread (commands.Await awaited count ∷ script) = no_hold thread script

-- the places of loads, as those of the script without waits
mapped_at : (f : ℕ → ℕ) (places : List ℕ) (i place : ℕ) → slice_get (map f places) i ≡ Some place
    → (own : ℕ) × (slice_get places i ≡ Some own) × (f own ≡ place)
mapped_at f [] i place e = absurd cc
mapped_at f (own ∷ places) zero place e = (own, refl, cc)
mapped_at f (own ∷ places) (suc i) place e = mapped_at f places i place e

-- The loads of a thread at these places, in a replay of the script without waits. They give its marks.
pub record PlacedIn (cast : Cast) (thread : ℕ) (marks : List Mark) (places : List ℕ) : Type 0 where
  pub loads : List Load
  pub placed : ArePlaced cast thread places loads
  pub marks_are : marks_of cast.program (thread_count cast) thread (hold_of thread cast.script) (of_thread cast.passings thread) loads ≡ marks

module _ (program : Program) (script : List PatchCommand) (passings : List (List ℕ)) (releases : AllRelease (length passings) script)
    (bounds : (thread passing : ℕ) → bound_of program (length passings) script thread passing ≤ total_of program (length passings) script)
  where
    pub thread_placed : (thread : ℕ) (sleds : List ℕ) (marks : List Mark) (places : List ℕ) → of_thread passings thread ≡ sleds
        → Exist program (length passings) (code_at program (length passings) script) thread sleds
        → load_places program (length passings) script thread sleds marks ≡ Some places
        → PlacedIn (record { program = program; script = free_commands script; passings = passings }) thread marks
        (map (free_place program (length passings) script) places)
    thread_placed thread sleds marks places own exist e =
        let n : ℕ = length passings in
        let f : ℕ → ℕ = free_place program n script in
        let placed = passings_placed program n (code_at program n script) thread (bound_of program n script thread) (hold_of thread script)
        (total_of program n script) (bounds thread) 0 (start_of program n script) sleds marks places exist e in
        let loads : List Load = placed.loads in
        let next_is : (ls : List Load) → next_load program n thread (hold_of thread (free_commands script)) (of_thread passings thread) ls
        ≡ next_load program n thread None sleds ls = λ ls.
        ap (λ (h : Option ℕ). next_load program n thread h (of_thread passings thread) ls) (no_hold thread script)
        ∙ ap (λ (ss : List ℕ). next_load program n thread None ss ls) own in
        let mapped : Rise (f (start_of program n script)) (f (total_of program n script)) (map f places) =
        rise_mapped f (places_rise program n script) (start_of program n script) (total_of program n script) places placed.rise in
        record {
          loads = loads;
          placed = record {
            count = length-map places f ∙ placed.are.count;
            rise =
                subst (λ (a : ℕ). Rise a (total_of program n (free_commands script)) (map f places)) (sym (free_start program n script releases))
                (subst (λ (b : ℕ). Rise (f (start_of program n script)) b (map f places)) (sym (free_total program n script releases)) mapped);
            wanted = λ i load found. next_is (take i loads) ∙ placed.are.wanted i load found;
            values = λ i place load there found.
                let at = mapped_at f places i place there in
                let is = placed.are.values i at.0 load at.1 found in
                is.0 ∙ sym (free_code program n script at.0 load.word releases is.1)
                ∙ ap (λ (p : ℕ). code_at program n (free_commands script) p load.word) at.2;
            ended = next_is loads ∙ placed.are.ended;
          };
          marks_are =
              ap (λ (h : Option ℕ). marks_of program n thread h (of_thread passings thread) loads) (no_hold thread script)
              ∙ ap (λ (ss : List ℕ). marks_of program n thread None ss loads) own ∙ placed.are.marks_are;
        }
