-- A replay along the places of loads: it leaves exactly these loads.
use Rattle.std.proofs.Common.{◌≡◌, inl, inr, ℕ, zero, suc, ◌+◌, ◌-◌, ◌<◌, ◌≤◌, min, List, [], ◌∷◌, ◌++◌, Option, Some, None, refl, sym, ap, subst, ◌∙◌, arith, length, map, take}
use Rattle.std.specs.Prelude.{slice_get, unwrap_or}
use Rattle.std.specs.List.{enumerate_from, flat_map}
use Rattle.std.proofs.lemmas.Bool.{cases_eq}
use Rattle.std.proofs.lemmas.List.{length-map, take_all}
use Rattle.std.proofs.lemmas.List.Sums.{fold-append}
use Rattle.std.proofs.lemmas.Option.{slice_get_within}
use Rattle.patch_script.specs.CodeAt.{code_at}
use Rattle.patch_script.specs.Micros.{hold_of, start_of, total_of}
use Rattle.machine_step.specs.Loads.{Load, next_load}
use Rattle.step_sim.specs.declared.turns.Turns.{Turns}
use Rattle.step_sim.specs.declared.turns.Turns.TheVariants.{Thread, Patcher}
use Rattle.step_sim.specs.Plays.{Plays, ThreadsRunOut, line_played, lines_played, turns}
use Rattle.step_sim.specs.Replay.{Cast, Moment, first_moment, moment_rules, of_thread, patcher_turn, thread_count, thread_turn, wanted_by}
use Rattle.step_sim.proofs.PlayLemmas.{turns_add}
use Rattle.step_sim.proofs.TurnLemmas.{turn_own, turns_length, turns_other, turns_place}
use Rattle.run_order.specs.private.Ordered.{joined, joined_to, ordered, load_line, turns_at, turns_from}
use Rattle.run_order.specs.Placed.{ArePlaced}
use Rattle.run_order.proofs.Counts.{at, at_places, before, before_all, before_next, before_none}

-- ---- lists

-- the first items and the next one
pub take_next : {X : Type 0} (xs : List X) (i : ℕ) (x : X) → slice_get xs i ≡ Some x → take (i + 1) xs ≡ take i xs ++ x ∷ []
take_next [] i x e = absurd cc
take_next {X = X} (y ∷ ys) zero x e = ap (λ (z : X). z ∷ []) cc
take_next {X = X} (y ∷ ys) (suc i) x e =
    let count : suc i + 1 ≡ suc (i + 1) = omega arith in
    ap (λ n. take n (y ∷ ys)) count ∙ ap (λ (zs : List X). y ∷ zs) (take_next ys i x e)

-- an item within a list is there
none_within : {X : Type 0} (xs : List X) (i : ℕ) → i < length xs → slice_get xs i ≡ None → ⊥
none_within [] i h e = omega (arith, h)
none_within (x ∷ xs) zero h e = cc
none_within (x ∷ xs) (suc i) h e = none_within xs i (omega (arith, h)) e

-- ---- lines

-- lines with their micro steps joined are played as they are
line_more : (cast : Cast) (m : Moment) (line : Turns) (later : List Turns)
    → lines_played (moment_rules cast) m (joined_to line later) ≡ lines_played (moment_rules cast) m (line ∷ later)
line_more cast m (Thread thread count) later = refl
line_more cast m (Patcher steps) [] = refl
line_more cast m (Patcher steps) (Thread thread count ∷ later) = refl
line_more cast m (Patcher steps) (Patcher more ∷ later) =
    ap (λ (n : Moment). lines_played (moment_rules cast) n later) (turns_add steps more (patcher_turn cast) m)

pub joined_plays : (cast : Cast) (lines : List Turns) (m : Moment)
    → lines_played (moment_rules cast) m (joined lines) ≡ lines_played (moment_rules cast) m lines
joined_plays cast [] m = refl
joined_plays cast (line ∷ lines) m =
    line_more cast m line (joined lines) ∙ joined_plays cast lines (line_played (moment_rules cast) m line)

-- the line of a thread's loads, also if there are none
line_turns : (cast : Cast) (m : Moment) (thread loads : ℕ)
    → lines_played (moment_rules cast) m (load_line thread loads) ≡ turns loads (thread_turn cast thread) m
line_turns cast m thread zero = refl
line_turns cast m thread (suc loads) = refl

-- ---- lists with one item per thread

pub of_thread_at : {X : Type 0} (lists : List (List X)) (j : ℕ) (xs : List X) → slice_get lists j ≡ Some xs → of_thread lists (1 + j) ≡ xs
of_thread_at {X = X} lists j xs found =
    let back : 1 + j - 1 ≡ j = omega arith in
    let none : List X = [] in
    ap (λ (k : ℕ). unwrap_or (slice_get lists k) none) back ∙ ap (λ (o : Option (List X)). unwrap_or o none) found

none_made : (passings : List (List ℕ)) (i : ℕ) → unwrap_or (slice_get (map (λ _. let none : List Load = [] in none) passings) i) [] ≡ []
none_made [] i = refl
none_made (sleds ∷ passings) zero = refl
none_made (sleds ∷ passings) (suc i) = none_made passings i

-- ---- one thread

module _ (cast : Cast) (thread : ℕ) (places : List ℕ) (loads : List Load) (placed : ArePlaced cast thread places loads) where
  -- its next load is the one that is made at the place
  next_made : (m : Moment) (made : ℕ) → thread - 1 < length m.loads → of_thread m.loads thread ≡ take made loads
      → slice_get places made ≡ Some m.place → of_thread (thread_turn cast thread m).loads thread ≡ take (made + 1) loads
  next_made m made there first here =
      let within : made < length loads = omega (arith, slice_get_within places made m.place here, placed.count) in
      some_load (slice_get loads made) refl within
    where
      some_load : (found : Option Load) → slice_get loads made ≡ found → made < length loads
          → of_thread (thread_turn cast thread m).loads thread ≡ take (made + 1) loads
      some_load None e within = absurd (none_within loads made within e)
      some_load (Some load) e within =
          let next : wanted_by cast thread m ≡ Some load.word =
          ap (λ (ls : List Load). next_load cast.program (thread_count cast) thread (hold_of thread cast.script) (of_thread cast.passings thread) ls) first
          ∙ placed.wanted made load e in
          let value : load.value ≡ code_at cast.program (thread_count cast) cast.script m.place load.word = placed.values made m.place load here e in
          turn_own cast thread m load.word there next
          ∙ ap (λ (ls : List Load). ls ++ record { word = load.word; value = code_at cast.program (thread_count cast) cast.script m.place load.word } ∷ []) first
          ∙ ap (λ (v : ℕ). take made loads ++ record { word = load.word; value = v } ∷ []) (sym value)
          ∙ sym (take_next loads made load e)

  -- its loads at one place
  pub turns_made : (n made : ℕ) (m : Moment) → 0 < thread → thread - 1 < length m.loads → of_thread m.loads thread ≡ take made loads
      → ((i : ℕ) → made ≤ i → i < made + n → slice_get places i ≡ Some m.place)
      → of_thread (turns n (thread_turn cast thread) m).loads thread ≡ take (made + n) loads
  turns_made zero made m some there first here =
      let none : made ≡ made + zero = omega arith in
      first ∙ ap (λ n. take n loads) none
  turns_made (suc n) made m some there first here =
      let next : Moment = thread_turn cast thread m in
      let stays : next.place ≡ m.place = turns_place cast thread 1 m in
      let room : length next.loads ≡ length m.loads = turns_length cast thread 1 m in
      let count : made + 1 + n ≡ made + suc n = omega arith in
      turns_made n (made + 1) next some (omega (arith, there, room)) (next_made m made there first (here made (omega arith) (omega arith)))
      (λ i low high. here i (omega (arith, low)) (omega (arith, high)) ∙ ap Some (sym stays))
      ∙ ap (λ k. take k loads) count

-- ---- all threads

module _ (cast : Cast) (places : List (List ℕ)) (loads : List (List Load))
    (placed : (thread : ℕ) → 0 < thread → thread ≤ thread_count cast → ArePlaced cast thread (of_thread places thread) (of_thread loads thread))
  where
    -- At a place of the script, the threads before a thread have made all loads up to the place, and the others have made
    -- those before it.
    record IsAt (place next : ℕ) (m : Moment) : Type 0 where
      pub place_is : m.place ≡ place
      pub count : length m.loads ≡ thread_count cast
      pub made : (thread : ℕ) → 0 < thread → thread < next
          → of_thread m.loads thread ≡ take (before (place + 1) (of_thread places thread)) (of_thread loads thread)
      pub left : (thread : ℕ) → 0 < thread → next ≤ thread → thread ≤ thread_count cast
          → of_thread m.loads thread ≡ take (before place (of_thread places thread)) (of_thread loads thread)

    -- the next thread makes its loads at the place
    thread_goes : (place thread : ℕ) (m : Moment) → 0 < thread → thread ≤ thread_count cast → IsAt place thread m
        → IsAt place (thread + 1) (turns (at place (of_thread places thread)) (thread_turn cast thread) m)
    thread_goes place thread m some within here = record {
      place_is = turns_place cast thread n m ∙ here.place_is;
      count = turns_length cast thread n m ∙ here.count;
      made = λ other first up. elim (cases_eq other thread) [
        | inl same ↦
            subst (λ (t : ℕ). of_thread after.loads t ≡ take (before (place + 1) (of_thread places t)) (of_thread loads t)) (sym same)
            (own ∙ ap (λ k. take k (of_thread loads thread)) (sym (before_next place (of_thread places thread))))
        | inr apart ↦ turns_other cast thread other n m some first apart ∙ here.made other first (omega (arith, up, apart))
      ];
      left = λ other first low high. turns_other cast thread other n m some first (omega (arith, low)) ∙ here.left other first (omega (arith, low)) high;
    }
      where
        n : ℕ
        n = at place (of_thread places thread)

        after : Moment
        after = turns n (thread_turn cast thread) m

        its : ArePlaced cast thread (of_thread places thread) (of_thread loads thread)
        its = placed thread some within

        own : of_thread after.loads thread ≡ take (before place (of_thread places thread) + n) (of_thread loads thread)
        own =
            turns_made cast thread (of_thread places thread) (of_thread loads thread) its n (before place (of_thread places thread)) m some
            (omega (arith, some, within, here.count)) (here.left thread some (omega arith) within)
            (λ i low high. at_places _ _ place i (of_thread places thread) its.rise low high ∙ ap Some (sym here.place_is))

    -- all threads from one on make theirs
    threads_go : (place : ℕ) (owns : List (List ℕ)) (thread : ℕ) (m : Moment) → 0 < thread → thread + length owns ≡ thread_count cast + 1
        → ((j : ℕ) (own : List ℕ) → slice_get owns j ≡ Some own → of_thread places (thread + j) ≡ own) → IsAt place thread m
        → IsAt place (thread_count cast + 1)
        (lines_played (moment_rules cast) m (flat_map (λ own. load_line own.0 (at place own.1)) (enumerate_from thread owns)))
    threads_go place [] thread m some all are here =
        let e : thread ≡ thread_count cast + 1 = omega (arith, all) in
        subst (λ (t : ℕ). IsAt place t m) e here
    threads_go place (own ∷ owns) thread m some all are here =
        let first : of_thread places thread ≡ own = ap (of_thread places) (let e : thread ≡ thread + 0 = omega arith in e) ∙ are 0 own refl in
        let mid : Moment = turns (at place own) (thread_turn cast thread) m in
        let goes : IsAt place (thread + 1) mid =
        subst (λ (ps : List ℕ). IsAt place (thread + 1) (turns (at place ps) (thread_turn cast thread) m)) first
        (thread_goes place thread m some (omega (arith, all)) here) in
        let rest : List Turns = flat_map (λ own. load_line own.0 (at place own.1)) (enumerate_from (thread + 1) owns) in
        let played : lines_played (moment_rules cast) m (load_line thread (at place own) ++ rest) ≡ lines_played (moment_rules cast) mid rest =
        fold-append (line_played (moment_rules cast)) m (load_line thread (at place own)) rest
        ∙ ap (λ (n : Moment). lines_played (moment_rules cast) n rest) (line_turns cast m thread (at place own)) in
        subst (IsAt place (thread_count cast + 1)) (sym played)
        (threads_go place owns (thread + 1) mid (omega arith) (omega (arith, all))
        (λ j its found. ap (of_thread places) (let e : thread + 1 + j ≡ thread + suc j = omega arith in e) ∙ are (suc j) its found) goes)

    module _ (each : length places ≡ thread_count cast) where
      turns_go : (place : ℕ) (m : Moment) → IsAt place 1 m
          → IsAt place (thread_count cast + 1) (lines_played (moment_rules cast) m (turns_at places place))
      turns_go place m here =
          threads_go place places 1 m (omega arith) (omega (arith, each)) (λ j own found. of_thread_at places j own found) here

      -- the patcher goes on
      patcher_goes : (place : ℕ) (m : Moment) → place < total_of cast.program (thread_count cast) cast.script → IsAt place (thread_count cast + 1) m
          → IsAt (place + 1) 1 (patcher_turn cast m)
      patcher_goes place m within here = record {
        place_is = let e : min (m.place + 1) (total_of cast.program (thread_count cast) cast.script) ≡ place + 1 = omega (arith, here.place_is) in e;
        count = here.count;
        made = λ thread some below. absurd (omega (arith, some, below));
        left = λ thread some low high. here.made thread some (omega (arith, high));
      }

      -- all places up to the end
      places_go : (steps place : ℕ) (m : Moment) → place + steps ≡ total_of cast.program (thread_count cast) cast.script → IsAt place 1 m
          → IsAt (total_of cast.program (thread_count cast) cast.script) (thread_count cast + 1)
          (lines_played (moment_rules cast) m (turns_from places place steps))
      places_go zero place m all here =
          let e : place ≡ total_of cast.program (thread_count cast) cast.script = omega (arith, all) in
          subst (λ (p : ℕ). IsAt p (thread_count cast + 1) (lines_played (moment_rules cast) m (turns_at places place))) e (turns_go place m here)
      places_go (suc steps) place m all here =
          let mid : Moment = lines_played (moment_rules cast) m (turns_at places place) in
          let next : Moment = patcher_turn cast mid in
          let played : lines_played (moment_rules cast) m (turns_at places place ++ Patcher 1 ∷ turns_from places (place + 1) steps)
          ≡ lines_played (moment_rules cast) next (turns_from places (place + 1) steps) =
          fold-append (line_played (moment_rules cast)) m (turns_at places place) (Patcher 1 ∷ turns_from places (place + 1) steps) in
          subst (IsAt (total_of cast.program (thread_count cast) cast.script) (thread_count cast + 1)) (sym played)
          (places_go steps (place + 1) next (omega (arith, all)) (patcher_goes place mid (omega (arith, all)) (turns_go place m here)))

      -- at first
      first_at : IsAt (start_of cast.program (thread_count cast) cast.script) 1 (first_moment cast)
      first_at = record {
        place_is = refl;
        count = length-map cast.passings (λ _. let none : List Load = [] in none);
        made = λ thread some below. absurd (omega (arith, some, below));
        left = λ thread some low high.
            none_made cast.passings (thread - 1)
            ∙ ap (λ n. take n (of_thread loads thread)) (sym (before_none _ _ _ (of_thread places thread) (placed thread some high).rise (omega arith)));
      }

      -- no thread has a load left
      all_out : (n thread : ℕ) (m : Moment) → 0 < thread → thread + n ≡ thread_count cast + 1
          → ((other : ℕ) → 0 < other → other ≤ thread_count cast → of_thread m.loads other ≡ of_thread loads other)
          → ThreadsRunOut (moment_rules cast) n thread m m
      all_out zero thread m some all are = refl
      all_out (suc n) thread m some all are = (
        m,
        (
          0,
          refl,
          ap (λ (ls : List Load). next_load cast.program (thread_count cast) thread (hold_of thread cast.script) (of_thread cast.passings thread) ls)
              (are thread some (omega (arith, all))) ∙ (placed thread some (omega (arith, all))).ended,
        ),
        all_out n (thread + 1) m (omega arith) (omega (arith, all)) are,
      )

      -- The schedule of the places leaves exactly these loads, and the patcher at the end of the script.
      pub replay_of_places : start_of cast.program (thread_count cast) cast.script ≤ total_of cast.program (thread_count cast) cast.script
          → (last : Moment)
          × Plays (moment_rules cast) (thread_count cast) (first_moment cast)
          (ordered (start_of cast.program (thread_count cast) cast.script) (total_of cast.program (thread_count cast) cast.script) places) last
          × ((thread : ℕ) → 0 < thread → thread ≤ thread_count cast → of_thread last.loads thread ≡ of_thread loads thread)
      replay_of_places within =
          let start = start_of cast.program (thread_count cast) cast.script in
          let total = total_of cast.program (thread_count cast) cast.script in
          let lines = turns_from places start (total - start) in
          let last : Moment = lines_played (moment_rules cast) (first_moment cast) (joined lines) in
          let there : IsAt total (thread_count cast + 1) last =
          subst (IsAt total (thread_count cast + 1)) (sym (joined_plays cast lines (first_moment cast)))
          (places_go (total - start) start (first_moment cast) (omega (arith, within)) first_at) in
          let are : (thread : ℕ) → 0 < thread → thread ≤ thread_count cast → of_thread last.loads thread ≡ of_thread loads thread =
          λ thread some high.
          let its = placed thread some high in
          there.made thread some (omega (arith, high))
          ∙ ap (λ n. take n (of_thread loads thread)) (before_all _ _ (total + 1) (of_thread places thread) its.rise (omega arith) ∙ its.count)
          ∙ take_all (length (of_thread loads thread)) (of_thread loads thread) (omega arith) in
          (last, all_out (thread_count cast) 1 last (omega arith) (omega arith) are, are)
