-- How the tallies of a trie are added to sums.
use Rattle.std.proofs.Common.{◌≡◌, ◌⊎◌, ◌+◌, ◌-◌, ◌++◌, ◌<◌, ◌≤◌, ◌∙◌, ℕ, zero, suc, List, [], ◌∷◌, length, take, ap, sym, subst, arith, get_or, inl, inr, append_assoc, below_more, length-append}
use Rattle.std.proofs.Math.ListN.{get_or-append}
use Rattle.std.proofs.Math.Seq.{get_or-append_seam, take-length}
use Rattle.std.proofs.lemmas.List.{append-nil, get_or-map, length-map}
use Rattle.stack_rebuild.specs.declared.tally.Tally.{Tally}
use Rattle.stack_rebuild.specs.PathSums.{AreApart, AreOfPath, AreSums, HasNumber, IsFresh, Summed, path_at, tally_of}
use Rattle.stack_rebuild.specs.Stacks.{Timed}
use Rattle.call_trie.specs.declared.table.Step.{Step}
use Rattle.call_trie.specs.private.Chains.{IsNumberOf}
use Rattle.call_trie.specs.private.Paths.{AreTallies, Climb, HasRoot, IsAt, path_by}
use Rattle.call_trie.proofs.AmongPaths.{Has}
use Rattle.call_trie.proofs.GroupedPairs.{are_of_path, grouped, grouped_more, pairs_with, sums_of_all}

-- The tallies of the first so many paths after the empty one were added. Each of these paths has a number in the sums.
pub record Adds (old now : Summed) (paths : List (List ℕ)) (tallies : List Tally) (numbers : List ℕ) (k : ℕ) : Type 0 where
  pub root : HasRoot now.paths
  pub count : length numbers ≡ k + 1
  pub each : (i : ℕ) → i < length numbers → IsAt now.paths (path_at paths i) (get_or numbers i 0)
  pub sums : (before pairs : List Timed) → AreSums old.paths old.tallies before → (own : AreTallies paths tallies pairs)
      → AreSums now.paths now.tallies (before ++ grouped pairs (take k own.opened))

pub adds_none : (old : Summed) (steps_paths : List (List ℕ)) (tallies : List Tally) (numbers : List ℕ) → HasRoot old.paths
    → path_at steps_paths 0 ≡ [] → numbers ≡ 0 ∷ [] → Adds old old steps_paths tallies numbers 0
adds_none old paths tallies numbers has root is = record {
  root = has;
  count = ap {B = ℕ} length is;
  each = λ i within. subst (λ (l : List ℕ). (j : ℕ) → j < length l → IsAt old.paths (path_at paths j) (get_or l j 0)) (sym is) first i within;
  sums = λ before pairs so own. subst (AreSums old.paths old.tallies) (sym (append-nil before)) so;
}
  where
    first : (j : ℕ) → let one : List ℕ = 0 ∷ [] in j < length one → IsAt old.paths (path_at paths j) (get_or one j 0)
    first zero within = record { within = has.some; is = has.root ∙ sym root }
    first (suc j) within = absurd (omega (arith, within))

-- a path that has a number still has it
grown : (path : List ℕ) (n : ℕ) (old new other : List (List ℕ)) (p : List ℕ) (m : ℕ) → HasNumber path n old new → other ≡ new → IsAt old p m → IsAt other p m
grown path n old new other p m number same at = subst (λ (ps : List (List ℕ)). IsAt ps p m) (sym same) (by_growth number.grows)
  where
    by_growth : (new ≡ old) ⊎ IsFresh path n old new → IsAt new p m
    by_growth (inl is) = subst (λ (ps : List (List ℕ)). IsAt ps p m) (sym is) at
    by_growth (inr fresh) =
        subst (λ (ps : List (List ℕ)). IsAt ps p m) (sym fresh.more) (record {
          within = omega (arith, at.within, length-append old (path ∷ []));
          is = get_or-append old (path ∷ []) [] m at.within ∙ at.is;
        })

-- the path without its last function has a lower number
pub parent_low : (steps : List Step) (paths : List (List ℕ)) (k : ℕ) (step : Step) → Climb steps paths → IsNumberOf steps step (k + 1) → step.parent ≤ k
parent_low steps paths k step climb own =
    let here : (get_or steps k step).parent ≤ k = climb.lower k step (omega (arith, own.within)) in
    let is : get_or steps k step ≡ step = ap (λ (n : ℕ). get_or steps n step) (let e : k ≡ k + 1 - 1 = omega arith in e) ∙ own.is step in
    subst (λ (s : Step). s.parent ≤ k) is here

-- the number of the path without its last function
pub parent_number : (old now : Summed) (steps : List Step) (paths : List (List ℕ)) (tallies : List Tally) (numbers : List ℕ) (k : ℕ) (step : Step) → Climb steps paths
    → Adds old now paths tallies numbers k → IsNumberOf steps step (k + 1) → IsAt now.paths (path_at paths step.parent) (get_or numbers step.parent 0)
parent_number old now steps paths tallies numbers k step climb adds own =
    let low = parent_low steps paths k step climb own in
    adds.each step.parent (omega (arith, low, adds.count))

-- the path of the next node
next_path : (steps : List Step) (paths : List (List ℕ)) (k : ℕ) (step : Step) → Climb steps paths → IsNumberOf steps step (k + 1) → path_at paths (k + 1) ≡ path_by paths step
next_path steps paths k step climb own =
    let is : get_or steps k step ≡ step = ap (λ (n : ℕ). get_or steps n step) (let e : k ≡ k + 1 - 1 = omega arith in e) ∙ own.is step in
    climb.is k step (omega (arith, own.within)) ∙ ap (path_by paths) is

pub adds_more : (old now mid new : Summed) (steps : List Step) (paths : List (List ℕ)) (tallies : List Tally) (numbers numbers' : List ℕ) (k n parent : ℕ) (step : Step) (d : Tally)
    → Climb steps paths → length tallies ≡ length steps → Adds old now paths tallies numbers k → IsNumberOf steps step (k + 1) → parent ≡ get_or numbers step.parent 0
    → HasNumber (path_at now.paths parent ++ step.func ∷ []) n now.paths mid.paths
    → ((pairs : List Timed) → AreSums now.paths now.tallies pairs → AreSums mid.paths mid.tallies pairs)
    → new.paths ≡ mid.paths
    → ((pairs more : List Timed) → AreSums mid.paths mid.tallies pairs → AreOfPath (path_at mid.paths n) (get_or tallies k d) more → AreSums new.paths new.tallies (pairs ++ more))
    → numbers' ≡ numbers ++ n ∷ [] → Adds old new paths tallies numbers' (k + 1)
adds_more old now mid new steps paths tallies numbers numbers' k n parent step d climb level adds own parent_is number kept same added longer =
    subst (λ (l : List ℕ). Adds old new paths tallies l (k + 1)) (sym longer) (record {
      root = record { some = rooted.within; root = rooted.is };
      count = omega (arith, adds.count, length-append numbers (n ∷ []));
      each = λ i within. below_more (λ m. IsAt new.paths (path_at paths m) (get_or (numbers ++ n ∷ []) m 0)) (length numbers)
          (λ m low. subst (IsAt new.paths (path_at paths m)) (sym (get_or-append numbers (n ∷ []) 0 m low))
          (grown (path_at now.paths parent ++ step.func ∷ []) n now.paths mid.paths new.paths (path_at paths m) (get_or numbers m 0) number same (adds.each m low)))
          (subst (IsAt new.paths (path_at paths (length numbers))) (sym (get_or-append_seam numbers n [] 0)) last) i (omega (arith, within, length-append numbers (n ∷ [])));
      sums = λ before pairs so mine. sum before pairs so mine;
    })
  where
    rooted : IsAt new.paths [] 0
    rooted =
        grown (path_at now.paths parent ++ step.func ∷ []) n now.paths mid.paths new.paths [] 0 number same
        (record { within = adds.root.some; is = adds.root.root })

    front : path_at now.paths parent ≡ path_at paths step.parent
    front = ap (path_at now.paths) parent_is ∙ (parent_number old now steps paths tallies numbers k step climb adds own).is

    named : path_at mid.paths n ≡ path_at paths (k + 1)
    named = number.is ∙ (ap (λ (p : List ℕ). p ++ step.func ∷ []) front ∙ sym (next_path steps paths k step climb own))

    last : IsAt new.paths (path_at paths (length numbers)) n
    last =
        subst (λ (ps : List (List ℕ)). IsAt ps (path_at paths (length numbers)) n) (sym same)
        (record { within = number.within; is = named ∙ ap (path_at paths) (sym adds.count) })

    sum : (before pairs : List Timed) → AreSums old.paths old.tallies before → (mine : AreTallies paths tallies pairs)
        → AreSums new.paths new.tallies (before ++ grouped pairs (take (k + 1) mine.opened))
    sum before pairs so mine =
        let low : k < length mine.opened =
        omega (arith, ap {B = ℕ} length mine.tallies_are, length-map mine.opened (tally_of pairs), level, own.within) in
        let opened_at : path_at paths (k + 1) ≡ path_at mine.opened k =
        ap (λ (ps : List (List ℕ)). path_at ps (k + 1)) mine.paths_are ∙ ap (path_at ([] ∷ mine.opened)) (let e : k + 1 ≡ suc k = omega arith in e) in
        let path_is : path_at mid.paths n ≡ path_at mine.opened k = named ∙ opened_at in
        let tally : get_or tallies k d ≡ tally_of pairs (path_at mine.opened k) =
        ap (λ (ts : List Tally). get_or ts k d) mine.tallies_are ∙ get_or-map (tally_of pairs) mine.opened k [] d low in
        let one : AreOfPath (path_at mid.paths n) (get_or tallies k d) (pairs_with pairs (path_at mine.opened k)) =
        subst (λ (p : List ℕ). AreOfPath p (get_or tallies k d) (pairs_with pairs (path_at mine.opened k))) (sym path_is)
        (subst (λ (t : Tally). AreOfPath (path_at mine.opened k) t (pairs_with pairs (path_at mine.opened k))) (sym tally) (are_of_path (path_at mine.opened k) pairs)) in
        let done = added (before ++ grouped pairs (take k mine.opened)) (pairs_with pairs (path_at mine.opened k)) (kept (before ++ grouped pairs (take k mine.opened)) (adds.sums before pairs so mine)) one in
        subst (AreSums new.paths new.tallies)
        (append_assoc before (grouped pairs (take k mine.opened)) (pairs_with pairs (path_at mine.opened k))
        ∙ ap (λ (ps : List Timed). before ++ ps) (sym (grouped_more pairs mine.opened k low))) done

-- all tallies were added
pub adds_all : (old now : Summed) (steps : List Step) (paths : List (List ℕ)) (tallies : List Tally) (numbers : List ℕ) (k : ℕ) → Climb steps paths → length tallies ≡ length steps
    → k ≡ length tallies → Adds old now paths tallies numbers k → (before pairs : List Timed) → AreSums old.paths old.tallies before → AreTallies paths tallies pairs
    → AreSums now.paths now.tallies (before ++ pairs)
adds_all old now steps paths tallies numbers k climb level all adds before pairs so mine =
    sums_of_all now.paths now.tallies before pairs mine.opened apart mine.numbered to
    (subst (λ (ps : List (List ℕ)). AreSums now.paths now.tallies (before ++ grouped pairs ps)) whole (adds.sums before pairs so mine))
  where
    size : length mine.opened ≡ k
    size = omega (arith, ap {B = ℕ} length mine.tallies_are, length-map mine.opened (tally_of pairs), all)

    whole : take k mine.opened ≡ mine.opened
    whole = ap (λ (n : ℕ). take n mine.opened) (sym size) ∙ take-length mine.opened

    known_apart : AreApart ([] ∷ mine.opened)
    known_apart = subst AreApart mine.paths_are climb.apart

    apart : AreApart mine.opened
    apart = record {
      apart = λ n m low high same. let e : suc n ≡ suc m = known_apart.apart (suc n) (suc m) (omega (arith, low)) (omega (arith, high)) same in omega (arith, e);
    }

    to : (i : ℕ) → i < length mine.opened → Has now.paths (path_at mine.opened i)
    to i low =
        let at = adds.each (suc i) (omega (arith, low, size, adds.count)) in
        (get_or numbers (suc i) 0, at.within, at.is ∙ ap (λ (ps : List (List ℕ)). path_at ps (suc i)) mine.paths_are)
