-- The paths that entries opened, after one more event.
use Rattle.std.proofs.Common.{◌≡◌, ◌+◌, ◌++◌, ◌&&◌, ◌||◌, ◌<◌, ◌≤◌, ◌∙◌, ℕ, zero, suc, Bool, true, false, cond, not, List, [], ◌∷◌, length, map, filter, reverse, refl, ap, sym, arith, length-append}
use Rattle.std.specs.List.{range_with_len}
use Rattle.std.proofs.Math.Seq.{get_or-append_seam, take-length}
use Rattle.std.proofs.lemmas.List.{append-nil, map-append}
use Rattle.std.proofs.lemmas.List.Elements.{filter-append}
use Rattle.std.proofs.lemmas.List.Folds.{list_any-append}
use Rattle.std.specs.Ordering.{is_eq}
use Rattle.fdr_record.specs.declared.event.Event.{Event}
use Rattle.stack_rebuild.specs.declared.call.Call.{Call}
use Rattle.stack_rebuild.specs.Calls.{enters, open_calls}
use Rattle.stack_rebuild.specs.PairLaws.{event_at, no_event}
use Rattle.stack_rebuild.specs.Stacks.{open_before, path_cmp, path_of}
use Rattle.stack_rebuild.specs.Weights.{entry_path}
use Rattle.stack_rebuild.proofs.NestedCalls.{open_kept}
use Rattle.stack_rebuild.proofs.Orders.{range_more}
use Rattle.stack_rebuild.proofs.PairFacts.{event_kept}
use Rattle.call_trie.specs.Tries.{is_among_paths, enters_at, opens_first, paths_before, paths_opened}
use Rattle.call_trie.proofs.AmongPaths.{same_path_from, with_path}

-- ---- one position more

one_kept : (test : ℕ → Bool) (path : ℕ → List ℕ) (n : ℕ) → map path (filter test (n ∷ [])) ≡ cond (test n) (path n ∷ []) []
one_kept test path n = by_test (test n)
  where
    by_test : (b : Bool) → map path (cond b (n ∷ []) []) ≡ cond b (path n ∷ []) []
    by_test true = refl
    by_test false = refl

range_kept : (test : ℕ → Bool) (path : ℕ → List ℕ) (n : ℕ)
    → map path (filter test (range_with_len 0 (suc n))) ≡ map path (filter test (range_with_len 0 n)) ++ cond (test n) (path n ∷ []) []
range_kept test path n =
    ap (λ (ks : List ℕ). map path (filter test ks)) (range_more 0 n n (omega arith))
    ∙ (ap (map path) (filter-append test (range_with_len 0 n) (n ∷ []))
    ∙ (map-append path (filter test (range_with_len 0 n)) (filter test (n ∷ []))
    ∙ ap (λ (ps : List (List ℕ)). map path (filter test (range_with_len 0 n)) ++ ps) (one_kept test path n)))

-- the same positions, with the same paths
range_alike : (test test' : ℕ → Bool) (path path' : ℕ → List ℕ) (a n : ℕ) → ((k : ℕ) → k < a + n → test k ≡ test' k) → ((k : ℕ) → k < a + n → path k ≡ path' k)
    → map path (filter test (range_with_len a n)) ≡ map path' (filter test' (range_with_len a n))
range_alike test test' path path' a zero tests paths = refl
range_alike test test' path path' a (suc n) tests paths =
    ap (λ b. map path (cond b (a ∷ filter test (range_with_len (a + 1) n)) (filter test (range_with_len (a + 1) n)))) (tests a (omega arith))
    ∙ by_test (test' a) (range_alike test test' path path' (a + 1) n (λ k low. tests k (omega (arith, low))) (λ k low. paths k (omega (arith, low))))
  where
    by_test : (b : Bool) → map path (filter test (range_with_len (a + 1) n)) ≡ map path' (filter test' (range_with_len (a + 1) n))
        → map path (cond b (a ∷ filter test (range_with_len (a + 1) n)) (filter test (range_with_len (a + 1) n)))
        ≡ map path' (cond b (a ∷ filter test' (range_with_len (a + 1) n)) (filter test' (range_with_len (a + 1) n)))
    by_test true rest =
        ap (λ (p : List ℕ). p ∷ map path (filter test (range_with_len (a + 1) n))) (paths a (omega arith))
        ∙ ap (λ (ps : List (List ℕ)). path' a ∷ ps) rest
    by_test false rest = rest

-- ---- each path once

-- the paths that were first opened before a position
abbrev firsts : List Event → ℕ → List (List ℕ)
firsts events end = map (entry_path events) (filter (opens_first events) (range_with_len 0 end))

among_append : (paths more : List (List ℕ)) (path : List ℕ) → is_among_paths (paths ++ more) path ≡ (is_among_paths paths path || is_among_paths more path)
among_append paths more path = list_any-append (λ (other : List ℕ). is_eq (path_cmp other path)) paths more

-- a path is among them exactly if it was opened
same_among : (events : List Event) (n : ℕ) (path : List ℕ) → is_among_paths (paths_before events n) path ≡ is_among_paths (firsts events n) path
same_among events zero path = refl
same_among events (suc n) path =
    ap (λ (ps : List (List ℕ)). is_among_paths ps path) (range_kept (enters_at events) (entry_path events) n)
    ∙ (among_append (paths_before events n) (cond (enters_at events n) (own ∷ []) []) path
    ∙ (by_tests (enters_at events n) (is_among_paths (paths_before events n) own) refl (same_among events n path)
    ∙ (sym (among_append (firsts events n) (cond (opens_first events n) (own ∷ []) []) path)
    ∙ ap (λ (ps : List (List ℕ)). is_among_paths ps path) (sym (range_kept (opens_first events) (entry_path events) n)))))
  where
    own : List ℕ
    own = entry_path events n

    by_tests : (a b : Bool) → is_among_paths (paths_before events n) own ≡ b → is_among_paths (paths_before events n) path ≡ is_among_paths (firsts events n) path
        → (is_among_paths (paths_before events n) path || is_among_paths (cond a (own ∷ []) []) path) ≡ (is_among_paths (firsts events n) path || is_among_paths (cond (a && not b) (own ∷ []) []) path)
    by_tests false b there again = ap (λ (x : Bool). x || false) again
    by_tests true false there again = ap (λ (x : Bool). x || is_among_paths (own ∷ []) path) again
    by_tests true true there again = by_path (is_eq (path_cmp own path)) refl
      where
        by_path : (s : Bool) → is_eq (path_cmp own path) ≡ s → (is_among_paths (paths_before events n) path || (s || false)) ≡ (is_among_paths (firsts events n) path || false)
        by_path false other = ap (λ (x : Bool). x || false) again
        by_path true same =
            let known : is_among_paths (paths_before events n) path ≡ true = ap (is_among_paths (paths_before events n)) (sym (same_path_from path own same)) ∙ there in
            ap (λ (x : Bool). x || true) known ∙ sym (ap (λ (x : Bool). x || false) (sym again ∙ known))

-- ---- one more event

kind_kept : (events : List Event) (e : Event) (at : ℕ) → at < length events → enters_at (events ++ e ∷ []) at ≡ enters_at events at
kind_kept events e at low = ap (λ (x : Event). enters x.kind) (event_kept events e at low)

entry_kept : (events : List Event) (e : Event) (at : ℕ) → at < length events → entry_path (events ++ e ∷ []) at ≡ entry_path events at
entry_kept events e at low =
    ap (λ (calls : List Call). path_of calls ++ (event_at (events ++ e ∷ []) at).func ∷ []) (open_kept events e at (omega (arith, low)))
    ∙ ap (λ (x : Event). path_of (open_before events at) ++ x.func ∷ []) (event_kept events e at low)

before_kept : (events : List Event) (e : Event) (n : ℕ) → n ≤ length events → paths_before (events ++ e ∷ []) n ≡ paths_before events n
before_kept events e n low =
    range_alike (enters_at (events ++ e ∷ [])) (enters_at events) (entry_path (events ++ e ∷ [])) (entry_path events) 0 n
    (λ k less. kind_kept events e k (omega (arith, less, low))) (λ k less. entry_kept events e k (omega (arith, less, low)))

first_kept : (events : List Event) (e : Event) (at : ℕ) → at < length events → opens_first (events ++ e ∷ []) at ≡ opens_first events at
first_kept events e at low =
    ap (λ (b : Bool). b && not (is_among_paths (paths_before (events ++ e ∷ []) at) (entry_path (events ++ e ∷ []) at))) (kind_kept events e at low)
    ∙ (ap (λ (ps : List (List ℕ)). enters_at events at && not (is_among_paths ps (entry_path (events ++ e ∷ []) at))) (before_kept events e at (omega (arith, low)))
    ∙ ap (λ (p : List ℕ). enters_at events at && not (is_among_paths (paths_before events at) p)) (entry_kept events e at low))

-- the path that the last event opens, if it is an entry
abbrev pub newest : List Event → Event → List ℕ
newest events e = path_of (open_calls (reverse events)) ++ e.func ∷ []

last_is : (events : List Event) (e : Event) → event_at (events ++ e ∷ []) (length events) ≡ e
last_is events e = get_or-append_seam events e [] no_event

newest_is : (events : List Event) (e : Event) → entry_path (events ++ e ∷ []) (length events) ≡ newest events e
newest_is events e =
    ap (λ (calls : List Call). path_of calls ++ (event_at (events ++ e ∷ []) (length events)).func ∷ [])
    (open_kept events e (length events) (omega arith) ∙ ap (λ (es : List Event). open_calls (reverse es)) (take-length events))
    ∙ ap (λ (x : Event). path_of (open_calls (reverse events)) ++ x.func ∷ []) (last_is events e)

-- whether the last event opens a path that no other entry opened
newest_first : (events : List Event) (e : Event) → opens_first (events ++ e ∷ []) (length events) ≡ (enters e.kind && not (is_among_paths (paths_opened events) (newest events e)))
newest_first events e =
    ap (λ (x : Event). enters x.kind && not (is_among_paths (paths_before (events ++ e ∷ []) (length events)) (entry_path (events ++ e ∷ []) (length events)))) (last_is events e)
    ∙ (ap (λ (ps : List (List ℕ)). enters e.kind && not (is_among_paths ps (entry_path (events ++ e ∷ []) (length events)))) (before_kept events e (length events) (omega arith))
    ∙ (ap (λ (p : List ℕ). enters e.kind && not (is_among_paths (paths_before events (length events)) p)) (newest_is events e)
    ∙ ap (λ (b : Bool). enters e.kind && not b) (same_among events (length events) (newest events e))))

-- an entry opens its path, unless it was opened before, and other events open none
pub opened_more : (events : List Event) (e : Event) → paths_opened (events ++ e ∷ []) ≡ cond (enters e.kind) (with_path (paths_opened events) (newest events e)) (paths_opened events)
opened_more events e =
    let after = events ++ e ∷ [] in
    let n = length events in
    let long : length after ≡ suc n = let more = length-append events (e ∷ []) in omega (arith, more) in
    ap (λ (k : ℕ). map (entry_path after) (filter (opens_first after) (range_with_len 0 k))) long
    ∙ (range_kept (opens_first after) (entry_path after) n
    ∙ (ap (λ (ps : List (List ℕ)). ps ++ cond (opens_first after n) (entry_path after n ∷ []) [])
    (range_alike (opens_first after) (opens_first events) (entry_path after) (entry_path events) 0 n
    (λ k low. first_kept events e k (omega (arith, low))) (λ k low. entry_kept events e k (omega (arith, low))))
    ∙ (ap (λ (p : List ℕ). paths_opened events ++ cond (opens_first after n) (p ∷ []) []) (newest_is events e)
    ∙ (ap (λ b. paths_opened events ++ cond b (newest events e ∷ []) []) (newest_first events e)
    ∙ by_tests (enters e.kind) (is_among_paths (paths_opened events) (newest events e))))))
  where
    by_tests : (a b : Bool) → paths_opened events ++ cond (a && not b) (newest events e ∷ []) []
        ≡ cond a (cond b (paths_opened events) (paths_opened events ++ newest events e ∷ [])) (paths_opened events)
    by_tests false b = append-nil (paths_opened events)
    by_tests true true = append-nil (paths_opened events)
    by_tests true false = refl
