-- The pairs of blocks, thread by thread.
use Rattle.std.proofs.Common.{◌≡◌, ◌++◌, ◌∙◌, ℕ, Bool, true, false, cond, List, [], ◌∷◌, length, map, reverse, refl, ap, sym, nat_eq, Option}
use Rattle.std.specs.Prelude.{filter}
use Rattle.std.specs.Option.{option_to_list}
use Rattle.std.proofs.lemmas.Bool.{eqb-true}
use Rattle.std.proofs.lemmas.List.{append-nil, map-append, reverse-append}
use Rattle.std.proofs.lemmas.List.Elements.{filter-append}
use Rattle.fdr_record.specs.declared.event.Event.{Event}
use Rattle.fdr_file.specs.declared.trace.Block.{Block}
use Rattle.fdr_file.specs.ThreadEvents.{ThreadEvent, thread_events, block_events}
use Rattle.stack_rebuild.specs.declared.call.Pair.{Pair}
use Rattle.stack_rebuild.specs.Calls.{open_calls, pair_at, pairs_in, pairs_of}
use Rattle.stack_rebuild.specs.Histories.{ThreadPair, events_of_thread, history_of, history_of_thread, pair_after, pairs_after, pairs_of_blocks, pairs_of_thread, thread_event, thread_pair}

-- ---- the part of a history that belongs to a thread

pub of_thread-append : (thread : ℕ) (h before : List ThreadEvent)
    → history_of_thread thread (h ++ before) ≡ history_of_thread thread h ++ history_of_thread thread before
of_thread-append thread [] before = refl
of_thread-append thread (e ∷ h) before = by_thread (nat_eq e.thread thread) (of_thread-append thread h before)
  where
    by_thread : (b : Bool) → history_of_thread thread (h ++ before) ≡ history_of_thread thread h ++ history_of_thread thread before
        → cond b (e.event ∷ history_of_thread thread (h ++ before)) (history_of_thread thread (h ++ before))
        ≡ cond b (e.event ∷ history_of_thread thread h) (history_of_thread thread h) ++ history_of_thread thread before
    by_thread true following = ap (λ (es : List Event). e.event ∷ es) following
    by_thread false following = following

-- the events of a block are all of one thread
pub of_block : (other thread pid : ℕ) (events : List Event)
    → history_of_thread other (reverse (map (thread_event thread pid) events)) ≡ cond (nat_eq thread other) (reverse events) []
of_block other thread pid [] = by_thread (nat_eq thread other)
  where
    by_thread : (b : Bool) → (let none : List Event = [] in none) ≡ cond b [] []
    by_thread true = refl
    by_thread false = refl
of_block other thread pid (e ∷ events) =
    ap (history_of_thread other) (reverse-append (thread_event thread pid e ∷ []) (map (thread_event thread pid) events))
    ∙ (of_thread-append other (reverse (map (thread_event thread pid) events)) (thread_event thread pid e ∷ [])
    ∙ (ap (λ (es : List Event). es ++ history_of_thread other (thread_event thread pid e ∷ [])) (of_block other thread pid events)
    ∙ by_thread (nat_eq thread other)))
  where
    by_thread : (b : Bool) → cond b (reverse events) [] ++ cond b (e ∷ []) [] ≡ cond b (reverse (e ∷ events)) []
    by_thread true = sym (reverse-append (e ∷ []) events)
    by_thread false = refl

-- a thread's part of the history of blocks is that of its own blocks
pub of_thread-blocks : (thread : ℕ) (blocks : List Block) → history_of_thread thread (history_of blocks) ≡ reverse (events_of_thread thread blocks)
of_thread-blocks thread [] = refl
of_thread-blocks thread (block ∷ later) =
    ap (history_of_thread thread) (reverse-append (block_events block) (thread_events later))
    ∙ (of_thread-append thread (history_of later) (reverse (block_events block))
    ∙ (ap (λ (es : List Event). es ++ history_of_thread thread (reverse (block_events block))) (of_thread-blocks thread later)
    ∙ (ap (λ (es : List Event). reverse (events_of_thread thread later) ++ es) (of_block thread block.thread block.pid block.events)
    ∙ by_thread (nat_eq block.thread thread))))
  where
    by_thread : (b : Bool) → reverse (events_of_thread thread later) ++ cond b (reverse block.events) []
        ≡ reverse (cond b (block.events ++ events_of_thread thread later) (events_of_thread thread later))
    by_thread true = sym (reverse-append block.events (events_of_thread thread later))
    by_thread false = append-nil (reverse (events_of_thread thread later))

-- ---- the pairs of a thread

of_thread_pairs-append : (thread : ℕ) (made more : List ThreadPair) → pairs_of_thread thread (made ++ more) ≡ pairs_of_thread thread made ++ pairs_of_thread thread more
of_thread_pairs-append thread made more =
    let test : ThreadPair → Bool = λ m. nat_eq m.thread thread in
    let pair : ThreadPair → Pair = λ m. m.pair in
    ap (map pair) (filter-append test made more) ∙ map-append pair (filter test made) (filter test more)

own_pair : (other thread : ℕ) (pair : Option Pair)
    → pairs_of_thread other (map (thread_pair thread) (option_to_list pair)) ≡ cond (nat_eq thread other) (option_to_list pair) []
own_pair other thread pair = each (option_to_list pair)
  where
    each : (pairs : List Pair) → pairs_of_thread other (map (thread_pair thread) pairs) ≡ cond (nat_eq thread other) pairs []
    each [] = by_thread (nat_eq thread other)
      where
        by_thread : (b : Bool) → (let none : List Pair = [] in none) ≡ cond b [] []
        by_thread true = refl
        by_thread false = refl
    each (p ∷ pairs) = by_thread (nat_eq thread other) (each pairs)
      where
        by_thread : (b : Bool) → pairs_of_thread other (map (thread_pair thread) pairs) ≡ cond b pairs []
            → map (λ (m : ThreadPair). m.pair) (cond b (thread_pair thread p ∷ filter (λ m. nat_eq m.thread other) (map (thread_pair thread) pairs)) (filter (λ m. nat_eq m.thread other) (map (thread_pair thread) pairs)))
            ≡ cond b (p ∷ pairs) []
        by_thread true following = ap (λ (ps : List Pair). p ∷ ps) following
        by_thread false following = following

-- the pairs of a thread are those of its own events
pub of_thread-pairs : (thread : ℕ) (h : List ThreadEvent) → pairs_of_thread thread (pairs_after h) ≡ pairs_in (history_of_thread thread h)
of_thread-pairs thread [] = refl
of_thread-pairs thread (e ∷ h) =
    of_thread_pairs-append thread (pairs_after h) (map (thread_pair e.thread) (option_to_list (pair_after e h)))
    ∙ (ap (λ (ps : List Pair). ps ++ pairs_of_thread thread (map (thread_pair e.thread) (option_to_list (pair_after e h)))) (of_thread-pairs thread h)
    ∙ (ap (λ (ps : List Pair). pairs_in (history_of_thread thread h) ++ ps) (own_pair thread e.thread (pair_after e h))
    ∙ by_thread (nat_eq e.thread thread) refl))
  where
    by_thread : (b : Bool) → nat_eq e.thread thread ≡ b → pairs_in (history_of_thread thread h) ++ cond b (option_to_list (pair_after e h)) []
        ≡ pairs_in (cond b (e.event ∷ history_of_thread thread h) (history_of_thread thread h))
    by_thread true is =
        ap (λ (t : ℕ). pairs_in (history_of_thread thread h)
        ++ option_to_list (pair_at e.event (length (history_of_thread t h)) (open_calls (history_of_thread t h)))) (eqb-true e.thread thread is)
    by_thread false is = append-nil (pairs_in (history_of_thread thread h))

pub thread_makes : (thread : ℕ) (blocks : List Block) → pairs_of_thread thread (pairs_of_blocks blocks) ≡ pairs_of (events_of_thread thread blocks)
thread_makes thread blocks = of_thread-pairs thread (history_of blocks) ∙ ap pairs_in (of_thread-blocks thread blocks)
