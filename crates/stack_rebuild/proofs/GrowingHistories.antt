-- Histories of blocks, and the pairs that they make, after one more block or event.
use Rattle.std.proofs.Common.{◌≡◌, ◌++◌, ◌∙◌, ℕ, Bool, true, false, cond, List, [], ◌∷◌, map, reverse, refl, ap, sym, subst, nat_eq, append_assoc, inl, inr}
use Rattle.std.specs.Prelude.{filter}
use Rattle.std.specs.Option.{option_to_list}
use Rattle.std.proofs.lemmas.Bool.{eq-eqb, ne_eqb}
use Rattle.std.proofs.lemmas.List.{append-nil, map-append, reverse-append}
use Rattle.std.proofs.lemmas.List.Concat.{flat_map-append}
use Rattle.fdr_record.specs.declared.event.Event.{Event}
use Rattle.fdr_file.specs.declared.trace.Block.{Block}
use Rattle.fdr_file.specs.Scanning.{longer_block}
use Rattle.fdr_file.specs.ThreadEvents.{ThreadEvent, block_events, thread_events}
use Rattle.stack_rebuild.specs.declared.call.Pair.{Pair}
use Rattle.stack_rebuild.specs.Calls.{pairs_in}
use Rattle.stack_rebuild.specs.Histories.{ThreadPair, events_of_thread, history_of, history_of_thread, pair_after, pairs_after, pairs_of_blocks, thread_event, thread_pair}
use Rattle.stack_rebuild.specs.Stacks.{Timed, all_timed, timed}
use Rattle.stack_rebuild.specs.private.Folding.{timed_after}
use Rattle.stack_rebuild.specs.private.Scanning.{timed_now}
use Rattle.stack_rebuild.proofs.Items.{IsIn, in-map}
use Rattle.stack_rebuild.proofs.SpentTimes.{timed_still}
use Rattle.stack_rebuild.proofs.Views.{of_thread-blocks, of_thread-pairs}
use Rattle.std.proofs.lemmas.List.{reverse-reverse}

-- ---- histories

last_events : (blocks : List Block) (last : Block) → thread_events (blocks ++ last ∷ []) ≡ thread_events blocks ++ block_events last
last_events blocks last =
    flat_map-append block_events blocks (last ∷ []) ∙ ap (λ (es : List ThreadEvent). thread_events blocks ++ es) (append-nil (block_events last))

-- a block without events
pub history_same : (blocks : List Block) (last : Block) → last.events ≡ [] → history_of (blocks ++ last ∷ []) ≡ history_of blocks
history_same blocks last none =
    ap reverse (last_events blocks last
    ∙ ap (λ (es : List Event). thread_events blocks ++ map (thread_event last.thread last.pid) es) none ∙ append-nil (thread_events blocks))

-- one more event of the last block
pub history_more : (blocks : List Block) (last : Block) (e : Event)
    → history_of (blocks ++ longer_block last e ∷ []) ≡ thread_event last.thread last.pid e ∷ history_of (blocks ++ last ∷ [])
history_more blocks last e =
    let said = thread_event last.thread last.pid in
    let more : thread_events (blocks ++ longer_block last e ∷ []) ≡ thread_events (blocks ++ last ∷ []) ++ said e ∷ [] =
    last_events blocks (longer_block last e)
    ∙ ap (λ (es : List ThreadEvent). thread_events blocks ++ es) (map-append said last.events (e ∷ []))
    ∙ sym (append_assoc (thread_events blocks) (block_events last) (said e ∷ []))
    ∙ ap (λ (es : List ThreadEvent). es ++ said e ∷ []) (sym (last_events blocks last)) in
    ap reverse more ∙ reverse-append (thread_events (blocks ++ last ∷ [])) (said e ∷ [])

-- two lists of blocks that are the same end with the same block
pub same_last : (first others : List Block) (last other : Block) → first ++ last ∷ [] ≡ others ++ other ∷ [] → last ≡ other
same_last first others last other same =
    let turned : last ∷ reverse first ≡ other ∷ reverse others = sym (reverse-append first (last ∷ [])) ∙ ap reverse same ∙ reverse-append others (other ∷ []) in cc

-- ---- one more event of a thread

pub own_more : (thread pid : ℕ) (e : Event) (history : List ThreadEvent)
    → history_of_thread thread (thread_event thread pid e ∷ history) ≡ e ∷ history_of_thread thread history
own_more thread pid e history =
    ap (λ b. cond b (e ∷ history_of_thread thread history) (history_of_thread thread history)) (eq-eqb thread thread refl)

pub other_same : (thread pid other : ℕ) (e : Event) (history : List ThreadEvent) → (thread ≡ other → ⊥)
    → history_of_thread other (thread_event thread pid e ∷ history) ≡ history_of_thread other history
other_same thread pid other e history apart =
    ap (λ b. cond b (e ∷ history_of_thread other history) (history_of_thread other history)) (ne_eqb thread other apart)

-- ---- its pairs

in_filter : (test : ThreadPair → Bool) (xs : List ThreadPair) (x : ThreadPair) → IsIn x xs → test x ≡ true → IsIn x (filter test xs)
in_filter test [] x is passes = absurd is
in_filter test (y ∷ ys) x (inl is) passes =
    subst (λ b. IsIn x (cond b (y ∷ filter test ys) (filter test ys))) (sym (ap test (sym is) ∙ passes)) (inl is)
in_filter test (y ∷ ys) x (inr there) passes = by_first (test y) (in_filter test ys x there passes)
  where
    by_first : (b : Bool) → IsIn x (filter test ys) → IsIn x (cond b (y ∷ filter test ys) (filter test ys))
    by_first true later = inr later
    by_first false later = later

pair_in : (h : List ThreadEvent) (made : ThreadPair) → IsIn made (pairs_after h) → IsIn made.pair (pairs_in (history_of_thread made.thread h))
pair_in h made is =
    subst (IsIn made.pair) (of_thread-pairs made.thread h)
    (in-map (λ (m : ThreadPair). m.pair) (filter (λ (m : ThreadPair). nat_eq m.thread made.thread) (pairs_after h)) made
    (in_filter (λ (m : ThreadPair). nat_eq m.thread made.thread) (pairs_after h) made is (eq-eqb made.thread made.thread refl)))

same_at : (f g : Pair → Timed) (pairs : List Pair) (pair : Pair) → map f pairs ≡ map g pairs → IsIn pair pairs → f pair ≡ g pair
same_at f g [] pair same is = absurd is
same_at f g (p ∷ pairs) pair same (inl is) = let first : f p ≡ g p = cc in ap f is ∙ first ∙ ap g (sym is)
same_at f g (p ∷ pairs) pair same (inr there) = let rest : map f pairs ≡ map g pairs = cc in same_at f g pairs pair rest there

map_same : (f g : ThreadPair → Timed) (xs : List ThreadPair) → ((x : ThreadPair) → IsIn x xs → f x ≡ g x) → map f xs ≡ map g xs
map_same f g [] same = refl
map_same f g (x ∷ xs) same =
    ap (λ (t : Timed). t ∷ map f xs) (same x (inl refl)) ∙ ap (λ (ts : List Timed). g x ∷ ts) (map_same f g xs (λ y is. same y (inr is)))

of_threads : (f : ThreadPair → Timed) (thread : ℕ) (pairs : List Pair) → map f (map (thread_pair thread) pairs) ≡ map (λ (p : Pair). f (thread_pair thread p)) pairs
of_threads f thread [] = refl
of_threads f thread (p ∷ pairs) = ap (λ (ts : List Timed). f (thread_pair thread p) ∷ ts) (of_threads f thread pairs)

abbrev timed_made : List ThreadEvent → ThreadPair → Timed
timed_made h made = timed (reverse (history_of_thread made.thread h)) made.pair

-- a pair that was made before is as it was
made_still : (e : ThreadEvent) (h : List ThreadEvent) (made : ThreadPair) → IsIn made (pairs_after h) → timed_made (e ∷ h) made ≡ timed_made h made
made_still e h made is = by_thread (nat_eq e.thread made.thread)
  where
    own : List Event
    own = history_of_thread made.thread h

    by_thread : (b : Bool) → timed (reverse (cond b (e.event ∷ own) own)) made.pair ≡ timed (reverse own) made.pair
    by_thread true =
        same_at (timed (reverse (e.event ∷ own))) (timed (reverse own)) (pairs_in own) made.pair (timed_still e.event own) (pair_in h made is)
    by_thread false = refl

-- the pairs after one more event
pub timed_more : (thread pid : ℕ) (e : Event) (h : List ThreadEvent)
    → timed_after (thread_event thread pid e ∷ h) ≡ timed_after h ++ timed_now e (history_of_thread thread h)
timed_more thread pid e h =
    let said = thread_event thread pid e in
    let own = history_of_thread thread h in
    let f = timed_made (said ∷ h) in
    let new = option_to_list (pair_after said h) in
    map-append f (pairs_after h) (map (thread_pair thread) new)
    ∙ ap (λ (ts : List Timed). ts ++ map f (map (thread_pair thread) new)) (map_same f (timed_made h) (pairs_after h) (made_still said h))
    ∙ ap (λ (ts : List Timed). timed_after h ++ ts)
    (of_threads f thread new ∙ ap (λ (es : List Event). map (timed (reverse es)) new) (own_more thread pid e h))

-- the pairs of blocks
pub timed_blocks : (blocks : List Block) → all_timed blocks ≡ timed_after (history_of blocks)
timed_blocks blocks =
    map_same (λ (made : ThreadPair). timed (events_of_thread made.thread blocks) made.pair) (timed_made (history_of blocks)) (pairs_of_blocks blocks)
    (λ made is. ap (λ (es : List Event). timed es made.pair)
    (sym (reverse-reverse (events_of_thread made.thread blocks)) ∙ ap reverse (sym (of_thread-blocks made.thread blocks))))
