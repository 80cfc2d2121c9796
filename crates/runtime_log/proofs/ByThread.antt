-- The events of a basic log are the blocks of a trace in one way only.
use Rattle.std.proofs.Common.{◌≡◌, ℕ, ◌<◌, ◌≤◌, Bool, true, false, cond, eqb, ltb, List, [], ◌∷◌, ◌++◌, map, Option, Some, None, refl, sym, ap, subst, ◌∙◌, inl, inr, arith}
use Rattle.std.specs.Prelude.{◌≢◌, ⊤, All}
use Rattle.std.proofs.lemmas.Bool.{eqb-true, eqb-false, ltb-true, ltb-false, ne_eqb}
use Rattle.std.proofs.lemmas.List.Elements.{All-head, All-tail, filter-append}
use Rattle.fdr_record.specs.declared.event.Event.{Event}
use Rattle.fdr_file.specs.declared.trace.Block.{Block}
use Rattle.fdr_file.specs.ThreadEvents.{ThreadEvent, block_events, thread_events}
use Rattle.runtime_log.specs.Threads.{AreByThread, AscendByThread, StandsBehind, recorded_by}
use Rattle.runtime_log.proofs.AddedBlocks.{event_of}

-- ---- the events of a block

pub eqb_same : (n m : ℕ) → n ≡ m → eqb n m ≡ true
eqb_same n m e = by_test (eqb n m) refl
  where
    by_test : (b : Bool) → eqb n m ≡ b → eqb n m ≡ true
    by_test true t = t
    by_test false t = absurd (eqb-false n m t e)

-- those that its thread recorded
pub own_events : (thread pid : ℕ) (events : List Event) → recorded_by thread (map (event_of thread pid) events) ≡ map (event_of thread pid) events
own_events thread pid [] = refl
own_events thread pid (event ∷ events) =
    let rest = recorded_by thread (map (event_of thread pid) events) in
    ap (λ (b : Bool). cond b (event_of thread pid event ∷ rest) rest) (eqb_same thread thread refl)
    ∙ ap (λ (es : List ThreadEvent). event_of thread pid event ∷ es) (own_events thread pid events)

-- those that another thread recorded
pub other_events : (thread own pid : ℕ) (events : List Event) → own ≢ thread → recorded_by thread (map (event_of own pid) events) ≡ []
other_events thread own pid [] other = refl
other_events thread own pid (event ∷ events) other =
    let rest = recorded_by thread (map (event_of own pid) events) in
    ap (λ (b : Bool). cond b (event_of own pid event ∷ rest) rest) (ne_eqb own thread other) ∙ other_events thread own pid events other

-- those of blocks, from the first one on
split_first : (thread : ℕ) (block : Block) (blocks : List Block)
    → recorded_by thread (thread_events (block ∷ blocks)) ≡ recorded_by thread (block_events block) ++ recorded_by thread (thread_events blocks)
split_first thread block blocks = filter-append (λ (e : ThreadEvent). eqb e.thread thread) (block_events block) (thread_events blocks)

split_own : (thread : ℕ) (block : Block) (blocks : List Block) → block.thread ≡ thread
    → recorded_by thread (thread_events (block ∷ blocks)) ≡ map (event_of thread block.pid) block.events ++ recorded_by thread (thread_events blocks)
split_own thread block blocks same =
    split_first thread block blocks
    ∙ ap (λ (t : ℕ). recorded_by thread (map (event_of t block.pid) block.events) ++ recorded_by thread (thread_events blocks)) same
    ∙ ap (λ (es : List ThreadEvent). es ++ recorded_by thread (thread_events blocks)) (own_events thread block.pid block.events)

split_other : (thread : ℕ) (block : Block) (blocks : List Block) → block.thread ≢ thread
    → recorded_by thread (thread_events (block ∷ blocks)) ≡ recorded_by thread (thread_events blocks)
split_other thread block blocks other =
    split_first thread block blocks
    ∙ ap (λ (es : List ThreadEvent). es ++ recorded_by thread (thread_events blocks)) (other_events thread block.thread block.pid block.events other)

-- ---- blocks that ascend

pub ascend_tail : (block : Block) (blocks : List Block) → AscendByThread (block ∷ blocks) → AscendByThread blocks
ascend_tail block [] ascend = tt
ascend_tail block (next ∷ blocks) ascend = ascend.1

pub not_lower : (before block : Block) → StandsBehind before block → before.thread ≤ block.thread
not_lower before block (inl lower) = omega (arith, lower)
not_lower before block (inr same) = omega (arith, same.0)

-- a lower thread recorded none of their events
none_lower : (thread : ℕ) (block : Block) (blocks : List Block) → AscendByThread (block ∷ blocks) → thread < block.thread → recorded_by thread (thread_events (block ∷ blocks)) ≡ []
none_lower thread block [] ascend lower = split_other thread block [] (λ same. omega (arith, same, lower))
none_lower thread block (next ∷ blocks) ascend lower =
    split_other thread block (next ∷ blocks) (λ same. omega (arith, same, lower))
    ∙ none_lower thread next blocks ascend.1 (omega (arith, lower, not_lower block next ascend.0))

abbrev pub IsSome : Block → Type 0
IsSome block = block.events ≢ []

-- the first event, if there is one, isn't of this process
abbrev BeginsOther : ℕ → List ThreadEvent → Type 0
BeginsOther pid [] = ⊤
BeginsOther pid (e ∷ events) = e.pid ≢ pid

-- what a thread recorded after a block of it begins with another process
begins_other : (block : Block) (blocks : List Block) → AscendByThread (block ∷ blocks) → All IsSome blocks → BeginsOther block.pid (recorded_by block.thread (thread_events blocks))
begins_other block [] ascend some = tt
begins_other block (next ∷ blocks) ascend some = by_next ascend.0
  where
    by_events : (events : List Event) → next.events ≡ events → block.thread ≡ next.thread → block.pid ≢ next.pid → BeginsOther block.pid (recorded_by block.thread (thread_events (next ∷ blocks)))
    by_events [] e same other = absurd (All-head IsSome next blocks some e)
    by_events (event ∷ events) e same other =
        subst (BeginsOther block.pid)
        (sym (split_own block.thread next blocks (sym same) ∙ ap (λ (es : List Event). map (event_of block.thread next.pid) es ++ recorded_by block.thread (thread_events blocks)) e))
        (λ p. other (sym p))

    by_next : StandsBehind block next → BeginsOther block.pid (recorded_by block.thread (thread_events (next ∷ blocks)))
    by_next (inl lower) = subst (BeginsOther block.pid) (sym (none_lower block.thread next blocks ascend.1 lower)) tt
    by_next (inr same) = by_events next.events refl same.0 same.1

-- ---- only one way

-- two runs of a process at the beginning of the same events
same_run : (thread pid : ℕ) (xs ys : List Event) (r s : List ThreadEvent) → map (event_of thread pid) xs ++ r ≡ map (event_of thread pid) ys ++ s → BeginsOther pid r → BeginsOther pid s → (xs ≡ ys) × (r ≡ s)
same_run thread pid [] [] r s e ends ends_too = (refl, e)
same_run thread pid [] (y ∷ ys) r s e ends ends_too = absurd (subst (BeginsOther pid) e ends refl)
same_run thread pid (x ∷ xs) [] r s e ends ends_too = absurd (subst (BeginsOther pid) (sym e) ends_too refl)
same_run thread pid (x ∷ xs) (y ∷ ys) r s e ends ends_too =
    let first : event_of thread pid x ≡ event_of thread pid y = cc in
    let rest : map (event_of thread pid) xs ++ r ≡ map (event_of thread pid) ys ++ s = cc in
    let later = same_run thread pid xs ys r s rest ends ends_too in
    (ap (λ (t : ThreadEvent). t.event ∷ xs) first ∙ ap (λ (es : List Event). y ∷ es) later.0, later.1)

-- the process of the first event
abbrev first_process : List ThreadEvent → Option ℕ
first_process [] = None
first_process (e ∷ events) = Some e.pid

process_first : (thread pid : ℕ) (events : List Event) (later : List ThreadEvent) → events ≢ [] → first_process (map (event_of thread pid) events ++ later) ≡ Some pid
process_first thread pid [] later some = absurd (some refl)
process_first thread pid (event ∷ events) later some = refl

-- what each thread recorded is the same
abbrev pub SameEvents : List Block → List Block → Type 0
SameEvents one other = (thread : ℕ) → recorded_by thread (thread_events one) ≡ recorded_by thread (thread_events other)

pub record AreRuns (blocks : List Block) : Type 0 where
  pub ascend : AscendByThread blocks
  pub some : All IsSome blocks
  pub wall : All (λ (b : Block). b.wall ≡ record { secs = 0; micros = 0 }) blocks

runs_tail : (block : Block) (blocks : List Block) → AreRuns (block ∷ blocks) → AreRuns blocks
runs_tail block blocks are = record {
  ascend = ascend_tail block blocks are.ascend;
  some = All-tail IsSome block blocks are.some;
  wall = All-tail (λ (b : Block). b.wall ≡ record { secs = 0; micros = 0 }) block blocks are.wall;
}

-- the thread of a block recorded something
own_some : (block : Block) (blocks : List Block) → AreRuns (block ∷ blocks) → recorded_by block.thread (thread_events (block ∷ blocks)) ≡ [] → ⊥
own_some block blocks are none =
    let first : first_process [] ≡ Some block.pid =
    ap first_process (sym none ∙ split_own block.thread block blocks refl) ∙ process_first block.thread block.pid block.events (recorded_by block.thread (thread_events blocks)) (All-head IsSome block blocks are.some) in
    absurd cc

-- the first thread is not higher
first_not_higher : (b c : Block) (one other : List Block) → AreRuns (b ∷ one) → AreRuns (c ∷ other) → SameEvents (b ∷ one) (c ∷ other) → c.thread ≤ b.thread
first_not_higher b c one other are are_too same = by_test (ltb b.thread c.thread) refl
  where
    by_test : (t : Bool) → ltb b.thread c.thread ≡ t → c.thread ≤ b.thread
    by_test true e = absurd (own_some b one are (same b.thread ∙ none_lower b.thread c other are_too.ascend (ltb-true b.thread c.thread e)))
    by_test false e = ltb-false b.thread c.thread e

pub one_way : (one other : List Block) → AreRuns one → AreRuns other → SameEvents one other → one ≡ other
one_way [] [] are are_too same = refl
one_way [] (c ∷ other) are are_too same = absurd (own_some c other are_too (sym (same c.thread)))
one_way (b ∷ one) [] are are_too same = absurd (own_some b one are (same b.thread))
one_way (b ∷ one) (c ∷ other) are are_too same =
    ap (λ (x : Block). x ∷ one) block ∙ ap (λ (xs : List Block). c ∷ xs) (one_way one other (runs_tail b one are) (runs_tail c other are_too) later)
  where
    thread : b.thread ≡ c.thread
    thread = omega (arith, first_not_higher b c one other are are_too same, first_not_higher c b other one are_too are (λ t. sym (same t)))

    rest : List ThreadEvent
    rest = recorded_by b.thread (thread_events one)

    rest_too : List ThreadEvent
    rest_too = recorded_by b.thread (thread_events other)

    both : map (event_of b.thread b.pid) b.events ++ rest ≡ map (event_of b.thread c.pid) c.events ++ rest_too
    both = sym (split_own b.thread b one refl) ∙ same b.thread ∙ split_own b.thread c other (sym thread)

    pid : b.pid ≡ c.pid
    pid =
        let process : Some b.pid ≡ Some c.pid =
        sym (process_first b.thread b.pid b.events rest (All-head IsSome b one are.some)) ∙ ap first_process both
        ∙ process_first b.thread c.pid c.events rest_too (All-head IsSome c other are_too.some) in
        cc

    ends_too : BeginsOther b.pid rest_too
    ends_too = subst (λ (t : ℕ). BeginsOther b.pid (recorded_by t (thread_events other))) (sym thread)
        (subst (λ (p : ℕ). BeginsOther p (recorded_by c.thread (thread_events other))) (sym pid) (begins_other c other are_too.ascend (All-tail IsSome c other are_too.some)))

    parts : (b.events ≡ c.events) × (rest ≡ rest_too)
    parts = same_run b.thread b.pid b.events c.events rest rest_too (both ∙ ap (λ (p : ℕ). map (event_of b.thread p) c.events ++ rest_too) (sym pid))
        (begins_other b one are.ascend (All-tail IsSome b one are.some)) ends_too

    wall : b.wall ≡ c.wall
    wall = All-head (λ (x : Block). x.wall ≡ record { secs = 0; micros = 0 }) b one are.wall ∙ sym (All-head (λ (x : Block). x.wall ≡ record { secs = 0; micros = 0 }) c other are_too.wall)

    block : b ≡ c
    block = λ i. record { thread = thread i; wall = wall i; pid = pid i; events = parts.0 i }

    later : SameEvents one other
    later t = by_test (eqb b.thread t) refl
      where
        by_test : (own : Bool) → eqb b.thread t ≡ own → recorded_by t (thread_events one) ≡ recorded_by t (thread_events other)
        by_test true e = subst (λ (u : ℕ). recorded_by u (thread_events one) ≡ recorded_by u (thread_events other)) (eqb-true b.thread t e) parts.1
        by_test false e =
            let other_thread : b.thread ≢ t = λ p. absurd_of e (eqb_same b.thread t p) in
            sym (split_other t b one other_thread) ∙ same t ∙ split_other t c other (λ p. other_thread (thread ∙ p))
          where
            absurd_of : eqb b.thread t ≡ false → eqb b.thread t ≡ true → ⊥
            absurd_of p q = absurd cc

pub only_by_thread : (events : List ThreadEvent) (one other : List Block) → AreByThread events one → AreByThread events other → one ≡ other
only_by_thread events one other are are_too =
    one_way one other (record { ascend = are.ascend; some = are.some; wall = are.wall }) (record { ascend = are_too.ascend; some = are_too.some; wall = are_too.wall })
    (λ thread. are.same thread ∙ sym (are_too.same thread))

-- no event is in no block
pub none_by_thread : (blocks : List Block) → AreByThread [] blocks → blocks ≡ []
none_by_thread [] are = refl
none_by_thread (b ∷ blocks) are = absurd (own_some b blocks (record { ascend = are.ascend; some = are.some; wall = are.wall }) (are.same b.thread))
