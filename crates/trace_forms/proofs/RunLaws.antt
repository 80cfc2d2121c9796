-- The runs of events: one more event at the end, and what is true of them.
use Rattle.std.proofs.Common.{◌≡◌, ◌≢◌, ◌∙◌, ◌++◌, ℕ, true, false, cond, List, [], ◌∷◌, map, inl, inr, refl, sym, ap, ap₂, subst, append_assoc}
use Rattle.std.specs.Prelude.{◌==◌, ◌&&◌, ⊤, All}
use Rattle.std.proofs.lemmas.Bool.{and_parts, cases_Bool, eq-eqb, eqb-true, ne_eqb, true≢false}
use Rattle.std.proofs.lemmas.Bool.Decides.{eqb_tells}
use Rattle.std.proofs.lemmas.List.{append-nil}
use Rattle.std.proofs.lemmas.List.Elements.{All-cons, All-head, All-nil, All-tail}
use Rattle.xray_io.specs.declared.wall.Wall.{Wall}
use Rattle.fdr_record.specs.declared.event.Event.{Event}
use Rattle.fdr_file.specs.declared.trace.Block.{Block}
use Rattle.fdr_file.specs.ThreadEvents.{ThreadEvent, block_events, thread_events}
use Rattle.trace_forms.specs.Runs.{AreApart, AreRuns, IsOtherThan, belongs, no_wall, run_before, run_of, run_with, runs}
use Rattle.trace_forms.specs.private.RunBlocks.{last_run}

-- an event with its thread and process
abbrev pub thread_event : ℕ → ℕ → Event → ThreadEvent
thread_event thread pid event = record { thread = thread; pid = pid; event = event }

-- ---- one more event

-- a block with one more event at its end
abbrev pub longer : Block → ThreadEvent → Block
longer block e = record block { events = block.events ++ e.event ∷ [] }

-- blocks after one more event
abbrev pub run_after : List Block → ThreadEvent → List Block
run_after [] e = run_with e ∷ []
run_after (block ∷ []) e = cond (belongs e block) (longer block e ∷ []) (block ∷ run_with e ∷ [])
run_after (block ∷ other ∷ blocks) e = block ∷ run_after (other ∷ blocks) e

-- a block of two events, by either of them
two_events : (f e : ThreadEvent) → f.thread ≡ e.thread → f.pid ≡ e.pid
    → run_of e.thread e.pid (f.event ∷ e.event ∷ []) ≡ run_of f.thread f.pid (f.event ∷ e.event ∷ [])
two_events f e thread pid = ap₂ (λ (t p : ℕ). run_of t p (f.event ∷ e.event ∷ [])) (sym thread) (sym pid)

differs : (a b : ℕ) → a ≢ b → b ≢ a
differs a b ne same = ne (sym same)

-- the first event and the last one may be put in either order
swap_none : (f e : ThreadEvent) → run_before f (run_after [] e) ≡ run_after (run_before f []) e
swap_none f e =
    elim (eqb_tells f.thread e.thread) [
      | inl t ↦ elim (eqb_tells f.pid e.pid) [
        | inl p ↦
            let t' = eq-eqb e.thread f.thread (sym t.1) in
            let p' = eq-eqb e.pid f.pid (sym p.1) in
            rw (t.0, p.0, t', p') (ap (λ (block : Block). block ∷ []) (two_events f e t.1 p.1))
        | inr p ↦
            let t' = eq-eqb e.thread f.thread (sym t.1) in
            let p' = ne_eqb e.pid f.pid (differs f.pid e.pid p.1) in
            rw (t.0, p.0, t', p') refl
      ]
      | inr t ↦
          let t' = ne_eqb e.thread f.thread (differs f.thread e.thread t.1) in
          rw (t.0, t') refl
    ]

swap_one : (f e : ThreadEvent) (block : Block) → run_before f (run_after (block ∷ []) e) ≡ run_after (run_before f (block ∷ [])) e
swap_one f e block =
    elim (cases_Bool (belongs e block)) [
      | inl last ↦ elim (cases_Bool (belongs f block)) [
        | inl first ↦ simp (last, first)
        | inr first ↦ simp (last, first)
      ]
      | inr last ↦ elim (cases_Bool (belongs f block)) [
        | inl first ↦ simp (last, first)
        | inr first ↦ simp (last, first)
      ]
    ]

swap_more : (f e : ThreadEvent) (block other : Block) (blocks : List Block)
    → run_before f (run_after (block ∷ other ∷ blocks) e) ≡ run_after (run_before f (block ∷ other ∷ blocks)) e
swap_more f e block other blocks =
    elim (cases_Bool (belongs f block)) [
      | inl first ↦ simp first
      | inr first ↦ simp first
    ]

swap : (f e : ThreadEvent) (blocks : List Block) → run_before f (run_after blocks e) ≡ run_after (run_before f blocks) e
swap f e [] = swap_none f e
swap f e (block ∷ []) = swap_one f e block
swap f e (block ∷ other ∷ blocks) = swap_more f e block other blocks

pub runs_more : (events : List ThreadEvent) (e : ThreadEvent) → runs (events ++ e ∷ []) ≡ run_after (runs events) e
runs_more [] e = refl
runs_more (f ∷ events) e = ap (run_before f) (runs_more events e) ∙ swap f e (runs events)

-- the last block is what one more event may belong to
after_last : (front : List Block) (last : Block) (e : ThreadEvent)
    → run_after (front ++ last ∷ []) e ≡ front ++ cond (belongs e last) (longer last e ∷ []) (last ∷ run_with e ∷ [])
after_last [] last e = refl
after_last (block ∷ []) last e = refl
after_last (block ∷ other ∷ front) last e = ap (λ (blocks : List Block). block ∷ blocks) (after_last (other ∷ front) last e)

-- one more event of the last block
pub runs_longer : (events : List ThreadEvent) (front : List Block) (thread pid : ℕ) (x : Event) (xs : List Event) (event : Event)
    → front ++ last_run thread pid (x ∷ xs) ≡ runs events
    → front ++ last_run thread pid ((x ∷ xs) ++ event ∷ []) ≡ runs (events ++ thread_event thread pid event ∷ [])
runs_longer events front thread pid x xs event are =
    let e = thread_event thread pid event in
    let last = run_of thread pid (x ∷ xs) in
    let t = eq-eqb thread thread refl in
    let p = eq-eqb pid pid refl in
    let belongs_there : belongs e last ≡ true = rw (t, p) refl in
    sym (runs_more events e ∙ ap (λ (blocks : List Block). run_after blocks e) (sym are) ∙ after_last front last e ∙ rw belongs_there refl)

-- an event that begins a block
pub runs_begin : (events : List ThreadEvent) (front : List Block) (thread pid : ℕ) (x : Event) (xs : List Event) (e : ThreadEvent)
    → front ++ last_run thread pid (x ∷ xs) ≡ runs events → belongs e (run_of thread pid (x ∷ xs)) ≡ false
    → (front ++ last_run thread pid (x ∷ xs)) ++ run_with e ∷ [] ≡ runs (events ++ e ∷ [])
runs_begin events front thread pid x xs e are other =
    let last = run_of thread pid (x ∷ xs) in
    append_assoc front (last ∷ []) (run_with e ∷ [])
    ∙ sym (runs_more events e ∙ ap (λ (blocks : List Block). run_after blocks e) (sym are) ∙ after_last front last e ∙ rw other refl)

-- ---- what is true of runs

-- one more event before blocks
before_events : (e : ThreadEvent) (blocks : List Block) → thread_events (run_before e blocks) ≡ e ∷ thread_events blocks
before_events e [] = refl
before_events e (block ∷ blocks) =
    elim (eqb_tells e.thread block.thread) [
      | inl t ↦ elim (eqb_tells e.pid block.pid) [
        | inl p ↦
            rw (t.0, p.0) (ap₂ (λ (thread pid : ℕ). thread_event thread pid e.event ∷ (block_events block ++ thread_events blocks)) (sym t.1) (sym p.1))
        | inr p ↦ rw (t.0, p.0) refl
      ]
      | inr t ↦ rw t.0 refl
    ]

runs_events : (events : List ThreadEvent) → thread_events (runs events) ≡ events
runs_events [] = refl
runs_events (e ∷ events) = before_events e (runs events) ∙ ap (λ (es : List ThreadEvent). e ∷ es) (runs_events events)

-- a block of a run: it has an event, and its wall time is 0
pub record IsRun (block : Block) : Type 0 where
  pub some : block.events ≢ []
  pub wall : block.wall ≡ no_wall

-- blocks that are runs, and that are apart
abbrev AreKept : List Block → Type 0
AreKept [] = ⊤
AreKept (block ∷ blocks) = IsRun block × IsOtherThan block blocks × AreKept blocks

some_events : (event : Event) (events : List Event) → event ∷ events ≢ []
some_events event events same = cc

-- which block comes next doesn't matter to the events of a block
apart_same : (block : Block) (events : List Event) (blocks : List Block) → IsOtherThan block blocks → IsOtherThan (record block { events = events }) blocks
apart_same block events [] apart = tt
apart_same block events (next ∷ blocks) apart = apart

is_true : (a b c d : ℕ) → a ≡ b → c ≡ d → (a == b) && (c == d) ≡ true
is_true a b c d first second = let t = eq-eqb a b first in let p = eq-eqb c d second in rw (t, p) refl

other_kept : (e : ThreadEvent) (block : Block) (blocks : List Block) → belongs e block ≡ false → IsOtherThan (run_with e) (block ∷ blocks)
other_kept e block blocks other same = absurd (true≢false (sym (is_true e.thread block.thread e.pid block.pid same.0 same.1) ∙ other))

kept_before : (e : ThreadEvent) (blocks : List Block) → AreKept blocks → AreKept (run_before e blocks)
kept_before e [] kept = (record { some = some_events e.event []; wall = refl }, tt, tt)
kept_before e (block ∷ blocks) kept =
    elim (cases_Bool (belongs e block)) [
      | inl does ↦ rw does (record { some = some_events e.event block.events; wall = kept.0.wall }, apart_same block (e.event ∷ block.events) blocks kept.1, kept.2)
      | inr does_not ↦ rw does_not (record { some = some_events e.event []; wall = refl }, other_kept e block blocks does_not, kept)
    ]

kept_runs : (events : List ThreadEvent) → AreKept (runs events)
kept_runs [] = tt
kept_runs (e ∷ events) = kept_before e (runs events) (kept_runs events)

all_some : (blocks : List Block) → AreKept blocks → All (λ block. block.events ≢ []) blocks
all_some [] kept = All-nil (λ block. block.events ≢ [])
all_some (block ∷ blocks) kept = All-cons (λ block. block.events ≢ []) block blocks kept.0.some (all_some blocks kept.2)

all_walls : (blocks : List Block) → AreKept blocks → All (λ block. block.wall ≡ no_wall) blocks
all_walls [] kept = All-nil (λ block. block.wall ≡ no_wall)
all_walls (block ∷ blocks) kept = All-cons (λ block. block.wall ≡ no_wall) block blocks kept.0.wall (all_walls blocks kept.2)

all_apart : (blocks : List Block) → AreKept blocks → AreApart blocks
all_apart [] kept = tt
all_apart (block ∷ blocks) kept = (kept.1, all_apart blocks kept.2)

pub runs_are : (events : List ThreadEvent) → AreRuns events (runs events)
runs_are events = record {
  events = runs_events events;
  some = all_some (runs events) (kept_runs events);
  apart = all_apart (runs events) (kept_runs events);
  walls = all_walls (runs events) (kept_runs events);
}

-- ---- no other blocks are so

-- an event of another thread or process than the next block has a block of its own
begins_block : (thread pid : ℕ) (x : Event) (blocks : List Block) → IsOtherThan (run_of thread pid (x ∷ [])) blocks
    → run_before (thread_event thread pid x) blocks ≡ run_of thread pid (x ∷ []) ∷ blocks
begins_block thread pid x [] other = refl
begins_block thread pid x (next ∷ blocks) other =
    elim (eqb_tells thread next.thread) [
      | inl t ↦ elim (eqb_tells pid next.pid) [ inl p ↦ absurd (other (t.1, p.1)) | inr p ↦ rw (t.0, p.0) refl ]
      | inr t ↦ rw t.0 refl
    ]

-- the run of a block is that block
runs_of_block : (thread pid : ℕ) (x : Event) (xs : List Event) (rest : List ThreadEvent) → IsOtherThan (run_of thread pid (x ∷ xs)) (runs rest)
    → runs (map (thread_event thread pid) (x ∷ xs) ++ rest) ≡ run_of thread pid (x ∷ xs) ∷ runs rest
runs_of_block thread pid x [] rest other = begins_block thread pid x (runs rest) other
runs_of_block thread pid x (y ∷ ys) rest other =
    ap (run_before (thread_event thread pid x)) (runs_of_block thread pid y ys rest (apart_same (run_of thread pid (x ∷ y ∷ ys)) (y ∷ ys) (runs rest) other))
    ∙ rw (is_true thread thread pid pid refl refl) refl

-- the same, for a block with a wall time of 0
runs_block : (block : Block) (events : List Event) (rest : List ThreadEvent) → block.events ≡ events → events ≢ [] → block.wall ≡ no_wall → IsOtherThan block (runs rest)
    → runs (block_events block ++ rest) ≡ block ∷ runs rest
runs_block block [] rest is some wall other = absurd (some refl)
runs_block block (x ∷ xs) rest is some wall other =
    ap (λ (events : List Event). runs (map (thread_event block.thread block.pid) events ++ rest)) is
    ∙ (runs_of_block block.thread block.pid x xs rest (apart_same block (x ∷ xs) (runs rest) other)
    ∙ ap₂ (λ (w : Wall) (events : List Event). let b : Block = record { thread = block.thread; wall = w; pid = block.pid; events = events } in b ∷ runs rest) (sym wall) (sym is))

pub runs_only : (blocks : List Block) (events : List ThreadEvent) → AreRuns events blocks → blocks ≡ runs events
runs_only [] events are = ap runs are.events
runs_only (block ∷ blocks) events are =
    let later : AreRuns (thread_events blocks) blocks = record {
      events = refl;
      some = All-tail (λ block. block.events ≢ []) block blocks are.some;
      apart = are.apart.1;
      walls = All-tail (λ block. block.wall ≡ no_wall) block blocks are.walls;
    } in
    let rest = runs_only blocks (thread_events blocks) later in
    let other : IsOtherThan block (runs (thread_events blocks)) = subst (IsOtherThan block) rest are.apart.0 in
    let one = runs_block block block.events (thread_events blocks) refl (All-head (λ block. block.events ≢ []) block blocks are.some) (All-head (λ block. block.wall ≡ no_wall) block blocks are.walls) other in
    ap (λ (bs : List Block). block ∷ bs) rest ∙ (sym one ∙ ap runs are.events)

-- ---- blocks that are made of events, one after the other

is_false : (a b c d : ℕ) → ((a ≡ b) × (c ≡ d) → ⊥) → (a == b) && (c == d) ≡ false
is_false a b c d ne =
    elim (eqb_tells a b) [
      | inl t ↦ elim (eqb_tells c d) [ inl p ↦ absurd (ne (t.1, p.1)) | inr p ↦ rw (t.0, p.0) refl ]
      | inr t ↦ rw t.0 refl
    ]

-- the first event of all
first_run : (blocks : List Block) (events : List ThreadEvent) (thread pid : ℕ) (event : Event) → blocks ++ [] ≡ runs events → events ≡ []
    → blocks ++ run_of thread pid (event ∷ []) ∷ [] ≡ runs (events ++ thread_event thread pid event ∷ [])
first_run blocks events thread pid event are none =
    let empty : blocks ≡ [] = sym (append-nil blocks) ∙ (are ∙ ap runs none) in
    ap (λ (bs : List Block). bs ++ run_of thread pid (event ∷ []) ∷ []) empty
    ∙ sym (ap (λ (es : List ThreadEvent). runs (es ++ thread_event thread pid event ∷ [])) none)

-- one more event of the last block
pub same_run : (blocks : List Block) (thread pid : ℕ) (last : List Event) (event : Event) (events : List ThreadEvent)
    → blocks ++ last_run thread pid last ≡ runs events → (last ≡ [] → events ≡ [])
    → blocks ++ last_run thread pid (last ++ event ∷ []) ≡ runs (events ++ thread_event thread pid event ∷ [])
same_run blocks thread pid [] event events are begun = first_run blocks events thread pid event are (begun refl)
same_run blocks thread pid (x ∷ xs) event events are begun = runs_longer events blocks thread pid x xs event are

-- an event of another thread or process than the last block
pub other_run : (blocks : List Block) (t p : ℕ) (last : List Event) (thread pid : ℕ) (event : Event) (events : List ThreadEvent)
    → blocks ++ last_run t p last ≡ runs events → (last ≡ [] → events ≡ []) → ((thread ≡ t) × (pid ≡ p) → ⊥)
    → (blocks ++ last_run t p last) ++ last_run thread pid (event ∷ []) ≡ runs (events ++ thread_event thread pid event ∷ [])
other_run blocks t p [] thread pid event events are begun other =
    ap (λ (bs : List Block). bs ++ run_of thread pid (event ∷ []) ∷ []) (append-nil blocks)
    ∙ first_run blocks events thread pid event are (begun refl)
other_run blocks t p (x ∷ xs) thread pid event events are begun other =
    runs_begin events blocks t p x xs (thread_event thread pid event) are (is_false thread t pid p other)

-- the last block has an event once one was added
pub added_some : {X : Type 0} (xs : List X) (x : X) → xs ++ x ∷ [] ≡ [] → ⊥
added_some [] x same = cc
added_some (y ∷ ys) x same = cc

-- and it is the block of its events
pub some_run : (thread pid : ℕ) (last : List Event) (event : Event) → last_run thread pid (last ++ event ∷ []) ≡ run_of thread pid (last ++ event ∷ []) ∷ []
some_run thread pid [] event = refl
some_run thread pid (x ∷ xs) event = refl

-- an event of the thread and the process of the last block
pub run_goes_on : (blocks : List Block) (t p : ℕ) (last : List Event) (thread pid : ℕ) (event : Event) (events : List ThreadEvent)
    → (thread == t) && (pid == p) ≡ true → blocks ++ last_run t p last ≡ runs events → (last ≡ [] → events ≡ [])
    → blocks ++ run_of t p (last ++ event ∷ []) ∷ [] ≡ runs (events ++ thread_event thread pid event ∷ [])
run_goes_on blocks t p last thread pid event events is are begun =
    let parts = and_parts (thread == t) (pid == p) is in
    ap (λ (bs : List Block). blocks ++ bs) (sym (some_run t p last event))
    ∙ (same_run blocks t p last event events are begun
    ∙ ap₂ (λ (a b : ℕ). runs (events ++ thread_event a b event ∷ [])) (sym (eqb-true thread t parts.0)) (sym (eqb-true pid p parts.1)))

-- an event of another thread or another process, after the last block ended
pub run_begins : (before blocks : List Block) (t p : ℕ) (last ended : List Event) (thread pid : ℕ) (event : Event) (events : List ThreadEvent)
    → (thread == t) && (pid == p) ≡ false → before ++ last_run t p last ≡ runs events → (last ≡ [] → events ≡ [])
    → blocks ≡ before ++ last_run t p last → ended ≡ []
    → blocks ++ run_of thread pid (ended ++ event ∷ []) ∷ [] ≡ runs (events ++ thread_event thread pid event ∷ [])
run_begins before blocks t p last ended thread pid event events is are begun all none =
    ap₂ (λ (bs : List Block) (es : List Event). bs ++ run_of thread pid (es ++ event ∷ []) ∷ []) all none
    ∙ other_run before t p last thread pid event events are begun (λ same. true≢false (sym (is_true thread t pid p same.0 same.1) ∙ is))
