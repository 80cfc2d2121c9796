-- Passings that are put in the order of their threads, and what each thread recorded in the trace of a basic log.
use Rattle.std.proofs.Common.{◌≡◌, ℕ, suc, ◌<◌, ◌≤◌, Bool, true, false, cond, eqb, ltb, List, [], ◌∷◌, ◌++◌, get_or, length, map, Some, Result, Ok, refl, sym, ap, subst, ◌∙◌, arith}
use Rattle.std.specs.Prelude.{◌&&◌, ◌≢◌, filter, not}
use Rattle.std.proofs.lemmas.List.Sorted.{length_permutation}
use Rattle.std.specs.List.{flat_map}
use Rattle.std.specs.List.Sorted.{IsNonDecreasingBy, IsStableByKey}
use Rattle.std.specs.Ordering.{is_lt, nat_cmp}
use Rattle.std.specs.declared.cmp.Ordering.{Ordering}
use Rattle.std.specs.declared.cmp.Ordering.TheVariants.{Less, Equal, Greater}
use Rattle.std.proofs.lemmas.Bool.{eqb-true, eqb-false, lt-ltb, ltb-false}
use Rattle.std.proofs.lemmas.Cmp.{nat_cmp_total, tied_itself}
use Rattle.std.proofs.lemmas.List.{map-append}
use Rattle.std.proofs.lemmas.List.Concat.{flat_map-append}
use Rattle.fdr_record.specs.declared.event.Event.{Event}
use Rattle.fdr_buffer.specs.declared.buffer.TheConstants.{LARGEST_SIZE}
use Rattle.fdr_buffer.specs.Segments.{segments}
use Rattle.fdr_file.specs.declared.trace.Block.{Block}
use Rattle.fdr_file.specs.declared.trace.Trace.{Trace}
use Rattle.fdr_file.specs.ThreadEvents.{ThreadEvent, block_events, thread_events}
use Rattle.fdr_file.specs.Traces.{trace_of, type_in, version_in}
use Rattle.runtime_log.specs.declared.basic.BasicRec.{BasicRec}
use Rattle.runtime_log.specs.declared.basic.Passing.{Passing}
use Rattle.runtime_log.specs.declared.blocks.Mode.{Mode}
use Rattle.runtime_log.specs.declared.blocks.Mode.TheVariants.{Recorder, Basic}
use Rattle.runtime_log.specs.declared.fault.LogFault.{LogFault}
use Rattle.runtime_log.specs.declared.version.BasicVersion.{BasicVersion}
use Rattle.runtime_log.specs.declared.version.LogVersion.{LogVersion}
use Rattle.runtime_log.specs.BasicLogs.{basic_records, recorded_events}
use Rattle.runtime_log.specs.Imports.{pieces_of, trace_taken}
use Rattle.runtime_log.specs.Laws.{ImportsRead, ThreadsKeepTheirOrder}
use Rattle.runtime_log.specs.Logs.{LogBlock}
use Rattle.runtime_log.specs.Taken.{AreTaken}
use Rattle.runtime_log.specs.Threads.{recorded_by}
use Rattle.runtime_log.specs.Versions.{basic_version_of}
use Rattle.runtime_log.specs.private.Headers.{mode_of}
use Rattle.runtime_log.specs.private.Passings.{HasThreads, RiseFrom, event_of_passing, events_of_passings}
use Rattle.runtime_log.proofs.AddedBlocks.{event_of}
use Rattle.runtime_log.proofs.WholeLogs.{HasParts, LogParts, log_parts, mode_is}

-- ---- a stable sort by threads

-- numbers tie if they are equal
tied_is : (n m : ℕ) → (not (is_lt (nat_cmp n m)) && not (is_lt (nat_cmp m n))) ≡ eqb m n
tied_is n m = by_same (eqb m n) refl
  where
    none_lower : (b : Bool) → (b && false) ≡ false
    none_lower true = refl
    none_lower false = refl

    by_lower : m ≢ n → eqb m n ≡ false → (b : Bool) → ltb n m ≡ b → (not (is_lt (nat_cmp n m)) && not (is_lt (nat_cmp m n))) ≡ eqb m n
    by_lower apart e true l =
        ap (λ (b : Bool). not (is_lt (cond b Less (cond (eqb n m) Equal Greater))) && not (is_lt (nat_cmp m n))) l ∙ sym e
    by_lower apart e false l =
        let lower : m < n = omega (arith, apart, ltb-false n m l) in
        ap (λ (b : Bool). not (is_lt (nat_cmp n m)) && not (is_lt (cond b Less (cond (eqb m n) Equal Greater)))) (lt-ltb m n lower)
        ∙ none_lower (not (is_lt (nat_cmp n m))) ∙ sym e

    by_same : (b : Bool) → eqb m n ≡ b → (not (is_lt (nat_cmp n m)) && not (is_lt (nat_cmp m n))) ≡ eqb m n
    by_same true e =
        ap (λ (k : ℕ). not (is_lt (nat_cmp n k)) && not (is_lt (nat_cmp k n))) (eqb-true m n e)
        ∙ ap (λ (o : Ordering). not (is_lt o) && not (is_lt o)) (tied_itself nat_cmp_total n) ∙ sym e
    by_same false e = by_lower (eqb-false m n e) e (ltb n m) refl

same_filter : (p q : Passing → Bool) → ((x : Passing) → p x ≡ q x) → (xs : List Passing) → filter p xs ≡ filter q xs
same_filter p q same [] = refl
same_filter p q same (x ∷ xs) =
    ap (λ (b : Bool). cond b (x ∷ filter p xs) (filter p xs)) (same x) ∙ ap (λ (ys : List Passing). cond (q x) (x ∷ ys) ys) (same_filter p q same xs)

-- the events that a thread recorded are those of its passings
recorded_passings : (version : BasicVersion) (bytes : List ℕ) (thread : ℕ) (passings : List Passing) → recorded_by thread (events_of_passings version bytes passings) ≡ events_of_passings version bytes (filter (λ p. eqb p.thread thread) passings)
recorded_passings version bytes thread [] = refl
recorded_passings version bytes thread (p ∷ passings) = by_test (recorded_passings version bytes thread passings) (eqb p.thread thread)
  where
    by_test : recorded_by thread (events_of_passings version bytes passings) ≡ events_of_passings version bytes (filter (λ q. eqb q.thread thread) passings) → (b : Bool) → cond b (event_of_passing version bytes p ∷ recorded_by thread (events_of_passings version bytes passings)) (recorded_by thread (events_of_passings version bytes passings))
        ≡ events_of_passings version bytes (cond b (p ∷ filter (λ q. eqb q.thread thread) passings) (filter (λ q. eqb q.thread thread) passings))
    by_test again true = ap (λ (es : List ThreadEvent). event_of_passing version bytes p ∷ es) again
    by_test again false = again

rise_from : (version : BasicVersion) (bytes : List ℕ) (thread : ℕ) (passings : List Passing) → ((k : ℕ) (d : Passing) → k < length passings → thread ≤ (let p : Passing = get_or passings k d in p.thread))
    → IsNonDecreasingBy (λ (p : Passing). p.thread) passings → RiseFrom thread (events_of_passings version bytes passings)
rise_from version bytes thread [] low sorted = tt
rise_from version bytes thread (p ∷ passings) low sorted =
    (low 0 p (omega arith), rise_from version bytes p.thread passings (λ k d below. sorted 0 (suc k) d (omega arith) (omega arith)) (λ i j d ahead below. sorted (suc i) (suc j) d (omega arith) (omega arith)))

pub threads_sorted : (version : BasicVersion) (bytes : List ℕ) (records : List BasicRec) (passings ordered : List Passing) → events_of_passings version bytes passings ≡ recorded_events records
    → IsStableByKey (λ (p : Passing). p.thread) nat_cmp passings ordered → IsNonDecreasingBy (λ (p : Passing). p.thread) ordered → HasThreads version bytes records ordered
threads_sorted version bytes records passings ordered are stable sorted = record {
  same = λ thread.
      let own : Passing → Bool = λ p. eqb p.thread thread in
      let tied : Passing → Bool = λ p. not (is_lt (nat_cmp thread p.thread)) && not (is_lt (nat_cmp p.thread thread)) in
      let same : (p : Passing) → own p ≡ tied p = λ p. sym (tied_is thread p.thread) in
      recorded_passings version bytes thread ordered
      ∙ ap (events_of_passings version bytes) (same_filter own tied same ordered ∙ stable (record { at = 0; thread = thread; pid = 0 }) ∙ sym (same_filter own tied same passings))
      ∙ sym (recorded_passings version bytes thread passings)
      ∙ ap (recorded_by thread) are;
  rise = rise_from version bytes 0 ordered (λ k d below. omega arith) sorted;
}

-- ---- events in pieces

-- the pieces of a block have its events
piece_events : (block : Block) (segs : List (List Event))
    → thread_events (map (λ (es : List Event). let x : Block = record block { events = es } in x) segs) ≡ map (event_of block.thread block.pid) (flat_map (λ s. s) segs)
piece_events block [] = refl
piece_events block (s ∷ segs) =
    ap (λ (es : List ThreadEvent). map (event_of block.thread block.pid) s ++ es) (piece_events block segs)
    ∙ sym (map-append (event_of block.thread block.pid) s (flat_map (λ x. x) segs))

pub pieces_events : ((size : ℕ) (events : List Event) → flat_map (λ s. s) (segments size events) ≡ events) → (blocks : List Block) → thread_events (flat_map pieces_of blocks) ≡ thread_events blocks
pieces_events whole [] = refl
pieces_events whole (block ∷ blocks) =
    flat_map-append block_events (pieces_of block) (flat_map pieces_of blocks)
    ∙ ap (λ (es : List ThreadEvent). es ++ thread_events (flat_map pieces_of blocks)) (piece_events block (segments LARGEST_SIZE block.events) ∙ ap (map (event_of block.thread block.pid)) (whole LARGEST_SIZE block.events))
    ∙ ap (λ (es : List ThreadEvent). block_events block ++ es) (pieces_events whole blocks)

-- ---- the law

-- a log of this type is a basic one
pub not_recorder : (bytes : List ℕ) (version : LogVersion) → type_in bytes ≡ 0 → mode_of bytes ≡ Ok (Recorder version) → ⊥
not_recorder bytes version zero_type is = let m = mode_is bytes (Recorder version) is in omega (arith, zero_type, m.2)

same_records : (xs ys : List BasicRec) → ◌≡◌ {A = Result (List BasicRec) LogFault} (Ok xs) (Ok ys) → xs ≡ ys
same_records xs ys e = cc

-- what is taken of a log without a pool
threads_alone : (pool : List LogBlock) (threads : List Block) → AreTaken [] pool → thread_events (map (λ (b : LogBlock). b.block) pool ++ threads) ≡ thread_events threads
threads_alone [] threads are = refl
threads_alone (b ∷ pool) threads are = absurd (omega (arith, length_permutation [] (b ∷ pool) are.all))

-- the records of a log of one version
one_version : (bytes : List ℕ) (one other : BasicVersion) → basic_version_of (version_in bytes) ≡ Some one → basic_version_of (version_in bytes) ≡ Some other → one ≡ other
one_version bytes one other e f = let same : Some one ≡ Some other = sym e ∙ f in cc

pub threads_keep : ImportsRead → ((size : ℕ) (events : List Event) → flat_map (λ s. s) (segments size events) ≡ events) → ThreadsKeepTheirOrder
threads_keep reads whole bytes file facts named records all zero_type version_is is made = by_mode parts.mode parts.headed parts.has
  where
    parts : LogParts bytes made.log
    parts = log_parts bytes made.log made.says

    by_mode : (mode : Mode) → mode_of bytes ≡ Ok mode → HasParts mode bytes made.log
        → (trace : Trace) × (trace_of file ≡ Ok trace) × ((thread : ℕ) → recorded_by thread (thread_events trace.blocks) ≡ recorded_by thread (recorded_events records))
    by_mode (Recorder version) headed has = absurd (not_recorder bytes version zero_type headed)
    by_mode (Basic version) headed has =
        let takes = made.takes in
        let chosen = subst (λ (bs : List LogBlock). AreTaken bs takes.pool) has.0 takes.chosen in
        let same : version ≡ named = one_version bytes version named (mode_is bytes (Basic version) headed).1 version_is in
        let reads_so : basic_records version bytes ≡ Ok records = ap (λ (v : BasicVersion). basic_records v bytes) same ∙ is in
        let events : made.log.events ≡ recorded_events records = has.1.2 ∙ ap recorded_events (same_records has.1.0 records (sym has.1.1 ∙ reads_so)) in (
          trace_taken made.log.header made.taken,
          reads bytes file facts all made,
          λ thread. ap (recorded_by thread) (pieces_events whole made.taken ∙ ap thread_events takes.parts ∙ threads_alone takes.pool takes.threads chosen)
              ∙ takes.by_thread.same thread ∙ ap (recorded_by thread) events,
        )
