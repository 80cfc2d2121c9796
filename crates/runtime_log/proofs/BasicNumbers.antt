-- What is printed of a basic log.
use Rattle.std.proofs.Common.{◌≡◌, ℕ, ◌+◌, ◌-◌, ◌≤◌, Bool, true, false, cond, eqb, List, [], ◌∷◌, ◌++◌, All, length, map, Result, Ok, refl, sym, ap, subst, ◌∙◌, zero-add, inl, inr, arith}
use Rattle.std.specs.Prelude.{◌&&◌, ⊤, count_by, sum}
use Rattle.std.proofs.lemmas.Bool.{ne_eqb}
use Rattle.std.proofs.lemmas.List.{map-append}
use Rattle.std.proofs.lemmas.List.Elements.{All-head, All-tail}
use Rattle.std.proofs.lemmas.List.Sorted.{length_permutation}
use Rattle.fdr_record.specs.declared.event.Event.{Event}
use Rattle.fdr_file.specs.declared.fault.TraceFault.{TraceFault}
use Rattle.fdr_file.specs.declared.header.Header.{Header}
use Rattle.fdr_file.specs.declared.trace.Block.{Block}
use Rattle.fdr_file.specs.declared.trace.Trace.{Trace}
use Rattle.fdr_file.specs.ThreadEvents.{ThreadEvent, block_events, thread_events}
use Rattle.runtime_log.specs.declared.blocks.Mode.{Mode}
use Rattle.runtime_log.specs.declared.blocks.Mode.TheVariants.{Recorder, Basic}
use Rattle.runtime_log.specs.Facts.{facts_of}
use Rattle.runtime_log.specs.Imports.{trace_taken}
use Rattle.runtime_log.specs.Laws.{ImportsRead}
use Rattle.runtime_log.specs.LogLaws.{BasicNumbersAreMeant, BasicNumbersAreOf, NumbersAreOfEvents, run_count}
use Rattle.runtime_log.specs.Logs.{Log, LogBlock}
use Rattle.runtime_log.specs.Taken.{AreTaken, undoubled}
use Rattle.runtime_log.specs.Threads.{AreByThread, AscendByThread, StandsBehind}
use Rattle.runtime_log.specs.private.Headers.{mode_of}
use Rattle.runtime_log.proofs.AddedBlocks.{event_of}
use Rattle.runtime_log.proofs.ByThread.{IsSome, ascend_tail, eqb_same, not_lower}
use Rattle.runtime_log.proofs.CountedThreads.{AtMost, DontFall, threads_of}
use Rattle.runtime_log.proofs.KeptEvents.{AllHeld, at_most_join, events_printed, own_threads, threads_high, trace_header}
use Rattle.runtime_log.proofs.SameEvents.{numbers_move}
use Rattle.runtime_log.proofs.ThreadsKept.{not_recorder, pieces_events}
use Rattle.runtime_log.proofs.WholeLogs.{HasParts, LogParts, log_parts}

-- ---- threads that ascend

split_threads : (block : Block) (blocks : List Block)
    → threads_of (thread_events (block ∷ blocks)) ≡ threads_of (block_events block) ++ threads_of (thread_events blocks)
split_threads block blocks = map-append (λ (e : ThreadEvent). e.thread) (block_events block) (thread_events blocks)

low_threads : (n : ℕ) (block : Block) (blocks : List Block) → n ≤ block.thread → AscendByThread (block ∷ blocks) → AtMost n (threads_of (thread_events (block ∷ blocks)))
low_threads n block [] low ascend =
    subst (AtMost n) (sym (split_threads block [])) (at_most_join n (threads_of (block_events block)) [] (threads_high n block block.events low) tt)
low_threads n block (next ∷ blocks) low ascend =
    subst (AtMost n) (sym (split_threads block (next ∷ blocks)))
    (at_most_join n (threads_of (block_events block)) (threads_of (thread_events (next ∷ blocks))) (threads_high n block block.events low)
    (low_threads n next blocks (omega (arith, low, not_lower block next ascend.0)) ascend.1))

threads_ascend : (blocks : List Block) → AscendByThread blocks → DontFall (threads_of (thread_events blocks))
threads_ascend [] ascend = tt
threads_ascend (block ∷ []) ascend = subst DontFall (sym (split_threads block [])) (own_threads block block.events [] tt tt).1
threads_ascend (block ∷ next ∷ blocks) ascend =
    subst DontFall (sym (split_threads block (next ∷ blocks)))
    (own_threads block block.events (threads_of (thread_events (next ∷ blocks))) (low_threads block.thread next blocks (not_lower block next ascend.0) ascend.1)
    (threads_ascend (next ∷ blocks) ascend.1)).1

-- ---- runs

-- the first event, if there is one, is of another thread or process
abbrev BeginsRun : Block → List ThreadEvent → Type 0
BeginsRun block [] = ⊤
BeginsRun block (e ∷ events) = (eqb block.thread e.thread && eqb block.pid e.pid) ≡ false

one_run : (block : Block) (event : Event) (events : List Event) (later : List ThreadEvent) → BeginsRun block later
    → run_count (map (event_of block.thread block.pid) (event ∷ events) ++ later) ≡ 1 + run_count later
one_run block event [] [] begins = refl
one_run block event [] (e ∷ later) begins = ap (λ (b : Bool). cond b 0 1 + run_count (e ∷ later)) begins
one_run block event (next ∷ events) later begins =
    let rest = run_count (map (event_of block.thread block.pid) (next ∷ events) ++ later) in
    ap (λ (b : Bool). cond (b && eqb block.pid block.pid) 0 1 + rest) (eqb_same block.thread block.thread refl)
    ∙ ap (λ (b : Bool). cond b 0 1 + rest) (eqb_same block.pid block.pid refl)
    ∙ zero-add rest
    ∙ one_run block next events later begins

begins_run : (block : Block) (blocks : List Block) → AscendByThread (block ∷ blocks) → All IsSome blocks → BeginsRun block (thread_events blocks)
begins_run block [] ascend some = tt
begins_run block (next ∷ blocks) ascend some = by_events next.events refl
  where
    none : (b : Bool) → (b && false) ≡ false
    none true = refl
    none false = refl

    other : StandsBehind block next → (eqb block.thread next.thread && eqb block.pid next.pid) ≡ false
    other (inl lower) = ap (λ (b : Bool). b && eqb block.pid next.pid) (ne_eqb block.thread next.thread (λ same. omega (arith, same, lower)))
    other (inr same) = ap (λ (b : Bool). eqb block.thread next.thread && b) (ne_eqb block.pid next.pid same.1) ∙ none (eqb block.thread next.thread)

    by_events : (events : List Event) → next.events ≡ events → BeginsRun block (thread_events (next ∷ blocks))
    by_events [] e = absurd (All-head IsSome next blocks some e)
    by_events (event ∷ events) e =
        subst (λ (es : List Event). BeginsRun block (map (event_of next.thread next.pid) es ++ thread_events blocks)) (sym e) (other ascend.0)

runs_counted : (blocks : List Block) → AscendByThread blocks → All IsSome blocks → length blocks ≡ run_count (thread_events blocks)
runs_counted [] ascend some = refl
runs_counted (block ∷ blocks) ascend some =
    by_events (runs_counted blocks (ascend_tail block blocks ascend) (All-tail IsSome block blocks some)) block.events refl
  where
    by_events : length blocks ≡ run_count (thread_events blocks) → (events : List Event) → block.events ≡ events → length (block ∷ blocks) ≡ run_count (thread_events (block ∷ blocks))
    by_events again [] e = absurd (All-head IsSome block blocks some e)
    by_events again (event ∷ events) e =
        let run = one_run block event events (thread_events blocks) (begins_run block blocks ascend (All-tail IsSome block blocks some)) in
        let whole : run_count (thread_events (block ∷ blocks)) ≡ 1 + run_count (thread_events blocks) =
        ap (λ (es : List Event). run_count (map (event_of block.thread block.pid) es ++ thread_events blocks)) e ∙ run in
        omega (arith, again, whole)

-- ---- what is printed

basic_printed : (log : Log) (trace : Trace) (threads : List Block) → log.blocks ≡ [] → trace.header ≡ log.header → AreByThread log.events threads → thread_events trace.blocks ≡ thread_events threads
    → BasicNumbersAreOf log trace (facts_of log threads)
basic_printed log trace threads none header are same = record {
  blocks = runs_counted threads are.ascend are.some ∙ ap run_count (sym same);
  doubled = ap (λ (bs : List LogBlock). length bs - length (undoubled bs)) none;
  empty = ap (λ (bs : List LogBlock). count_by (λ (b : LogBlock). eqb (length b.block.events) 0) (undoubled bs)) none;
  custom = ap (λ (bs : List LogBlock). sum (map (λ (b : LogBlock). b.custom) bs)) none;
  typed = ap (λ (bs : List LogBlock). sum (map (λ (b : LogBlock). b.typed) bs)) none;
  lost = refl;
  cut = ap (λ (bs : List LogBlock). sum (map (λ (b : LogBlock). b.cut) bs)) none;
  frequency = ap (λ (h : Header). h.frequency) (sym header);
  of_events = subst (λ (es : List ThreadEvent). NumbersAreOfEvents es (facts_of log threads)) (sym same) (events_printed log threads (threads_ascend threads are.ascend));
  of_log = numbers_move (thread_events threads) log.events (facts_of log threads) are.same (events_printed log threads (threads_ascend threads are.ascend));
}

none_taken : (pool : List LogBlock) → AreTaken [] pool → pool ≡ []
none_taken [] are = refl
none_taken (b ∷ pool) are = absurd (omega (arith, length_permutation [] (b ∷ pool) are.all))

abbrev ok : Trace → Result Trace TraceFault
ok trace = Ok trace

pub basic_numbers_meant : ImportsRead → AllHeld → BasicNumbersAreMeant
basic_numbers_meant reads held bytes file facts trace all zero_type made is = by_mode parts.mode parts.headed parts.has
  where
    parts : LogParts bytes made.log
    parts = log_parts bytes made.log made.says

    by_mode : (mode : Mode) → mode_of bytes ≡ Ok mode → HasParts mode bytes made.log → BasicNumbersAreOf made.log trace facts
    by_mode (Recorder version) headed has = absurd (not_recorder bytes version zero_type headed)
    by_mode (Basic version) headed has =
        let takes = made.takes in
        let none = none_taken takes.pool (subst (λ (bs : List LogBlock). AreTaken bs takes.pool) has.0 takes.chosen) in
        let alone : made.taken ≡ takes.threads = takes.parts ∙ ap (λ (bs : List LogBlock). map (λ (b : LogBlock). b.block) bs ++ takes.threads) none in
        let both : ok trace ≡ ok (trace_taken made.log.header made.taken) = sym is ∙ reads bytes file facts all made in
        let same : trace ≡ trace_taken made.log.header made.taken = cc in
        let events : thread_events trace.blocks ≡ thread_events takes.threads =
        ap (λ (t : Trace). thread_events t.blocks) same ∙ pieces_events held made.taken ∙ ap thread_events alone in
        let printed : facts ≡ facts_of made.log takes.threads = made.facts_are ∙ ap (facts_of made.log) alone in
        subst (BasicNumbersAreOf made.log trace) (sym printed) (basic_printed made.log trace takes.threads has.0 (trace_header reads bytes file facts trace all made is) takes.by_thread events)
