-- The import of a log: the blocks that are taken, packed one after the other.
use Rattle.std.proofs.Common.{◌≡◌, ℕ, zero, suc, ◌+◌, ◌≤◌, Bool, true, false, cond, List, [], ◌∷◌, ◌++◌, length, drop, map, take, Ok, refl, sym, ap, subst, ◌∙◌, append-nil, arith}
use Rattle.std.specs.Prelude.{◌≢◌, All, filter}
use Rattle.std.proofs.lemmas.List.Elements.{All-head, All-nil, All-tail, All-weaker, filter_passes}
use Rattle.std.proofs.lemmas.List.Sorted.{All-permutation, IsPermutation-refl, length_permutation}
use Rattle.std.proofs.lemmas.List.{map-append}
use Rattle.fdr_file.specs.declared.header.Header.{Header}
use Rattle.fdr_file.specs.declared.trace.Block.{Block}
use Rattle.runtime_log.specs.declared.blocks.LogBlock.{LogBlock as Placed}
use Rattle.runtime_log.specs.declared.basic.BasicRec.{BasicRec}
use Rattle.runtime_log.specs.declared.blocks.Mode.TheVariants.{Recorder, Basic}
use Rattle.runtime_log.specs.declared.facts.Facts.{Facts}
use Rattle.runtime_log.specs.declared.packing.Packing.{Packing}
use Rattle.runtime_log.specs.declared.version.BasicVersion.{BasicVersion}
use Rattle.runtime_log.specs.declared.version.LogVersion.{LogVersion}
use Rattle.runtime_log.specs.BasicLogs.{basic_records, recorded_events}
use Rattle.runtime_log.specs.Facts.{facts_of}
use Rattle.runtime_log.specs.Imports.{IsImport, trace_file, trace_taken}
use Rattle.runtime_log.specs.Logs.{Log, LogBlock, as_log, imported_header, log_of_blocks, log_of_records, recorder_blocks, recorder_header}
use Rattle.runtime_log.specs.Taken.{AreTaken, chosen, first_ones, has_events, is_doubled, undoubled}
use Rattle.runtime_log.specs.Threads.{AreByThread}
use Rattle.runtime_log.specs.private.Headers.{mode_of}
use Rattle.runtime_log.specs.private.Packings.{HasPacked}
use Rattle.runtime_log.proofs.FileOrder.{logged_order, order_few}
use Rattle.runtime_log.proofs.TakenBlocks.{Stands}
use Rattle.runtime_log.proofs.WholeLogs.{basic_read, recorder_read}

-- ---- one block among those that are taken

-- what blocks of a log say
abbrev pub blocks_of : List LogBlock → List Block
blocks_of taken = map (λ b. b.block) taken

take_there : (i : ℕ) (blocks rest : List LogBlock) (b : LogBlock) → drop i blocks ≡ b ∷ rest → take (suc i) blocks ≡ take i blocks ++ b ∷ []
take_there zero [] rest b e = absurd cc
take_there zero (x ∷ blocks) rest b e = cc
take_there (suc i) [] rest b e = absurd cc
take_there (suc i) (x ∷ blocks) rest b e = ap (λ (bs : List LogBlock). x ∷ bs) (take_there i blocks rest b e)

all_there : (P : LogBlock → Type 0) (i : ℕ) (blocks rest : List LogBlock) (b : LogBlock) → drop i blocks ≡ b ∷ rest → All P blocks → P b
all_there P zero [] rest b e all = absurd cc
all_there P zero (x ∷ blocks) rest b e all = let same : x ≡ b = cc in subst P same (All-head P x blocks all)
all_there P (suc i) [] rest b e all = absurd cc
all_there P (suc i) (x ∷ blocks) rest b e all = all_there P i blocks rest b e (All-tail P x blocks all)

pub has_some : (bytes : List ℕ) (version : LogVersion) (placed : Placed) (taken : List LogBlock) (i : ℕ) (there : Stands bytes version placed taken i) → All (λ b. b.block.events ≢ []) taken → there.b.block.events ≢ []
has_some bytes version placed taken i there some = all_there (λ b. b.block.events ≢ []) i taken (drop (i + 1) taken) there.b there.rest some

-- one more of them was packed
pub packed_next : (log : Log) (taken : List LogBlock) (packing : Packing) (bytes : List ℕ) (version : LogVersion) (placed : Placed) (i : ℕ) (there : Stands bytes version placed taken i)
    → HasPacked log (blocks_of (take i taken) ++ there.b.block ∷ []) packing → HasPacked log (blocks_of (take (i + 1) taken)) packing
packed_next log taken packing bytes version placed i there packed =
    let next : suc i ≡ i + 1 = omega arith in
    let more : take i taken ++ there.b ∷ [] ≡ take (i + 1) taken = sym (take_there i taken (drop (i + 1) taken) there.b there.rest) ∙ ap (λ (k : ℕ). take k taken) next in
    subst (λ (bs : List Block). HasPacked log bs packing) (sym (map-append (λ (b : LogBlock). b.block) (take i taken) (there.b ∷ [])) ∙ ap blocks_of more) packed

-- ---- all of them

-- the facts of what was packed
pub facts_packed : (log : Log) (taken : List Block) (packing : Packing) → HasPacked log taken packing → packing.notes.facts ≡ facts_of log taken
facts_packed log taken packing packed = λ i. record {
  blocks = packed.count i;
  threads = packed.notes.threads i;
  events = packed.notes.count i;
  arguments = packed.notes.arguments i;
  custom = packed.says.custom i;
  typed = packed.says.typed i;
  doubled = packed.says.doubled i;
  empty = packed.says.empty i;
  first = packed.notes.first i;
  last = packed.notes.last i;
  back = packed.notes.back i;
  lost = packed.says.lost i;
  cut = packed.says.cut i;
  frequency = packed.says.frequency i;
}

-- each has events
some_events : (b : LogBlock) → has_events b ≡ true → b.block.events ≢ []
some_events b has none = let no = rw none at has in absurd cc

pub taken_some : (said taken : List LogBlock) → AreTaken said taken → All (λ b. b.block.events ≢ []) taken
taken_some said taken are =
    All-weaker (λ b. has_events b ≡ true) (λ b. b.block.events ≢ []) some_events taken
    (All-permutation (λ b. has_events b ≡ true) (chosen said) taken are.all (filter_passes has_events (undoubled said)))

-- there are no more of them than blocks of the log
filter_few : (blocks : List LogBlock) → length (filter has_events blocks) ≤ length blocks
filter_few [] = omega arith
filter_few (b ∷ blocks) = by_test (filter_few blocks) (has_events b)
  where
    by_test : length (filter has_events blocks) ≤ length blocks → (has : Bool) → length (cond has (b ∷ filter has_events blocks) (filter has_events blocks)) ≤ length (b ∷ blocks)
    by_test few true = omega (arith, few)
    by_test few false = omega (arith, few)

first_few : (before : List (List ℕ)) (blocks : List LogBlock) → length (first_ones before blocks) ≤ length blocks
first_few before [] = omega arith
first_few before (b ∷ blocks) = by_test (first_few (b.content ∷ before) blocks) (is_doubled before b.content)
  where
    by_test : length (first_ones (b.content ∷ before) blocks) ≤ length blocks → (doubled : Bool)
        → length (cond doubled (first_ones (b.content ∷ before) blocks) (b ∷ first_ones (b.content ∷ before) blocks)) ≤ length (b ∷ blocks)
    by_test few true = omega (arith, few)
    by_test few false = omega (arith, few)

pub taken_few : (bytes : List ℕ) (version : LogVersion) (said taken : List LogBlock) → mode_of bytes ≡ Ok (Recorder version) → recorder_blocks version bytes ≡ Ok said → AreTaken said taken → length taken ≤ length bytes
taken_few bytes version said taken headed says are =
    let order = logged_order bytes (log_of_blocks (recorder_header bytes) said) (recorder_read bytes version said headed (ap as_log says)) in
    omega (arith, length_permutation (chosen said) taken are.all, filter_few (undoubled said), first_few [] said, order_few 0 (length bytes) said order)

-- no event is in no block
no_threads : AreByThread [] []
no_threads = record { same = λ thread. refl; ascend = tt; some = All-nil (λ (b : Block). b.events ≢ []); wall = All-nil (λ (b : Block). b.wall ≡ record { secs = 0; micros = 0 }) }

-- what is made of them is an import of the log
pub recorder_imported : (bytes : List ℕ) (version : LogVersion) (said taken : List LogBlock) (header : Header) (file : List ℕ) (facts : Facts) → mode_of bytes ≡ Ok (Recorder version)
    → recorder_blocks version bytes ≡ Ok said → AreTaken said taken → header ≡ recorder_header bytes → file ≡ trace_file (trace_taken header (blocks_of taken)) → facts ≡ facts_of (log_of_blocks header said) (blocks_of taken)
    → IsImport bytes file facts
recorder_imported bytes version said taken header file facts headed says are same file_is facts_are = record {
  log = log_of_blocks (recorder_header bytes) said;
  says = recorder_read bytes version said headed (ap as_log says);
  taken = blocks_of taken;
  takes = record { pool = taken; chosen = are; threads = []; by_thread = no_threads; parts = sym (append-nil (blocks_of taken)) };
  file_is = file_is ∙ ap (λ (h : Header). trace_file (trace_taken h (blocks_of taken))) same;
  facts_are = facts_are ∙ ap (λ (h : Header). facts_of (log_of_blocks h said) (blocks_of taken)) same;
}

-- so is what is made of the events of a basic log
pub basic_imported : (version : BasicVersion) (bytes : List ℕ) (records : List BasicRec) (threads : List Block) (header : Header) (file : List ℕ) (facts : Facts) → mode_of bytes ≡ Ok (Basic version) → basic_records version bytes ≡ Ok records
    → AreByThread (recorded_events records) threads → header ≡ imported_header bytes → file ≡ trace_file (trace_taken header threads) → facts ≡ facts_of (log_of_records header records) threads → IsImport bytes file facts
basic_imported version bytes records threads header file facts headed says are same file_is facts_are = record {
  log = log_of_records (imported_header bytes) records;
  says = basic_read bytes version records headed says;
  taken = threads;
  takes = record { pool = []; chosen = record { all = IsPermutation-refl []; sorted = λ k d low high. absurd (omega (arith, high)) }; threads = threads; by_thread = are; parts = refl };
  file_is = file_is ∙ ap (λ (h : Header). trace_file (trace_taken h threads)) same;
  facts_are = facts_are ∙ ap (λ (h : Header). facts_of (log_of_records h records) threads) same;
}
