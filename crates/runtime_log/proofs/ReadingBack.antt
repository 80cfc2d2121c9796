-- The file of an import reads as the trace that was taken: its header and its blocks fit what is written.
use Rattle.std.proofs.Common.{◌≡◌, ℕ, ◌+◌, ◌-◌, ◌^◌, ◌<◌, ◌≤◌, Bool, true, false, cond, eqb, List, [], ◌∷◌, ◌++◌, length, drop, map, take, Result, Ok, Err, refl, sym, ap, subst, ◌∙◌, arith}
use Rattle.std.specs.Prelude.{◌≢◌, All, IsTrue}
use Rattle.std.specs.List.{flat_map}
use Rattle.std.proofs.lemmas.List.Elements.{All-append, All-cons, All-drop, All-filter, All-head, All-map, All-nil, All-push, All-tail, All-take}
use Rattle.xray_io.specs.Rows.{InTurn, ◌>>=◌}
use Rattle.xray_io.specs.declared.wall.Wall.{Wall}
use Rattle.fdr_record.specs.declared.event.Event.{Event}
use Rattle.fdr_buffer.specs.declared.buffer.TheConstants.{LARGEST_SIZE, LEAST_SIZE}
use Rattle.fdr_buffer.specs.Filled.{Filled}
use Rattle.fdr_buffer.specs.Segments.{EventFits, body, has_room, segments}
use Rattle.fdr_file.specs.declared.fault.TraceFault.{TraceFault}
use Rattle.fdr_file.specs.declared.header.Header.{Header}
use Rattle.fdr_file.specs.declared.stage.Stage.{Stage}
use Rattle.fdr_file.specs.declared.stage.Told.{Told}
use Rattle.fdr_file.specs.declared.stage.Told.TheVariants.{Nothing, Begun, Noted}
use Rattle.fdr_file.specs.declared.trace.Block.{Block}
use Rattle.fdr_file.specs.declared.trace.Trace.{Trace}
use Rattle.fdr_file.specs.Files.{BlockFits, HeaderFits, block_told, file_bytes, trace_told}
use Rattle.fdr_file.specs.ThreadEvents.{ThreadEvent, block_events, thread_events}
use Rattle.fdr_file.specs.Traces.{block_starts, trace_of}
use Rattle.runtime_log.specs.declared.basic.BasicRec.{BasicRec}
use Rattle.runtime_log.specs.declared.blocks.Mode.{Mode}
use Rattle.runtime_log.specs.declared.blocks.Mode.TheVariants.{Recorder, Basic}
use Rattle.runtime_log.specs.declared.fault.LogFault.{LogFault}
use Rattle.runtime_log.specs.declared.version.BasicVersion.{BasicVersion}
use Rattle.runtime_log.specs.declared.version.LogVersion.{LogVersion}
use Rattle.runtime_log.specs.BasicLogs.{basic_places, basic_records, basic_rows, recorded_events, tagged_rows}
use Rattle.runtime_log.specs.Imports.{buffer_for, pieces_of}
use Rattle.runtime_log.specs.Laws.{ImportsRead}
use Rattle.runtime_log.specs.Logs.{BlockSoFar, Log, LogBlock, as_log, block_content, block_opened, block_with, cut_length, whole_content, log_block_in, log_block_rows, log_places, log_record_rows, recorder_blocks, said_rows}
use Rattle.runtime_log.specs.OwnEvents.{log_record_length}
use Rattle.runtime_log.specs.private.Headers.{header_for}
use Rattle.runtime_log.specs.Threads.{AreByThread, recorded_by}
use Rattle.runtime_log.proofs.AddedBlocks.{event_of}
use Rattle.runtime_log.proofs.OneImport.{taken_hold}
use Rattle.runtime_log.proofs.RecordFits.{AreBytes, number_below}
use Rattle.runtime_log.proofs.RecordableLogs.{PlacesFit, SaidFits, StageFits, ToldFits, row_fits, settled_fit, starts_fit}
use Rattle.runtime_log.proofs.Runs.{ReadFits, RecordFits, RecordedFits, RecordsFit, read_fits, recorded_fit}
use Rattle.runtime_log.proofs.RecordWalk.{so_with}
use Rattle.runtime_log.proofs.ByThread.{eqb_same}
use Rattle.runtime_log.proofs.WholeLogs.{HasParts, block_parts, log_parts}

-- the fields of a block fit the records of a trace
pub record FitsRecords (block : Block) : Type 0 where
  pub thread : block.thread < 2 ^ 32
  pub secs : block.wall.secs < 2 ^ 64
  pub micros : block.wall.micros < 2 ^ 32
  pub pid : block.pid < 2 ^ 32
  pub events : All EventFits block.events

abbrev pub BlockCan : LogBlock → Type 0
BlockCan b = FitsRecords b.block

-- ---- a block of the Flight Data Recorder mode

block_with_fits : (told : Told) (block : Block) → ToldFits told → FitsRecords block → FitsRecords (block_with told block)
block_with_fits Nothing block said fits = fits
block_with_fits (Begun thread wall pid) block said fits = record { thread = said.0; secs = said.1.0; micros = said.1.1; pid = said.2; events = fits.events }
block_with_fits (Noted entry event) block said fits = record {
  thread = fits.thread;
  secs = fits.secs;
  micros = fits.micros;
  pid = fits.pid;
  events = All-append EventFits block.events _ fits.events (settled_fit (Noted entry event) said);
}

so_fits : (version : LogVersion) (so : BlockSoFar) (places : List (ℕ × List ℕ)) (all : BlockSoFar) → InTurn (said_rows version) so places ≡ Ok all → PlacesFit places
    → StageFits so.stage → FitsRecords so.block → FitsRecords all.block
so_fits version so [] all is bytes stage fits =
    let same : so ≡ all = cc in
    subst (λ (s : BlockSoFar). FitsRecords s.block) same fits
so_fits version so ((at, bytes) ∷ later) all is fit stage fits =
    by_row (λ next h st f. so_fits version next later all h fit.1 st f) (log_record_rows version so.stage (at, bytes)) (row_fits version so.stage at bytes fit.0 stage) is
  where
    by_row : ((next : BlockSoFar) → InTurn (said_rows version) next later ≡ Ok all → StageFits next.stage → FitsRecords next.block → FitsRecords all.block)
        → (x : Result (Stage × Told) TraceFault) → SaidFits x
        → ((x >>= λ said. Ok (so_with version so bytes said)) >>= λ next. InTurn (said_rows version) next later) ≡ Ok all → FitsRecords all.block
    by_row again (Ok said) f h = again (so_with version so bytes said) h f.0 (block_with_fits said.1 so.block f.1 fits)
    by_row again (Err fault) f h = absurd cc

no_fields : FitsRecords (block_opened 0 0).block
no_fields = record { thread = omega arith; secs = omega arith; micros = omega arith; pid = omega arith; events = All-nil EventFits }

block_fits : (version : LogVersion) (at : ℕ) (bytes : List ℕ) (b : LogBlock) → AreBytes bytes → log_block_in version (at, bytes) ≡ Ok b → BlockCan b
block_fits version at bytes b all is =
    let p = block_parts version at bytes b is in
    let content : AreBytes (block_content p.size bytes) = All-take (λ b. b < 256) p.size (drop 16 bytes) (All-drop (λ b. b < 256) 16 bytes all) in
    let whole = whole_content version (block_content p.size bytes) in
    let fits : AreBytes whole = All-take (λ b. b < 256) (length (block_content p.size bytes) - cut_length version (block_content p.size bytes)) (block_content p.size bytes) content in
    subst BlockCan (sym p.is)
    (so_fits version (block_opened at (length whole)) (log_places version (at + 16) whole) p.so p.reads (starts_fit (log_record_length version) 0 (at + 16) whole fits) tt no_fields)

recorder_fits : (version : LogVersion) (before : List LogBlock) (places : List (ℕ × List ℕ)) (all : List LogBlock) → InTurn (log_block_rows version) before places ≡ Ok all → PlacesFit places
    → All BlockCan before → All BlockCan all
recorder_fits version before [] all is fit fits =
    let same : before ≡ all = cc in
    subst (All BlockCan) same fits
recorder_fits version before ((at, bytes) ∷ later) all is fit fits =
    by_block (λ b h f. recorder_fits version (before ++ b ∷ []) later all h fit.1 f) (log_block_in version (at, bytes)) refl is
  where
    by_block : ((b : LogBlock) → InTurn (log_block_rows version) (before ++ b ∷ []) later ≡ Ok all → All BlockCan (before ++ b ∷ []) → All BlockCan all)
        → (x : Result LogBlock TraceFault) → log_block_in version (at, bytes) ≡ x
        → ((x >>= λ b. Ok (before ++ b ∷ [])) >>= λ said. InTurn (log_block_rows version) said later) ≡ Ok all → All BlockCan all
    by_block again (Ok b) e h = again b h (All-push BlockCan before b fits (block_fits version at bytes b fit.0 e))
    by_block again (Err fault) e h = absurd cc

-- ---- the events of a basic log

all_left_recorded : (xs ys : List ThreadEvent) → All RecordedFits (xs ++ ys) → All RecordedFits xs
all_left_recorded [] ys all = All-nil RecordedFits
all_left_recorded (x ∷ xs) ys all = All-cons RecordedFits x xs (All-head RecordedFits x (xs ++ ys) all) (all_left_recorded xs ys (All-tail RecordedFits x (xs ++ ys) all))

all_right_recorded : (xs ys : List ThreadEvent) → All RecordedFits (xs ++ ys) → All RecordedFits ys
all_right_recorded [] ys all = all
all_right_recorded (x ∷ xs) ys all = all_right_recorded xs ys (All-tail RecordedFits x (xs ++ ys) all)

records_push : (records : List BasicRec) (r : BasicRec) → RecordsFit records → RecordFits r → RecordsFit (records ++ r ∷ [])
records_push [] r fits fit = (fit, tt)
records_push (first ∷ records) r fits fit = (fits.0, records_push records r fits.1 fit)

all_records_fit : (version : BasicVersion) (before : List BasicRec) (places : List (ℕ × List ℕ)) (all : List BasicRec) → InTurn (basic_rows version) before places ≡ Ok all → PlacesFit places → RecordsFit before → RecordsFit all
all_records_fit version before [] all is fit fits =
    let same : before ≡ all = cc in
    subst RecordsFit same fits
all_records_fit version before ((at, bytes) ∷ later) all is fit fits =
    by_record (λ next h f. all_records_fit version next later all h fit.1 f) (tagged_rows version at (take 32 bytes)) (read_fits version at (take 32 bytes) (All-take (λ b. b < 256) 32 bytes fit.0)) is
  where
    by_record : ((next : List BasicRec) → InTurn (basic_rows version) next later ≡ Ok all → RecordsFit next → RecordsFit all) → (x : Result BasicRec LogFault) → ReadFits x
        → ((x >>= λ r. Ok (before ++ r ∷ [])) >>= λ next. InTurn (basic_rows version) next later) ≡ Ok all → RecordsFit all
    by_record again (Ok r) f h = again (before ++ r ∷ []) h (records_push before r fits f)
    by_record again (Err fault) f h = absurd cc

basic_fits : (version : BasicVersion) (bytes : List ℕ) (records : List BasicRec) → AreBytes bytes → basic_records version bytes ≡ Ok records → All RecordedFits (recorded_events records)
basic_fits version bytes records all is =
    recorded_fit records (all_records_fit version [] (basic_places 32 (drop 32 bytes)) records is (starts_fit _ 0 32 (drop 32 bytes) (All-drop (λ b. b < 256) 32 bytes all)) tt)

-- what holds of the events that each thread recorded holds of all events
all_recorded : (P : ThreadEvent → Type 0) (events : List ThreadEvent) → ((thread : ℕ) → All P (recorded_by thread events)) → All P events
all_recorded P [] each = All-nil P
all_recorded P (e ∷ events) each = All-cons P e events (All-head P e (recorded_by e.thread events) (own e.thread refl)) (all_recorded P events later)
  where
    own : (thread : ℕ) → e.thread ≡ thread → All P (e ∷ recorded_by thread events)
    own thread same = subst (λ (b : Bool). All P (cond b (e ∷ recorded_by thread events) (recorded_by thread events))) (eqb_same e.thread thread same) (each thread)

    later : (thread : ℕ) → All P (recorded_by thread events)
    later thread = by_test (eqb e.thread thread) (each thread)
      where
        by_test : (b : Bool) → All P (cond b (e ∷ recorded_by thread events) (recorded_by thread events)) → All P (recorded_by thread events)
        by_test true all = All-tail P e (recorded_by thread events) all
        by_test false all = all

-- blocks of events that fit
blocks_fit : (blocks : List Block) → All RecordedFits (thread_events blocks) → All (λ (b : Block). b.events ≢ []) blocks → All (λ (b : Block). b.wall ≡ record { secs = 0; micros = 0 }) blocks → All FitsRecords blocks
blocks_fit [] fits some wall = All-nil FitsRecords
blocks_fit (b ∷ blocks) fits some wall =
    All-cons FitsRecords b blocks (by_events b.events refl) (blocks_fit blocks (all_right_recorded (block_events b) (thread_events blocks) fits)
    (All-tail (λ (x : Block). x.events ≢ []) b blocks some) (All-tail (λ (x : Block). x.wall ≡ record { secs = 0; micros = 0 }) b blocks wall))
  where
    own : All RecordedFits (block_events b)
    own = all_left_recorded (block_events b) (thread_events blocks) fits

    no_wall : b.wall ≡ record { secs = 0; micros = 0 }
    no_wall = All-head (λ (x : Block). x.wall ≡ record { secs = 0; micros = 0 }) b blocks wall

    each : (events : List Event) → All RecordedFits (map (event_of b.thread b.pid) events) → All EventFits events
    each [] all = All-nil EventFits
    each (event ∷ events) all =
        All-cons EventFits event events (All-head RecordedFits (event_of b.thread b.pid event) (map (event_of b.thread b.pid) events) all).event
        (each events (All-tail RecordedFits (event_of b.thread b.pid event) (map (event_of b.thread b.pid) events) all))

    by_events : (events : List Event) → b.events ≡ events → FitsRecords b
    by_events [] e = absurd (All-head (λ (x : Block). x.events ≢ []) b blocks some e)
    by_events (event ∷ events) e =
        let first = All-head RecordedFits (event_of b.thread b.pid event) (map (event_of b.thread b.pid) events) (subst (λ (es : List Event). All RecordedFits (map (event_of b.thread b.pid) es)) e own) in
        record {
          thread = first.thread;
          secs = omega (arith, ap (λ (w : Wall). w.secs) no_wall);
          micros = omega (arith, ap (λ (w : Wall). w.micros) no_wall);
          pid = first.pid;
          events = each b.events own;
        }

threads_fit : (events : List ThreadEvent) (blocks : List Block) → AreByThread events blocks → All RecordedFits events → All FitsRecords blocks
threads_fit events blocks are fits =
    blocks_fit blocks (all_recorded RecordedFits (thread_events blocks) (λ thread. subst (All RecordedFits) (sym (are.same thread)) (All-filter (λ (e : ThreadEvent). eqb e.thread thread) RecordedFits events fits)))
    are.some are.wall

-- ---- a log

mode_fits : (mode : Mode) (bytes : List ℕ) (log : Log) → AreBytes bytes → HasParts mode bytes log → All BlockCan log.blocks × All RecordedFits log.events
mode_fits (Recorder version) bytes log all has =
    (by_blocks (recorder_blocks version bytes) refl has.0, subst (All RecordedFits) (sym has.1) (All-nil RecordedFits))
  where
    by_blocks : (x : Result (List LogBlock) TraceFault) → recorder_blocks version bytes ≡ x → as_log x ≡ Ok log.blocks → All BlockCan log.blocks
    by_blocks (Ok blocks) e h =
        let same : blocks ≡ log.blocks = cc in
        subst (All BlockCan) same
        (recorder_fits version [] (block_starts bytes) blocks e (starts_fit _ 0 32 (drop 32 bytes) (All-drop (λ b. b < 256) 32 bytes all)) (All-nil BlockCan))
    by_blocks (Err fault) e h = absurd cc
mode_fits (Basic version) bytes log all has =
    (subst (All BlockCan) (sym has.0) (All-nil BlockCan), subst (All RecordedFits) (sym has.1.2) (basic_fits version bytes has.1.0 all has.1.1))

pool_fits : (pool : List LogBlock) → All BlockCan pool → All FitsRecords (map (λ (b : LogBlock). b.block) pool)
pool_fits [] fits = All-nil FitsRecords
pool_fits (b ∷ pool) fits = All-cons FitsRecords b.block (map (λ (x : LogBlock). x.block) pool) (All-head BlockCan b pool fits) (pool_fits pool (All-tail BlockCan b pool fits))

header_fits : (mode : Mode) (bytes : List ℕ) → AreBytes bytes → HeaderFits (header_for mode bytes)
header_fits (Recorder version) bytes all = record { version = refl; frequency = omega (arith, number_below 8 8 bytes all); size = omega (arith, number_below 16 8 bytes all) }
header_fits (Basic version) bytes all = record { version = refl; frequency = omega (arith, number_below 8 8 bytes all); size = omega arith }

-- ---- the pieces of a block

all_left : (P : Event → Type 0) (xs ys : List Event) → All P (xs ++ ys) → All P xs
all_left P [] ys all = All-nil P
all_left P (x ∷ xs) ys all = All-cons P x xs (All-head P x (xs ++ ys) all) (all_left P xs ys (All-tail P x (xs ++ ys) all))

all_right : (P : Event → Type 0) (xs ys : List Event) → All P (xs ++ ys) → All P ys
all_right P [] ys all = all
all_right P (x ∷ xs) ys all = all_right P xs ys (All-tail P x (xs ++ ys) all)

all_parts : (P : Event → Type 0) (parts : List (List Event)) → All P (flat_map (λ s. s) parts) → All (All P) parts
all_parts P [] all = All-nil (All P)
all_parts P (s ∷ parts) all = All-cons (All P) s parts (all_left P s (flat_map (λ s. s) parts) all) (all_parts P parts (all_right P s (flat_map (λ s. s) parts) all))

-- a segment with room for its bytes
abbrev HasRoom : List Event → Type 0
HasRoom s = IsTrue (has_room LARGEST_SIZE s)

-- what a body takes of its buffer
abbrev BodyFits : Type 0
BodyFits = (size thread : ℕ) (wall : Wall) (pid : ℕ) (events : List Event) → IsTrue (has_room size events) → length (body thread wall pid events) ≤ size

piece_fits : BodyFits → (block : Block) (s : List Event) → FitsRecords block → All EventFits s → HasRoom s → BlockFits (buffer_for (record block { events = s }))
piece_fits body_fits block s fits events room = record {
  begun = refl;
  fits = record {
    preamble = record { thread = fits.thread; secs = fits.secs; micros = fits.micros; pid = fits.pid };
    events = events;
    within = body_fits LARGEST_SIZE block.thread block.wall block.pid s room;
    most = omega arith;
  };
}

pieces_fit : BodyFits → (block : Block) (parts : List (List Event)) → FitsRecords block → All (All EventFits) parts → All HasRoom parts
    → All (λ (b : Block). BlockFits (buffer_for b)) (map (λ (events : List Event). let x : Block = record block { events = events } in x) parts)
pieces_fit body_fits block [] fits events room = All-nil (λ (b : Block). BlockFits (buffer_for b))
pieces_fit body_fits block (s ∷ parts) fits events room =
    All-cons (λ (b : Block). BlockFits (buffer_for b)) (record block { events = s }) (map (λ (es : List Event). let x : Block = record block { events = es } in x) parts)
    (piece_fits body_fits block s fits (All-head (All EventFits) s parts events) (All-head HasRoom s parts room))
    (pieces_fit body_fits block parts fits (All-tail (All EventFits) s parts events) (All-tail HasRoom s parts room))

taken_fit : BodyFits → ((size : ℕ) (events : List Event) → flat_map (λ s. s) (segments size events) ≡ events)
    → ((size : ℕ) (events : List Event) → LEAST_SIZE ≤ size → All (λ s. IsTrue (has_room size s)) (segments size events))
    → (taken : List Block) → All FitsRecords taken → All (λ (b : Block). BlockFits (buffer_for b)) (flat_map pieces_of taken)
taken_fit body_fits whole room [] fits = All-nil (λ (b : Block). BlockFits (buffer_for b))
taken_fit body_fits whole room (b ∷ taken) fits =
    let can = All-head FitsRecords b taken fits in
    let events = all_parts EventFits (segments LARGEST_SIZE b.events) (subst (All EventFits) (sym (whole LARGEST_SIZE b.events)) can.events) in
    All-append (λ (x : Block). BlockFits (buffer_for x)) (pieces_of b) (flat_map pieces_of taken)
    (pieces_fit body_fits b (segments LARGEST_SIZE b.events) can events (room LARGEST_SIZE b.events (omega arith)))
    (taken_fit body_fits whole room taken (All-tail FitsRecords b taken fits))

-- a block is what its buffer says
told_back : (blocks : List Block) → map block_told (map buffer_for blocks) ≡ blocks
told_back [] = refl
told_back (b ∷ blocks) = ap (λ (bs : List Block). b ∷ bs) (told_back blocks)

pub imports_read : BodyFits → ((size : ℕ) (events : List Event) → flat_map (λ s. s) (segments size events) ≡ events)
    → ((size : ℕ) (events : List Event) → LEAST_SIZE ≤ size → All (λ s. IsTrue (has_room size s)) (segments size events))
    → ((header : Header) (buffers : List Filled) → HeaderFits header → All BlockFits buffers → trace_of (file_bytes header buffers) ≡ Ok (trace_told header buffers)) → ImportsRead
imports_read body_fits whole room reads bytes file facts all made =
    let parts = log_parts bytes made.log made.says in
    let fit = mode_fits parts.mode bytes made.log all parts.has in
    let takes = made.takes in
    let pool = pool_fits takes.pool (taken_hold BlockCan made.log.blocks takes.pool takes.chosen fit.0) in
    let threads = threads_fit made.log.events takes.threads takes.by_thread fit.1 in
    let can : All FitsRecords made.taken = subst (All FitsRecords) (sym takes.parts) (All-append FitsRecords (map (λ (b : LogBlock). b.block) takes.pool) takes.threads pool threads) in
    let header = subst HeaderFits (sym parts.header) (header_fits parts.mode bytes all) in
    let blocks : List Block = flat_map pieces_of made.taken in
    ap trace_of made.file_is
    ∙ reads made.log.header (map buffer_for blocks) header (All-map BlockFits buffer_for blocks (taken_fit body_fits whole room made.taken can))
    ∙ ap (λ (bs : List Block). let t : Trace = record { header = made.log.header; blocks = bs } in let x : Result Trace TraceFault = Ok t in x) (told_back blocks)
