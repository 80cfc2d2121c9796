-- A log by the grammar is read as this log.
use Rattle.std.proofs.Common.{◌≡◌, ℕ, ◌+◌, ◌%◌, ◌/◌, ◌^◌, ◌<◌, ◌≤◌, Bool, true, false, inl, inr, cond, eqb, lit<, ltb, List, [], ◌∷◌, ◌++◌, length, drop, take, Some, None, Result, Ok, Err, refl, sym, ap, subst, ◌∙◌, append_assoc, append-nil, arith}
use Rattle.std.specs.Prelude.{◌≢◌, ◌⊎◌, ◌&&◌, count_by, not}
use Rattle.std.specs.List.{AllByRecursion}
use Rattle.std.proofs.lemmas.Bool.{le-ltb, ne_eqb}
use Rattle.std.proofs.lemmas.List.{drop_at, length-append, take_at}
use Rattle.byteorder.specs.Endian.{little_bytes}
use Rattle.byteorder.specs.Numbers.{little_number-reads_back}
use Rattle.xray_io.specs.Rows.{First, InTurn, ◌>>=◌}
use Rattle.xray_io.specs.declared.wall.Wall.{Wall}
use Rattle.fdr_record.specs.declared.event.Kind.{Kind}
use Rattle.fdr_record.specs.declared.rec.Rec.{Rec}
use Rattle.fdr_record.specs.declared.rec.Rec.TheVariants.{NewBuffer, TscWrap, WallTime, Pid, Extents, Function}
use Rattle.fdr_record.specs.Records.{BeginsWith, Spells}
use Rattle.fdr_file.specs.declared.fault.TraceFault.{TraceFault}
use Rattle.fdr_file.specs.declared.fault.TraceFault.TheVariants as traces
use Rattle.fdr_file.specs.declared.header.Header.{Header}
use Rattle.fdr_file.specs.declared.stage.Inside.TheVariants as insides
use Rattle.fdr_file.specs.declared.stage.Span.{Span}
use Rattle.fdr_file.specs.declared.stage.Stage.TheVariants.{Due, Within}
use Rattle.fdr_file.specs.declared.stage.Told.TheVariants.{Nothing, Begun}
use Rattle.fdr_file.specs.declared.trace.Block.{Block}
use Rattle.fdr_file.specs.declared.version.Version.{Version}
use Rattle.fdr_file.specs.declared.version.Version.TheVariants as versions
use Rattle.fdr_file.specs.Events.{events_after}
use Rattle.fdr_file.specs.Grammar.{ArgsFollow, BeginWithCpu, IsInner, block_records}
use Rattle.fdr_file.specs.Places.{starts}
use Rattle.fdr_file.specs.Scanning.{block_span, inside_next, stage_after}
use Rattle.fdr_file.specs.Traces.{block_length, block_of, first_or, preamble_bytes, type_in, version_in}
use Rattle.fdr_file.proofs.DecodedRecords.{told_again}
use Rattle.fdr_file.specs.ThreadEvents.{ThreadEvent}
use Rattle.runtime_log.specs.declared.blocks.Mode.TheVariants.{Recorder}
use Rattle.runtime_log.specs.declared.fault.LogFault.{LogFault}
use Rattle.runtime_log.specs.declared.version.LogVersion.{LogVersion}
use Rattle.runtime_log.specs.declared.version.LogVersion.TheVariants.{Two, Three, Four, Five}
use Rattle.runtime_log.specs.Arguments.{arg_follows, found_before}
use Rattle.runtime_log.specs.Grammar.{AreLogBlocks, AreLogRecords, IsBare, IsCutEnd, IsFilled, IsLogBlock, IsLogHeader, LogRecord, OfProgram, OfTrace, arg_first, is_custom_event, is_typed_event, stand_for, stands_for, version_number}
use Rattle.runtime_log.specs.LogLaws.{LogIsLogged}
use Rattle.runtime_log.specs.Logs.{BlockSoFar, Log, LogBlock, as_log, block_content, block_opened, block_size_rows, content_rows, cut_after, cut_length, log_block_in, log_block_rows, log_of_blocks, log_places, logged, recorder_blocks, recorder_header, said_rows, sized_rows, too_few, whole_content, whole_rows}
use Rattle.runtime_log.specs.OwnEvents.{log_record_in}
use Rattle.runtime_log.specs.Versions.{log_version_of, trace_version}
use Rattle.runtime_log.specs.private.Headers.{mode_of}
use Rattle.runtime_log.proofs.BlockLists.{Onward, block_first, block_sized}
use Rattle.runtime_log.proofs.BlockReading.{block_is}
use Rattle.runtime_log.proofs.EventsAgain.{events_again, events_are}
use Rattle.runtime_log.proofs.ArgumentsBehind.{rec_other}
use Rattle.runtime_log.proofs.CutRecords.{cut_again, cut_none, cut_past, whole_all, whole_is}
use Rattle.runtime_log.proofs.LogEvents.{no_bytes}
use Rattle.runtime_log.proofs.LogRecords.{record_by}
use Rattle.runtime_log.proofs.LogShapes.{no_custom, no_pid, no_typed}
use Rattle.runtime_log.proofs.RecordWalk.{rows_none, starts_none}
use Rattle.runtime_log.proofs.RecordsAgain.{never_own, run_step, so_lr}
use Rattle.runtime_log.proofs.WholeLogs.{recorder_headed, recorder_read}

-- ---- the records of a block

-- a block so far that says a block, and has these records
abbrev so_said : Block → List LogRecord → BlockSoFar
so_said block records = record { stage = Due; block = block; custom = count_by is_custom_event records; typed = count_by is_typed_event records }

-- what is known of the records of a block
record Known (version : LogVersion) (tv : Version) (content : List ℕ) (block : Block) (records : List LogRecord) (others : List Rec) : Type 0 where
  spelled : AreLogRecords version records content
  are : stand_for [] records ≡ block_records tv block others
  inner : AllByRecursion IsInner others
  based : BeginWithCpu others
  args : ArgsFollow false others
  told : block ≡ block_of (stand_for [] records)

-- the records are read, and have at least a preamble
record ReadsAgain (version : LogVersion) (at least : ℕ) (content : List ℕ) (block : Block) (records : List LogRecord) : Type 0 where
  enough : least ≤ length content
  reads : InTurn (said_rows version) (block_opened at (length content)) (log_places version (at + 16) content) ≡ Ok (so_said block records)

-- a record of a trace
of_trace : (past : List Rec) (lr : LogRecord) (later : List LogRecord) (r : Rec) → ((n : ℕ) → r ≢ TscWrap n) → ((kind : Kind) (func delta : ℕ) → r ≡ Function kind func delta → ⊥) → stands_for past lr later ≡ r → OfTrace r ≡ lr
of_trace past (OfTrace s) later r other plain is = ap (λ (x : Rec). let y : LogRecord = OfTrace x in y) (sym (rec_other (arg_first later) s r plain is))
of_trace past (OfProgram kind delta) later r other plain is = absurd (other _ (sym is))

-- the block that was read
finish : (made block : Block) (x y : ℕ) (records : List LogRecord) → block ≡ made → x ≡ count_by is_custom_event records → y ≡ count_by is_typed_event records
    → ◌≡◌ {A = Result BlockSoFar TraceFault} (Ok (record { stage = Due; block = made; custom = x; typed = y })) (Ok (so_said block records))
finish made block x y records is custom typed =
    ap (λ (b : Block). let z : Result BlockSoFar TraceFault = Ok (record { stage = Due; block = b; custom = x; typed = y }) in z) (sym is)
    ∙ ap (λ (n : ℕ). let z : Result BlockSoFar TraceFault = Ok (record { stage = Due; block = block; custom = n; typed = y }) in z) custom
    ∙ ap (λ (n : ℕ). let z : Result BlockSoFar TraceFault = Ok (record { stage = Due; block = block; custom = count_by is_custom_event records; typed = n }) in z) typed

three_known : (version : LogVersion) → trace_version version ≡ versions.Three → (at t : ℕ) (w : Wall) (p : ℕ) (content : List ℕ) (block : Block) (records : List LogRecord) (others : List Rec)
    → (let all : List LogRecord = OfTrace (NewBuffer t) ∷ OfTrace (WallTime w) ∷ OfTrace (Pid p) ∷ records in
    stand_for (Pid p ∷ WallTime w ∷ NewBuffer t ∷ []) records ≡ others → Known version versions.Three content block all others → ReadsAgain version at 48 content block all)
three_known version v at t w p content block records others same k = by_parts k.spelled
  where
    all : List LogRecord
    all = OfTrace (NewBuffer t) ∷ OfTrace (WallTime w) ∷ OfTrace (Pid p) ∷ records

    past : List Rec
    past = Pid p ∷ WallTime w ∷ NewBuffer t ∷ []

    by_parts : AreLogRecords version all content → ReadsAgain version at 48 content block all
    by_parts (f1, g1, e1, i1, (f2, g2, e2, i2, (f3, g3, e3, i3, rest))) =
        let long1 : length content ≡ 16 + length g1 = ap length e1 ∙ length-append f1 g1 ∙ omega (arith, i1.1.whole) in
        let long2 : length g1 ≡ 16 + length g2 = ap length e2 ∙ length-append f2 g2 ∙ omega (arith, i2.1.whole) in
        let long3 : length g2 ≡ 16 + length g3 = ap length e3 ∙ length-append f3 g3 ∙ omega (arith, i3.1.whole) in
        let span : Span = block_span at (length content) in
        let so0 : BlockSoFar = block_opened at (length content) in
        let a1 = at + 16 + length f1 in
        let a2 = a1 + length f2 in
        let a3 = a2 + length f3 in
        let so1 = so_lr so0 (OfTrace (NewBuffer t)) (stage_after span a1 (insides.Thread t)) Nothing in
        let so2 = so_lr so1 (OfTrace (WallTime w)) (stage_after span a2 (insides.Wall t w)) Nothing in
        let so3 = so_lr so2 (OfTrace (Pid p)) (stage_after span a3 (insides.Events None)) (Begun t w p) in
        let in1 : so1.stage ≡ Within span (insides.Thread t) = ap (λ (b : Bool). cond b Due (Within span (insides.Thread t))) (ne_eqb a1 span.end (λ there. omega (arith, there, long1, long2, i1.1.whole))) in
        let in2 : so2.stage ≡ Within span (insides.Wall t w) = ap (λ (b : Bool). cond b Due (Within span (insides.Wall t w))) (ne_eqb a2 span.end (λ there. omega (arith, there, long1, long2, long3, i1.1.whole, i2.1.whole))) in
        let events = events_after past (stand_for past records) in
        let read = events_are version versions.Three a3 past records g3 rest (0, refl) refl refl (subst (AllByRecursion IsInner) (sym same) k.inner) (subst BeginWithCpu (sym same) k.based) (subst (ArgsFollow false) (sym same) k.args) in
        let step1 = run_step version span insides.Opened (at + 16) (OfTrace (NewBuffer t)) f1 g1 so0 (insides.Thread t, Nothing) i1 refl (omega (arith, long1, i1.1.whole)) refl in
        let step2 = run_step version span (insides.Thread t) a1 (OfTrace (WallTime w)) f2 g2 so1 (insides.Wall t w, Nothing) i2 in1 (omega (arith, long1, long2, i1.1.whole, i2.1.whole))
        (ap (λ (x : Version). inside_next x (insides.Thread t) (eqb a2 span.end) a1 (WallTime w)) v) in
        let step3 = run_step version span (insides.Wall t w) a2 (OfTrace (Pid p)) f3 g3 so2 (insides.Events None, Begun t w p) i3 in2 (omega (arith, long1, long2, long3, i1.1.whole, i2.1.whole, i3.1.whole)) refl in
        let done = events_again version records span None past a3 g3 so3 events rest (omega (arith, long1, long2, long3, i1.1.whole, i2.1.whole, i3.1.whole)) refl tt read in
        let custom : 0 + count_by is_custom_event records ≡ count_by is_custom_event all =
        omega (arith, no_custom (NewBuffer t) (OfTrace (WallTime w) ∷ OfTrace (Pid p) ∷ records), no_custom (WallTime w) (OfTrace (Pid p) ∷ records), no_custom (Pid p) records) in
        let typed : 0 + count_by is_typed_event records ≡ count_by is_typed_event all =
        omega (arith, no_typed (NewBuffer t) (OfTrace (WallTime w) ∷ OfTrace (Pid p) ∷ records), no_typed (WallTime w) (OfTrace (Pid p) ∷ records), no_typed (Pid p) records) in record {
          enough = omega (arith, long1, long2, long3);
          reads =
              ap (λ (xs : List ℕ). InTurn (said_rows version) so0 (log_places version (at + 16) xs)) e1 ∙ step1
              ∙ ap (λ (xs : List ℕ). InTurn (said_rows version) so1 (log_places version a1 xs)) e2 ∙ step2
              ∙ ap (λ (xs : List ℕ). InTurn (said_rows version) so2 (log_places version a2 xs)) e3 ∙ step3 ∙ done
              ∙ finish (record { thread = t; wall = w; pid = p; events = events }) block (0 + count_by is_custom_event records) (0 + count_by is_typed_event records) all k.told custom typed;
        }

two_known : (version : LogVersion) → trace_version version ≡ versions.Two → (at t : ℕ) (w : Wall) (content : List ℕ) (block : Block) (records : List LogRecord) (others : List Rec)
    → (let all : List LogRecord = OfTrace (NewBuffer t) ∷ OfTrace (WallTime w) ∷ records in
    stand_for (WallTime w ∷ NewBuffer t ∷ []) records ≡ others → Known version versions.Two content block all others → ReadsAgain version at 32 content block all)
two_known version v at t w content block records others same k = by_parts k.spelled
  where
    all : List LogRecord
    all = OfTrace (NewBuffer t) ∷ OfTrace (WallTime w) ∷ records

    past : List Rec
    past = WallTime w ∷ NewBuffer t ∷ []

    by_parts : AreLogRecords version all content → ReadsAgain version at 32 content block all
    by_parts (f1, g1, e1, i1, (f2, g2, e2, i2, rest)) =
        let long1 : length content ≡ 16 + length g1 = ap length e1 ∙ length-append f1 g1 ∙ omega (arith, i1.1.whole) in
        let long2 : length g1 ≡ 16 + length g2 = ap length e2 ∙ length-append f2 g2 ∙ omega (arith, i2.1.whole) in
        let span : Span = block_span at (length content) in
        let so0 : BlockSoFar = block_opened at (length content) in
        let a1 = at + 16 + length f1 in
        let a2 = a1 + length f2 in
        let so1 = so_lr so0 (OfTrace (NewBuffer t)) (stage_after span a1 (insides.Thread t)) Nothing in
        let so2 = so_lr so1 (OfTrace (WallTime w)) (stage_after span a2 (insides.Events None)) (Begun t w 0) in
        let in1 : so1.stage ≡ Within span (insides.Thread t) = ap (λ (b : Bool). cond b Due (Within span (insides.Thread t))) (ne_eqb a1 span.end (λ there. omega (arith, there, long1, long2, i1.1.whole))) in
        let events = events_after past (stand_for past records) in
        let inner = subst (AllByRecursion IsInner) (sym same) k.inner in
        let read = events_are version versions.Two a2 past records g2 rest (0, refl) refl refl inner (subst BeginWithCpu (sym same) k.based) (subst (ArgsFollow false) (sym same) k.args) in
        let step1 = run_step version span insides.Opened (at + 16) (OfTrace (NewBuffer t)) f1 g1 so0 (insides.Thread t, Nothing) i1 refl (omega (arith, long1, i1.1.whole)) refl in
        let step2 = run_step version span (insides.Thread t) a1 (OfTrace (WallTime w)) f2 g2 so1 (insides.Events None, Begun t w 0) i2 in1 (omega (arith, long1, long2, i1.1.whole, i2.1.whole))
        (ap (λ (x : Version). inside_next x (insides.Thread t) (eqb a2 span.end) a1 (WallTime w)) v) in
        let done = events_again version records span None past a2 g2 so2 events rest (omega (arith, long1, long2, i1.1.whole, i2.1.whole)) refl tt read in
        let custom : 0 + count_by is_custom_event records ≡ count_by is_custom_event all = omega (arith, no_custom (NewBuffer t) (OfTrace (WallTime w) ∷ records), no_custom (WallTime w) records) in
        let typed : 0 + count_by is_typed_event records ≡ count_by is_typed_event all = omega (arith, no_typed (NewBuffer t) (OfTrace (WallTime w) ∷ records), no_typed (WallTime w) records) in
        let told : block ≡ record { thread = t; wall = w; pid = 0; events = events } =
        k.told ∙ ap (λ (ps : List ℕ). let x : Block = record { thread = t; wall = w; pid = first_or 0 ps; events = events } in x) (no_pid (stand_for past records) inner) in record {
          enough = omega (arith, long1, long2);
          reads =
              ap (λ (xs : List ℕ). InTurn (said_rows version) so0 (log_places version (at + 16) xs)) e1 ∙ step1
              ∙ ap (λ (xs : List ℕ). InTurn (said_rows version) so1 (log_places version a1 xs)) e2 ∙ step2 ∙ done
              ∙ finish (record { thread = t; wall = w; pid = 0; events = events }) block (0 + count_by is_custom_event records) (0 + count_by is_typed_event records) all told custom typed;
        }

three_again : (version : LogVersion) → trace_version version ≡ versions.Three → (at : ℕ) (content : List ℕ) (block : Block) (records : List LogRecord) (others : List Rec)
    → Known version versions.Three content block records others → ReadsAgain version at 48 content block records
three_again version v at content block [] others k =
    let e = k.are in
    absurd cc
three_again version v at content block (a ∷ []) others k =
    let e = k.are in
    absurd cc
three_again version v at content block (a ∷ c ∷ []) others k =
    let e = k.are in
    absurd cc
three_again version v at content block (a ∷ c ∷ d ∷ rest) others k =
    let t = block.thread in
    let w = block.wall in
    let p = block.pid in
    let e = k.are in
    let ra : Rec = stands_for [] a (c ∷ d ∷ rest) in
    let rc : Rec = stands_for (ra ∷ []) c (d ∷ rest) in
    let one : ra ≡ NewBuffer t = cc in
    let two : rc ≡ WallTime w = cc in
    let three : stands_for (rc ∷ ra ∷ []) d rest ≡ Pid p = cc in
    let a_is = of_trace [] a (c ∷ d ∷ rest) (NewBuffer t) (λ n same. cc) (λ kind func delta same. cc) one in
    let c_is = of_trace (ra ∷ []) c (d ∷ rest) (WallTime w) (λ n same. cc) (λ kind func delta same. cc) two in
    let d_is = of_trace (rc ∷ ra ∷ []) d rest (Pid p) (λ n same. cc) (λ kind func delta same. cc) three in
    let all_is : OfTrace (NewBuffer t) ∷ OfTrace (WallTime w) ∷ OfTrace (Pid p) ∷ rest ≡ a ∷ c ∷ d ∷ rest =
    ap (λ (x : LogRecord). x ∷ OfTrace (WallTime w) ∷ OfTrace (Pid p) ∷ rest) a_is ∙ ap (λ (x : LogRecord). a ∷ x ∷ OfTrace (Pid p) ∷ rest) c_is ∙ ap (λ (x : LogRecord). a ∷ c ∷ x ∷ rest) d_is in
    let known = subst (λ (rs : List LogRecord). Known version versions.Three content block rs others) (sym all_is) k in
    let f = known.are in
    let same : stand_for (Pid p ∷ WallTime w ∷ NewBuffer t ∷ []) rest ≡ others = cc in
    subst (ReadsAgain version at 48 content block) all_is (three_known version v at t w p content block rest others same known)

two_again : (version : LogVersion) → trace_version version ≡ versions.Two → (at : ℕ) (content : List ℕ) (block : Block) (records : List LogRecord) (others : List Rec)
    → Known version versions.Two content block records others → ReadsAgain version at 32 content block records
two_again version v at content block [] others k =
    let e = k.are in
    absurd cc
two_again version v at content block (a ∷ []) others k =
    let e = k.are in
    absurd cc
two_again version v at content block (a ∷ c ∷ rest) others k =
    let t = block.thread in
    let w = block.wall in
    let e = k.are in
    let ra : Rec = stands_for [] a (c ∷ rest) in
    let one : ra ≡ NewBuffer t = cc in
    let two : stands_for (ra ∷ []) c rest ≡ WallTime w = cc in
    let a_is = of_trace [] a (c ∷ rest) (NewBuffer t) (λ n same. cc) (λ kind func delta same. cc) one in
    let c_is = of_trace (ra ∷ []) c rest (WallTime w) (λ n same. cc) (λ kind func delta same. cc) two in
    let all_is : OfTrace (NewBuffer t) ∷ OfTrace (WallTime w) ∷ rest ≡ a ∷ c ∷ rest =
    ap (λ (x : LogRecord). x ∷ OfTrace (WallTime w) ∷ rest) a_is ∙ ap (λ (x : LogRecord). a ∷ x ∷ rest) c_is in
    let known = subst (λ (rs : List LogRecord). Known version versions.Two content block rs others) (sym all_is) k in
    let f = known.are in
    let same : stand_for (WallTime w ∷ NewBuffer t ∷ []) rest ≡ others = cc in
    subst (ReadsAgain version at 32 content block) all_is (two_known version v at t w content block rest others same known)

reads_again : (version : LogVersion) (at : ℕ) (b : LogBlock) (is : IsFilled version b) → ReadsAgain version at (preamble_bytes (trace_version version)) is.whole b.block is.records
reads_again Two at b is =
    two_again Two refl at is.whole b.block is.records is.others (record { spelled = is.spelled; are = is.are; inner = is.inner; based = is.based; args = is.args; told = is.told })
reads_again Three at b is =
    three_again Three refl at is.whole b.block is.records is.others (record { spelled = is.spelled; are = is.are; inner = is.inner; based = is.based; args = is.args; told = is.told })
reads_again Four at b is =
    three_again Four refl at is.whole b.block is.records is.others (record { spelled = is.spelled; are = is.are; inner = is.inner; based = is.based; args = is.args; told = is.told })
reads_again Five at b is =
    three_again Five refl at is.whole b.block is.records is.others (record { spelled = is.spelled; are = is.are; inner = is.inner; based = is.based; args = is.args; told = is.told })

-- ---- blocks

block_same : (b : LogBlock) (at : ℕ) (content : List ℕ) (block : Block) (x y z : ℕ) → b.place ≡ at → content ≡ b.content → b.block ≡ block → b.custom ≡ x → b.typed ≡ y → b.cut ≡ z
    → record { place = at; content = content; block = block; custom = x; typed = y; cut = z } ≡ b
block_same b at content block x y z place is said custom typed cut = λ i. record {
  place = (sym place) i;
  content = is i;
  block = (sym said) i;
  custom = (sym custom) i;
  typed = (sym typed) i;
  cut = (sym cut) i;
}

-- a block with records has bytes
pub filled_long : (version : LogVersion) (b : LogBlock) → IsFilled version b → 0 < length b.content
filled_long version b is = by_version version (reads_again version 0 b is).enough
  where
    long : length b.content ≡ length is.whole + length is.end
    long = ap length is.content ∙ length-append is.whole is.end

    by_version : (v : LogVersion) → preamble_bytes (trace_version v) ≤ length is.whole → 0 < length b.content
    by_version Two enough = omega (arith, enough, long)
    by_version Three enough = omega (arith, enough, long)
    by_version Four enough = omega (arith, enough, long)
    by_version Five enough = omega (arith, enough, long)

-- the record that is cut at the end of a block is found again
record CutAgain (version : LogVersion) (b : LogBlock) (is : IsFilled version b) : Type 0 where
  long : cut_length version b.content ≡ length is.end
  count : b.cut ≡ cond {A = ℕ} (eqb (cut_length version b.content) 0) 0 1

end_again : (version : LogVersion) (b : LogBlock) (is : IsFilled version b) → CutAgain version b is
end_again version b is = by_cut is.cut
  where
    size : ℕ
    size = length b.content

    count : ℕ
    count = count_by is_typed_event is.records

    past : cut_length version b.content ≡ cut_after version size count (log_places version (length is.whole) is.end)
    past =
        ap (λ (xs : List ℕ). cut_after version size 0 (log_places version 0 xs)) is.content
        ∙ (cut_past version size 0 0 is.records is.whole is.end is.spelled
        ∙ (ap (λ (n : ℕ). cut_after version size n (log_places version (0 + length is.whole) is.end)) (omega arith)
        ∙ ap (λ (n : ℕ). cut_after version size count (log_places version n is.end)) (omega arith)))

    by_cut : IsCutEnd version size is.records is.end b.cut → CutAgain version b is
    by_cut (inl none) =
        let long : cut_length version b.content ≡ 0 = past ∙ cut_none version size count (length is.whole) is.end (ap length none.0) in
        record { long = long ∙ sym (ap length none.0); count = none.1 ∙ sym (ap (λ (k : ℕ). cond {A = ℕ} (eqb k 0) 0 1) long) }
    by_cut (inr cut) =
        let long : cut_length version b.content ≡ length is.end = past ∙ cut_again version size count (length is.whole) is.end cut.0 in
        let some : length is.end ≢ 0 = λ none. cut.0.begins (no_bytes is.end none) in
        record { long = long; count = cut.1 ∙ sym (ap (λ (k : ℕ). cond {A = ℕ} (eqb k 0) 0 1) long ∙ ap (λ (t : Bool). cond {A = ℕ} t 0 1) (ne_eqb (length is.end) 0 some)) }

-- the content of a block is read again, and its size is accepted
record ContentAgain (version : LogVersion) (at : ℕ) (b : LogBlock) : Type 0 where
  enough : too_few version (length b.content) ≡ false
  so : BlockSoFar
  reads : whole_rows version at (whole_content version b.content) ≡ Ok so
  block : b.block ≡ so.block
  custom : b.custom ≡ so.custom
  typed : b.typed ≡ so.typed
  cut : b.cut ≡ cond {A = ℕ} (eqb (cut_length version b.content) 0) 0 1

and_false : (a b : Bool) → b ≡ false → (a && b) ≡ false
and_false true b e = e
and_false false b e = refl

content_again : (version : LogVersion) (at : ℕ) (b : LogBlock) → IsFilled version b ⊎ IsBare b → ContentAgain version at b
content_again version at b (inl is) =
    let r = reads_again version at b is in
    let c = end_again version b is in
    let long : length b.content ≡ length is.whole + length is.end = ap length is.content ∙ length-append is.whole is.end in
    let least : preamble_bytes (trace_version version) ≤ length b.content = omega (arith, r.enough, long) in record {
      enough = and_false (not (eqb (length b.content) 0)) (ltb (length b.content) (preamble_bytes (trace_version version))) (le-ltb (length b.content) (preamble_bytes (trace_version version)) least);
      so = so_said b.block is.records;
      reads = ap (whole_rows version at) (whole_is version b.content is.whole is.end is.content c.long) ∙ r.reads;
      block = refl;
      custom = is.custom;
      typed = is.typed;
      cut = c.count;
    }
content_again version at b (inr bare) =
    let none : length b.content ≡ 0 = ap length bare.bytes in
    let no_cut : cut_length version b.content ≡ 0 = cut_none version (length b.content) 0 0 b.content none in
    let whole : whole_content version b.content ≡ b.content = whole_all version b.content no_cut in record {
      enough = ap (λ (k : ℕ). not (eqb k 0) && ltb k (preamble_bytes (trace_version version))) none;
      so = block_opened at (length b.content);
      reads = ap (whole_rows version at) whole ∙ rows_none version (block_opened at (length b.content)) (at + 16) b.content none;
      block = bare.block;
      custom = bare.custom;
      typed = bare.typed;
      cut = bare.cut ∙ sym (ap (λ (k : ℕ). cond {A = ℕ} (eqb k 0) 0 1) no_cut);
    }

pub record BlockAgain (version : LogVersion) (at : ℕ) (front : List ℕ) (b : LogBlock) (bytes : List ℕ) : Type 0 where
  pub reads : log_block_in version (at, bytes) ≡ Ok b
  pub long : block_length bytes ≡ length front
  pub some : 0 < length bytes

pub block_again : (version : LogVersion) (at : ℕ) (front following : List ℕ) (b : LogBlock) → b.place ≡ at → IsLogBlock version front b → BlockAgain version at front b (front ++ following)
block_again version at front following b place is =
    let n = length b.content in
    let bytes = is.extents ++ (b.content ++ following) in
    let parts : front ++ following ≡ bytes = ap (λ (x : List ℕ). x ++ following) is.parts ∙ append_assoc is.extents b.content following in
    let long : length bytes ≡ 16 + (n + length following) = length-append is.extents (b.content ++ following) ∙ omega (arith, is.named.whole, length-append b.content following) in
    let begins : BeginsWith (Extents n) bytes = subst (λ (x : List ℕ). Spells x (Extents n)) (sym (take_at is.extents (b.content ++ following) 16 is.named.whole)) is.named in
    let found = told_again (Extents n) bytes is.few begins in
    let own = never_own version bytes (Extents n) found in
    let c = content_again version at b is.says in
    let sized : block_size_rows version (at, bytes) ≡ Ok n =
    ap (λ (t : Bool). First t (Err (traces.Short at)) (sized_rows version (at, bytes) (log_record_in version Due bytes))) (le-ltb (length bytes) 16 (omega (arith, long)))
    ∙ ap (sized_rows version (at, bytes)) (ap (record_by version Due bytes) own ∙ ap (found_before (arg_follows bytes)) found)
    ∙ ap (λ (t : Bool). First t (Err (traces.Extents at)) (First (ltb (length bytes) (16 + n)) (Err (traces.Short at)) (Ok n))) c.enough
    ∙ ap (λ (t : Bool). let x : Result ℕ TraceFault = First t (Err (traces.Short at)) (Ok n) in x) (le-ltb (length bytes) (16 + n) (omega (arith, long))) in
    let content : block_content n bytes ≡ b.content = ap (take n) (drop_at is.extents (b.content ++ following) 16 is.named.whole) ∙ take_at b.content following n refl in
    let rows : content_rows version at n bytes ≡ Ok c.so = ap (λ (xs : List ℕ). whole_rows version at (whole_content version xs)) content ∙ c.reads in
    subst (BlockAgain version at front b) (sym parts) (record {
      reads =
          block_is version at n bytes c.so sized rows
          ∙ ap (λ (x : LogBlock). let z : Result LogBlock TraceFault = Ok x in z) (block_same b at (block_content n bytes) c.so.block c.so.custom c.so.typed
          (cond {A = ℕ} (eqb (cut_length version (block_content n bytes)) 0) 0 1) place content c.block c.custom c.typed
          (c.cut ∙ ap (λ (xs : List ℕ). cond {A = ℕ} (eqb (cut_length version xs) 0) 0 1) (sym content)));
      long = block_sized version at bytes n sized ∙ omega (arith, ap length is.parts, length-append is.extents b.content, is.named.whole);
      some = omega (arith, long);
    })

blocks_again : (version : LogVersion) (at : ℕ) (blocks : List LogBlock) (bytes : List ℕ) (said : List LogBlock) → AreLogBlocks version at blocks bytes
    → InTurn (log_block_rows version) said (starts block_length 0 at bytes) ≡ Ok (said ++ blocks)
blocks_again version at [] bytes said are =
    ap (InTurn (log_block_rows version) said) (starts_none block_length at bytes (ap length are))
    ∙ ap (λ (bs : List LogBlock). let x : Result (List LogBlock) TraceFault = Ok bs in x) (sym (append-nil said))
blocks_again version at (b ∷ blocks) bytes said (front, following, parts, place, is, rest) =
    let all = front ++ following in
    let h = block_again version at front following b place is in
    ap (λ (xs : List ℕ). InTurn (log_block_rows version) said (starts block_length 0 at xs)) parts
    ∙ block_first version said at all h.some
    ∙ ap (λ (x : Result LogBlock TraceFault). Onward version (x >>= λ s. Ok (said ++ s ∷ [])) (at + block_length all) (drop (block_length all) all)) h.reads
    ∙ ap (λ (k : ℕ). InTurn (log_block_rows version) (said ++ b ∷ []) (starts block_length 0 (at + k) (drop k all))) h.long
    ∙ ap (λ (xs : List ℕ). InTurn (log_block_rows version) (said ++ b ∷ []) (starts block_length 0 (at + length front) xs)) (drop_at front following (length front) refl)
    ∙ blocks_again version (at + length front) blocks following (said ++ b ∷ []) rest
    ∙ ap (λ (bs : List LogBlock). let x : Result (List LogBlock) TraceFault = Ok bs in x) (append_assoc said (b ∷ []) blocks)

-- ---- the header

version_few : (version : LogVersion) → version_number version < 256 ^ 2
version_few Two = lit< tt
version_few Three = lit< tt
version_few Four = lit< tt
version_few Five = lit< tt

version_again : (version : LogVersion) → log_version_of (version_number version) ≡ Some version
version_again Two = refl
version_again Three = refl
version_again Four = refl
version_again Five = refl

header_of : (h : Header) (constant nonstop : Bool) → h.version ≡ 3 → constant ≡ h.constant → nonstop ≡ h.nonstop
    → record { version = 3; constant = constant; nonstop = nonstop; frequency = h.frequency; size = h.size } ≡ h
header_of h constant nonstop e1 e2 e3 =
    ap (λ (n : ℕ). let x : Header = record { version = n; constant = constant; nonstop = nonstop; frequency = h.frequency; size = h.size } in x) (sym e1)
    ∙ ap (λ (b : Bool). let x : Header = record h { constant = b; nonstop = nonstop } in x) e2
    ∙ ap (λ (b : Bool). let x : Header = record h { nonstop = b } in x) e3

record HeaderAgain (version : LogVersion) (header : Header) (following bytes : List ℕ) : Type 0 where
  long : 32 ≤ length bytes
  number : version_in bytes ≡ version_number version
  form : type_in bytes ≡ 1
  same : recorder_header bytes ≡ header
  rest : drop 32 bytes ≡ following

header_again : (version : LogVersion) (bytes following : List ℕ) (header : Header) → IsLogHeader version bytes header → HeaderAgain version header following (bytes ++ following)
header_again version bytes following header is =
    let rest = is.reserved ++ following in
    let all = little_bytes 2 (version_number version) ++ (little_bytes 2 1 ++ (little_bytes 4 is.flags ++ (little_bytes 8 header.frequency ++ (little_bytes 8 header.size ++ rest)))) in
    let parts : bytes ++ following ≡ all = ap (λ (x : List ℕ). x ++ following) is.spelled in
    let number : version_in all ≡ version_number version =
    little_number-reads_back 2 (version_number version) (little_bytes 2 1 ++ (little_bytes 4 is.flags ++ (little_bytes 8 header.frequency ++ (little_bytes 8 header.size ++ rest)))) (version_few version) in
    let flags = little_number-reads_back 4 is.flags (little_bytes 8 header.frequency ++ (little_bytes 8 header.size ++ rest)) is.flags_fit in
    let frequency = little_number-reads_back 8 header.frequency (little_bytes 8 header.size ++ rest) is.frequency_fits in
    let size = little_number-reads_back 8 header.size rest is.size_fits in
    subst (HeaderAgain version header following) (sym parts) (record {
      long = omega (arith, length-append is.reserved following, is.whole);
      number = number;
      form = refl;
      same = rw (flags, frequency, size) (header_of header (eqb (is.flags % 2) 1) (eqb (is.flags / 2 % 2) 1) is.third (sym is.constant) (sym is.nonstop));
      rest = drop_at is.reserved following 8 is.whole;
    })

-- ---- a log

mode_again : (bytes : List ℕ) (version : LogVersion) → 32 ≤ length bytes → version_in bytes ≡ version_number version → type_in bytes ≡ 1 → mode_of bytes ≡ Ok (Recorder version)
mode_again bytes version long number form = recorder_headed bytes version long (ap log_version_of number ∙ version_again version) form

pub log_is_logged : LogIsLogged
log_is_logged bytes log is =
    let all = is.front ++ is.following in
    let h = header_again is.version is.front is.following log.header is.header in
    let blocks : recorder_blocks is.version all ≡ Ok log.blocks =
    ap (λ (xs : List ℕ). InTurn (log_block_rows is.version) [] (starts block_length 0 32 xs)) h.rest ∙ blocks_again is.version 32 log.blocks is.following [] is.blocks in
    ap logged is.parts
    ∙ recorder_read all is.version log.blocks (mode_again all is.version h.long h.number h.form) (ap as_log blocks)
    ∙ ap (λ (x : Header). let y : Result Log LogFault = Ok (log_of_blocks x log.blocks) in y) h.same
    ∙ ap (λ (es : List ThreadEvent). let y : Result Log LogFault = Ok (record { header = log.header; blocks = log.blocks; events = es; lost = 0 }) in y) (sym is.alone)
    ∙ ap (λ (n : ℕ). let y : Result Log LogFault = Ok (record { header = log.header; blocks = log.blocks; events = log.events; lost = n }) in y) (sym is.none)
