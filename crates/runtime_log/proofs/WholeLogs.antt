-- A log and its parts: its mode, its header and its blocks.
use Rattle.std.proofs.Common.{◌≡◌, ℕ, ◌≤◌, Bool, true, false, eqb, ltb, List, [], length, Option, Some, None, Result, Ok, Err, refl, sym, ap, subst, ◌∙◌}
use Rattle.std.specs.Prelude.{◌||◌, is_some, not}
use Rattle.std.proofs.lemmas.Bool.{eqb-true, le-ltb, ltb-false}
use Rattle.xray_io.specs.Rows.{First, NeedsPart, ◌>>=◌}
use Rattle.fdr_file.specs.declared.fault.TraceFault.{TraceFault}
use Rattle.fdr_file.specs.declared.fault.TraceFault.TheVariants as traces
use Rattle.fdr_file.specs.Traces.{type_in, version_in}
use Rattle.runtime_log.specs.declared.basic.BasicRec.{BasicRec}
use Rattle.runtime_log.specs.declared.blocks.Mode.{Mode}
use Rattle.runtime_log.specs.declared.blocks.Mode.TheVariants.{Recorder, Basic}
use Rattle.runtime_log.specs.declared.fault.LogFault.{LogFault}
use Rattle.runtime_log.specs.declared.fault.LogFault.TheVariants as faults
use Rattle.runtime_log.specs.declared.version.BasicVersion.{BasicVersion}
use Rattle.runtime_log.specs.declared.version.LogVersion.{LogVersion}
use Rattle.runtime_log.specs.Logs.{BlockSoFar, Log, LogBlock, as_log, imported_header, log_of_blocks, log_of_records, no_version, basic_log, block_content, block_said, block_size_rows, content_rows, log_block_in, logged, recorder_blocks, recorder_header, recorder_log, typed_rows}
use Rattle.runtime_log.specs.BasicLogs.{basic_records, lost_count, recorded_events}
use Rattle.runtime_log.specs.Versions.{basic_version_of, is_version, log_version_of}
use Rattle.runtime_log.specs.private.Headers.{header_for, mode_of}

-- the log of this mode that bytes are
abbrev log_of : Mode → List ℕ → Result Log LogFault
log_of (Recorder version) bytes = recorder_log version bytes
log_of (Basic version) bytes = basic_log version bytes

-- the log of bytes that have this mode
abbrev log_by : List ℕ → Result Mode TraceFault → Result Log LogFault
log_by bytes (Ok mode) = log_of mode bytes
log_by bytes (Err fault) = Err (faults.Trace fault)

-- a row of both tables
row_is : (bytes : List ℕ) (b : Bool) (one other : Result Log LogFault) (m n : Result Mode TraceFault) → one ≡ log_by bytes m → other ≡ log_by bytes n → First b one other ≡ log_by bytes (First b m n)
row_is bytes true one other m n e f = e
row_is bytes false one other m n e f = f

-- the mode of a header whose version is that of some log
abbrev unversioned : List ℕ → Result Mode TraceFault
unversioned bytes = Err (traces.Version (version_in bytes))

abbrev recorder_mode : List ℕ → Option LogVersion → Result Mode TraceFault
recorder_mode bytes o = NeedsPart o (unversioned bytes) λ version. Ok (Recorder version)

abbrev basic_mode : List ℕ → Option BasicVersion → Result Mode TraceFault
basic_mode bytes o = NeedsPart o (unversioned bytes) λ version. Ok (Basic version)

abbrev other_mode : List ℕ → Result Mode TraceFault
other_mode bytes = First (not (eqb (type_in bytes) 0)) (Err (traces.Form (type_in bytes))) (basic_mode bytes (basic_version_of (version_in bytes)))

abbrev typed_mode : List ℕ → Result Mode TraceFault
typed_mode bytes = First (eqb (type_in bytes) 1) (recorder_mode bytes (log_version_of (version_in bytes))) (other_mode bytes)

pub logged_is : (bytes : List ℕ) → logged bytes ≡ log_by bytes (mode_of bytes)
logged_is bytes =
    row_is bytes (ltb (length bytes) 32) (Err (faults.Trace (traces.Short 0)))
    (First (not (is_version (version_in bytes))) (no_version bytes) (typed_rows bytes))
    (Err (traces.Short 0)) (First (not (is_version (version_in bytes))) (unversioned bytes) (typed_mode bytes)) refl
    (row_is bytes (not (is_version (version_in bytes))) (no_version bytes) (typed_rows bytes) (unversioned bytes) (typed_mode bytes) refl
    (row_is bytes (eqb (type_in bytes) 1) (NeedsPart (log_version_of (version_in bytes)) (no_version bytes) λ version. recorder_log version bytes)
    others (recorder_mode bytes (log_version_of (version_in bytes))) (other_mode bytes) (by_recorder (log_version_of (version_in bytes)))
    (row_is bytes (not (eqb (type_in bytes) 0)) (Err (faults.Trace (traces.Form (type_in bytes))))
    (NeedsPart (basic_version_of (version_in bytes)) (no_version bytes) λ version. basic_log version bytes) (Err (traces.Form (type_in bytes)))
    (basic_mode bytes (basic_version_of (version_in bytes))) refl (by_basic (basic_version_of (version_in bytes))))))
  where
    others : Result Log LogFault
    others =
        First (not (eqb (type_in bytes) 0)) (Err (faults.Trace (traces.Form (type_in bytes))))
        (NeedsPart (basic_version_of (version_in bytes)) (no_version bytes) λ version. basic_log version bytes)

    by_recorder : (o : Option LogVersion) → (NeedsPart o (no_version bytes) λ version. recorder_log version bytes) ≡ log_by bytes (recorder_mode bytes o)
    by_recorder None = refl
    by_recorder (Some version) = refl

    by_basic : (o : Option BasicVersion) → (NeedsPart o (no_version bytes) λ version. basic_log version bytes) ≡ log_by bytes (basic_mode bytes o)
    by_basic None = refl
    by_basic (Some version) = refl

-- what a header of this mode says
abbrev pub ModeIs : List ℕ → Mode → Type 0
ModeIs bytes (Recorder version) = (32 ≤ length bytes) × (log_version_of (version_in bytes) ≡ Some version) × (type_in bytes ≡ 1)
ModeIs bytes (Basic version) = (32 ≤ length bytes) × (basic_version_of (version_in bytes) ≡ Some version) × (type_in bytes ≡ 0)

pub mode_is : (bytes : List ℕ) (mode : Mode) → mode_of bytes ≡ Ok mode → ModeIs bytes mode
mode_is bytes mode is = by_long (ltb (length bytes) 32) refl is
  where
    by_recorder : 32 ≤ length bytes → type_in bytes ≡ 1 → (o : Option LogVersion) → log_version_of (version_in bytes) ≡ o → recorder_mode bytes o ≡ Ok mode → ModeIs bytes mode
    by_recorder long form None e h = absurd cc
    by_recorder long form (Some version) e h =
        let same : Recorder version ≡ mode = cc in
        subst (ModeIs bytes) same (long, e, form)

    by_basic : 32 ≤ length bytes → type_in bytes ≡ 0 → (o : Option BasicVersion) → basic_version_of (version_in bytes) ≡ o → basic_mode bytes o ≡ Ok mode → ModeIs bytes mode
    by_basic long form None e h = absurd cc
    by_basic long form (Some version) e h =
        let same : Basic version ≡ mode = cc in
        subst (ModeIs bytes) same (long, e, form)

    by_zero : 32 ≤ length bytes → (b : Bool) → eqb (type_in bytes) 0 ≡ b → First (not b) (Err (traces.Form (type_in bytes))) (basic_mode bytes (basic_version_of (version_in bytes))) ≡ Ok mode → ModeIs bytes mode
    by_zero long false e h = absurd cc
    by_zero long true e h = by_basic long (eqb-true (type_in bytes) 0 e) (basic_version_of (version_in bytes)) refl h

    by_one : 32 ≤ length bytes → (b : Bool) → eqb (type_in bytes) 1 ≡ b → First b (recorder_mode bytes (log_version_of (version_in bytes))) (other_mode bytes) ≡ Ok mode → ModeIs bytes mode
    by_one long true e h = by_recorder long (eqb-true (type_in bytes) 1 e) (log_version_of (version_in bytes)) refl h
    by_one long false e h = by_zero long (eqb (type_in bytes) 0) refl h

    by_known : 32 ≤ length bytes → (b : Bool) → First (not b) (unversioned bytes) (typed_mode bytes) ≡ Ok mode → ModeIs bytes mode
    by_known long false h = absurd cc
    by_known long true h = by_one long (eqb (type_in bytes) 1) refl h

    by_long : (b : Bool) → ltb (length bytes) 32 ≡ b → First b (Err (traces.Short 0)) (First (not (is_version (version_in bytes))) (unversioned bytes) (typed_mode bytes)) ≡ Ok mode → ModeIs bytes mode
    by_long true e h = absurd cc
    by_long false e h = by_known (ltb-false (length bytes) 32 e) (is_version (version_in bytes)) h

-- a header of the Flight Data Recorder mode in this version
pub recorder_headed : (bytes : List ℕ) (version : LogVersion) → 32 ≤ length bytes → log_version_of (version_in bytes) ≡ Some version → type_in bytes ≡ 1 → mode_of bytes ≡ Ok (Recorder version)
recorder_headed bytes version long named form =
    ap (λ (b : Bool). First b (Err (traces.Short 0)) (First (not (is_version (version_in bytes))) (unversioned bytes) (typed_mode bytes))) (le-ltb (length bytes) 32 long)
    ∙ (ap (λ (o : Option LogVersion). First (not (is_some o || is_some (basic_version_of (version_in bytes)))) (unversioned bytes) (First (eqb (type_in bytes) 1) (recorder_mode bytes o) (other_mode bytes))) named
    ∙ ap (λ (n : ℕ). First (eqb n 1) (Ok (Recorder version)) (other_mode bytes)) form)

-- ---- what is refused, and what is read

pub log_headless : (bytes : List ℕ) (fault : TraceFault) → mode_of bytes ≡ Err fault → logged bytes ≡ Err (faults.Trace fault)
log_headless bytes fault e = logged_is bytes ∙ ap (log_by bytes) e

recorder_is : (bytes : List ℕ) (version : LogVersion) (said : Result (List LogBlock) LogFault) → mode_of bytes ≡ Ok (Recorder version) → as_log (recorder_blocks version bytes) ≡ said
    → logged bytes ≡ (said >>= λ blocks. Ok (log_of_blocks (recorder_header bytes) blocks))
recorder_is bytes version said e f =
    logged_is bytes ∙ ap (log_by bytes) e ∙ ap (λ (x : Result (List LogBlock) LogFault). x >>= λ blocks. Ok (log_of_blocks (recorder_header bytes) blocks)) f

pub recorder_refused : (bytes : List ℕ) (version : LogVersion) (fault : LogFault) → mode_of bytes ≡ Ok (Recorder version) → as_log (recorder_blocks version bytes) ≡ Err fault → logged bytes ≡ Err fault
recorder_refused bytes version fault e f = recorder_is bytes version (Err fault) e f

pub recorder_read : (bytes : List ℕ) (version : LogVersion) (said : List LogBlock) → mode_of bytes ≡ Ok (Recorder version) → as_log (recorder_blocks version bytes) ≡ Ok said
    → logged bytes ≡ Ok (log_of_blocks (recorder_header bytes) said)
recorder_read bytes version said e f = recorder_is bytes version (Ok said) e f

basic_is : (bytes : List ℕ) (version : BasicVersion) (said : Result (List BasicRec) LogFault) → mode_of bytes ≡ Ok (Basic version) → basic_records version bytes ≡ said
    → logged bytes ≡ (said >>= λ records. Ok (log_of_records (imported_header bytes) records))
basic_is bytes version said e f =
    logged_is bytes ∙ ap (log_by bytes) e ∙ ap (λ (x : Result (List BasicRec) LogFault). x >>= λ records. Ok (log_of_records (imported_header bytes) records)) f

pub basic_refused : (bytes : List ℕ) (version : BasicVersion) (fault : LogFault) → mode_of bytes ≡ Ok (Basic version) → basic_records version bytes ≡ Err fault → logged bytes ≡ Err fault
basic_refused bytes version fault e f = basic_is bytes version (Err fault) e f

pub basic_read : (bytes : List ℕ) (version : BasicVersion) (records : List BasicRec) → mode_of bytes ≡ Ok (Basic version) → basic_records version bytes ≡ Ok records
    → logged bytes ≡ Ok (log_of_records (imported_header bytes) records)
basic_read bytes version records e f = basic_is bytes version (Ok records) e f

-- a log has a whole header
pub log_whole : (bytes : List ℕ) (mode : Mode) → mode_of bytes ≡ Ok mode → 32 ≤ length bytes
log_whole bytes mode e = by_short (ltb (length bytes) 32) refl
  where
    by_short : (b : Bool) → ltb (length bytes) 32 ≡ b → 32 ≤ length bytes
    by_short true short = let no = rw short at e in absurd cc
    by_short false long = ltb-false (length bytes) 32 long

-- ---- the parts of a log

-- what a log of this mode has
abbrev pub HasParts : Mode → List ℕ → Log → Type 0
HasParts (Recorder version) bytes log = (as_log (recorder_blocks version bytes) ≡ Ok log.blocks) × (log.events ≡ []) × (log.lost ≡ 0)
HasParts (Basic version) bytes log =
    (log.blocks ≡ []) × ((records : List BasicRec) × (basic_records version bytes ≡ Ok records) × (log.events ≡ recorded_events records) × (log.lost ≡ lost_count None records))

pub record LogParts (bytes : List ℕ) (log : Log) : Type 0 where
  pub mode : Mode
  pub headed : mode_of bytes ≡ Ok mode
  pub header : log.header ≡ header_for mode bytes
  pub has : HasParts mode bytes log

pub log_parts : (bytes : List ℕ) (log : Log) → logged bytes ≡ Ok log → LogParts bytes log
log_parts bytes log is = by_mode (mode_of bytes) refl (sym (logged_is bytes) ∙ is)
  where
    by_blocks : (version : LogVersion) → mode_of bytes ≡ Ok (Recorder version) → (said : Result (List LogBlock) LogFault) → as_log (recorder_blocks version bytes) ≡ said
        → (said >>= λ blocks. Ok (log_of_blocks (recorder_header bytes) blocks)) ≡ Ok log → LogParts bytes log
    by_blocks version e (Ok said) f h =
        let same : log_of_blocks (recorder_header bytes) said ≡ log = cc in record {
          mode = Recorder version;
          headed = e;
          header = ap (λ (l : Log). l.header) (sym same);
          has = (f ∙ ap (λ (l : Log). let x : Result (List LogBlock) LogFault = Ok l.blocks in x) same, ap (λ (l : Log). l.events) (sym same), ap (λ (l : Log). l.lost) (sym same));
        }
    by_blocks version e (Err fault) f h = absurd cc

    by_records : (version : BasicVersion) → mode_of bytes ≡ Ok (Basic version) → (said : Result (List BasicRec) LogFault) → basic_records version bytes ≡ said
        → (said >>= λ records. Ok (log_of_records (imported_header bytes) records)) ≡ Ok log → LogParts bytes log
    by_records version e (Ok records) f h =
        let same : log_of_records (imported_header bytes) records ≡ log = cc in record {
          mode = Basic version;
          headed = e;
          header = ap (λ (l : Log). l.header) (sym same);
          has = (ap (λ (l : Log). l.blocks) (sym same), (records, f, ap (λ (l : Log). l.events) (sym same), ap (λ (l : Log). l.lost) (sym same)));
        }
    by_records version e (Err fault) f h = absurd cc

    by_mode : (m : Result Mode TraceFault) → mode_of bytes ≡ m → log_by bytes m ≡ Ok log → LogParts bytes log
    by_mode (Ok (Recorder version)) e h = by_blocks version e (as_log (recorder_blocks version bytes)) refl h
    by_mode (Ok (Basic version)) e h = by_records version e (basic_records version bytes) refl h
    by_mode (Err fault) e h = absurd cc

-- ---- the parts of a block

pub record BlockParts (version : LogVersion) (at : ℕ) (bytes : List ℕ) (b : LogBlock) : Type 0 where
  pub size : ℕ
  pub so : BlockSoFar
  pub sized : block_size_rows version (at, bytes) ≡ Ok size
  pub reads : content_rows version at size bytes ≡ Ok so
  pub is : b ≡ block_said version at (block_content size bytes) so

pub block_parts : (version : LogVersion) (at : ℕ) (bytes : List ℕ) (b : LogBlock) → log_block_in version (at, bytes) ≡ Ok b → BlockParts version at bytes b
block_parts version at bytes b is = by_size (block_size_rows version (at, bytes)) refl is
  where
    by_read : (size : ℕ) → block_size_rows version (at, bytes) ≡ Ok size → (x : Result BlockSoFar TraceFault) → content_rows version at size bytes ≡ x
        → (x >>= λ so. Ok (block_said version at (block_content size bytes) so)) ≡ Ok b → BlockParts version at bytes b
    by_read size e (Ok so) f h =
        let same : b ≡ block_said version at (block_content size bytes) so = cc in record { size = size; so = so; sized = e; reads = f; is = same }
    by_read size e (Err fault) f h = absurd cc

    by_size : (x : Result ℕ TraceFault) → block_size_rows version (at, bytes) ≡ x
        → (x >>= λ size. content_rows version at size bytes >>= λ so. Ok (block_said version at (block_content size bytes) so)) ≡ Ok b → BlockParts version at bytes b
    by_size (Ok size) e h = by_read size e (content_rows version at size bytes) refl h
    by_size (Err fault) e h = absurd cc
