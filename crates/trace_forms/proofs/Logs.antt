-- Basic logs, record by record.
use Rattle.std.proofs.Common.{◌≡◌, ℕ, ◌+◌, ◌<◌, ◌^◌, ◌≤◌, ◌++◌, ◌∙◌, List, [], ◌∷◌, Bool, true, false, length, drop, Ok, Err, refl, sym, ap, append_assoc, arith, lit<}
use Rattle.std.specs.Prelude.{◌==◌, All, Result, nat_lt, not, replicate}
use Rattle.std.specs.List.{flat_map}
use Rattle.std.proofs.lemmas.Bool.{le-ltb}
use Rattle.std.proofs.Math.ListN.{drop_of_length-le}
use Rattle.std.proofs.lemmas.List.{append-nil, drop-drop, length-drop}
use Rattle.std.proofs.lemmas.List.Elements.{All-head, All-tail}
use Rattle.byteorder.specs.Numbers.{little_number-reads_back}
use Rattle.xray_io.specs.Rows.{First, InTurn, ◌>>=◌}
use Rattle.fdr_record.specs.declared.event.Event.{Event}
use Rattle.fdr_file.specs.declared.header.Header.{Header}
use Rattle.fdr_file.specs.declared.trace.Trace.{Trace}
use Rattle.fdr_file.specs.ThreadEvents.{ThreadEvent, event_given, thread_events}
use Rattle.fdr_file.specs.Traces.{type_in, version_in}
use Rattle.trace_forms.specs.declared.basic.BasicFault.{BasicFault}
use Rattle.trace_forms.specs.declared.basic.BasicFault.TheVariants as faults
use Rattle.basic_record.specs.BasicRecords.{basic_length}
use Rattle.trace_forms.specs.BasicLogs.{EventFits, LogReadsAs, TraceFits, basic_header, basic_header_rows, basic_of, event_bytes, events_rows, log_bytes, basic_passing, basic_record_rows, record_starts}
use Rattle.trace_forms.specs.Runs.{runs}
use Rattle.fdr_file.proofs.NextParts.{starts_first}
use Rattle.trace_forms.proofs.Places.{starts_none}
use Rattle.trace_forms.proofs.LogRecords.{event_again, record_reads}
use Rattle.trace_forms.proofs.RunLaws.{runs_are}

-- ---- the reading goes on

-- the trace of a log with this header, or the fault of its records
abbrev pub log_read : Header → Result (List ThreadEvent) BasicFault → Result Trace BasicFault
log_read header read = read >>= λ events. Ok (record { header = header; blocks = runs events })

-- what the records from a place on read as, after these events
abbrev pub read_on : List ThreadEvent → ℕ → List ℕ → Result (List ThreadEvent) BasicFault
read_on events at bytes = InTurn events_rows events (record_starts at bytes)

-- the first record
pub read_first : (events : List ThreadEvent) (at : ℕ) (bytes : List ℕ) → 0 < length bytes
    → read_on events at bytes ≡ (events_rows events (at, bytes) >>= λ after. read_on after (at + 32) (drop 32 bytes))
read_first events at bytes some = ap (InTurn events_rows events) (starts_first (λ _. basic_length) at bytes some (lit< tt))

-- one more record
pub read_more : (events : List ThreadEvent) (at : ℕ) (bytes : List ℕ) (x : ℕ × ℕ × Event) → 0 < length bytes → basic_record_rows at bytes ≡ Ok x
    → read_on events at bytes ≡ read_on (events ++ event_given x ∷ []) (at + 32) (drop 32 bytes)
read_more events at bytes x some is = read_first events at bytes some ∙ rw is refl

-- a record that is refused
pub read_refused : (events : List ThreadEvent) (at : ℕ) (bytes : List ℕ) (fault : BasicFault) → 0 < length bytes → basic_record_rows at bytes ≡ Err fault
    → read_on events at bytes ≡ Err fault
read_refused events at bytes fault some is = read_first events at bytes some ∙ rw is refl

-- no more records
pub read_all : (events : List ThreadEvent) (at : ℕ) → read_on events at [] ≡ Ok events
read_all events at = ap (InTurn events_rows events) (starts_none (λ _. basic_length) at)

-- a row that leaves it to what follows
first_left : {A B F : Type 0} (b : Bool) (fault : F) (follows : Result A F) (other : Result B F) (x : A) → First b (Err fault) follows ≡ Ok x
    → (First b (Err fault) other ≡ other) × (follows ≡ Ok x)
first_left true fault follows other x is = absurd cc
first_left false fault follows other x is = (refl, is)

-- a header that is accepted leaves it to what follows
opened : {B : Type 0} (bytes : List ℕ) (said header : Header) (other : Result B BasicFault) → basic_header_rows bytes (Ok said) ≡ Ok header
    → (basic_header_rows bytes other ≡ other) × (said ≡ header)
opened {B} bytes said header other is =
    let short = nat_lt (length bytes) 32 in
    let version = not (version_in bytes == 3) in
    let form = not (type_in bytes == 0) in
    let form_rows : Result B BasicFault = First form (Err (faults.Form (type_in bytes))) other in
    let version_rows : Result B BasicFault = First version (Err (faults.Version (version_in bytes))) form_rows in
    let one = first_left short (faults.Short 0) _ version_rows header is in
    let two = first_left version (faults.Version (version_in bytes)) _ form_rows header one.1 in
    let three = first_left form (faults.Form (type_in bytes)) (Ok said) other header two.1 in
    let same : said ≡ header = let h = three.1 in cc in
    (one.0 ∙ (two.0 ∙ three.0), same)

first_refused : {A B F : Type 0} (b : Bool) (decided fault : F) (follows : Result A F) (other : Result B F) → First b (Err decided) follows ≡ Err fault
    → (follows ≡ Err fault → other ≡ Err fault) → First b (Err decided) other ≡ Err fault
first_refused {B = B} {F = F} true decided fault follows other is later =
    let same : decided ≡ fault = cc in
    ap (λ (f : F). let r : Result B F = Err f in r) same
first_refused false decided fault follows other is later = later is

header_refused : {B : Type 0} (bytes : List ℕ) (said : Header) (other : Result B BasicFault) (fault : BasicFault) → basic_header_rows bytes (Ok said) ≡ Err fault
    → basic_header_rows bytes other ≡ Err fault
header_refused bytes said other fault is =
    first_refused (nat_lt (length bytes) 32) (faults.Short 0) fault _ _ is (λ one.
    first_refused (not (version_in bytes == 3)) (faults.Version (version_in bytes)) fault _ _ one (λ two.
    first_refused (not (type_in bytes == 0)) (faults.Form (type_in bytes)) fault (Ok said) other two (λ three. absurd cc)))

-- a log that has a header, by what its records read as
pub log_opened : (bytes : List ℕ) (header : Header) → basic_header_rows bytes (Ok (basic_header bytes)) ≡ Ok header
    → basic_of bytes ≡ log_read header (read_on [] 32 (drop 32 bytes))
log_opened bytes header is =
    let both = opened bytes (basic_header bytes) header (log_read (basic_header bytes) (read_on [] 32 (drop 32 bytes))) is in
    both.0 ∙ ap (λ (h : Header). log_read h (read_on [] 32 (drop 32 bytes))) both.1

-- a header that is refused refuses the log
pub log_refused : (bytes : List ℕ) (fault : BasicFault) → basic_header_rows bytes (Ok (basic_header bytes)) ≡ Err fault → basic_of bytes ≡ Err fault
log_refused bytes fault is = header_refused bytes (basic_header bytes) (log_read (basic_header bytes) (read_on [] 32 (drop 32 bytes))) fault is

-- a log whose next record is read
pub log_more : (header : Header) (events : List ThreadEvent) (at : ℕ) (bytes rest : List ℕ) (x : ℕ × ℕ × Event) → at < length bytes → rest ≡ drop at bytes → basic_record_rows at rest ≡ Ok x
    → log_read header (read_on events at (drop at bytes)) ≡ log_read header (read_on (events ++ event_given x ∷ []) (at + 32) (drop (at + 32) bytes))
log_more header events at bytes rest x some is read =
    ap (log_read header)
    (read_more events at (drop at bytes) x (omega (arith, length-drop at bytes)) (ap (basic_record_rows at) (sym is) ∙ read)
    ∙ ap (read_on (events ++ event_given x ∷ []) (at + 32)) (drop-drop 32 at bytes))

-- a log whose next record is refused
pub log_stops : (header : Header) (events : List ThreadEvent) (at : ℕ) (bytes rest : List ℕ) (fault : BasicFault) → at < length bytes → rest ≡ drop at bytes → basic_record_rows at rest ≡ Err fault
    → log_read header (read_on events at (drop at bytes)) ≡ Err fault
log_stops header events at bytes rest fault some is refused =
    ap (log_read header) (read_refused events at (drop at bytes) fault (omega (arith, length-drop at bytes)) (ap (basic_record_rows at) (sym is) ∙ refused))

-- a log that ends here
pub log_ends : (header : Header) (events : List ThreadEvent) (at : ℕ) (bytes : List ℕ) → length bytes ≤ at
    → log_read header (read_on events at (drop at bytes)) ≡ Ok (record { header = header; blocks = runs events })
log_ends header events at bytes end =
    ap (log_read header) (ap (read_on events at) (drop_of_length-le bytes end) ∙ read_all events at)

-- ---- what is written reads back

records_again : (events before : List ThreadEvent) (at : ℕ) → All EventFits events → read_on before at (flat_map event_bytes events) ≡ Ok (before ++ events)
records_again [] before at fits = read_all before at ∙ ap (λ (es : List ThreadEvent). Ok es) (sym (append-nil before))
records_again (e ∷ events) before at fits =
    let rest = flat_map event_bytes events in
    let bytes = event_bytes e ++ rest in
    let same = event_again e rest (All-head EventFits e events fits) in
    read_more before at bytes (basic_passing e.event.kind bytes) (omega arith) (record_reads at e rest)
    ∙ (ap (λ (x : ThreadEvent). read_on (before ++ x ∷ []) (at + 32) rest) same
    ∙ (records_again events (before ++ e ∷ []) (at + 32) (All-tail EventFits e events fits)
    ∙ ap (λ (es : List ThreadEvent). Ok es) (append_assoc before (e ∷ []) events)))

-- the trace that a log of these events reads as
abbrev pub trace_again : Header → List ThreadEvent → Trace
trace_again header events = record { header = basic_header (log_bytes header events); blocks = runs events }

log_again : (header : Header) (events : List ThreadEvent) → All EventFits events → basic_of (log_bytes header events) ≡ Ok (trace_again header events)
log_again header events fits =
    let bytes = log_bytes header events in
    let whole : nat_lt (length bytes) 32 ≡ false = le-ltb (length bytes) 32 (omega arith) in
    rw whole (ap (log_read (basic_header bytes)) (records_again events [] 32 fits))

-- the frequency too
frequency_again : (header : Header) (events : List ThreadEvent) → header.frequency < 2 ^ 64 → (basic_header (log_bytes header events)).frequency ≡ header.frequency
frequency_again header events low = little_number-reads_back 8 header.frequency (replicate 16 0 ++ flat_map event_bytes events) low

pub log_reads_back : (trace : Trace) → TraceFits trace → (back : Trace) × LogReadsAs trace back
log_reads_back trace fits =
    let events = thread_events trace.blocks in (
      trace_again trace.header events,
      record {
        read = log_again trace.header events fits.events;
        frequency = frequency_again trace.header events fits.frequency;
        events = (runs_are events).events;
      },
    )
