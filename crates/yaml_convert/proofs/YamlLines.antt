-- The lines of a YAML document, as they are put together.
use Rattle.std.proofs.Common.{◌≡◌, ◌++◌, ◌∙◌, ℕ, List, [], ◌∷◌, refl, sym, ap, append_assoc}
use Rattle.std.specs.Prelude.{codes, decimal, Ok}
use Rattle.std.specs.List.{flat_map}
use Rattle.std.proofs.lemmas.List.{append-nil}
use Rattle.std.proofs.lemmas.List.Concat.{flat_map-append}
use Rattle.fdr_record.specs.declared.event.Event.{Event}
use Rattle.fdr_file.specs.declared.header.Header.{Header}
use Rattle.fdr_file.specs.declared.trace.Trace.{Trace}
use Rattle.fdr_file.specs.ThreadEvents.{ThreadEvent, thread_events}
use Rattle.fdr_file.specs.Traces.{trace_of}
use Rattle.map_names.specs.Naming.{Naming}
use Rattle.yaml_convert.specs.private.Stamps.{happened_text, stamp_text}
use Rattle.xray_image.specs.Extract.{truth_text}
use Rattle.yaml_convert.specs.Yaml.{arg_text, event_counter, event_end, event_line, event_start, header_text, event_kind_text, records_text, yaml_of_bytes, yaml_read, yaml_text}

-- ---- pieces

pub header_pieces : (header : Header) (version frequency : ℕ) (constant nonstop : List ℕ) → version ≡ header.version → constant ≡ truth_text header.constant
    → nonstop ≡ truth_text header.nonstop → frequency ≡ header.frequency
    → codes "---\nheader:\n  version: " ++ (decimal version ++ (codes "\n  type: 1\n  constant-tsc: " ++ (constant ++ (codes "\n  nonstop-tsc: " ++ (nonstop
    ++ (codes "\n  cycle-frequency: " ++ (decimal frequency ++ (codes "\n" ++ []))))))))
    ≡ header_text header
header_pieces header version frequency constant nonstop same_version same_constant same_nonstop same_frequency =
    rw (same_version, same_constant, same_nonstop, same_frequency) (simp append_assoc)

-- ---- rows

pub start_row : (event : Event) (func : ℕ) (r r1 r2 r3 : List ℕ) → func ≡ event.func → r ≡ [] → r1 ≡ codes ", function: '" ++ r → r2 ≡ decimal func ++ r1
    → r3 ≡ codes "  - { type: 0, func-id: " ++ r2 → r3 ≡ event_start event
start_row event func r r1 r2 r3 same e e1 e2 e3 = rw (e3, e2, e1, e, same) (simp append_assoc)

pub stamp_row : (cpu thread pid c t p : ℕ) (r r1 r2 r3 r4 r5 r6 r7 : List ℕ) → c ≡ cpu → t ≡ thread → p ≡ pid → r ≡ [] → r1 ≡ codes ", kind: " ++ r
    → r2 ≡ decimal p ++ r1 → r3 ≡ codes ", process: " ++ r2 → r4 ≡ decimal t ++ r3 → r5 ≡ codes ", thread: " ++ r4 → r6 ≡ decimal c ++ r5
    → r7 ≡ codes "', cpu: " ++ r6 → r7 ≡ stamp_text cpu thread pid
stamp_row cpu thread pid c t p r r1 r2 r3 r4 r5 r6 r7 same_cpu same_thread same_pid e e1 e2 e3 e4 e5 e6 e7 =
    rw (e7, e6, e5, e4, e3, e2, e1, e, same_cpu, same_thread, same_pid) (simp append_assoc)

pub happened_row : (event : Event) (r r1 r2 r3 r4 r5 : List ℕ) → r ≡ [] → r1 ≡ codes " }\n" ++ r → r2 ≡ decimal event.tsc ++ r1 → r3 ≡ codes ", tsc: " ++ r2
    → r4 ≡ arg_text event.kind event.arg ++ r3 → r5 ≡ event_kind_text event.kind ++ r4 → r5 ≡ happened_text event
happened_row event r r1 r2 r3 r4 r5 e e1 e2 e3 e4 e5 = rw (e5, e4, e3, e2, e1, e) (simp append_assoc)

-- the text after a name is put together of the stamp and what happened
pub end_whole : (e : ThreadEvent) → stamp_text e.event.cpu e.thread e.pid ++ happened_text e.event ≡ event_end e
end_whole e =
    let stamp = stamp_text e.event.cpu e.thread e.pid in
    let kind = event_kind_text e.event.kind in
    let arg = arg_text e.event.kind e.event.arg in
    let counter = event_counter e.event in
    sym (ap (λ (t : List ℕ). t ++ counter) (append_assoc stamp kind arg) ∙ append_assoc stamp (kind ++ arg) counter)

-- ---- whether there is an event

-- ---- lines of blocks

-- ---- the whole document

pub whole_yaml_left : (names : Naming) (trace : Trace)
    → (header_text trace.header ++ records_text names (thread_events trace.blocks)) ++ codes "...\n" ≡ yaml_text names trace
whole_yaml_left names trace = refl

pub whole_yaml : (names : Naming) (trace : Trace)
    → header_text trace.header ++ (records_text names (thread_events trace.blocks) ++ codes "...\n") ≡ yaml_text names trace
whole_yaml names trace = sym (append_assoc (header_text trace.header) (records_text names (thread_events trace.blocks)) (codes "...\n"))

-- ---- lines of events that are given one after the other

-- one more of them is given
pub one_given : (all given left later : List ThreadEvent) (e : ThreadEvent) → all ≡ given ++ left → left ≡ e ∷ later → all ≡ (given ++ e ∷ []) ++ later
one_given all given left later e before is =
    before ∙ (ap (λ (es : List ThreadEvent). given ++ es) is ∙ sym (append_assoc given (e ∷ []) later))

-- its line comes after theirs
pub one_line : (names : Naming) (given : List ThreadEvent) (e : ThreadEvent)
    → flat_map (event_line names) given ++ event_line names e ≡ flat_map (event_line names) (given ++ e ∷ [])
one_line names given e =
    sym (flat_map-append (event_line names) given (e ∷ []) ∙ ap (λ (t : List ℕ). flat_map (event_line names) given ++ t) (append-nil (event_line names e)))

-- the lines of all of them
pub all_lines : (names : Naming) (all given left later : List ThreadEvent) (e : ThreadEvent) → all ≡ given ++ left → left ≡ e ∷ later
    → (flat_map (event_line names) given ++ event_line names e) ++ flat_map (event_line names) later ≡ flat_map (event_line names) all
all_lines names all given left later e before is =
    ap (λ (t : List ℕ). t ++ flat_map (event_line names) later) (one_line names given e)
    ∙ (sym (flat_map-append (event_line names) (given ++ e ∷ []) later)
    ∙ ap (flat_map (event_line names)) (sym (one_given all given left later e before is)))

-- the records, of which the first is given
pub first_line : (names : Naming) (all later : List ThreadEvent) (e : ThreadEvent) → all ≡ e ∷ later
    → (codes "records:\n" ++ event_line names e) ++ flat_map (event_line names) later ≡ records_text names all
first_line names all later e is =
    append_assoc (codes "records:\n") (event_line names e) (flat_map (event_line names) later) ∙ ap (records_text names) (sym is)

-- ---- the document of bytes

pub yaml_of_read : (names : Naming) (bytes : List ℕ) (trace : Trace) → trace_of bytes ≡ Ok trace → yaml_text names trace ≡ yaml_of_bytes names bytes
yaml_of_read names bytes trace read = ap (yaml_read names) (sym read)

-- the document is put together of its header and its records
pub yaml_of_parts : (names : Naming) (bytes : List ℕ) (trace : Trace) (header : Header) (events : List ThreadEvent) → trace_of bytes ≡ Ok trace
    → header ≡ trace.header → events ≡ thread_events trace.blocks
    → (header_text header ++ records_text names events) ++ codes "...\n" ≡ yaml_of_bytes names bytes
yaml_of_parts names bytes trace header events read same_header same_events =
    ap (λ (h : Header). (header_text h ++ records_text names events) ++ codes "...\n") same_header
    ∙ (ap (λ (es : List ThreadEvent). (header_text trace.header ++ records_text names es) ++ codes "...\n") same_events
    ∙ yaml_of_read names bytes trace read)
