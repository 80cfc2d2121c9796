-- The lines of a dump.
use Rattle.std.proofs.Common.{◌≡◌, ℕ, ◌+◌, ◌<◌, ◌≤◌, ◌%◌, ◌++◌, ◌∙◌, List, [], length, drop, map, inl, inr, sym, ap, ap₂, arith, lit<, lit≤, eqb, slice_index, append_assoc, Ok, Err}
use Rattle.std.specs.Prelude.{codes, decimal, nat_lt, Option, Result, Some}
use Rattle.std.specs.Result.{result_err}
use Rattle.std.proofs.Math.ListN.{drop_of_length-le}
use Rattle.std.proofs.lemmas.Bool.{cases_Bool}
use Rattle.std.proofs.lemmas.List.{append-nil, drop-drop, length-drop}
use Rattle.std.specs.List.{flat_map}
use Rattle.std.specs.Option.{option_map, unwrap_or}
use Rattle.fdr_file.specs.declared.fault.TraceFault.{TraceFault}
use Rattle.fdr_file.specs.declared.header.Header.{Header}
use Rattle.fdr_file.specs.declared.trace.Block.{Block}
use Rattle.fdr_file.specs.declared.trace.Trace.{Trace}
use Rattle.fdr_file.specs.declared.stage.Stage.{Stage}
use Rattle.fdr_file.specs.declared.stage.Stage.TheVariants.{Due, Within, Faulty}
use Rattle.fdr_file.specs.Scanning.{Scanned, scanned_ends, stage_ends, with_blocks}
use Rattle.fdr_file.specs.Traces.{header_in, record_in, record_length, standing_at, standings, trace_of, version_in}
use Rattle.fault_words.specs.Words.{words_text}
use Rattle.fault_words.specs.declared.words.Words.{Words}
use Rattle.trace_words.specs.TraceWords.{trace_words}
use Rattle.xray_io.specs.Piece.{piece_text}
use Rattle.trace_forms.specs.Dumps.{fault_of, header_line, record_lines, standing_line}
use Rattle.fdr_file.proofs.NextParts.{starts_first}
use Rattle.trace_forms.proofs.Places.{starts_none}

-- the lines of the records from a place on
abbrev pub lines_at : ℕ → List ℕ → List ℕ
lines_at at bytes = flat_map standing_line (standings at bytes)

-- a record has some bytes
pub length_some : (bytes : List ℕ) → 0 < record_length bytes
length_some bytes = elim (cases_Bool (eqb (slice_index bytes 0 % 2) 0)) [ inl e ↦ rw e (lit< tt) | inr e ↦ rw e (lit< tt) ]

-- the line of the first record, and those after it
pub lines_first : (at : ℕ) (bytes : List ℕ) → 0 < length bytes
    → lines_at at bytes ≡ standing_line (at, record_in bytes) ++ lines_at (at + record_length bytes) (drop (record_length bytes) bytes)
lines_first at bytes some =
    ap (λ (places : List (ℕ × List ℕ)). flat_map standing_line (map standing_at places)) (starts_first record_length at bytes some (length_some bytes))

-- no lines
pub lines_none : (at : ℕ) → lines_at at [] ≡ []
lines_none at = ap (λ (places : List (ℕ × List ℕ)). flat_map standing_line (map standing_at places)) (starts_none record_length at)

-- the line of the next record
lines_next : (given bytes : List ℕ) (at : ℕ) → record_lines bytes ≡ given ++ lines_at at (drop at bytes) → at < length bytes
    → record_lines bytes
    ≡ (given ++ standing_line (at, record_in (drop at bytes))) ++ lines_at (at + record_length (drop at bytes)) (drop (at + record_length (drop at bytes)) bytes)
lines_next given bytes at before some =
    let here = drop at bytes in
    let len = record_length here in
    before ∙ (ap (λ (t : List ℕ). given ++ t) (lines_first at here (omega (arith, length-drop at bytes)))
    ∙ (ap (λ (b : List ℕ). given ++ (standing_line (at, record_in here) ++ lines_at (at + len) b)) (drop-drop len at bytes)
    ∙ sym (append_assoc given (standing_line (at, record_in here)) (lines_at (at + len) (drop (at + len) bytes)))))

pub lines_more : (given bytes rest : List ℕ) (at len : ℕ) → record_lines bytes ≡ given ++ lines_at at (drop at bytes) → at < length bytes → rest ≡ drop at bytes
    → len ≡ record_length rest
    → record_lines bytes ≡ (given ++ standing_line (at, record_in rest)) ++ lines_at (at + len) (drop (at + len) bytes)
lines_more given bytes rest at len before some is size =
    lines_next given bytes at before some
    ∙ ap₂ (λ (r : List ℕ) (n : ℕ). (given ++ standing_line (at, record_in r)) ++ lines_at (at + n) (drop (at + n) bytes)) (sym is) (sym (size ∙ ap record_length is))

-- no more lines
pub lines_end : (given bytes : List ℕ) (at : ℕ) → record_lines bytes ≡ given ++ lines_at at (drop at bytes) → length bytes ≤ at → given ≡ record_lines bytes
lines_end given bytes at before end =
    sym (before ∙ (ap (λ (t : List ℕ). given ++ t) (ap (lines_at at) (drop_of_length-le bytes end) ∙ lines_none at) ∙ append-nil given))

-- a record has 8 or 16 bytes
pub length_few : (bytes : List ℕ) → record_length bytes ≤ 16
length_few bytes = elim (cases_Bool (eqb (slice_index bytes 0 % 2) 0)) [ inl e ↦ rw e (lit≤ tt) | inr e ↦ rw e (lit≤ tt) ]

-- ---- the header

by_stage : (len : ℕ) (header : Header) (blocks : List Block) (trace : Trace) (stage : Stage) → stage_ends len header blocks stage ≡ Ok trace → trace.header ≡ header
by_stage len header blocks trace Due ends =
    let read : Trace = record { header = header; blocks = blocks } in
    let same : read ≡ trace = cc in
    ap (λ (t : Trace). t.header) (sym same)
by_stage len header blocks trace (Within span inside) ends = absurd cc
by_stage len header blocks trace (Faulty span fault) ends =
    elim (cases_Bool (nat_lt len span.end)) [
      | inl cut ↦ let h = rw cut at ends in absurd cc
      | inr whole ↦ let h = rw whole at ends in absurd cc
    ]

-- the header of a trace is what its first bytes say
pub header_is : (bytes : List ℕ) (trace : Trace) (s : Scanned) → trace_of bytes ≡ Ok trace → trace_of bytes ≡ scanned_ends (length bytes) (header_in bytes) s
    → trace.header ≡ header_in bytes
header_is bytes trace s read ends = by_stage (length bytes) (header_in bytes) s.blocks trace s.stage (sym ends ∙ read)

-- ---- the last line

-- the fault of a scan is that of the bytes
pub fault_is : (scanned : Result Header TraceFault) (blocks : List Block) (read : Result Trace TraceFault) → with_blocks scanned blocks ≡ read
    → result_err scanned ≡ fault_of read
fault_is (Ok header) blocks read is = ap fault_of is
fault_is (Err fault) blocks read is = ap fault_of is

-- ---- pieces

pub header_pieces : (bytes : List ℕ) (version : ℕ) → version ≡ version_in bytes
    → codes "0 header version " ++ (decimal version ++ (codes " type 1\n" ++ [])) ≡ header_line bytes
header_pieces bytes version same = rw same (simp append_assoc)

-- the words of a fault
pub words_of : (words : Words) (fault : TraceFault) → option_map words_text (Some words) ≡ trace_words fault
    → piece_text words.first ++ (piece_text words.second ++ (piece_text words.third ++ (piece_text words.fourth ++ []))) ≡ unwrap_or (trace_words fault) []
words_of words fault told =
    regroup (piece_text words.first) (piece_text words.second) (piece_text words.third) (piece_text words.fourth)
    ∙ ap (λ (o : Option (List ℕ)). unwrap_or o []) told
  where
    regroup : (a b c d : List ℕ) → a ++ (b ++ (c ++ (d ++ []))) ≡ a ++ b ++ c ++ d
    regroup a b c d = simp (append_assoc, append-nil)
