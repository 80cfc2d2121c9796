-- Basic logs, by their pieces.
use Rattle.std.proofs.Common.{◌≡◌, ℕ, ◌++◌, List, [], ◌∷◌, refl}
use Rattle.std.specs.Prelude.{replicate}
use Rattle.byteorder.specs.Endian.{little_bytes}
use Rattle.fdr_record.specs.Records.{action_of}
use Rattle.fdr_file.specs.declared.header.Header.{Header}
use Rattle.fdr_file.specs.ThreadEvents.{ThreadEvent}
use Rattle.basic_record.specs.BasicRecords.{arg_logged}
use Rattle.trace_forms.specs.BasicLogs.{basic_header_bytes, event_bytes}

pub header_pieces : (header : Header) (version form flags frequency : List ℕ) → version ≡ little_bytes 2 3 → form ≡ little_bytes 2 0 → flags ≡ little_bytes 4 3
    → frequency ≡ little_bytes 8 header.frequency
    → version ++ (form ++ (flags ++ (frequency ++ (replicate 16 0 ++ [])))) ≡ basic_header_bytes header
header_pieces header version form flags frequency same_version same_form same_flags same_frequency =
    rw (same_version, same_form, same_flags, same_frequency) refl

pub record_pieces : (e : ThreadEvent) (number logged : ℕ) (func tsc thread pid arg : List ℕ) → number ≡ action_of e.event.kind → logged ≡ arg_logged e.event.kind e.event.arg
    → func ≡ little_bytes 4 e.event.func → tsc ≡ little_bytes 8 e.event.tsc → thread ≡ little_bytes 4 e.thread → pid ≡ little_bytes 4 e.pid → arg ≡ little_bytes 8 logged
    → (0 ∷ 0 ∷ []) ++ ((e.event.cpu ∷ number ∷ []) ++ (func ++ (tsc ++ (thread ++ (pid ++ (arg ++ [])))))) ≡ event_bytes e
record_pieces e number logged func tsc thread pid arg same_number same_logged same_func same_tsc same_thread same_pid same_arg =
    rw (same_number, same_func, same_tsc, same_thread, same_pid, same_arg, same_logged) refl
