-- The record of an event, and what it reads as.
use Rattle.std.proofs.Common.{◌≡◌, ℕ, ◌<◌, ◌^◌, ◌++◌, List, length, drop, Ok, Some, refl, sym, lit<, arith, false}
use Rattle.std.specs.Prelude.{nat_lt}
use Rattle.std.proofs.lemmas.Bool.{le-ltb}
use Rattle.byteorder.specs.Endian.{little_bytes, little_number}
use Rattle.byteorder.specs.Numbers.{little_number-reads_back}
use Rattle.fdr_record.specs.declared.event.Kind.{Kind}
use Rattle.fdr_record.specs.declared.event.Kind.TheVariants.{Entry, Exit, TailExit, EntryArgs}
use Rattle.fdr_record.specs.Recordable.{ArgFits}
use Rattle.fdr_record.specs.Records.{action_of}
use Rattle.fdr_file.specs.ThreadEvents.{ThreadEvent, event_given}
use Rattle.basic_record.specs.BasicRecords.{arg_logged, kind_numbered}
use Rattle.trace_forms.specs.BasicLogs.{EventFits, event_bytes, basic_passing, basic_record_rows}

-- the number in the first bytes of more
back : (n x : ℕ) (rest : List ℕ) → x < 256 ^ n → little_number n (little_bytes n x ++ rest) ≡ x
back n x rest low = little_number-reads_back n x rest low

-- an argument that was logged is logged again
arg_again : (kind : Kind) (arg number : ℕ) → ArgFits kind arg → number ≡ arg_logged kind arg → arg_logged kind number ≡ arg
arg_again Entry arg number fits is = sym fits
arg_again Exit arg number fits is = sym fits
arg_again TailExit arg number fits is = sym fits
arg_again EntryArgs arg number fits is = is

-- what is logged fits its bytes if the argument does
pub arg_low : (kind : Kind) (arg : ℕ) → arg < 2 ^ 64 → arg_logged kind arg < 2 ^ 64
arg_low Entry arg low = lit< tt
arg_low Exit arg low = lit< tt
arg_low TailExit arg low = lit< tt
arg_low EntryArgs arg low = low

-- the number of a kind reads as the kind
kind_again : (kind : Kind) → kind_numbered (action_of kind) ≡ Some kind
kind_again Entry = refl
kind_again Exit = refl
kind_again TailExit = refl
kind_again EntryArgs = refl

-- an event of these fields, with its thread and its process
abbrev made : Kind → ℕ → ℕ → ℕ → ℕ → ℕ → ℕ → ThreadEvent
made kind thread pid cpu func tsc arg =
    record { thread = thread; pid = pid; event = record { tsc = tsc; arg = arg; func = func; cpu = cpu; kind = kind } }

-- the event that is read from a record is the one that was written
pub event_again : (e : ThreadEvent) (rest : List ℕ) → EventFits e → event_given (basic_passing e.event.kind (event_bytes e ++ rest)) ≡ e
event_again e rest fits =
    let kind = e.event.kind in
    let bytes = event_bytes e ++ rest in
    let func : little_number 4 (drop 4 bytes) ≡ e.event.func = back 4 e.event.func (drop 8 bytes) fits.func in
    let tsc : little_number 8 (drop 8 bytes) ≡ e.event.tsc = back 8 e.event.tsc (drop 16 bytes) fits.tsc in
    let thread : little_number 4 (drop 16 bytes) ≡ e.thread = back 4 e.thread (drop 20 bytes) fits.thread in
    let pid : little_number 4 (drop 20 bytes) ≡ e.pid = back 4 e.pid (drop 24 bytes) fits.pid in
    let number : little_number 8 (drop 24 bytes) ≡ arg_logged kind e.event.arg = back 8 (arg_logged kind e.event.arg) (drop 32 bytes) (arg_low kind e.event.arg fits.arg) in
    let arg = arg_again kind e.event.arg (little_number 8 (drop 24 bytes)) fits.logged number in
    λ i. made kind (thread i) (pid i) e.event.cpu (func i) (tsc i) (arg i)

-- a record with bytes behind it
pub record_reads : (at : ℕ) (e : ThreadEvent) (rest : List ℕ)
    → basic_record_rows at (event_bytes e ++ rest) ≡ Ok (basic_passing e.event.kind (event_bytes e ++ rest))
record_reads at e rest =
    let whole : nat_lt (length (event_bytes e ++ rest)) 32 ≡ false = le-ltb (length (event_bytes e ++ rest)) 32 (omega arith) in
    rw (whole, kind_again e.event.kind) refl
