-- The calls of a desk, in their order.
use Rattle.std.proofs.Common.{◌≡◌, ℕ, List, Option, Result, Ok, Err, inl, inr, subst}
use Rattle.xray_io.specs.Calls.{CallMade, Went}
use Rattle.xray_io.specs.Reads.{IsReading}
use Rattle.xray_io.specs.declared.faults.ReadError.{ReadError}
use Rattle.xray_program.specs.Order.{ReadsWhole}
use Rattle.xray_program.specs.private.Takes.{IsFaultStop, IsReadStop, StopsTaking}
use Rattle.xray_program.specs.declared.stop.Stop.{Stop}
use Rattle.xray_program.specs.declared.stop.Stop.TheVariants as stops

-- something else is said of the same calls
pub went_as : {C : Type 0} (Way P Q : List C → Type 0) → Went Way P → ((calls : List C) → P calls → Q calls) → Went Way Q
went_as Way P Q went then = record { calls = went.calls; way = went.way; are = then went.calls went.are }

-- ---- one input

-- the reads of an input that wasn't read whole are those of its stop
read_stopped : (name : List ℕ) (limit : ℕ) (error : ReadError) (stop : Stop) (calls : List CallMade) → IsReadStop name error stop
    → (let answer : Result ℕ ReadError = Err error in IsReading name limit answer calls) → StopsTaking name limit stop calls
read_stopped name limit error stops.BadLine calls is reads = absurd is
read_stopped name limit error (stops.Unread n) calls (same, is) reads =
    subst (λ (e : ReadError). let answer : Result ℕ ReadError = Err e in IsReading name limit answer calls) is reads
read_stopped name limit error (stops.TooLong n) calls (same, is) reads =
    subst (λ (e : ReadError). let answer : Result ℕ ReadError = Err e in IsReading name limit answer calls) is reads
read_stopped name limit error (stops.Refused n kind words) calls is reads = absurd is
read_stopped name limit error (stops.Fell words) calls is reads = absurd is
read_stopped name limit error (stops.Unwritten n) calls is reads = absurd is
read_stopped name limit error stops.NoMemory calls is reads =
    inl (subst (λ (e : ReadError). let answer : Result ℕ ReadError = Err e in IsReading name limit answer calls) is reads)

pub unread_calls : {Way : List CallMade → Type 0} (name : List ℕ) (limit asked : ℕ) (answer : Result ℕ ReadError) (error : ReadError) (stop : Stop)
    → asked ≡ limit → answer ≡ Err error → IsReadStop name error stop → Went Way (IsReading name asked answer) → Went Way (StopsTaking name limit stop)
unread_calls {Way = Way} name limit asked answer error stop same is stopped went =
    went_as Way (IsReading name asked answer) (StopsTaking name limit stop) went (λ calls reads.
    read_stopped name limit error stop calls stopped
    (subst (λ (n : ℕ). let failed : Result ℕ ReadError = Err error in IsReading name n failed calls) same
    (subst (λ (a : Result ℕ ReadError). IsReading name asked a calls) is reads)))

-- and so are those of one that was read whole, and refused
faulted : (name kind : List ℕ) (limit : ℕ) (told : Option (List ℕ)) (stop : Stop) (calls : List CallMade) → IsFaultStop name kind told stop
    → ReadsWhole name limit calls → StopsTaking name limit stop calls
faulted name kind limit told stops.BadLine calls is reads = absurd is
faulted name kind limit told (stops.Unread n) calls is reads = absurd is
faulted name kind limit told (stops.TooLong n) calls is reads = absurd is
faulted name kind limit told (stops.Refused n k words) calls is reads = reads
faulted name kind limit told (stops.Fell words) calls is reads = absurd is
faulted name kind limit told (stops.Unwritten n) calls is reads = absurd is
faulted name kind limit told stops.NoMemory calls is reads = inr reads

pub faulted_calls : {Way : List CallMade → Type 0} (name kind : List ℕ) (limit asked : ℕ) (answer : Result ℕ ReadError) (count : ℕ) (told : Option (List ℕ))
    (stop : Stop) → asked ≡ limit → answer ≡ Ok count → IsFaultStop name kind told stop → Went Way (IsReading name asked answer)
    → Went Way (StopsTaking name limit stop)
faulted_calls {Way = Way} name kind limit asked answer count told stop same is stopped went =
    went_as Way (IsReading name asked answer) (StopsTaking name limit stop) went (λ calls reads.
    faulted name kind limit told stop calls stopped (
      count,
      subst (λ (n : ℕ). let whole : Result ℕ ReadError = Ok count in IsReading name n whole calls) same
          (subst (λ (a : Result ℕ ReadError). IsReading name asked a calls) is reads),
    ))
