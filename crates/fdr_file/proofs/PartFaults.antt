-- Which faults bytes may have: those of a header, and those of a block. None is that memory ran out.
use Rattle.std.proofs.Common.{◌≡◌, ℕ, zero, suc, ◌+◌, ◌-◌, ◌≤◌, Bool, true, false, cond, eqb, leb, ltb, List, [], ◌∷◌, ◌++◌, length, drop, Option, Some, None, Result, Ok, Err, inl, inr, refl, sym, ap, subst, ◌∙◌, arith}
use Rattle.std.specs.Prelude.{⊤, ◌||◌, ◌≢◌, ◌⊎◌, not}
use Rattle.std.specs.List.{flat_map, list_any, AllByRecursion}
use Rattle.std.proofs.lemmas.List.Concat.{flat_map-cons}
use Rattle.xray_io.specs.Rows.{First, NeedsPart, ◌>>=◌}
use Rattle.fdr_record.specs.declared.rec.Rec.{Rec}
use Rattle.fdr_record.specs.declared.fault.RecFault.{RecFault}
use Rattle.fdr_record.specs.declared.fault.RecFault.TheVariants as decoder_faults
use Rattle.fdr_file.specs.declared.fault.TraceFault.{TraceFault}
use Rattle.fdr_file.specs.declared.fault.TraceFault.TheVariants as faults
use Rattle.fdr_file.specs.declared.version.Version.{Version}
use Rattle.fdr_file.specs.Places.{starts}
use Rattle.fdr_file.specs.Prefixes.{IsHeaderFault}
use Rattle.fdr_file.specs.Traces.{Standing, block_length, block_standings, block_starts, fault_at, may_stand, names_cpu, needs_cpu, preamble_bytes, record_in, size_named, trace_of, type_in, version_in, version_of}
use Rattle.fdr_file.specs.Scanning.{version_read}
use Rattle.fdr_file.specs.private.Faults.{block_faults, blocks_faults, decided, extents_faults, record_faults, size_faults, standing_faults, told_by, unless}
use Rattle.fdr_file.proofs.TraceRows.{header_first, rows_decide}

-- a fault of a block, which begins after the header
abbrev pub IsBlockFault : TraceFault → Type 0
IsBlockFault (faults.Short at) = 32 ≤ at
IsBlockFault (faults.Version number) = ⊥
IsBlockFault (faults.Form number) = ⊥
IsBlockFault (faults.Order at) = ⊤
IsBlockFault (faults.Extents at) = ⊤
IsBlockFault (faults.Bad at fault) = ⊤
IsBlockFault (faults.NoBase at) = ⊤
IsBlockFault faults.NoMemory = ⊥

abbrev AreBlockFaults : List TraceFault → Type 0
AreBlockFaults found = AllByRecursion IsBlockFault found

both : (some more : List TraceFault) → AreBlockFaults some → AreBlockFaults more → AreBlockFaults (some ++ more)
both [] more here there = there
both (fault ∷ some) more (here, rest) there = (here, both some more rest there)

unless_is : (holds : Bool) (fault : TraceFault) → IsBlockFault fault → AreBlockFaults (unless holds fault)
unless_is true fault is = tt
unless_is false fault is = (is, tt)

fault_is : (at : ℕ) (fault : RecFault) → IsBlockFault (fault_at at fault)
fault_is at decoder_faults.Short = tt
fault_is at (decoder_faults.Action action) = tt
fault_is at (decoder_faults.Kind kind) = tt

standing_is : (version : Version) (before : List Rec) (said : List Standing) → AreBlockFaults (standing_faults version before said)
standing_is version before [] = tt
standing_is version before ((at, Err fault) ∷ following) = (fault_is at fault, tt)
standing_is version before ((at, Ok r) ∷ following) =
    both (record_faults version before at r) (standing_faults version (r ∷ before) following)
    (both (unless (may_stand version before r) (faults.Order at)) (unless (list_any names_cpu before || not (needs_cpu r)) (faults.NoBase at))
    (unless_is (may_stand version before r) (faults.Order at) tt)
    (unless_is (list_any names_cpu before || not (needs_cpu r)) (faults.NoBase at) tt))
    (standing_is version (r ∷ before) following)

size_is : (version : Version) (at : ℕ) (bytes : List ℕ) (size : Option ℕ) → 32 ≤ at → AreBlockFaults (size_faults version (at, bytes) size)
size_is version at bytes None past = (tt, tt)
size_is version at bytes (Some size) past =
    both (unless (leb (preamble_bytes version) size) (faults.Extents at) ++ unless (leb (16 + size) (length bytes)) (faults.Short at)) (standing_faults version [] (block_standings (at, bytes)))
    (both (unless (leb (preamble_bytes version) size) (faults.Extents at)) (unless (leb (16 + size) (length bytes)) (faults.Short at))
    (unless_is (leb (preamble_bytes version) size) (faults.Extents at) tt)
    (unless_is (leb (16 + size) (length bytes)) (faults.Short at) past))
    (standing_is version [] (block_standings (at, bytes)))

extents_is_of : (version : Version) (at : ℕ) (bytes : List ℕ) (a : Result Rec RecFault) → 32 ≤ at → AreBlockFaults (extents_faults version (at, bytes) a)
extents_is_of version at bytes (Ok r) past = size_is version at bytes (size_named r) past
extents_is_of version at bytes (Err fault) past = (tt, tt)

block_is : (version : Version) (at : ℕ) (bytes : List ℕ) → 32 ≤ at → AreBlockFaults (block_faults version (at, bytes))
block_is version at bytes past = by_length (ltb (length bytes) 16)
  where
    by_length : (short : Bool) → AreBlockFaults (cond short (faults.Short at ∷ []) (extents_faults version (at, bytes) (record_in bytes)))
    by_length true = (past, tt)
    by_length false = extents_is_of version at bytes (record_in bytes) past

abbrev IsPast : ℕ × List ℕ → Type 0
IsPast (at, bytes) = 32 ≤ at

-- parts begin no earlier than the first of them
starts_past : (len : List ℕ → ℕ) (left at : ℕ) (bytes : List ℕ) → 32 ≤ at → AllByRecursion IsPast (starts len left at bytes)
unfolding starts
starts_past len left at [] past = tt
starts_past len zero at (byte ∷ bytes) past = (past, starts_past len (len (byte ∷ bytes) - 1) (at + 1) bytes (omega arith))
starts_past len (suc left) at (byte ∷ bytes) past = starts_past len left (at + 1) bytes (omega arith)

blocks_are : (version : Version) (left : List (ℕ × List ℕ)) → AllByRecursion IsPast left → AreBlockFaults (flat_map (block_faults version) left)
blocks_are version [] past = tt
blocks_are version ((at, bytes) ∷ left) (here, rest) =
    subst AreBlockFaults (sym (flat_map-cons (block_faults version) (at, bytes) left))
    (both (block_faults version (at, bytes)) (flat_map (block_faults version) left) (block_is version at bytes here) (blocks_are version left rest))

decided_is : {A : Type 0} (found : List TraceFault) (x : A) (fault : TraceFault) → AreBlockFaults found → decided found x ≡ Err fault → IsBlockFault fault
decided_is [] x fault are e = absurd cc
decided_is (first ∷ later) x fault (here, rest) e =
    let same : first ≡ fault = cc in
    subst IsBlockFault same here

pub header_is : (bytes : List ℕ) (fault : TraceFault) → version_read bytes ≡ Err fault → IsHeaderFault fault
header_is bytes fault is = by_tests (ltb (length bytes) 32) (version_of (version_in bytes)) (eqb (type_in bytes) 1) is
  where
    by_tests : (short : Bool) (number : Option Version) (form : Bool)
        → First short (Err (faults.Short 0)) (NeedsPart number (Err (faults.Version (version_in bytes))) λ v. First (not form) (Err (faults.Form (type_in bytes))) (Ok v)) ≡ Err fault
        → IsHeaderFault fault
    by_tests true number form h =
        let same : faults.Short 0 ≡ fault = cc in
        subst IsHeaderFault same refl
    by_tests false None form h =
        let same : faults.Version (version_in bytes) ≡ fault = cc in
        subst IsHeaderFault same tt
    by_tests false (Some v) false h =
        let same : faults.Form (type_in bytes) ≡ fault = cc in
        subst IsHeaderFault same tt
    by_tests false (Some v) true h = absurd cc

-- a fault of bytes is one of the header, or else of a block
abbrev pub IsOfPart : List ℕ → TraceFault → Type 0
IsOfPart bytes fault = (IsHeaderFault fault × (version_read bytes ≡ Err fault)) ⊎ (IsBlockFault fault × ((version : Version) × (version_read bytes ≡ Ok version)))

pub fault_of : (bytes : List ℕ) (fault : TraceFault) → trace_of bytes ≡ Err fault → IsOfPart bytes fault
fault_of bytes fault is =
    by_version (version_read bytes) refl (sym (header_first bytes (λ version. decided (blocks_faults version bytes) (told_by bytes))) ∙ sym (rows_decide bytes) ∙ is)
  where
    by_version : (o : Result Version TraceFault) → version_read bytes ≡ o → (o >>= λ version. decided (blocks_faults version bytes) (told_by bytes)) ≡ Err fault → IsOfPart bytes fault
    by_version (Ok version) read e =
        inr (decided_is (blocks_faults version bytes) (told_by bytes) fault (blocks_are version (block_starts bytes) (starts_past block_length 0 32 (drop 32 bytes) (omega arith))) e, (version, read))
    by_version (Err first) read e =
        let same : first ≡ fault = cc in
        let found : version_read bytes ≡ Err fault = read ∙ ap (λ (f : TraceFault). Err f) same in
        inl (header_is bytes fault found, found)

-- a fault of the header is that of the bytes
pub fault_first : (bytes : List ℕ) (fault : TraceFault) → version_read bytes ≡ Err fault → trace_of bytes ≡ Err fault
fault_first bytes fault is =
    rows_decide bytes ∙ header_first bytes (λ version. decided (blocks_faults version bytes) (told_by bytes)) ∙ rw is refl

pub never_memory : (bytes : List ℕ) → trace_of bytes ≢ Err faults.NoMemory
never_memory bytes is = elim (fault_of bytes faults.NoMemory is) [ inl header ↦ header.0 | inr block ↦ block.0 ]
