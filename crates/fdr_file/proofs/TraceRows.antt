-- The rows of a file decide as the list of all that is wrong with it does.
use Rattle.std.proofs.Common.{◌≡◌, ℕ, ◌+◌, ◌≤◌, Bool, true, false, cond, eqb, eq-eqb, leb, ltb, List, [], ◌∷◌, ◌++◌, length, map, Option, Some, None, Result, Ok, Err, inl, inr, not, refl, sym, ap, ◌∙◌, append_assoc, append-nil}
use Rattle.std.specs.Prelude.{◌||◌, ◌&&◌}
use Rattle.std.specs.List.{flat_map, list_any}
use Rattle.std.proofs.lemmas.Bool.{cases_lt, eqb-true, le-leb, le-ltb, lt-leb, lt-ltb, ltb-false}
use Rattle.std.proofs.lemmas.List.Concat.{flat_map-cons}
use Rattle.xray_io.specs.Rows.{First, InTurn, NeedsPart, ◌>>=◌}
use Rattle.fdr_record.specs.declared.rec.Rec.{Rec}
use Rattle.fdr_record.specs.declared.fault.RecFault.{RecFault}
use Rattle.fdr_file.specs.declared.fault.TraceFault.{TraceFault}
use Rattle.fdr_file.specs.declared.fault.TraceFault.TheVariants as faults
use Rattle.fdr_file.specs.declared.trace.Block.{Block}
use Rattle.fdr_file.specs.declared.trace.Trace.{Trace}
use Rattle.fdr_file.specs.declared.version.Version.{Version}
use Rattle.fdr_file.specs.Traces.{Standing, block_in, block_rows, block_standings, block_starts, extents_rows, header_in, header_rows, may_stand, names_cpu, needs_cpu, preamble_bytes, record_in, record_rows, size_named, trace_of, type_in, version_in, version_of}
use Rattle.fdr_file.specs.Scanning.{version_read}
use Rattle.fdr_file.specs.private.Faults.{block_faults, blocks_faults, by_places, decided, extents_faults, size_faults, standing_faults, told_by, unless}

-- a number is below another one, or the other one is at most it
below_is : (n m : ℕ) → ltb n m ≡ not (leb m n)
below_is n m =
    elim (cases_lt n m) [
      | inl lt ↦ rw (lt-ltb n m lt, lt-leb m n lt) refl
      | inr le ↦ rw (le-ltb n m le, le-leb m n le) refl
    ]

-- ---- a block

-- records after each other
records_decide : {A : Type 0} (version : Version) (x : A) (before : List Rec) (said : List Standing)
    → (InTurn (record_rows version) before said >>= λ _. Ok x) ≡ decided (standing_faults version before said) x
records_decide version x before [] = refl
records_decide version x before ((at, Err fault) ∷ following) = refl
records_decide {A} version x before ((at, Ok r) ∷ following) =
    by_tests (records_decide version x (r ∷ before) following) (may_stand version before r) (list_any names_cpu before) (needs_cpu r)
  where
    by_tests : (InTurn (record_rows version) (r ∷ before) following >>= λ _. Ok x) ≡ decided (standing_faults version (r ∷ before) following) x → (may named needs : Bool)
        → (First (not may) (Err (faults.Order at)) (First (needs && not named) (Err (faults.NoBase at)) (Ok (r ∷ before)))
        >>= (λ after. InTurn (record_rows version) after following) >>= λ _. Ok x)
        ≡ decided ((unless may (faults.Order at) ++ unless (named || not needs) (faults.NoBase at)) ++ standing_faults version (r ∷ before) following) x
    by_tests rest false named needs = refl
    by_tests rest true true true = rest
    by_tests rest true true false = rest
    by_tests rest true false true = refl
    by_tests rest true false false = rest

-- the block that begins at a place
size_decides : (version : Version) (at : ℕ) (bytes : List ℕ) (size : Option ℕ)
    → (NeedsPart size (Err (faults.Order at)) λ n.
    First (ltb n (preamble_bytes version)) (Err (faults.Extents at)) (First (ltb (length bytes) (16 + n)) (Err (faults.Short at))
    (InTurn (record_rows version) [] (block_standings (at, bytes)) >>= λ _. Ok (block_in (at, bytes)))))
    ≡ decided (size_faults version (at, bytes) size) (block_in (at, bytes))
size_decides version at bytes (Some size) =
    rw (below_is size (preamble_bytes version), below_is (length bytes) (16 + size)) (by_tests (leb (preamble_bytes version) size) (leb (16 + size) (length bytes)))
  where
    by_tests : (least whole : Bool)
        → First (not least) (Err (faults.Extents at)) (First (not whole) (Err (faults.Short at))
        (InTurn (record_rows version) [] (block_standings (at, bytes)) >>= λ _. Ok (block_in (at, bytes))))
        ≡ decided (unless least (faults.Extents at) ++ unless whole (faults.Short at) ++ standing_faults version [] (block_standings (at, bytes))) (block_in (at, bytes))
    by_tests false whole = refl
    by_tests true false = refl
    by_tests true true = records_decide version (block_in (at, bytes)) [] (block_standings (at, bytes))
size_decides version at bytes None = refl

extents_decide : (version : Version) (at : ℕ) (bytes : List ℕ) (a : Result Rec RecFault) → extents_rows version (at, bytes) a ≡ decided (extents_faults version (at, bytes) a) (block_in (at, bytes))
extents_decide version at bytes (Ok r) = size_decides version at bytes (size_named r)
extents_decide version at bytes (Err fault) = refl

block_decides : (version : Version) (before : List Block) (start : ℕ × List ℕ) → block_rows version before start ≡ decided (block_faults version start) (before ++ block_in start ∷ [])
block_decides version before (at, bytes) = by_length (ltb (length bytes) 16)
  where
    more : (found : List TraceFault) (block : Block) → (decided found block >>= λ b. Ok (before ++ b ∷ [])) ≡ decided found (before ++ block ∷ [])
    more [] block = refl
    more (fault ∷ later) block = refl

    by_length : (short : Bool) → First short (Err (faults.Short at)) (extents_rows version (at, bytes) (record_in bytes) >>= λ block. Ok (before ++ block ∷ []))
        ≡ decided (cond short (faults.Short at ∷ []) (extents_faults version (at, bytes) (record_in bytes))) (before ++ block_in (at, bytes) ∷ [])
    by_length true = refl
    by_length false =
        ap (λ (r : Result Block TraceFault). r >>= λ block. Ok (before ++ block ∷ [])) (extents_decide version at bytes (record_in bytes))
        ∙ more (extents_faults version (at, bytes) (record_in bytes)) (block_in (at, bytes))

-- ---- a file

blocks_decide : (version : Version) (before : List Block) (left : List (ℕ × List ℕ))
    → InTurn (block_rows version) before left ≡ decided (flat_map (block_faults version) left) (before ++ map block_in left)
blocks_decide version before [] = ap (λ (bs : List Block). let all : Result (List Block) TraceFault = Ok bs in all) (sym (append-nil before))
blocks_decide version before (start ∷ left) =
    ap (λ (r : Result (List Block) TraceFault). r >>= λ after. InTurn (block_rows version) after left) (block_decides version before start)
    ∙ by_faults (blocks_decide version (before ++ block_in start ∷ []) left) (block_faults version start)
    ∙ ap (λ (fs : List TraceFault). decided fs (before ++ block_in start ∷ map block_in left)) (sym (flat_map-cons (block_faults version) start left))
  where
    by_faults : InTurn (block_rows version) (before ++ block_in start ∷ []) left ≡ decided (flat_map (block_faults version) left) ((before ++ block_in start ∷ []) ++ map block_in left) → (found : List TraceFault)
        → (decided found (before ++ block_in start ∷ []) >>= λ after. InTurn (block_rows version) after left) ≡ decided (found ++ flat_map (block_faults version) left) (before ++ block_in start ∷ map block_in left)
    by_faults rest [] =
        rest ∙ ap (λ (bs : List Block). decided (flat_map (block_faults version) left) bs) (append_assoc before (block_in start ∷ []) (map block_in left))
    by_faults rest (fault ∷ later) = refl

-- the trace of these blocks
abbrev made : List ℕ → List Block → Trace
made bytes blocks = record { header = header_in bytes; blocks = blocks }

-- the rows of a file
pub rows_decide : (bytes : List ℕ) → trace_of bytes ≡ by_places bytes
rows_decide bytes = by_tests (ltb (length bytes) 32) (version_of (version_in bytes)) (eqb (type_in bytes) 1)
  where
    all : (found : List TraceFault) (blocks : List Block) → (decided found blocks >>= λ bs. Ok (made bytes bs)) ≡ decided found (made bytes blocks)
    all [] blocks = refl
    all (fault ∷ later) blocks = refl

    follow : (version : Version) → (InTurn (block_rows version) [] (block_starts bytes) >>= λ bs. Ok (made bytes bs)) ≡ decided (blocks_faults version bytes) (told_by bytes)
    follow version =
        ap (λ (r : Result (List Block) TraceFault). r >>= λ bs. Ok (made bytes bs)) (blocks_decide version [] (block_starts bytes))
        ∙ all (blocks_faults version bytes) (map block_in (block_starts bytes))

    by_tests : (short : Bool) (number : Option Version) (form : Bool)
        → First short (Err (faults.Short 0)) (NeedsPart number (Err (faults.Version (version_in bytes))) λ version. First (not form) (Err (faults.Form (type_in bytes)))
        (InTurn (block_rows version) [] (block_starts bytes) >>= λ blocks. Ok (made bytes blocks)))
        ≡ First short (Err (faults.Short 0)) (NeedsPart number (Err (faults.Version (version_in bytes))) λ version. First (not form) (Err (faults.Form (type_in bytes)))
        (decided (blocks_faults version bytes) (told_by bytes)))
    by_tests true number form = refl
    by_tests false None form = refl
    by_tests false (Some version) false = refl
    by_tests false (Some version) true = follow version

-- ---- headers

-- the header of a file
pub record HasHeader (bytes : List ℕ) (version : Version) : Type 0 where
  pub long : 32 ≤ length bytes
  pub accepted : version_of (version_in bytes) ≡ Some version
  pub form : type_in bytes ≡ 1

-- what follows a header, or its fault
pub header_first : {A : Type 0} (bytes : List ℕ) (follows : Version → Result A TraceFault) → header_rows bytes follows ≡ (version_read bytes >>= follows)
header_first {A} bytes follows = by_tests (ltb (length bytes) 32) (version_of (version_in bytes)) (eqb (type_in bytes) 1)
  where
    by_tests : (short : Bool) (number : Option Version) (form : Bool)
        → First short (Err (faults.Short 0)) (NeedsPart number (Err (faults.Version (version_in bytes))) λ version. First (not form) (Err (faults.Form (type_in bytes))) (follows version))
        ≡ (First short (Err (faults.Short 0)) (NeedsPart number (Err (faults.Version (version_in bytes))) λ version. First (not form) (Err (faults.Form (type_in bytes))) (Ok version))
        >>= follows)
    by_tests true number form = refl
    by_tests false None form = refl
    by_tests false (Some version) false = refl
    by_tests false (Some version) true = refl

-- a header without a fault
pub header_has : (bytes : List ℕ) (version : Version) → version_read bytes ≡ Ok version → HasHeader bytes version
header_has bytes version is = by_tests (ltb (length bytes) 32) (version_of (version_in bytes)) (eqb (type_in bytes) 1) refl refl refl is
  where
    by_tests : (short : Bool) (number : Option Version) (form : Bool) → ltb (length bytes) 32 ≡ short → version_of (version_in bytes) ≡ number → eqb (type_in bytes) 1 ≡ form
        → First short (Err (faults.Short 0)) (NeedsPart number (Err (faults.Version (version_in bytes))) λ v. First (not form) (Err (faults.Form (type_in bytes))) (Ok v)) ≡ Ok version
        → HasHeader bytes version
    by_tests true number form e f g h = absurd cc
    by_tests false None form e f g h = absurd cc
    by_tests false (Some v) false e f g h = absurd cc
    by_tests false (Some v) true e f g h =
        let same : v ≡ version = cc in
        record {
          long = ltb-false (length bytes) 32 e;
          accepted = f ∙ ap (λ (x : Version). Some x) same;
          form = eqb-true (type_in bytes) 1 g;
        }

pub header_passes : (bytes : List ℕ) (version : Version) → HasHeader bytes version → version_read bytes ≡ Ok version
header_passes bytes version h = rw (le-ltb (length bytes) 32 h.long, h.accepted, eq-eqb (type_in bytes) 1 h.form) refl
