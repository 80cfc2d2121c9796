-- A file that is a trace by the grammar reads as this trace.
use Rattle.std.proofs.Common.{◌≡◌, ℕ, ◌+◌, ◌%◌, ◌/◌, ◌^◌, ◌≤◌, ◌<◌, Bool, true, false, cond, eqb, ltb, leb, lit≤, List, [], ◌∷◌, ◌++◌, length, take, drop, map, Some, None, Result, Ok, refl, sym, ap, subst, ◌∙◌, append_assoc, arith}
use Rattle.std.specs.Prelude.{◌*◌, ◌||◌}
use Rattle.std.specs.List.{flat_map, list_any, AllByRecursion}
use Rattle.std.proofs.lemmas.Bool.{eqb-true, le-leb, le-ltb}
use Rattle.std.proofs.lemmas.List.{drop-drop, length-append, take_at, drop_at}
use Rattle.std.proofs.lemmas.List.Concat.{flat_map-cons}
use Rattle.byteorder.specs.Endian.{little_bytes}
use Rattle.byteorder.specs.Numbers.{little_number-reads_back}
use Rattle.fdr_record.specs.declared.rec.Rec.{Rec}
use Rattle.fdr_record.specs.declared.rec.Rec.TheVariants.{NewBuffer, NewCpu, TscWrap, WallTime, Pid, CallArg, Extents, Function}
use Rattle.fdr_record.specs.Records.{length_of, BeginsWith, Spells}
use Rattle.fdr_file.specs.declared.header.Header.{Header}
use Rattle.fdr_file.specs.declared.fault.TraceFault.{TraceFault}
use Rattle.fdr_file.specs.declared.trace.Block.{Block}
use Rattle.fdr_file.specs.declared.trace.Trace.{Trace}
use Rattle.fdr_file.specs.declared.version.Version.{Version}
use Rattle.fdr_file.specs.declared.version.Version.TheVariants.{Two, Three}
use Rattle.fdr_file.specs.Places.{starts}
use Rattle.fdr_file.specs.Traces.{PreambleItem, Standing, TheProcess, TheThread, TheWallTime, block_in, block_length, block_standings, extents_in, first_takes_arg, header_in, names_cpu, preamble_bytes, preamble_of, record_in, records_among, standings, trace_of, version_in, version_of}
use Rattle.fdr_file.specs.private.Faults.{by_places, block_faults, blocks_faults, decided, standing_faults, told_by}
use Rattle.fdr_file.specs.Grammar.{ArgsFollow, AreBlocks, AreSpelled, BeginWithCpu, IsBlock, IsHeader, IsInner, IsTrace, block_records, naming}
use Rattle.fdr_file.proofs.TraceRows.{HasHeader, header_first, header_passes, rows_decide}
use Rattle.fdr_file.proofs.DecodedRecords.{length_told, told_again}
use Rattle.fdr_file.proofs.NextParts.{starts_first, stands_first}
use Rattle.fdr_file.proofs.PlacesDecide.{IsBehind, extents_is, may_behind, one_after}

-- ---- records

-- what is at the places of records
abbrev pub stand_from : ℕ → List Rec → List Standing
stand_from at [] = []
stand_from at (r ∷ records) = (at, Ok r) ∷ stand_from (at + length_of r) records

-- a spelling at the start
begins : (r : Rec) (front following : List ℕ) → Spells front r → BeginsWith r (front ++ following)
begins r front following is = subst (λ (x : List ℕ). Spells x r) (sym (take_at front following (length_of r) is.whole)) is

-- a record has 8 to 16 bytes
pub length_between : (r : Rec) → (8 ≤ length_of r) × (length_of r ≤ 16)
length_between (NewBuffer thread) = (lit≤ tt, lit≤ tt)
length_between (NewCpu cpu tsc) = (lit≤ tt, lit≤ tt)
length_between (TscWrap tsc) = (lit≤ tt, lit≤ tt)
length_between (WallTime wall) = (lit≤ tt, lit≤ tt)
length_between (Pid pid) = (lit≤ tt, lit≤ tt)
length_between (CallArg value) = (lit≤ tt, lit≤ tt)
length_between (Extents size) = (lit≤ tt, lit≤ tt)
length_between (Function kind func delta) = (lit≤ tt, lit≤ tt)

spelled_stand : (at : ℕ) (records : List Rec) (bytes : List ℕ) → AreSpelled records bytes → standings at bytes ≡ stand_from at records
unfolding starts
spelled_stand at [] bytes is = ap (standings at) is
spelled_stand at (r ∷ records) bytes (front, following, parts, fits, spells, rest) =
    let begin = begins r front following spells in
    let is = told_again r (front ++ following) fits begin in
    let long = length_told r (front ++ following) fits begin in
    let some : 0 < length (front ++ following) = omega (arith, length-append front following, spells.whole, (length_between r).0) in
    ap (standings at) parts
    ∙ stands_first at (front ++ following) some
    ∙ rw (is, long, drop_at front following (length_of r) spells.whole) (ap (λ (x : List Standing). (at, Ok r) ∷ x) (spelled_stand (at + length_of r) records following rest))

pub stand_records : (at : ℕ) (records : List Rec) → records_among (stand_from at records) ≡ records
stand_records at [] = refl
stand_records at (r ∷ records) = ap (λ (x : List Rec). r ∷ x) (stand_records (at + length_of r) records)

pub or_true : (b : Bool) → (b || true) ≡ true
or_true true = refl
or_true false = refl

-- records after a CPU have no fault
stand_clean : (version : Version) (before : List Rec) (at : ℕ) (records : List Rec) → IsBehind version before → list_any names_cpu before ≡ true → AllByRecursion IsInner records → ArgsFollow (first_takes_arg before) records
    → standing_faults version before (stand_from at records) ≡ []
stand_clean version before at [] many cpu inner args = refl
stand_clean version before at (r ∷ records) many cpu (here, rest) (arg, args) =
    let next : list_any names_cpu (r ∷ before) ≡ true = after (names_cpu r) cpu in
    rw (may_behind version before r many, here, arg, cpu) (stand_clean version (r ∷ before) (at + length_of r) records (one_after version before r many) next rest args)
  where
    after : {b : Bool} (a : Bool) → b ≡ true → (a || b) ≡ true
    after true e = refl
    after false e = e

preamble_clean : (version : Version) (before : List Rec) (at : ℕ) (records : List Rec) → IsBehind version before → AllByRecursion IsInner records → BeginWithCpu records → ArgsFollow false records → standing_faults version before (stand_from at records) ≡ []
preamble_clean version before at [] many inner based args = refl
preamble_clean version before at (NewCpu cpu tsc ∷ records) many (here, rest) based (arg, args) =
    let r : Rec = NewCpu cpu tsc in
    rw (may_behind version before r many, or_true (list_any names_cpu before)) (stand_clean version (r ∷ before) (at + 16) records (one_after version before r many) refl rest args)
preamble_clean version before at (r ∷ records) many inner based args = absurd cc

-- the records of a block have no fault
block_clean : (version : Version) (at : ℕ) (block : Block) (records : List Rec) → AllByRecursion IsInner records → BeginWithCpu records → ArgsFollow false records
    → standing_faults version [] (stand_from at (block_records version block records)) ≡ []
block_clean Two at block records inner based args =
    preamble_clean Two (WallTime block.wall ∷ NewBuffer block.thread ∷ []) (at + 16 + 16) records (0, refl) inner based args
block_clean Three at block records inner based args =
    preamble_clean Three (Pid block.pid ∷ WallTime block.wall ∷ NewBuffer block.thread ∷ []) (at + 16 + 16 + 16) records (0, refl) inner based args

-- ---- blocks

-- what a block's bytes are, if others follow
pub record Stands (version : Version) (bytes : List ℕ) (at : ℕ) (block : Block) (following : List ℕ) : Type 0 where
  pub some : 0 < length bytes
  pub clean : block_faults version (at, bytes) ≡ []
  pub told : block_in (at, bytes) ≡ block
  pub size : length bytes ≡ block_length bytes + length following
  pub rest : drop (block_length bytes) bytes ≡ following

-- a preamble has its full length
naming_long : (block : Block) (item : PreambleItem) → length_of (naming block item) ≡ 16
naming_long block TheThread = refl
naming_long block TheWallTime = refl
naming_long block TheProcess = refl

preamble_long : (block : Block) (items : List PreambleItem) (records : List Rec) (bytes : List ℕ) → AreSpelled (map (naming block) items ++ records) bytes → 16 * length items ≤ length bytes
preamble_long block [] records bytes is = omega arith
preamble_long block (item ∷ items) records bytes (front, following, parts, fits, spells, rest) =
    omega (arith, ap length parts, length-append front following, spells.whole, naming_long block item, preamble_long block items records following rest)

pub block_stands : (version : Version) (bytes following : List ℕ) (at : ℕ) (block : Block) → IsBlock version bytes block → Stands version (bytes ++ following) at block following
block_stands version bytes following at block is =
    let n = length is.body in
    let all = is.extents ++ (is.body ++ following) in
    let parts : bytes ++ following ≡ all = ap (λ (x : List ℕ). x ++ following) is.parts ∙ append_assoc is.extents is.body following in
    let found : record_in all ≡ Ok (Extents n) = told_again (Extents n) all is.few (begins (Extents n) is.extents (is.body ++ following) is.named) in
    let named : extents_in all ≡ n = extents_is all n found in
    let body : drop 16 all ≡ is.body ++ following = drop_at is.extents (is.body ++ following) 16 is.named.whole in
    let many : preamble_bytes version ≤ n = preamble_long block (preamble_of version) is.records is.body is.spelled in
    let size : length all ≡ 16 + (n + length following) = length-append is.extents (is.body ++ following) ∙ omega (arith, is.named.whole, length-append is.body following) in
    let records = block_records version block is.records in
    let standing : block_standings (at, all) ≡ stand_from (at + 16) records =
    ap (λ (k : ℕ). standings (at + 16) (take k (drop 16 all))) named ∙ ap (λ (x : List ℕ). standings (at + 16) (take n x)) body ∙ ap (standings (at + 16)) (take_at is.body following n refl)
    ∙ spelled_stand (at + 16) records is.body is.spelled in
    let inner = block_clean version (at + 16) block is.records is.inner is.based is.args in
    let long : ltb (length all) 16 ≡ false = le-ltb (length all) 16 (omega arith) in
    let least : leb (preamble_bytes version) n ≡ true = le-leb (preamble_bytes version) n many in
    let whole : leb (16 + n) (length all) ≡ true = le-leb (16 + n) (length all) (omega arith) in
    subst (λ (x : List ℕ). Stands version x at block following) (sym parts) (record {
      some = omega arith;
      clean = rw (long, found, least, whole, standing) inner;
      told = rw (standing, stand_records (at + 16) records) (sym is.told);
      size = omega (arith, size, named);
      rest = ap (λ (k : ℕ). drop (16 + k) all) named ∙ sym (drop-drop n 16 all) ∙ ap (drop n) body ∙ drop_at is.body following n refl;
    })

abbrev AllRead : Version → ℕ → List Block → List ℕ → Type 0
AllRead version at blocks bytes = (flat_map (block_faults version) (starts block_length 0 at bytes) ≡ []) × (map block_in (starts block_length 0 at bytes) ≡ blocks)

blocks_stand : (version : Version) (at : ℕ) (blocks : List Block) (bytes : List ℕ) → AreBlocks version blocks bytes → AllRead version at blocks bytes
unfolding starts
blocks_stand version at [] bytes is = subst (AllRead version at []) (sym is) (refl, refl)
blocks_stand version at (block ∷ blocks) bytes (front, following, parts, is, rest) =
    let all = front ++ following in
    let here = block_stands version front following at block is in
    let next = at + block_length all in
    let first : starts block_length 0 at all ≡ (at, all) ∷ starts block_length 0 next following = starts_first block_length at all here.some (omega arith) ∙ ap (λ (x : List ℕ). (at, all) ∷ starts block_length 0 next x) here.rest in
    let others = blocks_stand version next blocks following rest in
    subst (AllRead version at (block ∷ blocks)) (sym parts) (
      ap (flat_map (block_faults version)) first ∙ flat_map-cons (block_faults version) (at, all) (starts block_length 0 next following) ∙ rw (here.clean, others.0) refl,
      ap (map block_in) first ∙ rw (here.told, others.1) refl,
    )

-- ---- headers

header_of : (h : Header) (version : ℕ) (constant nonstop : Bool) → version ≡ h.version → constant ≡ h.constant → nonstop ≡ h.nonstop
    → record { version = version; constant = constant; nonstop = nonstop; frequency = h.frequency; size = h.size } ≡ h
header_of h version constant nonstop e1 e2 e3 = rw (e1, e2, e3) refl

-- a version that is read fits its two bytes
pub version_fits : (number : ℕ) (version : Version) → version_of number ≡ Some version → number < 256 ^ 2
version_fits number version is = by_number (eqb number 3) refl is
  where
    by_other : (b : Bool) → eqb number 2 ≡ b → cond b (Some Two) None ≡ Some version → number < 256 ^ 2
    by_other true e h = omega (arith, eqb-true number 2 e)
    by_other false e h = absurd cc

    by_number : (b : Bool) → eqb number 3 ≡ b → cond b (Some Three) (cond (eqb number 2) (Some Two) None) ≡ Some version → number < 256 ^ 2
    by_number true e h = omega (arith, eqb-true number 3 e)
    by_number false e h = by_other (eqb number 2) refl h

abbrev pub Reads : Version → Header → List ℕ → List ℕ → Type 0
Reads version header following bytes = HasHeader bytes version × (header_in bytes ≡ header) × (drop 32 bytes ≡ following)

pub header_reads : (version : Version) (bytes following : List ℕ) (header : Header) → IsHeader version bytes header → Reads version header following (bytes ++ following)
header_reads version bytes following header is =
    let rest = is.reserved ++ following in
    let all = little_bytes 2 header.version ++ (little_bytes 2 1 ++ (little_bytes 4 is.flags ++ (little_bytes 8 header.frequency ++ (little_bytes 8 header.size ++ rest)))) in
    let parts : bytes ++ following ≡ all = ap (λ (x : List ℕ). x ++ following) is.spelled in
    let number : version_in all ≡ header.version = little_number-reads_back 2 header.version (little_bytes 2 1 ++ (little_bytes 4 is.flags ++ (little_bytes 8 header.frequency ++ (little_bytes 8 header.size ++ rest)))) (version_fits header.version version is.accepted) in
    let flags = little_number-reads_back 4 is.flags (little_bytes 8 header.frequency ++ (little_bytes 8 header.size ++ rest)) is.flags_fit in
    let frequency = little_number-reads_back 8 header.frequency (little_bytes 8 header.size ++ rest) is.frequency_fits in
    let size = little_number-reads_back 8 header.size rest is.size_fits in
    subst (Reads version header following) (sym parts) (
      record {
        long = omega (arith, length-append is.reserved following, is.whole);
        accepted = ap version_of number ∙ is.accepted;
        form = refl;
      },
      rw (flags, frequency, size) (header_of header (version_in all) (eqb (is.flags % 2) 1) (eqb (is.flags / 2 % 2) 1) number (sym is.constant) (sym is.nonstop)),
      drop_at is.reserved following 8 is.whole,
    )

abbrev read : Trace → Result Trace TraceFault
read trace = Ok trace

pub trace_again : (bytes : List ℕ) (trace : Trace) → IsTrace bytes trace → trace_of bytes ≡ Ok trace
trace_again bytes trace is =
    let all = is.front ++ is.following in
    let header = header_reads is.version is.front is.following trace.header is.header in
    let blocks = blocks_stand is.version 32 trace.blocks is.following is.blocks in
    rows_decide bytes ∙ ap by_places is.parts ∙ header_first all (λ version. decided (blocks_faults version all) (told_by all))
    ∙ rw (header_passes all is.version header.0, header.1, header.2, blocks.0, blocks.1) refl

pub one_trace : (bytes : List ℕ) (trace other : Trace) → IsTrace bytes trace → IsTrace bytes other → trace ≡ other
one_trace bytes trace other is also =
    let both : read trace ≡ read other = sym (trace_again bytes trace is) ∙ trace_again bytes other also in
    cc
