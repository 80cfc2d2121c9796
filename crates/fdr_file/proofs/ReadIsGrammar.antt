-- What reads as a trace is one by the grammar.
use Rattle.std.proofs.Common.{◌≡◌, ℕ, zero, suc, ◌+◌, ◌≤◌, ◌<◌, Bool, true, false, cond, ltb, leb, List, [], ◌∷◌, ◌++◌, All, length, take, drop, map, Result, Ok, Err, refl, sym, ap, subst, ◌∙◌, arith}
use Rattle.std.specs.Prelude.{◌||◌, ◌&&◌, not, is_some}
use Rattle.std.specs.List.{flat_map, list_any, AllByRecursion}
use Rattle.std.proofs.lemmas.Bool.{leb-true}
use Rattle.std.proofs.lemmas.List.{drop-drop, length-append, length-drop, length-take, take-append-drop}
use Rattle.std.proofs.lemmas.List.Concat.{flat_map-cons}
use Rattle.std.proofs.lemmas.List.Elements.{All-drop, All-take}
use Rattle.std.proofs.Math.Seq.{take-add}
use Rattle.byteorder.specs.Endian.{little_bytes, little_number}
use Rattle.xray_io.specs.Rows.{◌>>=◌}
use Rattle.xray_io.specs.declared.wall.Wall.{Wall}
use Rattle.fdr_record.specs.declared.rec.Rec.{Rec}
use Rattle.fdr_record.specs.declared.rec.Rec.TheVariants.{NewBuffer, WallTime, Pid, Extents}
use Rattle.fdr_record.specs.declared.fault.RecFault.{RecFault}
use Rattle.fdr_record.specs.Records.{length_of, FieldsFit, BeginsWith, Spells}
use Rattle.fdr_record.specs.Refusals.{Answers}
use Rattle.fdr_record.proofs.Fields.{field_2, field_4, field_8}
use Rattle.fdr_file.specs.declared.fault.TraceFault.{TraceFault}
use Rattle.fdr_file.specs.declared.fault.TraceFault.TheVariants as faults
use Rattle.fdr_file.specs.declared.trace.Block.{Block}
use Rattle.fdr_file.specs.declared.trace.Trace.{Trace}
use Rattle.fdr_file.specs.declared.version.Version.{Version}
use Rattle.fdr_file.specs.declared.version.Version.TheVariants.{Two, Three}
use Rattle.fdr_file.specs.Places.{starts}
use Rattle.fdr_file.specs.Traces.{Standing, block_in, block_length, block_of, block_standings, extents_in, fault_at, first_takes_arg, flags_in, header_in, may_be, may_stand, names_cpu, needs_cpu, pid_named, preamble_bytes, preamble_of, record_in, records_among, standings, thread_named, trace_of, version_in, wall_named}
use Rattle.fdr_file.specs.Scanning.{version_read}
use Rattle.fdr_file.specs.private.Faults.{block_faults, blocks_faults, decided, extents_faults, record_faults, standing_faults, told_by, unless}
use Rattle.fdr_file.specs.Grammar.{ArgsFollow, AreBlocks, AreSpelled, BeginWithCpu, IsBlock, IsHeader, IsInner, IsTrace, block_records}
use Rattle.fdr_file.proofs.TraceRows.{HasHeader, header_first, header_has, rows_decide}
use Rattle.fdr_file.proofs.DecodedRecords.{length_told, refused_again, told_again}
use Rattle.fdr_file.proofs.NextParts.{starts_first, stands_first}
use Rattle.fdr_file.proofs.PlacesDecide.{IsBehind, extents_is, may_behind, none_wrong, one_after}
use Rattle.fdr_file.proofs.GrammarIsRead.{length_between, stand_from, stand_records}

-- ---- bytes

abbrev pub AreBytes : List ℕ → Type 0
AreBytes bytes = All (λ b. b < 256) bytes

-- the decoder has an answer for any bytes
abbrev pub Decodes : Type 0
Decodes = (bytes : List ℕ) → AreBytes bytes → (a : Result Rec RecFault) × Answers bytes a

-- ---- lists without faults

both_empty : {A : Type 0} (xs ys : List A) → xs ++ ys ≡ [] → (xs ≡ []) × (ys ≡ [])
both_empty [] ys e = (refl, e)
both_empty (x ∷ xs) ys e = absurd cc

and_both : (a b : Bool) → (a && b) ≡ true → (a ≡ true) × (b ≡ true)
and_both true b e = (refl, e)
and_both false b e = absurd cc

unless_true : (b : Bool) (f : TraceFault) → unless b f ≡ [] → b ≡ true
unless_true true f e = refl
unless_true false f e = absurd cc

-- ---- records

abbrev ok : Rec → Result Rec RecFault
ok r = Ok r

record_stands : Decodes → (bytes : List ℕ) (r : Rec) → AreBytes bytes → record_in bytes ≡ Ok r → FieldsFit r × BeginsWith r bytes
record_stands decodes bytes r all is = by_answer (decodes bytes all).0 (decodes bytes all).1
  where
    by_answer : (a : Result Rec RecFault) → Answers bytes a → FieldsFit r × BeginsWith r bytes
    by_answer (Ok s) h =
        let both : ok s ≡ ok r = sym (told_again s bytes h.0 h.1) ∙ is in
        let same : s ≡ r = cc in
        subst (λ (x : Rec). FieldsFit x × BeginsWith x bytes) same h
    by_answer (Err f) h =
        let e = refused_again f bytes h in
        absurd cc

-- the record of bytes, or their fault, is the decoder's answer
pub decoded : Decodes → (bytes : List ℕ) → AreBytes bytes → Answers bytes (record_in bytes)
decoded decodes bytes all = by_answer (decodes bytes all).0 (decodes bytes all).1
  where
    by_answer : (a : Result Rec RecFault) → Answers bytes a → Answers bytes (record_in bytes)
    by_answer (Ok r) h = subst (Answers bytes) (sym (told_again r bytes h.0 h.1)) h
    by_answer (Err f) h = subst (Answers bytes) (sym (refused_again f bytes h)) h

-- what has no fault is spelled
record Spelled (at : ℕ) (bytes : List ℕ) : Type 0 where
  records : List Rec
  stand : standings at bytes ≡ stand_from at records
  spelled : AreSpelled records bytes

spelled : (version : Version) → Decodes → (n : ℕ) (before : List Rec) (at : ℕ) (bytes : List ℕ) → length bytes ≤ n → AreBytes bytes → standing_faults version before (standings at bytes) ≡ [] → Spelled at bytes
unfolding starts
spelled version decodes n before at [] few all clean = record { records = []; stand = refl; spelled = refl }
spelled version decodes zero before at (b ∷ rest) few all clean = absurd (omega arith)
spelled version decodes (suc n) before at (b ∷ rest) few all clean = by_answer (spelled version decodes n) (record_in (b ∷ rest)) refl
  where
    by_answer : ((past : List Rec) (place : ℕ) (left : List ℕ) → length left ≤ n → AreBytes left → standing_faults version past (standings place left) ≡ [] → Spelled place left) → (a : Result Rec RecFault) → record_in (b ∷ rest) ≡ a → Spelled at (b ∷ rest)
    by_answer again (Err f) is =
        let first = stands_first at (b ∷ rest) (omega arith) in
        let wrong : fault_at at f ∷ [] ≡ [] = sym (ap (standing_faults version before) first ∙ rw is refl) ∙ clean in
        absurd cc
    by_answer again (Ok r) is =
        let h = record_stands decodes (b ∷ rest) r all is in
        let long = length_told r (b ∷ rest) h.0 h.1 in
        let following = drop (length_of r) (b ∷ rest) in
        let first : standings at (b ∷ rest) ≡ (at, Ok r) ∷ standings (at + length_of r) following = stands_first at (b ∷ rest) (omega arith) ∙ rw (is, long) refl in
        let none = both_empty (record_faults version before at r) (standing_faults version (r ∷ before) (standings (at + length_of r) following)) (sym (ap (standing_faults version before) first) ∙ clean) in
        let others = again (r ∷ before) (at + length_of r) following (omega (arith, length-drop (length_of r) (b ∷ rest), (length_between r).0)) (All-drop (λ x. x < 256) (length_of r) (b ∷ rest) all) none.1 in
        record {
          records = r ∷ others.records;
          stand = first ∙ ap (λ (x : List Standing). (at, Ok r) ∷ x) others.stand;
          spelled = (take (length_of r) (b ∷ rest), following, sym (take-append-drop (length_of r) (b ∷ rest)), h.0, h.1, others.spelled);
        }

-- ---- the records of a block

thread_of : (r : Rec) → is_some (thread_named r) ≡ true → (x : ℕ) × (r ≡ NewBuffer x)
thread_of (NewBuffer x) e = (x, refl)
thread_of r e = absurd cc

wall_of : (r : Rec) → is_some (wall_named r) ≡ true → (x : Wall) × (r ≡ WallTime x)
wall_of (WallTime x) e = (x, refl)
wall_of r e = absurd cc

pid_of : (r : Rec) → is_some (pid_named r) ≡ true → (x : ℕ) × (r ≡ Pid x)
pid_of (Pid x) e = (x, refl)
pid_of r e = absurd cc

inner_is : (version : Version) (before : List Rec) (at : ℕ) (records : List Rec) → IsBehind version before → standing_faults version before (stand_from at records) ≡ []
    → AllByRecursion IsInner records × ArgsFollow (first_takes_arg before) records
inner_is version before at [] many clean = (tt, tt)
inner_is version before at (r ∷ records) many clean =
    let here = both_empty (record_faults version before at r) (standing_faults version (r ∷ before) (stand_from (at + length_of r) records)) clean in
    let order = both_empty (unless (may_stand version before r) (faults.Order at)) (unless (list_any names_cpu before || not (needs_cpu r)) (faults.NoBase at)) here.0 in
    let stands = and_both _ _ (unless_true (may_stand version before r) (faults.Order at) order.0) in
    let may : (names_cpu r || needs_cpu r) ≡ true = sym (may_behind version before r many) ∙ stands.0 in
    let rest = inner_is version (r ∷ before) (at + length_of r) records (one_after version before r many) here.1 in
    ((may, rest.0), (stands.1, rest.1))

names : (a b : Bool) → (a || b) ≡ true → not b ≡ true → a ≡ true
names true b e f = refl
names false true e f = absurd cc
names false false e f = absurd cc

based_is : (version : Version) (before : List Rec) (at : ℕ) (records : List Rec) → IsBehind version before → list_any names_cpu before ≡ false → standing_faults version before (stand_from at records) ≡ [] → BeginWithCpu records
based_is version before at [] many none clean = tt
based_is version before at (r ∷ records) many none clean =
    let here = both_empty (record_faults version before at r) (standing_faults version (r ∷ before) (stand_from (at + length_of r) records)) clean in
    let order = both_empty (unless (may_stand version before r) (faults.Order at)) (unless (list_any names_cpu before || not (needs_cpu r)) (faults.NoBase at)) here.0 in
    let stands = and_both _ _ (unless_true (may_stand version before r) (faults.Order at) order.0) in
    let may : (names_cpu r || needs_cpu r) ≡ true = sym (may_behind version before r many) ∙ stands.0 in
    let base : not (needs_cpu r) ≡ true = sym (ap (λ (b : Bool). b || not (needs_cpu r)) none) ∙ unless_true (list_any names_cpu before || not (needs_cpu r)) (faults.NoBase at) order.1 in
    names (names_cpu r) (needs_cpu r) may base

-- records of a block that has no fault
record Shaped (version : Version) (records : List Rec) : Type 0 where
  block : Block
  inner : List Rec
  are : records ≡ block_records version block inner
  told : block ≡ block_of records
  may : AllByRecursion IsInner inner
  based : BeginWithCpu inner
  args : ArgsFollow false inner

-- a record that may be at this place of the preamble
stands_at : (version : Version) (before : List Rec) (at : ℕ) (r : Rec) (records : List Rec) → standing_faults version before (stand_from at (r ∷ records)) ≡ [] → (may_be (preamble_of version) (length before) r ≡ true) × (standing_faults version (r ∷ before) (stand_from (at + length_of r) records) ≡ [])
stands_at version before at r records clean =
    let here = both_empty (record_faults version before at r) (standing_faults version (r ∷ before) (stand_from (at + length_of r) records)) clean in
    let order = both_empty (unless (may_stand version before r) (faults.Order at)) (unless (list_any names_cpu before || not (needs_cpu r)) (faults.NoBase at)) here.0 in
    let stands = and_both _ _ (unless_true (may_stand version before r) (faults.Order at) order.0) in
    (stands.0, here.1)

shaped : (version : Version) (at : ℕ) (records : List Rec) (bytes : List ℕ) → preamble_bytes version ≤ length bytes → AreSpelled records bytes → standing_faults version [] (stand_from at records) ≡ [] → Shaped version records
shaped Two at [] bytes long is clean = absurd (omega (arith, ap length is))
shaped Two at (a ∷ []) bytes long (f, g, e, fit, s, is) clean = absurd (omega (arith, ap length e, length-append f g, s.whole, (length_between a).1, ap length is))
shaped Two at (a ∷ b ∷ inner) bytes long is clean =
    let one = stands_at Two [] at a (b ∷ inner) clean in
    let t = thread_of a one.0 in
    let two = stands_at Two (a ∷ []) (at + length_of a) b inner one.1 in
    let w = wall_of b two.0 in
    let rest : standing_faults Two (WallTime w.0 ∷ NewBuffer t.0 ∷ []) (stand_from (at + length_of a + length_of b) inner) ≡ [] =
    subst (λ (x : Rec). standing_faults Two (x ∷ NewBuffer t.0 ∷ []) (stand_from (at + length_of a + length_of b) inner) ≡ []) w.1
    (subst (λ (x : Rec). standing_faults Two (b ∷ x ∷ []) (stand_from (at + length_of a + length_of b) inner) ≡ []) t.1 two.1) in
    let are : a ∷ b ∷ inner ≡ NewBuffer t.0 ∷ WallTime w.0 ∷ inner =
    ap (λ (x : Rec). x ∷ b ∷ inner) t.1 ∙ ap (λ (x : Rec). NewBuffer t.0 ∷ x ∷ inner) w.1 in
    let inner_are = inner_is Two _ _ inner (0, refl) rest in
    record {
      block = block_of (NewBuffer t.0 ∷ WallTime w.0 ∷ inner);
      inner = inner;
      are = are;
      told = ap block_of (sym are);
      may = inner_are.0;
      based = based_is Two _ _ inner (0, refl) refl rest;
      args = inner_are.1;
    }
shaped Three at [] bytes long is clean = absurd (omega (arith, ap length is))
shaped Three at (a ∷ []) bytes long (f, g, e, fit, s, is) clean = absurd (omega (arith, ap length e, length-append f g, s.whole, (length_between a).1, ap length is))
shaped Three at (a ∷ b ∷ []) bytes long (f, g, e, fit, s, (f', g', e', fit', s', is)) clean =
    absurd (omega (arith, ap length e, length-append f g, s.whole, (length_between a).1, ap length e', length-append f' g', s'.whole, (length_between b).1, ap length is))
shaped Three at (a ∷ b ∷ c ∷ inner) bytes long is clean =
    let one = stands_at Three [] at a (b ∷ c ∷ inner) clean in
    let t = thread_of a one.0 in
    let two = stands_at Three (a ∷ []) (at + length_of a) b (c ∷ inner) one.1 in
    let w = wall_of b two.0 in
    let three = stands_at Three (b ∷ a ∷ []) (at + length_of a + length_of b) c inner two.1 in
    let p = pid_of c three.0 in
    let rest : standing_faults Three (Pid p.0 ∷ WallTime w.0 ∷ NewBuffer t.0 ∷ []) (stand_from (at + length_of a + length_of b + length_of c) inner) ≡ [] =
    subst (λ (x : Rec). standing_faults Three (x ∷ WallTime w.0 ∷ NewBuffer t.0 ∷ []) (stand_from (at + length_of a + length_of b + length_of c) inner) ≡ []) p.1
    (subst (λ (x : Rec). standing_faults Three (c ∷ x ∷ NewBuffer t.0 ∷ []) (stand_from (at + length_of a + length_of b + length_of c) inner) ≡ []) w.1
    (subst (λ (x : Rec). standing_faults Three (c ∷ b ∷ x ∷ []) (stand_from (at + length_of a + length_of b + length_of c) inner) ≡ []) t.1 three.1)) in
    let are : a ∷ b ∷ c ∷ inner ≡ NewBuffer t.0 ∷ WallTime w.0 ∷ Pid p.0 ∷ inner =
    ap (λ (x : Rec). x ∷ b ∷ c ∷ inner) t.1 ∙ ap (λ (x : Rec). NewBuffer t.0 ∷ x ∷ c ∷ inner) w.1 ∙ ap (λ (x : Rec). NewBuffer t.0 ∷ WallTime w.0 ∷ x ∷ inner) p.1 in
    let inner_are = inner_is Three _ _ inner (0, refl) rest in
    record {
      block = block_of (NewBuffer t.0 ∷ WallTime w.0 ∷ Pid p.0 ∷ inner);
      inner = inner;
      are = are;
      told = ap block_of (sym are);
      may = inner_are.0;
      based = based_is Three _ _ inner (0, refl) refl rest;
      args = inner_are.1;
    }

-- ---- blocks

record Fit (version : Version) (at : ℕ) (bytes : List ℕ) : Type 0 where
  size : ℕ
  found : record_in bytes ≡ Ok (Extents size)
  least : preamble_bytes version ≤ size
  whole : 16 + size ≤ length bytes
  clean : standing_faults version [] (block_standings (at, bytes)) ≡ []

fit_so : (version : Version) (at : ℕ) (bytes : List ℕ) → block_faults version (at, bytes) ≡ [] → Fit version at bytes
fit_so version at bytes clean = by_length (ltb (length bytes) 16) clean
  where
    by_answer : (a : Result Rec RecFault) → record_in bytes ≡ a → extents_faults version (at, bytes) a ≡ [] → Fit version at bytes
    by_answer (Ok (Extents size)) is e =
        let all = both_empty (unless (leb (preamble_bytes version) size) (faults.Extents at) ++ unless (leb (16 + size) (length bytes)) (faults.Short at)) (standing_faults version [] (block_standings (at, bytes))) e in
        let both = both_empty (unless (leb (preamble_bytes version) size) (faults.Extents at)) (unless (leb (16 + size) (length bytes)) (faults.Short at)) all.0 in
        record {
          size = size;
          found = is;
          least = leb-true (preamble_bytes version) size (unless_true (leb (preamble_bytes version) size) (faults.Extents at) both.0);
          whole = leb-true (16 + size) (length bytes) (unless_true (leb (16 + size) (length bytes)) (faults.Short at) both.1);
          clean = all.1;
        }
    by_answer (Ok r) is e = absurd cc
    by_answer (Err f) is e = absurd cc

    by_length : (b : Bool) → cond b (faults.Short at ∷ []) (extents_faults version (at, bytes) (record_in bytes)) ≡ [] → Fit version at bytes
    by_length true e = absurd cc
    by_length false e = by_answer (record_in bytes) refl e

abbrev DescribedBlock : Version → ℕ → List ℕ → Type 0
DescribedBlock version at bytes = IsBlock version (take (block_length bytes) bytes) (block_in (at, bytes)) × (block_length bytes ≤ length bytes)

block_described : (version : Version) → Decodes → (at : ℕ) (bytes : List ℕ) → AreBytes bytes → block_faults version (at, bytes) ≡ [] → DescribedBlock version at bytes
block_described version decodes at bytes all clean =
    let fit = fit_so version at bytes clean in
    let named : extents_in bytes ≡ fit.size = extents_is bytes fit.size fit.found in
    let n = extents_in bytes in
    let h = record_stands decodes bytes (Extents fit.size) all fit.found in
    let body = take n (drop 16 bytes) in
    let long : length body ≡ n = omega (arith, length-take n (drop 16 bytes), length-drop 16 bytes, fit.whole, named) in
    let said = spelled version decodes (length body) [] (at + 16) body (omega arith) (All-take (λ x. x < 256) n (drop 16 bytes) (All-drop (λ x. x < 256) 16 bytes all)) fit.clean in
    let shape = shaped version (at + 16) said.records body (omega (arith, long, named, fit.least)) said.spelled (sym (ap (standing_faults version []) said.stand) ∙ fit.clean) in
    let same : block_of said.records ≡ block_in (at, bytes) = ap block_of (sym (stand_records (at + 16) said.records)) ∙ ap (λ (x : List Standing). block_of (records_among x)) (sym said.stand) in (
      subst (IsBlock version (take (16 + n) bytes)) (shape.told ∙ same) (record {
        extents = take 16 bytes;
        body = body;
        parts = take-add 16 n bytes;
        named = subst (λ (k : ℕ). Spells (take 16 bytes) (Extents k)) (sym named ∙ sym long) h.1;
        few = omega (arith, long, named, h.0);
        records = shape.inner;
        spelled = subst (λ (x : List Rec). AreSpelled x body) shape.are said.spelled;
        inner = shape.may;
        based = shape.based;
        args = shape.args;
        told = shape.told ∙ ap block_of shape.are;
      }),
      omega (arith, named, fit.whole),
    )

blocks_described : (version : Version) → Decodes → (n at : ℕ) (bytes : List ℕ) → length bytes ≤ n → AreBytes bytes → flat_map (block_faults version) (starts block_length 0 at bytes) ≡ [] → AreBlocks version (map block_in (starts block_length 0 at bytes)) bytes
unfolding starts
blocks_described version decodes n at [] few all clean = refl
blocks_described version decodes zero at (b ∷ rest) few all clean = absurd (omega arith)
blocks_described version decodes (suc n) at (b ∷ rest) few all clean =
    let bytes : List ℕ = b ∷ rest in
    let k = block_length bytes in
    let following = drop k bytes in
    let first : starts block_length 0 at (b ∷ rest) ≡ (at, b ∷ rest) ∷ starts block_length 0 (at + k) following = starts_first block_length at (b ∷ rest) (omega arith) (omega arith) in
    let none = both_empty (block_faults version (at, b ∷ rest)) (flat_map (block_faults version) (starts block_length 0 (at + k) following))
    (sym (ap (flat_map (block_faults version)) first ∙ flat_map-cons (block_faults version) (at, b ∷ rest) (starts block_length 0 (at + k) following)) ∙ clean) in
    let here = block_described version decodes at (b ∷ rest) all none.0 in
    let others = blocks_described version decodes n (at + k) following (omega (arith, length-drop k (b ∷ rest))) (All-drop (λ x. x < 256) k (b ∷ rest) all) none.1 in
    subst (λ (x : List (ℕ × List ℕ)). AreBlocks version (map block_in x) (b ∷ rest)) (sym first)
    (take k (b ∷ rest), following, sym (take-append-drop k (b ∷ rest)), here.0, others)

-- ---- a file

cut : (n m k : ℕ) (bytes : List ℕ) → take (n + m) (drop k bytes) ≡ take n (drop k bytes) ++ take m (drop (k + n) bytes)
cut n m k bytes = take-add n m (drop k bytes) ∙ ap (λ (x : List ℕ). take n (drop k bytes) ++ take m x) (drop-drop n k bytes)

header_described : (version : Version) (bytes : List ℕ) → AreBytes bytes → HasHeader bytes version → IsHeader version (take 32 bytes) (header_in bytes)
header_described version bytes all has =
    let long = has.long in
    let a = field_2 bytes (omega arith) all in
    let b = field_2 (drop 2 bytes) (omega (arith, length-drop 2 bytes)) (All-drop (λ b. b < 256) 2 bytes all) in
    let g = field_4 (drop 4 bytes) (omega (arith, length-drop 4 bytes)) (All-drop (λ b. b < 256) 4 bytes all) in
    let q = field_8 (drop 8 bytes) (omega (arith, length-drop 8 bytes)) (All-drop (λ b. b < 256) 8 bytes all) in
    let s = field_8 (drop 16 bytes) (omega (arith, length-drop 16 bytes)) (All-drop (λ b. b < 256) 16 bytes all) in
    let reserved = take 8 (drop 24 bytes) in
    let parts : take 32 bytes ≡ take 2 bytes ++ (take 2 (drop 2 bytes) ++ (take 4 (drop 4 bytes) ++ (take 8 (drop 8 bytes) ++ (take 8 (drop 16 bytes) ++ reserved)))) =
    cut 2 30 0 bytes ∙ ap (λ (x : List ℕ). take 2 bytes ++ x) (cut 2 28 2 bytes ∙ ap (λ (x : List ℕ). take 2 (drop 2 bytes) ++ x) (cut 4 24 4 bytes ∙ ap (λ (x : List ℕ). take 4 (drop 4 bytes) ++ x)
    (cut 8 16 8 bytes ∙ ap (λ (x : List ℕ). take 8 (drop 8 bytes) ++ x) (cut 8 8 16 bytes)))) in
    let put : ℕ → List ℕ = λ form. little_bytes 2 (version_in bytes) ++ (little_bytes 2 form ++ (little_bytes 4 (flags_in bytes) ++ (little_bytes 8 (little_number 8 (drop 8 bytes)) ++ (little_bytes 8 (little_number 8 (drop 16 bytes)) ++ reserved)))) in
    record {
      flags = flags_in bytes;
      reserved = reserved;
      spelled = parts ∙ rw (sym a.back, sym b.back, sym g.back, sym q.back, sym s.back) (ap put has.form);
      accepted = has.accepted;
      constant = refl;
      nonstop = refl;
      flags_fit = g.fits;
      frequency_fits = q.fits;
      size_fits = s.fits;
      whole = omega (arith, length-take 8 (drop 24 bytes), length-drop 24 bytes);
    }

pub trace_described : Decodes → (bytes : List ℕ) (trace : Trace) → AreBytes bytes → trace_of bytes ≡ Ok trace → IsTrace bytes trace
trace_described decodes bytes trace all is =
    by_version (version_read bytes) refl (sym (header_first bytes (λ version. decided (blocks_faults version bytes) (told_by bytes))) ∙ sym (rows_decide bytes) ∙ is)
  where
    by_version : (o : Result Version TraceFault) → version_read bytes ≡ o → (o >>= λ version. decided (blocks_faults version bytes) (told_by bytes)) ≡ Ok trace → IsTrace bytes trace
    by_version (Ok version) open_is e =
        let whole = none_wrong (blocks_faults version bytes) (told_by bytes) trace e in
        subst (IsTrace bytes) whole.1 (record {
          version = version;
          front = take 32 bytes;
          following = drop 32 bytes;
          parts = sym (take-append-drop 32 bytes);
          header = header_described version bytes all (header_has bytes version open_is);
          blocks = blocks_described version decodes (length (drop 32 bytes)) 32 (drop 32 bytes) (omega arith) (All-drop (λ x. x < 256) 32 bytes all) whole.0;
        })
    by_version (Err fault) open_is e = absurd cc
