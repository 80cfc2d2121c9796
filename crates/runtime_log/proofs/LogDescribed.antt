-- What is read as a log of the Flight Data Recorder mode is one by the grammar.
use Rattle.std.proofs.Common.{◌≡◌, ℕ, zero, suc, ◌+◌, ◌-◌, ◌<◌, ◌≤◌, Bool, true, false, cond, eqb, ltb, List, [], ◌∷◌, ◌++◌, length, drop, take, Option, Some, None, Result, Ok, Err, inl, inr, refl, sym, ap, subst, ◌∙◌, append_assoc, append-nil, arith}
use Rattle.std.specs.Prelude.{◌≢◌, ◌⊎◌, ◌&&◌, count_by, not}
use Rattle.std.proofs.lemmas.Bool.{cases_lt, eqb-true, ltb-false, ne_eqb}
use Rattle.std.proofs.lemmas.List.{drop-drop, length-drop, length-take, take-append-drop}
use Rattle.std.proofs.lemmas.List.Elements.{All-drop, All-take}
use Rattle.std.proofs.Math.Seq.{take-add}
use Rattle.byteorder.specs.Endian.{little_bytes, little_number}
use Rattle.xray_io.specs.Rows.{First, InTurn, NeedsPart, ◌>>=◌}
use Rattle.fdr_record.specs.declared.fault.RecFault.{RecFault}
use Rattle.fdr_record.specs.declared.rec.Rec.{Rec}
use Rattle.fdr_record.specs.declared.rec.Rec.TheVariants.{Extents}
use Rattle.fdr_record.specs.Records.{Spells}
use Rattle.fdr_record.specs.Refusals.{Answers}
use Rattle.fdr_record.proofs.Fields.{field_2, field_4, field_8}
use Rattle.fdr_file.specs.declared.fault.TraceFault.{TraceFault}
use Rattle.fdr_file.specs.declared.fault.TraceFault.TheVariants as traces
use Rattle.fdr_file.specs.declared.stage.Stage.TheVariants.{Due}
use Rattle.fdr_file.specs.Places.{starts}
use Rattle.fdr_file.specs.Traces.{block_length, flags_in, preamble_bytes, record_in, size_named, type_in, version_in}
use Rattle.runtime_log.specs.declared.blocks.Mode.{Mode}
use Rattle.runtime_log.specs.declared.blocks.Mode.TheVariants.{Recorder, Basic}
use Rattle.runtime_log.specs.declared.own_event.OwnKind.{OwnKind}
use Rattle.runtime_log.specs.declared.version.LogVersion.{LogVersion}
use Rattle.runtime_log.specs.declared.version.LogVersion.TheVariants.{Two, Three, Four, Five}
use Rattle.runtime_log.specs.Grammar.{AreLogBlocks, AreLogRecords, IsBare, IsCutEnd, IsFilled, LogRecord, is_typed_event, IsLogBlock, IsLogHeader, version_number}
use Rattle.runtime_log.specs.LogLaws.{LoggedIsLog}
use Rattle.runtime_log.specs.Logs.{BlockSoFar, LogBlock, as_log, block_content, block_opened, block_said, block_size_rows, cut_after, cut_length, log_block_in, log_block_rows, log_places, recorder_blocks, recorder_header, sized_rows, too_few, whole_content, whole_rows}
use Rattle.runtime_log.specs.Arguments.{arg_follows, found_before, rec_before}
use Rattle.runtime_log.specs.OwnEvents.{log_record_in, own_kind}
use Rattle.runtime_log.specs.Versions.{log_version_of, trace_version}
use Rattle.runtime_log.specs.private.Headers.{header_for, mode_of}
use Rattle.runtime_log.proofs.ArgumentsBehind.{size_before}
use Rattle.runtime_log.proofs.BlockLists.{block_first, block_sized, size_is}
use Rattle.runtime_log.proofs.CutRecords.{cut_few, cut_is, cut_past, whole_enough, whole_long}
use Rattle.runtime_log.proofs.LogEvents.{no_bytes}
use Rattle.runtime_log.proofs.LogRecords.{Decodes}
use Rattle.runtime_log.proofs.LogShapes.{block_read}
use Rattle.runtime_log.proofs.RecordFits.{AreBytes}
use Rattle.runtime_log.proofs.RecordWalk.{rows_none, starts_none}
use Rattle.runtime_log.proofs.WholeLogs.{HasParts, ModeIs, block_parts, log_parts, mode_is}

-- ---- extents

record Sized (version : LogVersion) (bytes : List ℕ) (size : ℕ) : Type 0 where
  found : record_in bytes ≡ Ok (Extents size)
  least : (size ≡ 0) ⊎ (preamble_bytes (trace_version version) ≤ size)
  whole : 16 + size ≤ length bytes

enough : (version : LogVersion) (n : ℕ) → too_few version n ≡ false → (n ≡ 0) ⊎ (preamble_bytes (trace_version version) ≤ n)
enough version n is = by_none (eqb n 0) refl is
  where
    by_none : (b : Bool) → eqb n 0 ≡ b → (not b && ltb n (preamble_bytes (trace_version version))) ≡ false → (n ≡ 0) ⊎ (preamble_bytes (trace_version version) ≤ n)
    by_none true e few = inl (eqb-true n 0 e)
    by_none false e few = inr (ltb-false n (preamble_bytes (trace_version version)) few)

sized_so : (version : LogVersion) (at : ℕ) (bytes : List ℕ) (size : ℕ) → block_size_rows version (at, bytes) ≡ Ok size → Sized version bytes size
sized_so version at bytes size is = by_short (ltb (length bytes) 16) is
  where
    by_tests : (n : ℕ) (small cut : Bool) → too_few version n ≡ small → ltb (length bytes) (16 + n) ≡ cut → record_in bytes ≡ Ok (Extents n)
        → First small (Err (traces.Extents at)) (First cut (Err (traces.Short at)) (Ok n)) ≡ Ok size → Sized version bytes size
    by_tests n true cut s c found e = absurd cc
    by_tests n false true s c found e = absurd cc
    by_tests n false false s c found e =
        let same : n ≡ size = cc in
        subst (Sized version bytes) same
        (record { found = found; least = enough version n s; whole = ltb-false (length bytes) (16 + n) c })

    by_named : (r : Rec) (named : Option ℕ) → size_named r ≡ named → record_in bytes ≡ Ok r
        → (NeedsPart named (Err (traces.Order at)) λ n. First (too_few version n) (Err (traces.Extents at)) (First (ltb (length bytes) (16 + n)) (Err (traces.Short at)) (Ok n))) ≡ Ok size
        → Sized version bytes size
    by_named r None named found e = absurd cc
    by_named r (Some n) named found e =
        by_tests n (too_few version n) (ltb (length bytes) (16 + n)) refl refl (found ∙ ap (λ (x : Rec). let y : Result Rec RecFault = Ok x in y) (size_is r n named)) e

    by_record : (x : Result Rec RecFault) → record_in bytes ≡ x → sized_rows version (at, bytes) (found_before (arg_follows bytes) x) ≡ Ok size → Sized version bytes size
    by_record (Ok r) found e = by_named r (size_named (rec_before (arg_follows bytes) r)) (sym (size_before (arg_follows bytes) r)) found e
    by_record (Err fault) found e = absurd cc

    by_kind : (kind : Option OwnKind) → own_kind version bytes ≡ kind → sized_rows version (at, bytes) (log_record_in version Due bytes) ≡ Ok size → Sized version bytes size
    by_kind None k e = by_record (record_in bytes) refl (rw k at e)
    by_kind (Some kind) k e = let no_size = rw k at e in absurd cc

    by_short : (short : Bool) → First short (Err (traces.Short at)) (sized_rows version (at, bytes) (log_record_in version Due bytes)) ≡ Ok size → Sized version bytes size
    by_short true e = absurd cc
    by_short false e = by_kind (own_kind version bytes) refl e

-- ---- a block

record BlockDescribed (version : LogVersion) (at : ℕ) (bytes : List ℕ) (b : LogBlock) : Type 0 where
  place : b.place ≡ at
  is : IsLogBlock version (take (16 + length b.content) bytes) b
  long : block_length bytes ≡ 16 + length b.content
  whole : 16 + length b.content ≤ length bytes

-- the end of a content behind its whole records
abbrev end_of : LogVersion → List ℕ → List ℕ
end_of version content = drop (length content - cut_length version content) content

-- a count of one, or of none
count_cut : (n : ℕ) → n ≡ 0 → cond {A = ℕ} (eqb n 0) 0 1 ≡ 0
count_cut n none = ap (λ (k : ℕ). cond {A = ℕ} (eqb k 0) 0 1) none

count_one : (n : ℕ) → n ≢ 0 → cond {A = ℕ} (eqb n 0) 0 1 ≡ 1
count_one n some = ap (λ (b : Bool). cond {A = ℕ} b 0 1) (ne_eqb n 0 some)

-- a record is cut behind these, or none
end_says : (version : LogVersion) (at : ℕ) (content : List ℕ) (records : List LogRecord) → AreLogRecords version records (whole_content version content)
    → IsCutEnd version (length content) records (end_of version content) (cond {A = ℕ} (eqb (cut_length version content) 0) 0 1)
end_says version at content records are = by_end (end_of version content) refl
  where
    whole : List ℕ
    whole = whole_content version content

    count : ℕ
    count = count_by is_typed_event records

    parts : content ≡ whole ++ end_of version content
    parts = sym (take-append-drop (length content - cut_length version content) content)

    long : length (end_of version content) ≡ cut_length version content
    long = omega (arith, length-drop (length content - cut_length version content) content, cut_few version content)

    past : cut_length version content ≡ cut_after version (length content) count (log_places version (length whole) (end_of version content))
    past =
        ap (λ (xs : List ℕ). cut_after version (length content) 0 (log_places version 0 xs)) parts
        ∙ (cut_past version (length content) 0 0 records whole (end_of version content) are
        ∙ (ap (λ (n : ℕ). cut_after version (length content) n (log_places version (0 + length whole) (end_of version content))) (omega arith)
        ∙ ap (λ (n : ℕ). cut_after version (length content) count (log_places version n (end_of version content))) (omega arith)))

    by_end : (end : List ℕ) → end_of version content ≡ end → IsCutEnd version (length content) records (end_of version content) (cond {A = ℕ} (eqb (cut_length version content) 0) 0 1)
    by_end [] e = inl (e, count_cut (cut_length version content) (sym long ∙ ap length e))
    by_end (b ∷ end) e =
        let some : end_of version content ≢ [] = λ none. absurd (let no : b ∷ end ≡ [] = sym e ∙ none in cc) in
        let cut = cut_is version (length content) count (length whole) (end_of version content) some (sym past ∙ sym long) in
        let there : length (b ∷ end) ≡ cut_length version content = ap length (sym e) ∙ long in
        inr (cut, count_one (cut_length version content) (λ none. omega (arith, there, none)))

-- what the content of a block says: its records, or nothing
content_says : Decodes → (version : LogVersion) (at size : ℕ) (content : List ℕ) (so : BlockSoFar) → AreBytes content → length content ≡ size
    → (size ≡ 0) ⊎ (preamble_bytes (trace_version version) ≤ size) → whole_rows version at (whole_content version content) ≡ Ok so
    → IsFilled version (block_said version at content so) ⊎ IsBare (block_said version at content so)
content_says decodes version at size content so all long (inr least) reads =
    let whole = whole_content version content in
    let fits : AreBytes whole = All-take (λ b. b < 256) (length content - cut_length version content) content all in
    let r = block_read decodes version at (length whole) whole so fits refl (whole_enough version content (omega (arith, long, least))) reads in
    inl (record {
      whole = whole;
      end = end_of version content;
      content = sym (take-append-drop (length content - cut_length version content) content);
      records = r.records;
      spelled = r.spelled;
      cut = end_says version at content r.records r.spelled;
      others = r.others;
      are = r.are;
      inner = r.inner;
      based = r.based;
      args = r.args;
      told = r.told;
      custom = r.custom;
      typed = r.typed;
    })
content_says decodes version at size content so all long (inl none) reads =
    let zero_long : length content ≡ 0 = long ∙ none in
    let few = cut_few version content in
    let no_cut : cut_length version content ≡ 0 = omega (arith, few, zero_long) in
    let whole_long_is : length (whole_content version content) ≡ 0 = omega (arith, whole_long version content, zero_long) in
    let opened = block_opened at (length (whole_content version content)) in
    let both : Ok opened ≡ Ok so = sym (rows_none version opened (at + 16) (whole_content version content) whole_long_is) ∙ reads in
    let same : opened ≡ so = cc in
    inr (record {
      bytes = no_bytes content zero_long;
      block = ap (λ (s : BlockSoFar). s.block) (sym same);
      custom = ap (λ (s : BlockSoFar). s.custom) (sym same);
      typed = ap (λ (s : BlockSoFar). s.typed) (sym same);
      cut = count_cut (cut_length version content) no_cut;
    })

block_described : Decodes → (version : LogVersion) (at : ℕ) (bytes : List ℕ) (b : LogBlock) → AreBytes bytes → log_block_in version (at, bytes) ≡ Ok b → BlockDescribed version at bytes b
block_described decodes version at bytes b all is =
    let p = block_parts version at bytes b is in
    let z = sized_so version at bytes p.size p.sized in
    let content : List ℕ = block_content p.size bytes in
    let long : length content ≡ p.size = omega (arith, length-take p.size (drop 16 bytes), length-drop 16 bytes, z.whole) in
    let extents = subst (Answers bytes) z.found (decodes bytes all) in
    let same : p.size ≡ length content = sym long in
    let fits = All-take (λ b. b < 256) p.size (drop 16 bytes) (All-drop (λ b. b < 256) 16 bytes all) in
    subst (BlockDescribed version at bytes) (sym p.is) (record {
      place = refl;
      is = record {
        extents = take 16 bytes;
        parts = ap (λ (k : ℕ). take (16 + k) bytes) long ∙ take-add 16 p.size bytes;
        named = subst (λ (k : ℕ). Spells (take 16 bytes) (Extents k)) same extents.1;
        few = omega (arith, extents.0, long);
        says = content_says decodes version at p.size content p.so fits long z.least p.reads;
      };
      long = block_sized version at bytes p.size p.sized ∙ ap (λ (k : ℕ). 16 + k) same;
      whole = omega (arith, z.whole, long);
    })

-- ---- the blocks

record BlocksDescribed (version : LogVersion) (at : ℕ) (bytes : List ℕ) (said all : List LogBlock) : Type 0 where
  more : List LogBlock
  are : all ≡ said ++ more
  is : AreLogBlocks version at more bytes

no_more : (version : LogVersion) (at : ℕ) (bytes : List ℕ) (said all : List LogBlock) → length bytes ≡ 0
    → InTurn (log_block_rows version) said (starts block_length 0 at bytes) ≡ Ok all → BlocksDescribed version at bytes said all
no_more version at bytes said all none reads =
    let both : Ok said ≡ Ok all = sym (ap (InTurn (log_block_rows version) said) (starts_none block_length at bytes none)) ∙ reads in
    let same : said ≡ all = cc in
    record { more = []; are = sym same ∙ sym (append-nil said); is = no_bytes bytes none }

abbrev Describes : LogVersion → ℕ → Type 0
Describes version n = (at : ℕ) (bytes : List ℕ) (said all : List LogBlock) → length bytes ≤ n → AreBytes bytes
    → InTurn (log_block_rows version) said (starts block_length 0 at bytes) ≡ Ok all → BlocksDescribed version at bytes said all

blocks_described : Decodes → (version : LogVersion) (n : ℕ) → Describes version n
blocks_described decodes version zero at bytes said all few fit reads =
    let none : length bytes ≡ 0 = omega (arith, few) in
    no_more version at bytes said all none reads
blocks_described decodes version (suc n) at bytes said all few fit reads = by_length (blocks_described decodes version n) (cases_lt 0 (length bytes))
  where
    by_block : Describes version n → 0 < length bytes → (x : Result LogBlock TraceFault) → log_block_in version (at, bytes) ≡ x
        → ((x >>= λ b. Ok (said ++ b ∷ [])) >>= λ blocks. InTurn (log_block_rows version) blocks (starts block_length 0 (at + block_length bytes) (drop (block_length bytes) bytes))) ≡ Ok all
        → BlocksDescribed version at bytes said all
    by_block again some (Err fault) e h = absurd cc
    by_block again some (Ok b) e h =
        let here = block_described decodes version at bytes b fit e in
        let k = block_length bytes in
        let rest = drop k bytes in
        let later = again (at + k) rest (said ++ b ∷ []) all (omega (arith, few, some, length-drop k bytes, here.long)) (All-drop (λ b. b < 256) k bytes fit) h in
        let front = take (16 + length b.content) bytes in
        let size : length front ≡ k = omega (arith, length-take (16 + length b.content) bytes, here.whole, here.long) in record {
          more = b ∷ later.more;
          are = later.are ∙ append_assoc said (b ∷ []) later.more;
          is = (
            front,
            rest,
            sym (take-append-drop k bytes) ∙ ap (λ (j : ℕ). take j bytes ++ rest) here.long,
            here.place,
            here.is,
            subst (λ (j : ℕ). AreLogBlocks version (at + j) later.more rest) (sym size) later.is,
          );
        }

    by_length : Describes version n → (0 < length bytes) ⊎ (length bytes ≤ 0) → BlocksDescribed version at bytes said all
    by_length again (inr none) =
        let zero_long : length bytes ≡ 0 = omega (arith, none) in
        no_more version at bytes said all zero_long reads
    by_length again (inl some) = by_block again some (log_block_in version (at, bytes)) refl (sym (block_first version said at bytes some) ∙ reads)

-- ---- the header

version_is : (number : ℕ) (version : LogVersion) → log_version_of number ≡ Some version → number ≡ version_number version
version_is number version is = by_two (eqb number 2) refl is
  where
    Goal : LogVersion → Type 0
    Goal v = number ≡ version_number v

    by_five : (b : Bool) → eqb number 5 ≡ b → cond b (Some Five) None ≡ Some version → Goal version
    by_five true e h =
        let same : Five ≡ version = cc in
        subst Goal same (eqb-true number 5 e)
    by_five false e h = absurd cc

    by_four : (b : Bool) → eqb number 4 ≡ b → cond b (Some Four) (cond (eqb number 5) (Some Five) None) ≡ Some version → Goal version
    by_four true e h =
        let same : Four ≡ version = cc in
        subst Goal same (eqb-true number 4 e)
    by_four false e h = by_five (eqb number 5) refl h

    by_three : (b : Bool) → eqb number 3 ≡ b → cond b (Some Three) (cond (eqb number 4) (Some Four) (cond (eqb number 5) (Some Five) None)) ≡ Some version → Goal version
    by_three true e h =
        let same : Three ≡ version = cc in
        subst Goal same (eqb-true number 3 e)
    by_three false e h = by_four (eqb number 4) refl h

    by_two : (b : Bool) → eqb number 2 ≡ b → cond b (Some Two) (cond (eqb number 3) (Some Three) (cond (eqb number 4) (Some Four) (cond (eqb number 5) (Some Five) None))) ≡ Some version → Goal version
    by_two true e h =
        let same : Two ≡ version = cc in
        subst Goal same (eqb-true number 2 e)
    by_two false e h = by_three (eqb number 3) refl h

-- the header of a log of this mode
pub record HeaderRead (bytes : List ℕ) (version : LogVersion) : Type 0 where
  pub long : 32 ≤ length bytes
  pub number : version_in bytes ≡ version_number version

pub header_read : (bytes : List ℕ) (mode : Mode) → type_in bytes ≡ 1 → mode_of bytes ≡ Ok mode → (version : LogVersion) × (mode ≡ Recorder version) × HeaderRead bytes version
header_read bytes mode form is = by_mode mode (mode_is bytes mode is)
  where
    by_mode : (m : Mode) → ModeIs bytes m → (version : LogVersion) × (m ≡ Recorder version) × HeaderRead bytes version
    by_mode (Recorder version) m = (version, refl, record { long = m.0; number = version_is (version_in bytes) version m.1 })
    by_mode (Basic version) m = absurd (omega (arith, form, m.2))

cut : (n m k : ℕ) (bytes : List ℕ) → take (n + m) (drop k bytes) ≡ take n (drop k bytes) ++ take m (drop (k + n) bytes)
cut n m k bytes = take-add n m (drop k bytes) ∙ ap (λ (x : List ℕ). take n (drop k bytes) ++ take m x) (drop-drop n k bytes)

header_described : (version : LogVersion) (bytes : List ℕ) → AreBytes bytes → type_in bytes ≡ 1 → HeaderRead bytes version → IsLogHeader version (take 32 bytes) (recorder_header bytes)
header_described version bytes all form has =
    let long = has.long in
    let a = field_2 bytes (omega arith) all in
    let b = field_2 (drop 2 bytes) (omega (arith, length-drop 2 bytes)) (All-drop (λ b. b < 256) 2 bytes all) in
    let g = field_4 (drop 4 bytes) (omega (arith, length-drop 4 bytes)) (All-drop (λ b. b < 256) 4 bytes all) in
    let q = field_8 (drop 8 bytes) (omega (arith, length-drop 8 bytes)) (All-drop (λ b. b < 256) 8 bytes all) in
    let s = field_8 (drop 16 bytes) (omega (arith, length-drop 16 bytes)) (All-drop (λ b. b < 256) 16 bytes all) in
    let reserved = take 8 (drop 24 bytes) in
    let parts : take 32 bytes ≡ take 2 bytes ++ (take 2 (drop 2 bytes) ++ (take 4 (drop 4 bytes) ++ (take 8 (drop 8 bytes) ++ (take 8 (drop 16 bytes) ++ reserved)))) =
    cut 2 30 0 bytes ∙ ap (λ (x : List ℕ). take 2 bytes ++ x) (cut 2 28 2 bytes ∙ ap (λ (x : List ℕ). take 2 (drop 2 bytes) ++ x) (cut 4 24 4 bytes ∙ ap (λ (x : List ℕ). take 4 (drop 4 bytes) ++ x)
    (cut 8 16 8 bytes ∙ ap (λ (x : List ℕ). take 8 (drop 8 bytes) ++ x) (cut 8 8 16 bytes)))) in
    let put : ℕ → ℕ → List ℕ = λ number type. little_bytes 2 number ++ (little_bytes 2 type ++ (little_bytes 4 (flags_in bytes) ++ (little_bytes 8 (little_number 8 (drop 8 bytes)) ++ (little_bytes 8 (little_number 8 (drop 16 bytes)) ++ reserved)))) in
    record {
      flags = flags_in bytes;
      reserved = reserved;
      spelled = parts ∙ rw (sym a.back, sym b.back, sym g.back, sym q.back, sym s.back) (ap (λ (k : ℕ). put k (type_in bytes)) has.number ∙ ap (put (version_number version)) form);
      third = refl;
      constant = refl;
      nonstop = refl;
      flags_fit = g.fits;
      frequency_fits = q.fits;
      size_fits = s.fits;
      whole = omega (arith, length-take 8 (drop 24 bytes), length-drop 24 bytes);
    }

-- ---- a log

ok_blocks : (x : Result (List LogBlock) TraceFault) (blocks : List LogBlock) → as_log x ≡ Ok blocks → x ≡ Ok blocks
ok_blocks (Ok said) blocks e =
    let same : said ≡ blocks = cc in
    ap (λ (bs : List LogBlock). let y : Result (List LogBlock) TraceFault = Ok bs in y) same
ok_blocks (Err fault) blocks e = absurd cc

pub logged_is_log : Decodes → LoggedIsLog
logged_is_log decodes bytes log all form is =
    let parts = log_parts bytes log is in
    let h = header_read bytes parts.mode form parts.headed in
    let version = h.0 in
    let header : log.header ≡ recorder_header bytes = parts.header ∙ ap (λ (m : Mode). header_for m bytes) h.1 in
    let has = subst (λ (m : Mode). HasParts m bytes log) h.1 parts.has in
    let said = ok_blocks (recorder_blocks version bytes) log.blocks has.0 in
    let b = blocks_described decodes version (length (drop 32 bytes)) 32 (drop 32 bytes) [] log.blocks (omega arith) (All-drop (λ b. b < 256) 32 bytes all) said in record {
      version = version;
      front = take 32 bytes;
      following = drop 32 bytes;
      parts = sym (take-append-drop 32 bytes);
      header = subst (IsLogHeader version (take 32 bytes)) (sym header) (header_described version bytes all form h.2);
      blocks = subst (λ (bs : List LogBlock). AreLogBlocks version 32 bs (drop 32 bytes)) (sym b.are) b.is;
      alone = has.1;
      none = has.2;
    }
