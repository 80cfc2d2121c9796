-- The blocks of a log, and one more block after them.
use Rattle.std.proofs.Common.{◌≡◌, ℕ, ◌+◌, ◌<◌, ◌≤◌, Bool, true, false, ltb, List, [], ◌∷◌, ◌++◌, length, drop, map, Option, Some, None, Result, Ok, Err, refl, sym, ap, subst, ◌∙◌, arith}
use Rattle.std.specs.Prelude.{sum}
use Rattle.std.proofs.lemmas.Grind.{common_steps}
use Rattle.std.proofs.lemmas.List.{drop-drop, length-drop, map-append}
use Rattle.std.proofs.lemmas.List.Sums.{sum_by_push}
use Rattle.xray_io.specs.Rows.{First, InTurn, NeedsPart, ◌>>=◌}
use Rattle.fdr_record.specs.declared.fault.RecFault.{RecFault}
use Rattle.fdr_record.specs.declared.rec.Rec.{Rec}
use Rattle.fdr_record.specs.declared.rec.Rec.TheVariants.{Extents}
use Rattle.fdr_record.specs.Reading.{function_record_at, metadata_record_at}
use Rattle.fdr_file.specs.declared.fault.TraceFault.{TraceFault}
use Rattle.fdr_file.specs.declared.fault.TraceFault.TheVariants as traces
use Rattle.fdr_file.specs.declared.stage.Stage.TheVariants.{Due}
use Rattle.fdr_file.specs.Places.{starts}
use Rattle.fdr_file.specs.Traces.{block_length, extents_in, record_in, size_named}
use Rattle.runtime_log.specs.declared.blocks.LogBlock.{LogBlock as Placed}
use Rattle.runtime_log.specs.declared.blocks.LogBlocks.{LogBlocks}
use Rattle.runtime_log.specs.declared.own_event.OwnKind.{OwnKind}
use Rattle.runtime_log.specs.declared.version.LogVersion.{LogVersion}
use Rattle.runtime_log.specs.Logs.{LogBlock, block_size_rows, log_block_in, log_block_rows, recorder_blocks, sized_rows, too_few}
use Rattle.runtime_log.specs.Arguments.{arg_follows, found_before, rec_before}
use Rattle.runtime_log.specs.OwnEvents.{log_record_in, own_kind}
use Rattle.runtime_log.specs.private.Choices.{AreAt, IsAt}
use Rattle.runtime_log.specs.private.Readings.{BlocksRead}
use Rattle.runtime_log.proofs.ArgumentsBehind.{size_before}
use Rattle.runtime_log.proofs.RecordWalk.{starts_first, starts_none}

-- ---- the size of a block

-- a record with a number of bytes is extents
pub size_is : (r : Rec) (size : ℕ) → size_named r ≡ Some size → r ≡ Extents size
size_is (Extents n) size e = cc
size_is r size e = absurd cc

extents_is : (bytes : List ℕ) (size : ℕ) → record_in bytes ≡ Ok (Extents size) → extents_in bytes ≡ size
unfolding record_in function_record_at metadata_record_at
extents_is bytes size e = grind (arith, common_steps)

-- the extents of a block name its size
pub block_sized : (version : LogVersion) (at : ℕ) (rest : List ℕ) (size : ℕ) → block_size_rows version (at, rest) ≡ Ok size → block_length rest ≡ 16 + size
block_sized version at rest size is = by_short (ltb (length rest) 16) is
  where
    by_tests : (n : ℕ) (small cut : Bool) → record_in rest ≡ Ok (Extents n)
        → First small (Err (traces.Extents at)) (First cut (Err (traces.Short at)) (Ok n)) ≡ Ok size → block_length rest ≡ 16 + size
    by_tests n true cut found e = absurd cc
    by_tests n false true found e = absurd cc
    by_tests n false false found e =
        let same : n ≡ size = cc in
        ap (λ (k : ℕ). 16 + k) (extents_is rest n found ∙ same)

    by_named : (r : Rec) (named : Option ℕ) → size_named r ≡ named → record_in rest ≡ Ok r
        → (NeedsPart named (Err (traces.Order at)) λ n. First (too_few version n) (Err (traces.Extents at)) (First (ltb (length rest) (16 + n)) (Err (traces.Short at)) (Ok n))) ≡ Ok size
        → block_length rest ≡ 16 + size
    by_named r None named found e = absurd cc
    by_named r (Some n) named found e =
        by_tests n (too_few version n) (ltb (length rest) (16 + n)) (found ∙ ap (λ (x : Rec). let y : Result Rec RecFault = Ok x in y) (size_is r n named)) e

    by_record : (x : Result Rec RecFault) → record_in rest ≡ x → sized_rows version (at, rest) (found_before (arg_follows rest) x) ≡ Ok size → block_length rest ≡ 16 + size
    by_record (Ok r) found e = by_named r (size_named (rec_before (arg_follows rest) r)) (sym (size_before (arg_follows rest) r)) found e
    by_record (Err fault) found e = absurd cc

    by_kind : (kind : Option OwnKind) → own_kind version rest ≡ kind → sized_rows version (at, rest) (log_record_in version Due rest) ≡ Ok size → block_length rest ≡ 16 + size
    by_kind None k e = by_record (record_in rest) refl (rw k at e)
    by_kind (Some kind) k e = let no = rw k at e in absurd cc

    by_short : (short : Bool) → First short (Err (traces.Short at)) (sized_rows version (at, rest) (log_record_in version Due rest)) ≡ Ok size → block_length rest ≡ 16 + size
    by_short true e = absurd cc
    by_short false e = by_kind (own_kind version rest) refl e

-- ---- lists of blocks

pub at_more : (bytes : List ℕ) (version : LogVersion) (places : List Placed) (said : List LogBlock) (placed : Placed) (b : LogBlock) → AreAt bytes version places said → IsAt bytes version placed b
    → AreAt bytes version (places ++ placed ∷ []) (said ++ b ∷ [])
at_more bytes version [] [] placed b are is = (is, tt)
at_more bytes version (p ∷ places) (s ∷ said) placed b are is = (are.0, at_more bytes version places said placed b are.1 is)
at_more bytes version [] (s ∷ said) placed b are is = absurd are
at_more bytes version (p ∷ places) [] placed b are is = absurd are

custom_more : (said : List LogBlock) (b : LogBlock) → sum (map (λ (x : LogBlock). x.custom) (said ++ b ∷ [])) ≡ sum (map (λ (x : LogBlock). x.custom) said) + b.custom
custom_more said b = ap sum (map-append (λ (x : LogBlock). x.custom) said (b ∷ [])) ∙ sum_by_push (λ n. n) (map (λ (x : LogBlock). x.custom) said) b.custom

typed_more : (said : List LogBlock) (b : LogBlock) → sum (map (λ (x : LogBlock). x.typed) (said ++ b ∷ [])) ≡ sum (map (λ (x : LogBlock). x.typed) said) + b.typed
typed_more said b = ap sum (map-append (λ (x : LogBlock). x.typed) said (b ∷ [])) ∙ sum_by_push (λ n. n) (map (λ (x : LogBlock). x.typed) said) b.typed

cut_more : (said : List LogBlock) (b : LogBlock) → sum (map (λ (x : LogBlock). x.cut) (said ++ b ∷ [])) ≡ sum (map (λ (x : LogBlock). x.cut) said) + b.cut
cut_more said b = ap sum (map-append (λ (x : LogBlock). x.cut) said (b ∷ [])) ∙ sum_by_push (λ n. n) (map (λ (x : LogBlock). x.cut) said) b.cut

-- ---- one more block

-- the blocks from a place on, after these
abbrev pub Onward : LogVersion → Result (List LogBlock) TraceFault → ℕ → List ℕ → Result (List LogBlock) TraceFault
Onward version said at rest = said >>= λ blocks. InTurn (log_block_rows version) blocks (starts block_length 0 at rest)

pub block_first : (version : LogVersion) (said : List LogBlock) (at : ℕ) (rest : List ℕ) → 0 < length rest
    → InTurn (log_block_rows version) said (starts block_length 0 at rest) ≡ Onward version (log_block_rows version said (at, rest)) (at + block_length rest) (drop (block_length rest) rest)
block_first version said at rest some = ap (InTurn (log_block_rows version) said) (starts_first block_length at rest some (omega arith))

pub blocks_more : (version : LogVersion) (bytes : List ℕ) (at : ℕ) (old new : LogBlocks) (placed : Placed) (b : LogBlock) → BlocksRead version bytes at old → at < length bytes
    → log_block_in version (at, drop at bytes) ≡ Ok b → IsAt bytes version placed b → placed.end ≡ at + block_length (drop at bytes)
    → new.blocks.items ≡ old.blocks.items ++ placed ∷ [] → new.custom ≡ old.custom + b.custom → new.typed ≡ old.typed + b.typed → new.cut ≡ old.cut + b.cut
    → BlocksRead version bytes placed.end new
blocks_more version bytes at old new placed b r within is place end items custom typed cut =
    let rest = drop at bytes in
    let more : List LogBlock = r.said ++ b ∷ [] in
    let some : 0 < length rest = omega (arith, length-drop at bytes) in
    record {
      said = more;
      on =
          r.on ∙ block_first version r.said at rest some
          ∙ ap (λ (x : Result LogBlock TraceFault). Onward version (x >>= λ s. Ok (r.said ++ s ∷ [])) (at + block_length rest) (drop (block_length rest) rest)) is
          ∙ ap (λ (xs : List ℕ). InTurn (log_block_rows version) more (starts block_length 0 (at + block_length rest) xs)) (drop-drop (block_length rest) at bytes)
          ∙ ap (λ (k : ℕ). InTurn (log_block_rows version) more (starts block_length 0 k (drop k bytes))) (sym end);
      places = subst (λ (xs : List Placed). AreAt bytes version xs more) (sym items) (at_more bytes version old.blocks.items r.said placed b r.places place);
      custom = custom ∙ ap (λ (n : ℕ). n + b.custom) r.custom ∙ sym (custom_more r.said b);
      typed = typed ∙ ap (λ (n : ℕ). n + b.typed) r.typed ∙ sym (typed_more r.said b);
      cut = cut ∙ ap (λ (n : ℕ). n + b.cut) r.cut ∙ sym (cut_more r.said b);
    }

pub blocks_stop : (version : LogVersion) (bytes : List ℕ) (at : ℕ) (blocks : LogBlocks) (fault : TraceFault) → BlocksRead version bytes at blocks → at < length bytes
    → log_block_in version (at, drop at bytes) ≡ Err fault → recorder_blocks version bytes ≡ Err fault
blocks_stop version bytes at blocks fault r within is =
    let rest = drop at bytes in
    let some : 0 < length rest = omega (arith, length-drop at bytes) in
    r.on ∙ block_first version r.said at rest some
    ∙ ap (λ (x : Result LogBlock TraceFault). Onward version (x >>= λ s. Ok (r.said ++ s ∷ [])) (at + block_length rest) (drop (block_length rest) rest)) is

pub blocks_all : (version : LogVersion) (bytes : List ℕ) (at : ℕ) (blocks : LogBlocks) (r : BlocksRead version bytes at blocks) → length bytes ≤ at → recorder_blocks version bytes ≡ Ok r.said
blocks_all version bytes at blocks r end =
    r.on ∙ ap (InTurn (log_block_rows version) r.said) (starts_none block_length at (drop at bytes) (omega (arith, length-drop at bytes)))
