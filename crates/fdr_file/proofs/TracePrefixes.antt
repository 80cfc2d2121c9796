-- The prefixes of a trace that are traces, and what may follow a trace.
use Rattle.std.proofs.Common.{◌≡◌, ℕ, zero, suc, ◌+◌, ◌-◌, ◌<◌, ◌≤◌, List, [], ◌∷◌, ◌++◌, length, slice_index, take, drop, map, Some, refl, sym, ap, subst, ◌∙◌, append_assoc, append-nil, length-append, arith}
use Rattle.std.proofs.lemmas.List.{drop_at, length-drop, length-take-le, take_at, take-append-drop}
use Rattle.std.proofs.Math.Seq.{take-add}
use Rattle.fdr_file.specs.declared.trace.Block.{Block}
use Rattle.fdr_file.specs.declared.trace.Trace.{Trace}
use Rattle.fdr_file.specs.declared.version.Version.{Version}
use Rattle.fdr_file.specs.Grammar.{AreBlocks, IsBlock, IsTrace}
use Rattle.fdr_file.specs.Places.{starts}
use Rattle.fdr_file.specs.Prefixes.{block_end, first_blocks, longer_trace, trace_ends}
use Rattle.fdr_file.specs.Traces.{block_length, version_of}
use Rattle.fdr_file.proofs.GrammarIsRead.{block_stands, header_reads, one_trace}
use Rattle.fdr_file.proofs.NextParts.{starts_first}

-- ---- one more block

blocks_more : (version : Version) (blocks : List Block) (bytes more : List ℕ) (block : Block) → AreBlocks version blocks bytes → IsBlock version more block → AreBlocks version (blocks ++ block ∷ []) (bytes ++ more)
blocks_more version [] bytes more block are is = (more, [], ap (λ (x : List ℕ). x ++ more) are ∙ sym (append-nil more), is, refl)
blocks_more version (first ∷ blocks) bytes more block (front, following, parts, here, rest) is =
    (front, following ++ more, ap (λ (x : List ℕ). x ++ more) parts ∙ append_assoc front following more, here, blocks_more version blocks following more block rest is)

pub trace_longer : (version : Version) (bytes : List ℕ) (trace : Trace) (more : List ℕ) (block : Block) → IsTrace bytes trace → version_of trace.header.version ≡ Some version → IsBlock version more block
    → IsTrace (bytes ++ more) (longer_trace trace block)
trace_longer version bytes trace more block is of_version block_is =
    let found : Some version ≡ Some is.version = sym of_version ∙ is.header.accepted in
    let same : version ≡ is.version = cc in
    record {
      version = is.version;
      front = is.front;
      following = is.following ++ more;
      parts = ap (λ (x : List ℕ). x ++ more) is.parts ∙ append_assoc is.front is.following more;
      header = is.header;
      blocks = blocks_more is.version trace.blocks is.following more block is.blocks (subst (λ (v : Version). IsBlock v more block) same block_is);
    }

-- ---- the ends of blocks

-- where blocks begin, and then where each of them ends
abbrev ends_from : ℕ → List ℕ → List ℕ
ends_from at bytes = at ∷ map block_end (starts block_length 0 at bytes)

-- the first block, and what follows it
record Opens (front following : List ℕ) (at : ℕ) : Type 0 where
  some : 0 < length front
  size : block_length (front ++ following) ≡ length front
  ends : ends_from at (front ++ following) ≡ at ∷ ends_from (at + length front) following

opens : (version : Version) (front following : List ℕ) (at : ℕ) (block : Block) → IsBlock version front block → Opens front following at
opens version front following at block is =
    let all = front ++ following in
    let here = block_stands version front following at block is in
    let size : block_length all ≡ length front = omega (arith, here.size, length-append front following) in
    let first : starts block_length 0 at all ≡ (at, all) ∷ starts block_length 0 (at + length front) following =
    starts_first block_length at all here.some (omega arith)
    ∙ ap (λ (x : List ℕ). (at, all) ∷ starts block_length 0 (at + block_length all) x) here.rest
    ∙ ap (λ (n : ℕ). (at, all) ∷ starts block_length 0 (at + n) following) size in
    record {
      some = omega (arith, size);
      size = size;
      ends = ap (λ (x : List (ℕ × List ℕ)). at ∷ map block_end x) first ∙ ap (λ (n : ℕ). at ∷ (at + n) ∷ map block_end (starts block_length 0 (at + length front) following)) size;
    }

-- the first blocks
record Begins (version : Version) (blocks : List Block) (bytes : List ℕ) (at end : ℕ) : Type 0 where
  past : at ≤ end
  within : end ≤ at + length bytes
  are : AreBlocks version blocks (take (end - at) bytes)

begin : (version : Version) (at : ℕ) (blocks : List Block) (bytes : List ℕ) (count : ℕ) → AreBlocks version blocks bytes → count ≤ length blocks
    → Begins version (take count blocks) bytes at (slice_index (ends_from at bytes) count)
begin version at blocks bytes zero are few =
    let none : at - at ≡ 0 = omega arith in
    record { past = omega arith; within = omega arith; are = ap (λ (n : ℕ). take n bytes) none }
begin version at [] bytes (suc count) are few = absurd (omega arith)
begin version at (block ∷ blocks) bytes (suc count) (front, following, parts, here, rest) few =
    let o = opens version front following at block here in
    let next = at + length front in
    let again = begin version next blocks following count rest (omega arith) in
    let end = slice_index (ends_from next following) count in
    let end_is : slice_index (ends_from at bytes) (suc count) ≡ end =
    ap (λ (x : List ℕ). slice_index (ends_from at x) (suc count)) parts ∙ ap (λ (x : List ℕ). slice_index x (suc count)) o.ends in
    let long : end - at ≡ length front + (end - next) = omega (arith, again.past) in
    let split : take (end - at) bytes ≡ front ++ take (end - next) following =
    ap (take (end - at)) parts ∙ ap (λ (n : ℕ). take n (front ++ following)) long ∙ take-add (length front) (end - next) (front ++ following)
    ∙ ap (λ (x : List ℕ). x ++ take (end - next) (drop (length front) (front ++ following))) (take_at front following (length front) refl)
    ∙ ap (λ (x : List ℕ). front ++ take (end - next) x) (drop_at front following (length front) refl) in
    subst (λ (n : ℕ). Begins version (take (suc count) (block ∷ blocks)) bytes at n) (sym end_is) (record {
      past = omega (arith, again.past);
      within = omega (arith, again.within, ap length parts, length-append front following);
      are = (front, take (end - next) following, split, here, again.are);
    })

-- blocks before the end of others
record EndsWith (some blocks : List Block) (bytes part : List ℕ) (at : ℕ) : Type 0 where
  few : length some ≤ length blocks
  end : slice_index (ends_from at bytes) (length some) ≡ at + length part

ends_with : (version other : Version) (at : ℕ) (some blocks : List Block) (part bytes rest : List ℕ) → AreBlocks version some part → AreBlocks other blocks bytes → bytes ≡ part ++ rest → EndsWith some blocks bytes part at
ends_with version other at [] blocks part bytes rest are all is = record { few = omega arith; end = omega (arith, ap length are) }
ends_with version other at (block ∷ some) [] part bytes rest (front, following, parts, here, more) all is =
    let o = opens version front following at block here in
    absurd (omega (arith, o.some, ap length all, ap length is, ap length parts, length-append part rest, length-append front following))
ends_with version other at (block ∷ some) (first ∷ blocks) part bytes rest (front, following, parts, here, more) (front', following', parts', here', more') is =
    let o = opens version front (following ++ rest) at block here in
    let also = opens other front' following' at first here' in
    let joined : bytes ≡ front ++ (following ++ rest) = is ∙ ap (λ (x : List ℕ). x ++ rest) parts ∙ append_assoc front following rest in
    let size : length front' ≡ length front = sym also.size ∙ ap block_length (sym parts' ∙ joined) ∙ o.size in
    let left : following' ≡ following ++ rest =
    sym (drop_at front' following' (length front') refl) ∙ ap (λ (n : ℕ). drop n (front' ++ following')) size ∙ ap (drop (length front)) (sym parts' ∙ joined) ∙ drop_at front (following ++ rest) (length front) refl in
    let next = at + length front in
    let again = ends_with version other next some blocks following following' rest more more' left in
    let end_is : slice_index (ends_from at bytes) (suc (length some)) ≡ slice_index (ends_from next following') (length some) =
    ap (λ (x : List ℕ). slice_index (ends_from at x) (suc (length some))) joined ∙ ap (λ (x : List ℕ). slice_index x (suc (length some))) o.ends
    ∙ ap (λ (x : List ℕ). slice_index (ends_from next x) (length some)) (sym left) in
    record {
      few = omega (arith, again.few);
      end = end_is ∙ again.end ∙ omega (arith, ap length parts, length-append front following);
    }

-- ---- a trace

-- what follows the header
record Headers (bytes front following : List ℕ) : Type 0 where
  long : length front ≡ 32
  left : drop 32 bytes ≡ following

after_header : (bytes : List ℕ) (trace : Trace) (is : IsTrace bytes trace) → Headers bytes is.front is.following
after_header bytes trace is =
    let h = header_reads is.version is.front is.following trace.header is.header in
    record {
      long = omega (arith, h.0.long, length-append is.front is.following, ap length h.2, length-drop 32 (is.front ++ is.following));
      left = ap (drop 32) is.parts ∙ h.2;
    }

trace_begins : (bytes : List ℕ) (trace : Trace) (count : ℕ) (is : IsTrace bytes trace) → count ≤ length trace.blocks → Begins is.version (take count trace.blocks) is.following 32 (slice_index (trace_ends bytes) count)
trace_begins bytes trace count is few =
    let h = after_header bytes trace is in
    subst (λ (x : List ℕ). Begins is.version (take count trace.blocks) is.following 32 (slice_index (ends_from 32 x) count)) (sym h.left) (begin is.version 32 trace.blocks is.following count is.blocks few)

pub prefix_within : (bytes : List ℕ) (trace : Trace) (count : ℕ) → IsTrace bytes trace → count ≤ length trace.blocks → slice_index (trace_ends bytes) count ≤ length bytes
prefix_within bytes trace count is few =
    omega (arith, (trace_begins bytes trace count is few).within, (after_header bytes trace is).long, ap length is.parts, length-append is.front is.following)

pub prefix_is_trace : (bytes : List ℕ) (trace : Trace) (count : ℕ) → IsTrace bytes trace → count ≤ length trace.blocks → IsTrace (take (slice_index (trace_ends bytes) count) bytes) (first_blocks count trace)
prefix_is_trace bytes trace count is few =
    let b = trace_begins bytes trace count is few in
    let end = slice_index (trace_ends bytes) count in
    let long = (after_header bytes trace is).long in
    let size : end ≡ 32 + (end - 32) = omega (arith, b.past) in
    record {
      version = is.version;
      front = is.front;
      following = take (end - 32) is.following;
      parts =
          ap (take end) is.parts ∙ ap (λ (n : ℕ). take n (is.front ++ is.following)) size ∙ take-add 32 (end - 32) (is.front ++ is.following)
          ∙ ap (λ (x : List ℕ). x ++ take (end - 32) (drop 32 (is.front ++ is.following))) (take_at is.front is.following 32 long)
          ∙ ap (λ (x : List ℕ). is.front ++ take (end - 32) x) (drop_at is.front is.following 32 long);
      header = is.header;
      blocks = b.are;
    }

-- a prefix that is a trace
abbrev pub IsFirst : List ℕ → Trace → ℕ → Trace → Type 0
IsFirst bytes trace len part =
    (length part.blocks ≤ length trace.blocks) × (len ≡ slice_index (trace_ends bytes) (length part.blocks)) × (part ≡ first_blocks (length part.blocks) trace)

pub trace_prefix : (bytes : List ℕ) (trace : Trace) (len : ℕ) (part : Trace) → IsTrace bytes trace → len ≤ length bytes → IsTrace (take len bytes) part → IsFirst bytes trace len part
trace_prefix bytes trace len part is within also =
    let h = after_header bytes trace is in
    let g = after_header (take len bytes) part also in
    let rest = drop len bytes in
    let joined : bytes ≡ also.front ++ (also.following ++ rest) =
    sym (take-append-drop len bytes) ∙ ap (λ (x : List ℕ). x ++ rest) also.parts ∙ append_assoc also.front also.following rest in
    let left : is.following ≡ also.following ++ rest = sym h.left ∙ ap (drop 32) joined ∙ drop_at also.front (also.following ++ rest) 32 g.long in
    let e = ends_with also.version is.version 32 part.blocks trace.blocks also.following is.following rest also.blocks is.blocks left in
    let size : len ≡ 32 + length also.following =
    sym (length-take-le len bytes within) ∙ omega (arith, ap length also.parts, length-append also.front also.following, g.long) in
    let end : len ≡ slice_index (trace_ends bytes) (length part.blocks) =
    size ∙ sym e.end ∙ ap (λ (x : List ℕ). slice_index (ends_from 32 x) (length part.blocks)) (sym h.left) in
    let first : IsTrace (take len bytes) (first_blocks (length part.blocks) trace) =
    subst (λ (n : ℕ). IsTrace (take n bytes) (first_blocks (length part.blocks) trace)) (sym end) (prefix_is_trace bytes trace (length part.blocks) is e.few) in
    (e.few, end, one_trace (take len bytes) part (first_blocks (length part.blocks) trace) also first)
