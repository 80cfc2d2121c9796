-- A file that is written for buffers with events, in order, is imported as itself.
use Rattle.std.proofs.Common.{◌≡◌, ℕ, suc, ◌+◌, ◌^◌, ◌/◌, ◌%◌, ◌<◌, ◌≤◌, Bool, true, false, cond, eqb, List, [], ◌∷◌, ◌++◌, length, drop, map, take, Option, Some, None, Result, Ok, Err, refl, sym, ap, subst, ◌∙◌, append_assoc, append-nil, length-append, arith}
use Rattle.std.specs.Prelude.{◌&&◌, ◌||◌, not, All, IsPermutation, IsTrue, filter, nat_lt, replicate}
use Rattle.std.specs.List.{AllZip, flat_map}
use Rattle.std.specs.Str.{bytes_eq}
use Rattle.std.specs.Cmp.Lexicographic.{bytes_decides, slice_cmp}
use Rattle.std.specs.declared.cmp.Ordering.{Ordering}
use Rattle.std.specs.declared.cmp.Ordering.TheVariants.{Less, Equal, Greater}
use Rattle.std.specs.Ordering.{is_lt, nat_cmp, ordering_reverse, ordering_then}
use Rattle.std.proofs.lemmas.Bool.{false_from_ne_true, le-leb, leb-true, lt-ltb, ltb-true}
use Rattle.std.proofs.lemmas.Cmp.{nat_list_cmp_total, tied_itself}
use Rattle.std.proofs.lemmas.List.{drop_at, map-append, take_at}
use Rattle.std.proofs.lemmas.List.Concat.{flat_map-append, flat_map-cons}
use Rattle.std.proofs.lemmas.List.Elements.{All-cons, All-head, All-nil, All-tail}
use Rattle.std.proofs.lemmas.List.Sorted.{IsPermutation-refl}
use Rattle.byteorder.specs.Endian.{little_number}
use Rattle.byteorder.specs.Numbers.{little_from-bytes}
use Rattle.xray_io.specs.Rows.{InTurn, ◌>>=◌}
use Rattle.fdr_record.specs.declared.event.Event.{Event}
use Rattle.fdr_record.specs.declared.rec.Rec.TheVariants.{Extents}
use Rattle.fdr_record.specs.Records.{record_bytes}
use Rattle.fdr_buffer.specs.declared.buffer.TheConstants.{LARGEST_SIZE}
use Rattle.fdr_buffer.specs.Filled.{Filled, has_event, used_bytes}
use Rattle.fdr_buffer.specs.Segments.{body, bytes_of, has_room, preamble, records_after, records_of, segment_bytes, segments, segments_from}
use Rattle.fdr_file.specs.declared.fault.TraceFault.{TraceFault}
use Rattle.fdr_file.specs.declared.header.Header.{Header}
use Rattle.fdr_file.specs.declared.trace.Block.{Block}
use Rattle.fdr_file.specs.declared.trace.Trace.{Trace}
use Rattle.fdr_file.specs.Files.{BlockFits, HeaderFits, block_bytes, block_told, file_bytes, header_bytes, trace_told}
use Rattle.fdr_file.specs.Places.{starts}
use Rattle.fdr_file.specs.Scanning.{scanned, scanned_ends}
use Rattle.fdr_file.specs.ThreadEvents.{ThreadEvent}
use Rattle.fdr_file.specs.Traces.{block_length, header_in, trace_of}
use Rattle.runtime_log.specs.declared.fault.LogFault.{LogFault}
use Rattle.runtime_log.specs.declared.version.LogVersion.TheVariants.{Three}
use Rattle.runtime_log.specs.Imports.{AreTakenOf, buffer_for, pieces_of, trace_file, trace_taken}
use Rattle.runtime_log.specs.Laws.{AreInOrder, ImportsItself, MayStandBefore, buffer_key}
use Rattle.runtime_log.specs.Logs.{Log, LogBlock, log_block_in, log_block_rows}
use Rattle.runtime_log.specs.Taken.{AreTaken, chosen, first_counter, first_ones, has_events, is_among_contents, is_doubled, order_key, undoubled}
use Rattle.runtime_log.specs.Threads.{AreByThread}
use Rattle.runtime_log.specs.private.Choices.{AreInFileOrder}
use Rattle.runtime_log.proofs.ByThread.{none_by_thread}
use Rattle.runtime_log.proofs.BlockLists.{Onward, block_first, block_sized}
use Rattle.runtime_log.proofs.FileOrder.{logged_order}
use Rattle.runtime_log.proofs.OneImport.{one_taken}
use Rattle.runtime_log.proofs.OneOrder.{NoneBefore, Rises, is_before, sorted_from_rises}
use Rattle.runtime_log.proofs.TraceIsLog.{log_of_trace}
use Rattle.runtime_log.proofs.WholeLogs.{block_parts}

-- ---- the bytes of a buffer

-- how many bytes a buffer's block names
abbrev used_length : Filled → ℕ
used_length buffer = length (used_bytes buffer)

block_long : (buffer : Filled) → length (block_bytes buffer) ≡ 16 + used_length buffer
block_long buffer = length-append (record_bytes (Extents (used_length buffer))) (used_bytes buffer)

-- the length of the block that bytes begin with
block_named : (buffer : Filled) (rest : List ℕ) → used_length buffer < 2 ^ 64 → block_length (block_bytes buffer ++ rest) ≡ 16 + used_length buffer
block_named buffer rest few =
    let n = used_length buffer in
    let number : little_number 8 (drop 1 (block_bytes buffer ++ rest)) ≡ n / 256 ^ 0 % 256 ^ 8 = little_from-bytes 8 0 n ((replicate 7 0 ++ used_bytes buffer) ++ rest) in
    let same : n / 256 ^ 0 % 256 ^ 8 ≡ n = omega (arith, few) in
    ap (λ (k : ℕ). 16 + k) (number ∙ same)

block_some : (buffer : Filled) (rest : List ℕ) → 0 < length (block_bytes buffer ++ rest)
block_some buffer rest = omega (arith, length-append (block_bytes buffer) rest, block_long buffer)

-- ---- the contents of blocks

-- a block has the bytes of a buffer
abbrev HasBytes : LogBlock → Filled → Type 0
HasBytes b buffer = b.content ≡ used_bytes buffer

record ContentsAre (before all : List LogBlock) (buffers : List Filled) : Type 0 where
  more : List LogBlock
  parts : all ≡ before ++ more
  are : AllZip HasBytes more buffers

content_is : (at : ℕ) (buffer : Filled) (rest : List ℕ) (b : LogBlock) → used_length buffer < 2 ^ 64 → log_block_in Three (at, block_bytes buffer ++ rest) ≡ Ok b → b.content ≡ used_bytes buffer
content_is at buffer rest b few is =
    let bytes = block_bytes buffer ++ rest in
    let p = block_parts Three at bytes b is in
    let size : p.size ≡ used_length buffer = omega (arith, block_sized Three at bytes p.size p.sized, block_named buffer rest few) in
    ap (λ (x : LogBlock). x.content) p.is
    ∙ ap (λ (n : ℕ). take n (drop 16 bytes)) size
    ∙ take_at (used_bytes buffer) rest (used_length buffer) refl

contents_are : (at : ℕ) (before all : List LogBlock) (buffers : List Filled) → All BlockFits buffers
    → InTurn (log_block_rows Three) before (starts block_length 0 at (flat_map block_bytes buffers)) ≡ Ok all → ContentsAre before all buffers
unfolding starts
contents_are at before all [] fit is =
    let same : all ≡ before = cc in
    record { more = []; parts = same ∙ sym (append-nil before); are = tt }
contents_are at before all (buffer ∷ buffers) fit is =
    by_block (λ place bs e. contents_are place bs all buffers (All-tail BlockFits buffer buffers fit) e) (log_block_in Three (at, bytes)) refl
    (sym (block_first Three before at bytes (block_some buffer rest)) ∙ is)
  where
    rest : List ℕ
    rest = flat_map block_bytes buffers

    bytes : List ℕ
    bytes = block_bytes buffer ++ rest

    few : used_length buffer < 2 ^ 64
    few =
        let f = (All-head BlockFits buffer buffers fit).fits in
        omega (arith, f.within, f.most)

    behind : drop (block_length bytes) bytes ≡ rest
    behind = drop_at (block_bytes buffer) rest (block_length bytes) (block_long buffer ∙ sym (block_named buffer rest few))

    by_block : ((place : ℕ) (bs : List LogBlock) → InTurn (log_block_rows Three) bs (starts block_length 0 place rest) ≡ Ok all → ContentsAre bs all buffers)
        → (x : Result LogBlock TraceFault) → log_block_in Three (at, bytes) ≡ x
        → Onward Three (x >>= λ b. Ok (before ++ b ∷ [])) (at + block_length bytes) (drop (block_length bytes) bytes) ≡ Ok all → ContentsAre before all (buffer ∷ buffers)
    by_block again (Err fault) e h = absurd cc
    by_block again (Ok b) e h =
        let c = again (at + block_length bytes) (before ++ b ∷ [])
        (sym (ap (λ (xs : List ℕ). InTurn (log_block_rows Three) (before ++ b ∷ []) (starts block_length 0 (at + block_length bytes) xs)) behind) ∙ h) in record {
          more = b ∷ c.more;
          parts = c.parts ∙ append_assoc before (b ∷ []) c.more;
          are = (content_is at buffer rest b few e, c.are);
        }

-- ---- blocks and their buffers

-- a block is that of a buffer
abbrev IsOf : LogBlock → Filled → Type 0
IsOf b buffer = (b.content ≡ used_bytes buffer) × (b.block ≡ block_told buffer)

are_of : (blocks : List LogBlock) (buffers : List Filled) → AllZip HasBytes blocks buffers → map (λ (b : LogBlock). b.block) blocks ≡ map block_told buffers → AllZip IsOf blocks buffers
are_of [] [] contents told = tt
are_of [] (buffer ∷ buffers) contents told = absurd contents
are_of (b ∷ blocks) [] contents told = absurd contents
are_of (b ∷ blocks) (buffer ∷ buffers) contents told =
    let here : b.block ≡ block_told buffer = cc in
    let later : map (λ (x : LogBlock). x.block) blocks ≡ map block_told buffers = cc in
    ((contents.0, here), are_of blocks buffers contents.1 later)

-- each buffer may stand before those behind it
abbrev IsEarlier : Filled → Filled → Type 0
IsEarlier buffer later = MayStandBefore (slice_cmp nat_cmp (buffer_key buffer) (buffer_key later)) buffer later

rising_first : (buffer : Filled) (buffers : List Filled) → AreInOrder (buffer ∷ buffers) → All (IsEarlier buffer) buffers
rising_first buffer buffers rising = λ k d below. rising 0 (suc k) d (omega arith) (omega arith)

rising_later : (buffer : Filled) (buffers : List Filled) → AreInOrder (buffer ∷ buffers) → AreInOrder buffers
rising_later buffer buffers rising = λ i j d further below. rising (suc i) (suc j) d (omega arith) (omega arith)

-- ---- none is left out

-- what a file of buffers reads as
abbrev Reads : Type 0
Reads = (header : Header) (buffers : List Filled) → HeaderFits header → All BlockFits buffers → trace_of (file_bytes header buffers) ≡ Ok (trace_told header buffers)

-- buffers with the same bytes say the same
same_told : Reads → (header : Header) → HeaderFits header → (one other : Filled) → BlockFits one → BlockFits other → used_bytes one ≡ used_bytes other → block_told one ≡ block_told other
same_told reads header fits one other fit fit_too same =
    let bytes : List ℕ → Result Trace TraceFault = λ used. trace_of (header_bytes header ++ ((record_bytes (Extents (length used)) ++ used) ++ [])) in
    let both : Ok (trace_told header (one ∷ [])) ≡ Ok (trace_told header (other ∷ [])) =
    sym (reads header (one ∷ []) fits (All-cons BlockFits one [] fit (All-nil BlockFits))) ∙ ap bytes same
    ∙ reads header (other ∷ []) fits (All-cons BlockFits other [] fit_too (All-nil BlockFits)) in
    told_of (trace_told header (one ∷ [])) (trace_told header (other ∷ [])) both
  where
    first_block : List Block → Block
    first_block [] = block_told one
    first_block (b ∷ blocks) = b

    told_of : (t u : Trace) → ◌≡◌ {A = Result Trace TraceFault} (Ok t) (Ok u) → first_block t.blocks ≡ first_block u.blocks
    told_of t u e =
        let same_trace : t ≡ u = cc in
        ap (λ (x : Trace). first_block x.blocks) same_trace

-- the bytes of these buffers are not among others
abbrev AreFresh : List (List ℕ) → List Filled → Type 0
AreFresh contents buffers = All (λ (b : Filled). is_among_contents contents (used_bytes b) ≡ false) buffers

-- an earlier buffer has other bytes
other_bytes : Reads → (header : Header) → HeaderFits header → (one later : Filled) → BlockFits one → BlockFits later → IsEarlier one later → bytes_eq (used_bytes later) (used_bytes one) ≡ false
other_bytes reads header fits one later fit fit_later earlier =
    false_from_ne_true (bytes_eq (used_bytes later) (used_bytes one))
    (λ e. by_order (slice_cmp nat_cmp (buffer_key one) (buffer_key later)) refl earlier ((bytes_decides (used_bytes later) (used_bytes one)).0 e))
  where
    by_order : (o : Ordering) → slice_cmp nat_cmp (buffer_key one) (buffer_key later) ≡ o → MayStandBefore o one later → used_bytes later ≡ used_bytes one → ⊥
    by_order Less e first same =
        let told = same_told reads header fits later one fit_later fit same in
        let key : Block → List ℕ = λ b. b.thread ∷ b.wall.secs ∷ b.wall.micros ∷ first_counter b.events ∷ [] in
        let level : slice_cmp nat_cmp (buffer_key one) (buffer_key later) ≡ Equal =
        ap (λ (b : Block). slice_cmp nat_cmp (buffer_key one) (key b)) told ∙ tied_itself nat_list_cmp_total (buffer_key one) in
        absurd cc
    by_order Equal e first same = first (sym same)
    by_order Greater e first same = first

fresh_more : Reads → (header : Header) → HeaderFits header → (contents : List (List ℕ)) (content : List ℕ) (one : Filled) (buffers : List Filled) → content ≡ used_bytes one → BlockFits one
    → All BlockFits buffers → All (IsEarlier one) buffers → AreFresh contents buffers → AreFresh (content ∷ contents) buffers
fresh_more reads header fits contents content one [] is fit all earlier fresh = All-nil (λ (b : Filled). is_among_contents (content ∷ contents) (used_bytes b) ≡ false)
fresh_more reads header fits contents content one (b ∷ buffers) is fit all earlier fresh =
    All-cons (λ (x : Filled). is_among_contents (content ∷ contents) (used_bytes x) ≡ false) b buffers
    (ap (λ (xs : List ℕ). bytes_eq (used_bytes b) xs || is_among_contents contents (used_bytes b)) is
    ∙ ap (λ (x : Bool). x || is_among_contents contents (used_bytes b)) (other_bytes reads header fits one b fit (All-head BlockFits b buffers all) (All-head (IsEarlier one) b buffers earlier))
    ∙ All-head (λ (x : Filled). is_among_contents contents (used_bytes x) ≡ false) b buffers fresh)
    (fresh_more reads header fits contents content one buffers is fit (All-tail BlockFits b buffers all) (All-tail (IsEarlier one) b buffers earlier)
    (All-tail (λ (x : Filled). is_among_contents contents (used_bytes x) ≡ false) b buffers fresh))

and_false : (a b : Bool) → b ≡ false → (a && b) ≡ false
and_false true b e = e
and_false false b e = refl

all_first : Reads → (header : Header) → HeaderFits header → (contents : List (List ℕ)) (blocks : List LogBlock) (buffers : List Filled) → AllZip IsOf blocks buffers → All BlockFits buffers
    → AreInOrder buffers → AreFresh contents buffers → first_ones contents blocks ≡ blocks
all_first reads header fits contents [] [] are all rising fresh = refl
all_first reads header fits contents [] (b ∷ buffers) are all rising fresh = absurd are
all_first reads header fits contents (x ∷ blocks) [] are all rising fresh = absurd are
all_first reads header fits contents (x ∷ blocks) (b ∷ buffers) are all rising fresh =
    let own : is_doubled contents x.content ≡ false =
    and_false (not (eqb (length x.content) 0)) (is_among_contents contents x.content)
    (ap (is_among_contents contents) are.0.0 ∙ All-head (λ (y : Filled). is_among_contents contents (used_bytes y) ≡ false) b buffers fresh) in
    let later = fresh_more reads header fits contents x.content b buffers are.0.0 (All-head BlockFits b buffers all) (All-tail BlockFits b buffers all) (rising_first b buffers rising)
    (All-tail (λ (y : Filled). is_among_contents contents (used_bytes y) ≡ false) b buffers fresh) in
    let others = first_ones (x.content ∷ contents) blocks in
    ap (λ (t : Bool). cond t others (x ∷ others)) own
    ∙ ap (λ (bs : List LogBlock). x ∷ bs) (all_first reads header fits (x.content ∷ contents) blocks buffers are.1 (All-tail BlockFits b buffers all) (rising_later b buffers rising) later)

none_among : (buffers : List Filled) → AreFresh [] buffers
none_among [] = All-nil (λ (b : Filled). is_among_contents [] (used_bytes b) ≡ false)
none_among (b ∷ buffers) = All-cons (λ (x : Filled). is_among_contents [] (used_bytes x) ≡ false) b buffers refl (none_among buffers)

all_have_events : (blocks : List LogBlock) (buffers : List Filled) → AllZip IsOf blocks buffers → All (λ (b : Filled). IsTrue (has_event b)) buffers → filter has_events blocks ≡ blocks
all_have_events [] [] are some = refl
all_have_events [] (b ∷ buffers) are some = absurd are
all_have_events (x ∷ blocks) [] are some = absurd are
all_have_events (x ∷ blocks) (b ∷ buffers) are some =
    let here : has_events x ≡ true =
    ap (λ (y : Block). nat_lt 0 (length y.events)) are.0.1 ∙ All-head (λ (y : Filled). IsTrue (has_event y)) b buffers some in
    ap (λ (t : Bool). cond t (x ∷ filter has_events blocks) (filter has_events blocks)) here
    ∙ ap (λ (bs : List LogBlock). x ∷ bs) (all_have_events blocks buffers are.1 (All-tail (λ (y : Filled). IsTrue (has_event y)) b buffers some))

-- ---- they are in order

-- a key that comes before another one does so with more behind both
key_more : (one other : List ℕ) (p q : ℕ) → length one ≡ length other → slice_cmp nat_cmp one other ≡ Less → slice_cmp nat_cmp (one ++ p ∷ []) (other ++ q ∷ []) ≡ Less
key_more [] [] p q long less = absurd cc
key_more [] (y ∷ other) p q long less = absurd (omega (arith, long))
key_more (x ∷ one) [] p q long less = absurd (omega (arith, long))
key_more (x ∷ one) (y ∷ other) p q long less = by_first (nat_cmp x y) less (λ e. key_more one other p q (omega (arith, long)) e)
  where
    by_first : (o : Ordering) → ordering_then o (slice_cmp nat_cmp one other) ≡ Less → (slice_cmp nat_cmp one other ≡ Less → slice_cmp nat_cmp (one ++ p ∷ []) (other ++ q ∷ []) ≡ Less)
        → ordering_then o (slice_cmp nat_cmp (one ++ p ∷ []) (other ++ q ∷ [])) ≡ Less
    by_first Less e again = refl
    by_first Equal e again = again e
    by_first Greater e again = absurd cc

-- of two level keys the one with less behind it comes first
key_level : (one other : List ℕ) (p q : ℕ) → length one ≡ length other → slice_cmp nat_cmp one other ≡ Equal → p < q → slice_cmp nat_cmp (one ++ p ∷ []) (other ++ q ∷ []) ≡ Less
key_level [] [] p q long level below = ap (λ (b : Bool). ordering_then (cond b Less (cond (eqb p q) Equal Greater)) (slice_cmp nat_cmp [] [])) (lt-ltb p q below)
key_level [] (y ∷ other) p q long level below = absurd (omega (arith, long))
key_level (x ∷ one) [] p q long level below = absurd (omega (arith, long))
key_level (x ∷ one) (y ∷ other) p q long level below = by_first (nat_cmp x y) level (λ e. key_level one other p q (omega (arith, long)) e below)
  where
    by_first : (o : Ordering) → ordering_then o (slice_cmp nat_cmp one other) ≡ Equal → (slice_cmp nat_cmp one other ≡ Equal → slice_cmp nat_cmp (one ++ p ∷ []) (other ++ q ∷ []) ≡ Less)
        → ordering_then o (slice_cmp nat_cmp (one ++ p ∷ []) (other ++ q ∷ [])) ≡ Less
    by_first Less e again = refl
    by_first Equal e again = again e
    by_first Greater e again = absurd cc

-- the key of a block, by that of its buffer
key_of : (x : LogBlock) (b : Filled) → IsOf x b → order_key x ≡ buffer_key b ++ x.place ∷ []
key_of x b is = ap (λ (y : Block). y.thread ∷ y.wall.secs ∷ y.wall.micros ∷ first_counter y.events ∷ x.place ∷ []) is.1

not_before : (x y : LogBlock) (b later : Filled) → IsOf x b → IsOf y later → x.place < y.place → IsEarlier b later → is_before order_key y x ≡ false
not_before x y b later is is_later below earlier =
    let less : slice_cmp nat_cmp (order_key x) (order_key y) ≡ Less =
    ap (λ (k : List ℕ). slice_cmp nat_cmp k (order_key y)) (key_of x b is)
    ∙ ap (λ (k : List ℕ). slice_cmp nat_cmp (buffer_key b ++ x.place ∷ []) k) (key_of y later is_later)
    ∙ by_order (slice_cmp nat_cmp (buffer_key b) (buffer_key later)) refl earlier in
    ap is_lt (nat_list_cmp_total.antisymm (order_key y) (order_key x)) ∙ ap (λ (o : Ordering). is_lt (ordering_reverse o)) less
  where
    by_order : (o : Ordering) → slice_cmp nat_cmp (buffer_key b) (buffer_key later) ≡ o → MayStandBefore o b later
        → slice_cmp nat_cmp (buffer_key b ++ x.place ∷ []) (buffer_key later ++ y.place ∷ []) ≡ Less
    by_order Less e first = key_more (buffer_key b) (buffer_key later) x.place y.place refl e
    by_order Equal e first = key_level (buffer_key b) (buffer_key later) x.place y.place refl e below
    by_order Greater e first = absurd first

none_before : (from to : ℕ) (x : LogBlock) (b : Filled) (blocks : List LogBlock) (buffers : List Filled) → IsOf x b → AllZip IsOf blocks buffers → All (IsEarlier b) buffers
    → AreInFileOrder from to blocks → x.place < from → NoneBefore order_key x blocks
none_before from to x b [] [] is are earlier order below = tt
none_before from to x b [] (later ∷ buffers) is are earlier order below = absurd are
none_before from to x b (y ∷ blocks) [] is are earlier order below = absurd are
none_before from to x b (y ∷ blocks) (later ∷ buffers) is are earlier order below = (
  not_before x y b later is are.0 (omega (arith, order.0, below)) (All-head (IsEarlier b) later buffers earlier),
  none_before (1 + y.place) to x b blocks buffers is are.1 (All-tail (IsEarlier b) later buffers earlier) order.1 (omega (arith, order.0, below)),
)

they_rise : (from to : ℕ) (blocks : List LogBlock) (buffers : List Filled) → AllZip IsOf blocks buffers → AreInOrder buffers → AreInFileOrder from to blocks → Rises order_key blocks
they_rise from to [] [] are rising order = tt
they_rise from to [] (b ∷ buffers) are rising order = absurd are
they_rise from to (x ∷ blocks) [] are rising order = absurd are
they_rise from to (x ∷ blocks) (b ∷ buffers) are rising order = (
  none_before (1 + x.place) to x b blocks buffers are.0 are.1 (rising_first b buffers rising) order.1 (omega arith),
  they_rise (1 + x.place) to blocks buffers are.1 (rising_later b buffers rising) order.1,
)

-- ---- they are written as they were

-- the first events take at most as many bytes as all of them
first_short : (before : Option Event) (xs ys : List Event) → length (bytes_of (records_after before xs)) ≤ length (bytes_of (records_after before (xs ++ ys)))
first_short before [] ys = omega arith
first_short before (x ∷ xs) ys =
    let here = records_of before x in
    omega (
      arith,
      ap length (flat_map-append record_bytes here (records_after (Some x) xs)),
      ap length (flat_map-append record_bytes here (records_after (Some x) (xs ++ ys))),
      length-append (bytes_of here) (bytes_of (records_after (Some x) xs)),
      length-append (bytes_of here) (bytes_of (records_after (Some x) (xs ++ ys))),
      first_short (Some x) xs ys,
    )

first_has_room : (size : ℕ) (xs ys : List Event) → IsTrue (has_room size (xs ++ ys)) → has_room size xs ≡ true
first_has_room size xs ys room =
    le-leb (48 + length (segment_bytes xs)) size (omega (arith, leb-true (48 + length (segment_bytes (xs ++ ys))) size room, first_short None xs ys))

one_segment_from : (size : ℕ) (opened events : List Event) → IsTrue (has_room size (opened ++ events)) → segments_from size opened events ≡ (opened ++ events) ∷ []
one_segment_from size opened [] room = ap (λ (es : List Event). es ∷ []) (sym (append-nil opened))
one_segment_from size opened (event ∷ events) room =
    let longer = opened ++ event ∷ [] in
    let whole : longer ++ events ≡ opened ++ event ∷ events = append_assoc opened (event ∷ []) events in
    let all : IsTrue (has_room size (longer ++ events)) = ap (has_room size) whole ∙ room in
    ap (λ (b : Bool). cond b (segments_from size longer events) (opened ∷ segments_from size (event ∷ []) events)) (first_has_room size longer events all)
    ∙ one_segment_from size longer events all
    ∙ ap (λ (es : List Event). es ∷ []) whole

one_segment : (size : ℕ) (events : List Event) → IsTrue (has_room size events) → 0 < length events → segments size events ≡ events ∷ []
one_segment size [] room some = absurd (omega (arith, some))
one_segment size (event ∷ events) room some = one_segment_from size (event ∷ []) events room

-- the bytes of a buffer that was begun
used_is : (buffer : Filled) → BlockFits buffer → used_bytes buffer ≡ body buffer.thread buffer.wall buffer.pid buffer.events
used_is buffer fit = ap (λ (b : Bool). cond b (body buffer.thread buffer.wall buffer.pid buffer.events) []) fit.begun

buffer_room : (buffer : Filled) → BlockFits buffer → IsTrue (has_room LARGEST_SIZE buffer.events)
buffer_room buffer fit =
    le-leb (48 + length (segment_bytes buffer.events)) LARGEST_SIZE
    (omega (arith, ap length (used_is buffer fit), length-append (preamble buffer.thread buffer.wall buffer.pid) (segment_bytes buffer.events), fit.fits.within, fit.fits.most))

-- the pieces of its block are written as it
pieces_written : (buffer : Filled) → BlockFits buffer → IsTrue (has_event buffer) → flat_map block_bytes (map buffer_for (pieces_of (block_told buffer))) ≡ block_bytes buffer
pieces_written buffer fit some =
    let events = buffer.events in
    let block = block_told buffer in
    let one = one_segment LARGEST_SIZE events (buffer_room buffer fit) (ltb-true 0 (length events) some) in
    ap (λ (parts : List (List Event)). flat_map block_bytes (map buffer_for (map (λ (es : List Event). let x : Block = record block { events = es } in x) parts))) one
    ∙ flat_map-cons block_bytes (buffer_for block) []
    ∙ append-nil (block_bytes (buffer_for block))
    ∙ ap (λ (used : List ℕ). record_bytes (Extents (length used)) ++ used) (sym (used_is buffer fit))

all_written : (blocks : List LogBlock) (buffers : List Filled) → AllZip IsOf blocks buffers → All BlockFits buffers → All (λ (b : Filled). IsTrue (has_event b)) buffers
    → flat_map block_bytes (map buffer_for (flat_map pieces_of (map (λ (b : LogBlock). b.block) blocks))) ≡ flat_map block_bytes buffers
all_written [] [] are fit some = refl
all_written [] (b ∷ buffers) are fit some = absurd are
all_written (x ∷ blocks) [] are fit some = absurd are
all_written (x ∷ blocks) (b ∷ buffers) are fit some =
    let others : List Block = flat_map pieces_of (map (λ (y : LogBlock). y.block) blocks) in
    ap (λ (bs : List Filled). flat_map block_bytes bs) (map-append buffer_for (pieces_of x.block) others)
    ∙ flat_map-append block_bytes (map buffer_for (pieces_of x.block)) (map buffer_for others)
    ∙ ap (λ (y : Block). flat_map block_bytes (map buffer_for (pieces_of y)) ++ flat_map block_bytes (map buffer_for others)) are.0.1
    ∙ ap (λ (bytes : List ℕ). bytes ++ flat_map block_bytes (map buffer_for others)) (pieces_written b (All-head BlockFits b buffers fit) (All-head (λ (y : Filled). IsTrue (has_event y)) b buffers some))
    ∙ ap (λ (bytes : List ℕ). block_bytes b ++ bytes) (all_written blocks buffers are.1 (All-tail BlockFits b buffers fit) (All-tail (λ (y : Filled). IsTrue (has_event y)) b buffers some))

-- ---- the law

same_log : (l m : Log) → ◌≡◌ {A = Result Log LogFault} (Ok l) (Ok m) → l ≡ m
same_log l m e = cc

pub imports_itself : ((xs : List ℕ) → trace_of xs ≡ scanned_ends (length xs) (header_in xs) (scanned xs)) → Reads → ImportsItself
imports_itself by_records reads header buffers file facts fits fit some rising made =
    let bytes = file_bytes header buffers in
    let t = log_of_trace by_records bytes (trace_told header buffers) (reads header buffers fits fit) fits.version in
    let log : t.log ≡ made.log = same_log t.log made.log (sym t.says ∙ made.says) in
    let blocks = t.log.blocks in
    let c = contents_are 32 [] blocks buffers fit t.blocks in
    let contents = subst (λ (bs : List LogBlock). AllZip HasBytes bs buffers) (sym c.parts) c.are in
    let are = are_of blocks buffers contents (ap (λ (x : Trace). x.blocks) t.said) in
    let once : undoubled blocks ≡ blocks = all_first reads header fits [] blocks buffers are fit rising (none_among buffers) in
    let chosen_are : chosen blocks ≡ blocks = ap (filter has_events) once ∙ all_have_events blocks buffers are some in
    let takes : AreTaken blocks blocks = record {
      all = subst (λ (bs : List LogBlock). IsPermutation bs blocks) (sym chosen_are) (IsPermutation-refl blocks);
      sorted = sorted_from_rises order_key blocks (they_rise 0 (length bytes) blocks buffers are rising (logged_order bytes t.log t.says));
    } in
    let made_takes = subst (λ (l : Log). AreTakenOf l made.taken) (sym log) made.takes in
    let pool : made_takes.pool ≡ blocks = one_taken (length bytes) blocks made_takes.pool blocks (logged_order bytes t.log t.says) made_takes.chosen takes in
    let none : made_takes.threads ≡ [] = none_by_thread made_takes.threads (subst (λ (es : List ThreadEvent). AreByThread es made_takes.threads) t.none made_takes.by_thread) in
    let taken : made.taken ≡ map (λ (b : LogBlock). b.block) blocks =
    made_takes.parts
    ∙ ap (λ (bs : List Block). map (λ (b : LogBlock). b.block) made_takes.pool ++ bs) none
    ∙ append-nil (map (λ (b : LogBlock). b.block) made_takes.pool)
    ∙ ap (λ (bs : List LogBlock). map (λ (b : LogBlock). b.block) bs) pool in
    made.file_is
    ∙ ap (λ (l : Log). trace_file (trace_taken l.header made.taken)) (sym log)
    ∙ ap (λ (bs : List Block). trace_file (trace_taken t.log.header bs)) taken
    ∙ ap (λ (x : Trace). trace_file (trace_taken x.header (map (λ (b : LogBlock). b.block) blocks))) t.said
    ∙ ap (λ (xs : List ℕ). header_bytes header ++ xs) (all_written blocks buffers are fit some)
