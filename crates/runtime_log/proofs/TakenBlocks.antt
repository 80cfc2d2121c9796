-- Blocks by their places, when some are left out, and when they are put in order.
use Rattle.std.proofs.Common.{◌≡◌, ℕ, zero, suc, ◌+◌, ◌-◌, ◌<◌, Bool, true, false, cond, eqb, List, [], ◌∷◌, ◌++◌, length, drop, map, get_or, Option, Result, Ok, Err, refl, sym, ap, subst, ◌∙◌, append_assoc, arith}
use Rattle.std.specs.Prelude.{◌&&◌, ◌||◌, All, IsPermutation, count_by, filter, is_some, nat_lt, not}
use Rattle.std.specs.Option.{unwrap_or}
use Rattle.std.specs.List.Sorted.{IsSortedBy}
use Rattle.std.specs.Cmp.Lexicographic.{slice_cmp}
use Rattle.std.specs.Ordering.{is_lt, nat_cmp}
use Rattle.std.specs.Str.{bytes_eq}
use Rattle.std.proofs.lemmas.Bool.{lt-ltb, ne_eqb}
use Rattle.std.proofs.lemmas.List.{get_or-map, length-map}
use Rattle.std.proofs.lemmas.List.Elements.{All-cons, All-get_or, All-head, All-nil, All-tail}
use Rattle.std.proofs.lemmas.List.Filters.{length-filter_both}
use Rattle.std.proofs.lemmas.List.Sums.{length-filter}
use Rattle.std.proofs.lemmas.List.Sorted.{All-permutation, IsPermutation-map}
use Rattle.xray_io.specs.declared.wall.Wall.{Wall}
use Rattle.fdr_record.specs.declared.event.Event.{Event}
use Rattle.fdr_file.specs.declared.fault.TraceFault.{TraceFault}
use Rattle.runtime_log.specs.declared.blocks.LogBlock.{LogBlock as Placed}
use Rattle.runtime_log.specs.declared.version.LogVersion.{LogVersion}
use Rattle.runtime_log.specs.Logs.{LogBlock, log_block_in}
use Rattle.runtime_log.specs.Taken.{comes_before, first_counter, first_ones, has_events, is_among_contents, is_doubled, order_key}
use Rattle.runtime_log.specs.private.Choices.{AreAt, IsAt, KeepsFirst, LiesWithin, content_at, counter_first, time_key}
use Rattle.runtime_log.proofs.BlockLists.{at_more}

-- ---- the block at its places

-- a block that says nothing
abbrev no_block : LogBlock
no_block = record { place = 0; content = []; block = record { thread = 0; wall = record { secs = 0; micros = 0 }; pid = 0; events = [] }; custom = 0; typed = 0; cut = 0 }

abbrev read_or : LogBlock → Result LogBlock TraceFault → LogBlock
read_or other (Ok b) = b
read_or other (Err fault) = other

-- the block of a log of this version that is at these places
abbrev pub said_at : List ℕ → LogVersion → Placed → LogBlock
said_at bytes version placed = read_or no_block (log_block_in version (placed.begin, drop placed.begin bytes))

pub said_is : (bytes : List ℕ) (version : LogVersion) (placed : Placed) (b : LogBlock) → IsAt bytes version placed b → said_at bytes version placed ≡ b
said_is bytes version placed b is =
    ap (λ (k : ℕ). read_or no_block (log_block_in version (k, drop k bytes))) is.place ∙ ap (read_or no_block) is.said

-- a block is at its places
abbrev pub IsOne : List ℕ → LogVersion → Placed → Type 0
IsOne bytes version placed = IsAt bytes version placed (said_at bytes version placed)

-- so are all of them
pub at_made : (bytes : List ℕ) (version : LogVersion) (places : List Placed) (said : List LogBlock) → AreAt bytes version places said
    → (said ≡ map (said_at bytes version) places) × All (IsOne bytes version) places
at_made bytes version [] [] are = (refl, All-nil (IsOne bytes version))
at_made bytes version [] (s ∷ said) are = absurd are
at_made bytes version (p ∷ places) [] are = absurd are
at_made bytes version (p ∷ places) (s ∷ said) are =
    let others = at_made bytes version places said are.1 in
    let same = said_is bytes version p s are.0 in (
      ap (λ (b : LogBlock). b ∷ said) (sym same) ∙ ap (λ (bs : List LogBlock). said_at bytes version p ∷ bs) others.0,
      All-cons (IsOne bytes version) p places (subst (λ (b : LogBlock). IsAt bytes version p b) (sym same) are.0) others.1,
    )

pub made_at : (bytes : List ℕ) (version : LogVersion) (places : List Placed) → All (IsOne bytes version) places → AreAt bytes version places (map (said_at bytes version) places)
made_at bytes version [] all = tt
made_at bytes version (p ∷ places) all = (All-head (IsOne bytes version) p places all, made_at bytes version places (All-tail (IsOne bytes version) p places all))

pub at_within : (bytes : List ℕ) (version : LogVersion) (places : List Placed) (said : List LogBlock) → AreAt bytes version places said → All (LiesWithin bytes) places
at_within bytes version [] [] are = All-nil (LiesWithin bytes)
at_within bytes version [] (s ∷ said) are = absurd are
at_within bytes version (p ∷ places) [] are = absurd are
at_within bytes version (p ∷ places) (s ∷ said) are = All-cons (LiesWithin bytes) p places are.0.within (at_within bytes version places said are.1)

pub at_length : (bytes : List ℕ) (version : LogVersion) (places : List Placed) (said : List LogBlock) → AreAt bytes version places said → length places ≡ length said
at_length bytes version [] [] are = refl
at_length bytes version [] (s ∷ said) are = absurd are
at_length bytes version (p ∷ places) [] are = absurd are
at_length bytes version (p ∷ places) (s ∷ said) are = ap suc (at_length bytes version places said are.1)

-- ---- those whose bytes come for the first time

-- a block among others
pub record Stands (bytes : List ℕ) (version : LogVersion) (placed : Placed) (said : List LogBlock) (i : ℕ) : Type 0 where
  pub b : LogBlock
  pub is : IsAt bytes version placed b
  pub rest : drop i said ≡ b ∷ drop (i + 1) said

pub at_index : (bytes : List ℕ) (version : LogVersion) (places : List Placed) (said : List LogBlock) (i : ℕ) (d : Placed) → AreAt bytes version places said → i < length places
    → Stands bytes version (get_or places i d) said i
at_index bytes version [] said i d are within = absurd (omega arith)
at_index bytes version (p ∷ places) [] i d are within = absurd are
at_index bytes version (p ∷ places) (s ∷ said) zero d are within = record { b = s; is = are.0; rest = refl }
at_index bytes version (p ∷ places) (s ∷ said) (suc i) d are within =
    let there = at_index bytes version places said i d are.1 (omega arith) in
    let next : suc (i + 1) ≡ suc i + 1 = omega arith in
    record { b = there.b; is = there.is; rest = there.rest ∙ ap (λ (k : ℕ). there.b ∷ drop k (s ∷ said)) next }

-- a block whose bytes were there before
pub keeps_doubled : (bytes : List ℕ) (version : LogVersion) (said : List LogBlock) (i : ℕ) (kept : List Placed) (seen more : List (List ℕ)) (placed : Placed)
    → KeepsFirst bytes version said i kept seen → Stands bytes version placed said i → is_doubled seen (content_at bytes placed) ≡ true
    → ((q : List ℕ) → is_among_contents more q ≡ (bytes_eq q (content_at bytes placed) || is_among_contents seen q)) → KeepsFirst bytes version said (i + 1) kept more
keeps_doubled bytes version said i kept seen more placed k there among adds =
    let content = there.b.content in
    let later = drop (i + 1) said in
    let doubled : is_doubled k.before content ≡ true =
    ap (is_doubled k.before) (sym there.is.content) ∙ ap (λ (t : Bool). not (eqb (length (content_at bytes placed)) 0) && t) (sym (k.among (content_at bytes placed))) ∙ among in
    record {
      done = k.done;
      before = content ∷ k.before;
      at = k.at;
      parts =
          k.parts ∙ ap (λ (bs : List LogBlock). k.done ++ first_ones k.before bs) there.rest
          ∙ ap (λ (b : Bool). k.done ++ cond b (first_ones (content ∷ k.before) later) (there.b ∷ first_ones (content ∷ k.before) later)) doubled;
      among = λ q. adds q ∙ ap (λ (xs : List ℕ). bytes_eq q xs || is_among_contents seen q) there.is.content ∙ ap (λ (b : Bool). bytes_eq q content || b) (k.among q);
    }

-- one with bytes of its own
pub keeps_own : (bytes : List ℕ) (version : LogVersion) (said : List LogBlock) (i : ℕ) (kept : List Placed) (seen more : List (List ℕ)) (placed : Placed)
    → KeepsFirst bytes version said i kept seen → Stands bytes version placed said i → is_doubled seen (content_at bytes placed) ≡ false
    → ((q : List ℕ) → is_among_contents more q ≡ (bytes_eq q (content_at bytes placed) || is_among_contents seen q)) → KeepsFirst bytes version said (i + 1) (kept ++ placed ∷ []) more
keeps_own bytes version said i kept seen more placed k there among adds =
    let content = there.b.content in
    let later = drop (i + 1) said in
    let own : is_doubled k.before content ≡ false =
    ap (is_doubled k.before) (sym there.is.content) ∙ ap (λ (t : Bool). not (eqb (length (content_at bytes placed)) 0) && t) (sym (k.among (content_at bytes placed))) ∙ among in
    record {
      done = k.done ++ there.b ∷ [];
      before = content ∷ k.before;
      at = at_more bytes version kept k.done placed there.b k.at there.is;
      parts =
          k.parts ∙ ap (λ (bs : List LogBlock). k.done ++ first_ones k.before bs) there.rest
          ∙ ap (λ (b : Bool). k.done ++ cond b (first_ones (content ∷ k.before) later) (there.b ∷ first_ones (content ∷ k.before) later)) own
          ∙ sym (append_assoc k.done (there.b ∷ []) (first_ones (content ∷ k.before) later));
      among = λ q. adds q ∙ ap (λ (xs : List ℕ). bytes_eq q xs || is_among_contents seen q) there.is.content ∙ ap (λ (b : Bool). bytes_eq q content || b) (k.among q);
    }

-- ---- those with events

-- a block has events if its first counter is known
pub shows_events : (bytes : List ℕ) (version : LogVersion) (placed : Placed) (b : LogBlock) → IsAt bytes version placed b → is_some placed.first ≡ has_events b
shows_events bytes version placed b is = ap is_some is.shows.first ∙ by_events b.block.events
  where
    by_events : (events : List Event) → is_some (counter_first events) ≡ nat_lt 0 (length events)
    by_events [] = refl
    by_events (event ∷ events) = sym (lt-ltb 0 (length (event ∷ events)) (omega arith))

pub at_filter : (bytes : List ℕ) (version : LogVersion) (places : List Placed) (said : List LogBlock) → AreAt bytes version places said
    → AreAt bytes version (filter (λ p. is_some p.first) places) (filter has_events said)
at_filter bytes version [] [] are = tt
at_filter bytes version [] (s ∷ said) are = absurd are
at_filter bytes version (p ∷ places) [] are = absurd are
at_filter bytes version (p ∷ places) (s ∷ said) are = by_test (at_filter bytes version places said are.1) (is_some p.first) (has_events s) (shows_events bytes version p s are.0)
  where
    by_test : AreAt bytes version (filter (λ q. is_some q.first) places) (filter has_events said) → (one other : Bool) → one ≡ other
        → AreAt bytes version (cond one (p ∷ filter (λ q. is_some q.first) places) (filter (λ q. is_some q.first) places)) (cond other (s ∷ filter has_events said) (filter has_events said))
    by_test rest true true same = (are.0, rest)
    by_test rest false false same = rest
    by_test rest true false same = absurd cc
    by_test rest false true same = absurd cc

-- how many are left out
pub empty_count : (blocks : List LogBlock) → count_by (λ (b : LogBlock). eqb (length b.block.events) 0) blocks ≡ length blocks - length (filter has_events blocks)
empty_count blocks =
    let none : LogBlock → Bool = λ b. eqb (length b.block.events) 0 in
    let both = length-filter_both has_events none (λ b. none_is (length b.block.events)) blocks in
    let count = length-filter none blocks in
    omega (arith, both, count)
  where
    none_is : (n : ℕ) → eqb n 0 ≡ not (nat_lt 0 n)
    none_is zero = refl
    none_is (suc n) = rw (ne_eqb (suc n) 0 (λ e. omega (arith, e)), lt-ltb 0 (suc n) (omega arith)) refl

-- ---- in order

-- where a block stands in the order is known by its places
pub key_is : (bytes : List ℕ) (version : LogVersion) (placed : Placed) (b : LogBlock) → IsAt bytes version placed b → order_key b ≡ time_key placed
key_is bytes version placed b is =
    let key : ℕ → ℕ → ℕ → ℕ → ℕ → List ℕ = λ thread secs micros first place. thread ∷ secs ∷ micros ∷ first ∷ place ∷ [] in
    let first : unwrap_or placed.first 0 ≡ first_counter b.block.events = ap (λ (o : Option ℕ). unwrap_or o 0) is.shows.first ∙ by_events b.block.events in
    sym (ap (λ (n : ℕ). key n placed.wall.secs placed.wall.micros (unwrap_or placed.first 0) placed.begin) is.shows.thread
    ∙ ap (λ (v : Wall). key b.block.thread v.secs v.micros (unwrap_or placed.first 0) placed.begin) is.shows.wall
    ∙ ap (λ (n : ℕ). key b.block.thread b.block.wall.secs b.block.wall.micros n placed.begin) first
    ∙ ap (λ (n : ℕ). key b.block.thread b.block.wall.secs b.block.wall.micros (first_counter b.block.events) n) is.place)
  where
    by_events : (events : List Event) → unwrap_or (counter_first events) 0 ≡ first_counter events
    by_events [] = refl
    by_events (event ∷ events) = refl

-- one of two places comes first
abbrev pub is_earlier : Placed → Placed → Bool
is_earlier one other = is_lt (slice_cmp nat_cmp (time_key one) (time_key other))

-- places in order are those of blocks in order
pub sorted_said : (bytes : List ℕ) (version : LogVersion) (places : List Placed) → All (IsOne bytes version) places → IsSortedBy is_earlier places → IsSortedBy comes_before (map (said_at bytes version) places)
sorted_said bytes version [] all sorted = λ k d low high. absurd (omega (arith, high))
sorted_said bytes version (p ∷ places) all sorted = λ k d low high.
    let f = said_at bytes version in
    let long : length (map f (p ∷ places)) ≡ length (p ∷ places) = length-map (p ∷ places) f in
    let one = get_or (p ∷ places) k p in
    let next = get_or (p ∷ places) (k + 1) p in
    let one_is : get_or (map f (p ∷ places)) k d ≡ f one = get_or-map f (p ∷ places) k p d (omega (arith, high, long)) in
    let next_is : get_or (map f (p ∷ places)) (k + 1) d ≡ f next = get_or-map f (p ∷ places) (k + 1) p d (omega (arith, high, long)) in
    let one_key = key_is bytes version one (f one) (All-get_or (IsOne bytes version) (p ∷ places) k p (omega (arith, high, long)) all) in
    let next_key = key_is bytes version next (f next) (All-get_or (IsOne bytes version) (p ∷ places) (k + 1) p (omega (arith, high, long)) all) in
    ap (λ (b : LogBlock). comes_before b (get_or (map f (p ∷ places)) k d)) next_is
    ∙ ap (λ (b : LogBlock). comes_before (f next) b) one_is
    ∙ ap (λ (xs : List ℕ). is_lt (slice_cmp nat_cmp xs (order_key (f one)))) next_key
    ∙ ap (λ (xs : List ℕ). is_lt (slice_cmp nat_cmp (time_key next) xs)) one_key
    ∙ sorted k p low (omega (arith, high, long))

-- the blocks that are taken
pub record OrderedAt (bytes : List ℕ) (version : LogVersion) (said : List LogBlock) (places : List Placed) : Type 0 where
  pub taken : List LogBlock
  pub all : IsPermutation said taken
  pub sorted : IsSortedBy comes_before taken
  pub at : AreAt bytes version places taken

pub at_ordered : (bytes : List ℕ) (version : LogVersion) (places ordered : List Placed) (said : List LogBlock) → AreAt bytes version places said → IsPermutation places ordered → IsSortedBy is_earlier ordered
    → OrderedAt bytes version said ordered
at_ordered bytes version places ordered said are moved sorted =
    let f = said_at bytes version in
    let m = at_made bytes version places said are in
    let all = All-permutation (IsOne bytes version) places ordered moved m.1 in record {
      taken = map f ordered;
      all = subst (λ (bs : List LogBlock). IsPermutation bs (map f ordered)) (sym m.0) (IsPermutation-map f places ordered moved);
      sorted = sorted_said bytes version ordered all sorted;
      at = made_at bytes version ordered all;
    }
