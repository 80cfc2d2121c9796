-- The blocks that are taken of a log: each block with events, once.
use Rattle.std.proofs.Common.{◌≡◌, ℕ, ◌+◌, ◌≤◌, Bool, true, false, cond, eqb, List, [], ◌∷◌, length, Result, Ok, refl, sym, ap, subst, ◌∙◌, inl, inr, arith}
use Rattle.std.specs.Prelude.{◌≢◌, ◌⊎◌, ◌&&◌, ◌||◌, not, All, IsPermutation, count_by, filter, nat_lt, slice_index_or}
use Rattle.std.specs.List.{list_any}
use Rattle.std.specs.Str.{bytes_eq}
use Rattle.std.proofs.lemmas.Bool.{and_parts, eqb-true, lt-ltb}
use Rattle.std.proofs.lemmas.List.Elements.{All-cons, All-head, All-nil, All-tail, All-weaker}
use Rattle.std.proofs.lemmas.List.Sorted.{All-permutation, list_any-IsPermutation, sum_by-IsPermutation}
use Rattle.std.proofs.lemmas.List.Sums.{sum_by-cons}
use Rattle.std.proofs.lemmas.Slice.Eq.{bytes_eq-Decides}
use Rattle.fdr_record.specs.declared.event.Event.{Event}
use Rattle.fdr_file.specs.declared.trace.Block.{Block}
use Rattle.fdr_file.specs.declared.fault.TraceFault.{TraceFault}
use Rattle.fdr_file.specs.Grammar.{block_records}
use Rattle.runtime_log.specs.declared.version.LogVersion.{LogVersion}
use Rattle.runtime_log.specs.Grammar.{AreLogBlocks, IsBare, IsCutEnd, IsFilled, IsLogBlock}
use Rattle.runtime_log.specs.LogLaws.{BlocksAreTaken, LoggedIsLog, SomeBlock}
use Rattle.runtime_log.specs.Logs.{LogBlock}
use Rattle.runtime_log.specs.Taken.{chosen, first_ones, has_events, is_among_contents, is_doubled, undoubled}
use Rattle.runtime_log.specs.Versions.{trace_version}
use Rattle.runtime_log.proofs.LogAgain.{block_again, filled_long}
use Rattle.runtime_log.proofs.OneImport.{IsOneOf, each_is_one, first_ones_hold}

-- ---- blocks with the same bytes are the same

-- a block of a log of this version
record IsOfLog (version : LogVersion) (b : LogBlock) : Type 0 where
  front : List ℕ
  is : IsLogBlock version front b

all_of_log : (version : LogVersion) (at : ℕ) (blocks : List LogBlock) (bytes : List ℕ) → AreLogBlocks version at blocks bytes → All (IsOfLog version) blocks
all_of_log version at [] bytes are = All-nil (IsOfLog version)
all_of_log version at (b ∷ blocks) bytes (front, following, parts, place, is, rest) =
    All-cons (IsOfLog version) b blocks (record { front = front; is = is }) (all_of_log version (at + length front) blocks following rest)

ok : LogBlock → Result LogBlock TraceFault
ok b = Ok b

-- another place, with the same bytes
moved : (version : LogVersion) (x y : LogBlock) → x.content ≡ y.content → x.block ≡ y.block → x.custom ≡ y.custom → x.typed ≡ y.typed → x.cut ≡ y.cut
    → IsFilled version x ⊎ IsBare x → IsFilled version y ⊎ IsBare y
moved version x y content block custom typed cut (inl is) = inl (record {
  whole = is.whole;
  end = is.end;
  content = sym content ∙ is.content;
  records = is.records;
  spelled = is.spelled;
  cut = subst (IsCutEnd version (length y.content) is.records is.end) cut (subst (λ (xs : List ℕ). IsCutEnd version (length xs) is.records is.end x.cut) content is.cut);
  others = is.others;
  are = is.are ∙ ap (λ (b : Block). block_records (trace_version version) b is.others) block;
  inner = is.inner;
  based = is.based;
  args = is.args;
  told = sym block ∙ is.told;
  custom = sym custom ∙ is.custom;
  typed = sym typed ∙ is.typed;
})
moved version x y content block custom typed cut (inr bare) =
    inr (record { bytes = sym content ∙ bare.bytes; block = sym block ∙ bare.block; custom = sym custom ∙ bare.custom; typed = sym typed ∙ bare.typed; cut = sym cut ∙ bare.cut })

same_block : (version : LogVersion) (x b : LogBlock) → IsOfLog version x → IsOfLog version b → x.content ≡ b.content → x.block ≡ b.block
same_block version x b one other same =
    let ix = one.is in
    let ib = other.is in
    let x0 : LogBlock = record { place = 0; content = b.content; block = x.block; custom = x.custom; typed = x.typed; cut = x.cut } in
    let b0 : LogBlock = record b { place = 0 } in
    let isx : IsLogBlock version other.front x0 = record { extents = ib.extents; parts = ib.parts; named = ib.named; few = ib.few; says = moved version x x0 same refl refl refl refl ix.says } in
    let isb : IsLogBlock version other.front b0 = record { extents = ib.extents; parts = ib.parts; named = ib.named; few = ib.few; says = moved version b b0 refl refl refl refl refl ib.says } in
    let both : Ok x0 ≡ Ok b0 = sym (block_again version 0 other.front [] x0 refl isx).reads ∙ (block_again version 0 other.front [] b0 refl isb).reads in
    let equal : x0 ≡ b0 = cc in
    ap (λ (y : LogBlock). y.block) equal

-- ---- none is lost

or_cases : (a b : Bool) → (a || b) ≡ true → (a ≡ true) ⊎ (b ≡ true)
or_cases true b e = inl refl
or_cases false b e = inr e

both_true : {a b : Bool} → a ≡ true → b ≡ true → (a && b) ≡ true
both_true {a} {b} e f = ap (λ (x : Bool). x && b) e ∙ f

-- the bytes of a block stood before, or a block with them is kept
abbrev IsKept : List (List ℕ) → List LogBlock → LogBlock → Type 0
IsKept before kept b = (is_doubled before b.content ≡ true) ⊎ SomeBlock (λ x. x.content ≡ b.content) kept

all_kept : (before : List (List ℕ)) (blocks : List LogBlock) → All (IsKept before (first_ones before blocks)) blocks
all_kept before [] = All-nil (IsKept before [])
all_kept before (b ∷ blocks) = by_test (all_kept (b.content ∷ before) blocks) (is_doubled before b.content) refl
  where
    others : List LogBlock
    others = first_ones (b.content ∷ before) blocks

    by_test : All (IsKept (b.content ∷ before) others) blocks → (doubled : Bool) → is_doubled before b.content ≡ doubled → All (IsKept before (cond doubled others (b ∷ others))) (b ∷ blocks)
    by_test again true e =
        All-cons (IsKept before others) b blocks (inl e) (All-weaker (IsKept (b.content ∷ before) others) (IsKept before others) weaker blocks again)
      where
        by_or : (c : LogBlock) → not (eqb (length c.content) 0) ≡ true → (bytes_eq c.content b.content ≡ true) ⊎ (is_among_contents before c.content ≡ true) → IsKept before others c
        by_or c some (inl same) =
            let is : c.content ≡ b.content = (bytes_eq-Decides c.content b.content).0 same in
            inl (ap (is_doubled before) is ∙ e)
        by_or c some (inr stood) = inl (both_true some stood)

        weaker : (c : LogBlock) → IsKept (b.content ∷ before) others c → IsKept before others c
        weaker c (inl stood) = let parts = and_parts (not (eqb (length c.content) 0)) (bytes_eq c.content b.content || is_among_contents before c.content) stood in by_or c parts.0 (or_cases (bytes_eq c.content b.content) (is_among_contents before c.content) parts.1)
        weaker c (inr some) = inr some
    by_test again false e =
        All-cons (IsKept before (b ∷ others)) b blocks (inr (inl refl)) (All-weaker (IsKept (b.content ∷ before) others) (IsKept before (b ∷ others)) weaker blocks again)
      where
        by_or : (c : LogBlock) → not (eqb (length c.content) 0) ≡ true → (bytes_eq c.content b.content ≡ true) ⊎ (is_among_contents before c.content ≡ true) → IsKept before (b ∷ others) c
        by_or c some (inl same) = inr (inl (sym ((bytes_eq-Decides c.content b.content).0 same)))
        by_or c some (inr stood) = inl (both_true some stood)

        weaker : (c : LogBlock) → IsKept (b.content ∷ before) others c → IsKept before (b ∷ others) c
        weaker c (inl stood) = let parts = and_parts (not (eqb (length c.content) 0)) (bytes_eq c.content b.content || is_among_contents before c.content) stood in by_or c parts.0 (or_cases (bytes_eq c.content b.content) (is_among_contents before c.content) parts.1)
        weaker c (inr some) = inr (inr some)

-- one with the same bytes has events too
some_chosen : (version : LogVersion) (b : LogBlock) (blocks : List LogBlock) → IsOfLog version b → has_events b ≡ true → All (IsOfLog version) blocks → SomeBlock (λ x. x.content ≡ b.content) blocks
    → SomeBlock (λ x. x.content ≡ b.content) (filter has_events blocks)
some_chosen version b [] is has all some = some
some_chosen version b (x ∷ blocks) is has all (inl same) =
    let equal = same_block version x b (All-head (IsOfLog version) x blocks all) is same in
    let too : has_events x ≡ true = ap (λ (y : Block). nat_lt 0 (length y.events)) equal ∙ has in
    rw too (inl same)
some_chosen version b (x ∷ blocks) is has all (inr some) = by_test (some_chosen version b blocks is has (All-tail (IsOfLog version) x blocks all) some) (has_events x)
  where
    by_test : SomeBlock (λ y. y.content ≡ b.content) (filter has_events blocks) → (t : Bool) → SomeBlock (λ y. y.content ≡ b.content) (cond t (x ∷ filter has_events blocks) (filter has_events blocks))
    by_test again true = inr again
    by_test again false = again

abbrev has_bytes : List ℕ → LogBlock → Bool
has_bytes content x = bytes_eq x.content content

some_any : (content : List ℕ) (xs : List LogBlock) → SomeBlock (λ x. x.content ≡ content) xs → list_any (has_bytes content) xs ≡ true
some_any content [] some = absurd some
some_any content (x ∷ xs) (inl same) = ap (λ (b : Bool). b || list_any (has_bytes content) xs) ((bytes_eq-Decides x.content content).1 same)
some_any content (x ∷ xs) (inr some) = ap (λ (b : Bool). has_bytes content x || b) (some_any content xs some) ∙ or_true (has_bytes content x)
  where
    or_true : (b : Bool) → (b || true) ≡ true
    or_true true = refl
    or_true false = refl

any_some : (content : List ℕ) (xs : List LogBlock) → list_any (has_bytes content) xs ≡ true → SomeBlock (λ x. x.content ≡ content) xs
any_some content [] any = absurd cc
any_some content (x ∷ xs) any = by_or (any_some content xs) (or_cases (has_bytes content x) (list_any (has_bytes content) xs) any)
  where
    by_or : (list_any (has_bytes content) xs ≡ true → SomeBlock (λ y. y.content ≡ content) xs) → (has_bytes content x ≡ true) ⊎ (list_any (has_bytes content) xs ≡ true)
        → (x.content ≡ content) ⊎ SomeBlock (λ y. y.content ≡ content) xs
    by_or again (inl same) = inl ((bytes_eq-Decides x.content content).0 same)
    by_or again (inr more) = inr (again more)

some_event : (events : List Event) → events ≢ [] → nat_lt 0 (length events) ≡ true
some_event [] some = absurd (some refl)
some_event (event ∷ events) some = lt-ltb 0 (length (event ∷ events)) (omega arith)

-- ---- each is one of the log

one_some : (b : LogBlock) (blocks : List LogBlock) → IsOneOf blocks b → SomeBlock (λ other. b ≡ other) blocks
one_some b [] one = one
one_some b (x ∷ blocks) (inl same) = inl same
one_some b (x ∷ blocks) (inr one) = inr (one_some b blocks one)

-- it has events
abbrev IsFull : List LogBlock → LogBlock → Type 0
IsFull blocks b = SomeBlock (λ other. b ≡ other) blocks × (b.block.events ≢ [])

all_full : (blocks kept : List LogBlock) → All (IsOneOf blocks) kept → All (IsFull blocks) (filter has_events kept)
all_full blocks [] all = All-nil (IsFull blocks)
all_full blocks (b ∷ kept) all = by_test (all_full blocks kept (All-tail (IsOneOf blocks) b kept all)) (has_events b) refl
  where
    by_test : All (IsFull blocks) (filter has_events kept) → (t : Bool) → has_events b ≡ t → All (IsFull blocks) (cond t (b ∷ filter has_events kept) (filter has_events kept))
    by_test again true e =
        All-cons (IsFull blocks) b (filter has_events kept) (
          one_some b blocks (All-head (IsOneOf blocks) b kept all),
          λ none. let no_more : nat_lt 0 0 ≡ true = ap (λ (es : List Event). nat_lt 0 (length es)) (sym none) ∙ e in absurd cc,
        ) again
    by_test again false e = again

-- ---- each once

first_once : (content : List ℕ) (before : List (List ℕ)) (blocks : List LogBlock) → eqb (length content) 0 ≡ false → count_by (has_bytes content) (first_ones before blocks) ≤ cond (is_among_contents before content) 0 1
first_once content before [] some = by_test (is_among_contents before content)
  where
    by_test : (b : Bool) → 0 ≤ cond b 0 1
    by_test true = omega arith
    by_test false = omega arith
first_once content before (b ∷ blocks) some = by_test (first_once content (b.content ∷ before) blocks some) (is_doubled before b.content) refl
  where
    others : List LogBlock
    others = first_ones (b.content ∷ before) blocks

    lower : (x y : Bool) (n : ℕ) → n ≤ cond (x || y) 0 1 → n ≤ cond y 0 1
    lower true true n few = few
    lower true false n few = omega (arith, few)
    lower false y n few = few

    at_most_one : (x : Bool) → cond x 1 0 ≤ 1
    at_most_one true = omega arith
    at_most_one false = omega arith

    not_same : (x : Bool) → has_bytes content b ≡ x → bytes_eq content b.content ≡ false → has_bytes content b ≡ false
    not_same false e f = e
    not_same true e f =
        let back : bytes_eq content b.content ≡ true = (bytes_eq-Decides content b.content).1 (sym ((bytes_eq-Decides b.content content).0 e)) in
        absurd cc

    here : (x : Bool) → bytes_eq content b.content ≡ x → is_doubled before b.content ≡ false → count_by (has_bytes content) others ≤ cond (x || is_among_contents before content) 0 1
        → cond (has_bytes content b) 1 0 + count_by (has_bytes content) others ≤ cond (is_among_contents before content) 0 1
    here true e fresh few =
        let same : content ≡ b.content = (bytes_eq-Decides content b.content).0 e in
        let new : is_among_contents before content ≡ false = sym (ap (λ (t : Bool). not t && is_among_contents before content) some) ∙ (ap (is_doubled before) same ∙ fresh) in
        let mine : cond (has_bytes content b) 1 0 ≤ 1 = at_most_one (has_bytes content b) in
        rw new (omega (arith, few, mine))
    here false e fresh few =
        let other : has_bytes content b ≡ false = not_same (has_bytes content b) refl e in
        rw other (omega (arith, few))

    by_test : count_by (has_bytes content) others ≤ cond (bytes_eq content b.content || is_among_contents before content) 0 1 → (doubled : Bool) → is_doubled before b.content ≡ doubled
        → count_by (has_bytes content) (cond doubled others (b ∷ others)) ≤ cond (is_among_contents before content) 0 1
    by_test few true e = lower (bytes_eq content b.content) (is_among_contents before content) (count_by (has_bytes content) others) few
    by_test few false e = rw (sum_by-cons (λ (x : LogBlock). cond (has_bytes content x) 1 0) b others) (here (bytes_eq content b.content) refl e few)

filter_fewer : (p q : LogBlock → Bool) (xs : List LogBlock) → count_by p (filter q xs) ≤ count_by p xs
filter_fewer p q [] = omega arith
filter_fewer p q (x ∷ xs) = by_test (filter_fewer p q xs) (q x)
  where
    by_test : count_by p (filter q xs) ≤ count_by p xs → (b : Bool) → count_by p (cond b (x ∷ filter q xs) (filter q xs)) ≤ count_by p (x ∷ xs)
    by_test few true = omega (arith, few, sum_by-cons (λ (y : LogBlock). cond (p y) 1 0) x (filter q xs), sum_by-cons (λ (y : LogBlock). cond (p y) 1 0) x xs)
    by_test few false = omega (arith, few, sum_by-cons (λ (y : LogBlock). cond (p y) 1 0) x xs)

-- a block without bytes has no events
bare_none : (version : LogVersion) (b : LogBlock) → IsOfLog version b → length b.content ≡ 0 → has_events b ≡ false
bare_none version b of none = by_says of.is.says
  where
    by_says : IsFilled version b ⊎ IsBare b → has_events b ≡ false
    by_says (inl is) = absurd (let some = filled_long version b is in omega (arith, some, none))
    by_says (inr bare) = ap (λ (x : Block). nat_lt 0 (length x.events)) bare.block

none_bare : (version : LogVersion) (content : List ℕ) (blocks : List LogBlock) → length content ≡ 0 → All (IsOfLog version) blocks → count_by (has_bytes content) (filter has_events blocks) ≡ 0
none_bare version content [] none all = refl
none_bare version content (b ∷ blocks) none all =
    by_test (none_bare version content blocks none (All-tail (IsOfLog version) b blocks all)) (has_bytes content b) refl (has_events b) refl
  where
    rest : List LogBlock
    rest = filter has_events blocks

    by_test : count_by (has_bytes content) rest ≡ 0 → (s : Bool) → has_bytes content b ≡ s → (t : Bool) → has_events b ≡ t → count_by (has_bytes content) (cond t (b ∷ rest) rest) ≡ 0
    by_test again s e false f = again
    by_test again true e true f =
        let same : b.content ≡ content = (bytes_eq-Decides b.content content).0 e in
        let no : true ≡ false = sym f ∙ bare_none version b (All-head (IsOfLog version) b blocks all) (ap length same ∙ none) in
        absurd cc
    by_test again false e true f = let one : cond (has_bytes content b) 1 0 ≡ 0 = ap {B = ℕ} (λ (t : Bool). cond t 1 0) e in omega (arith, again, one, sum_by-cons (λ (x : LogBlock). cond (has_bytes content x) 1 0) b rest)

-- each is taken once at most
chosen_once : (version : LogVersion) (content : List ℕ) (blocks : List LogBlock) → All (IsOfLog version) blocks → count_by (has_bytes content) (chosen blocks) ≤ 1
chosen_once version content blocks all = by_length (eqb (length content) 0) refl
  where
    by_length : (b : Bool) → eqb (length content) 0 ≡ b → count_by (has_bytes content) (chosen blocks) ≤ 1
    by_length true e =
        let none = none_bare version content (undoubled blocks) (eqb-true (length content) 0 e) (first_ones_hold (IsOfLog version) [] blocks all) in
        omega (arith, none)
    by_length false e = omega (arith, filter_fewer (has_bytes content) has_events (undoubled blocks), first_once content [] blocks e)

-- ---- the blocks of a log

pub blocks_taken : LoggedIsLog → BlocksAreTaken
blocks_taken is_log bytes file facts all form made =
    let blocks = made.log.blocks in
    let taken = made.takes.pool in
    let log = is_log bytes made.log all form made.says in
    let of_log = all_of_log log.version 32 blocks log.following log.blocks in
    let perm = made.takes.chosen.all in record {
      each = All-permutation (IsFull blocks) (chosen blocks) taken perm (all_full blocks (undoubled blocks) (first_ones_hold (IsOneOf blocks) [] blocks (each_is_one blocks)));
      none_lost = λ k d within some.
          let b = slice_index_or blocks k d in
          by_kept blocks taken perm b (some_chosen log.version b (undoubled blocks) (of_log k d within) (some_event b.block.events some) (first_ones_hold (IsOfLog log.version) [] blocks of_log)) (all_kept [] blocks k d within);
      once = λ content.
          omega (arith, sum_by-IsPermutation (λ (x : LogBlock). cond (has_bytes content x) 1 0) (chosen blocks) taken perm, chosen_once log.version content blocks of_log);
      sorted = made.takes.chosen.sorted;
    }
  where
    by_kept : (blocks taken : List LogBlock) → IsPermutation (chosen blocks) taken → (b : LogBlock)
        → (SomeBlock (λ x. x.content ≡ b.content) (undoubled blocks) → SomeBlock (λ x. x.content ≡ b.content) (chosen blocks))
        → IsKept [] (undoubled blocks) b → SomeBlock (λ t. t.content ≡ b.content) taken
    by_kept blocks taken perm b choose (inl stood) = absurd (let parts = and_parts (not (eqb (length b.content) 0)) false stood in let no : false ≡ true = parts.1 in cc)
    by_kept blocks taken perm b choose (inr some) =
        any_some b.content taken (sym (list_any-IsPermutation (has_bytes b.content) (chosen blocks) taken perm) ∙ some_any b.content (chosen blocks) (choose some))
