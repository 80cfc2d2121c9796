-- The lines of the assembler text of any number are in order.
use Rattle.std.proofs.Common.{◌≡◌, ◌≢◌, ℕ, zero, suc, ◌+◌, ◌*◌, ◌/◌, ◌%◌, ◌^◌, ◌<◌, ◌≤◌, Bool, true, false, cond, not, ◌||◌, ◌&&◌, List, [], ◌∷◌, ◌++◌, length, drop, Option, None, Some, refl, sym, ap, subst, inl, inr, ◌∙◌, arith, append_assoc, append-nil}
use Rattle.std.specs.Prelude.{count_by}
use Rattle.std.specs.List.{AllByRecursion, enumerate_from, flat_map, list_all, list_any}
use Rattle.std.specs.Str.{bytes_eq}
use Rattle.std.proofs.lemmas.Bool.{and_from, cases_eq, false_from_ne_true, le-ltb, or_from, or_left, or_right}
use Rattle.std.proofs.lemmas.List.Folds.{list_all-append, list_any-append}
use Rattle.std.proofs.lemmas.List.Sums.{fold-append, sum_by-append, sum_by-cons}
use Rattle.std.proofs.lemmas.List.{length-append}
use Rattle.std.proofs.lemmas.Slice.Eq.{bytes_eq-Decides}
use Rattle.subset_decode.specs.declared.instr.Instr.TheVariants.{Mov, Out}
use Rattle.asm_text.specs.Layout.{StatementLines, defines, is_function, is_instruction}
use Rattle.asm_text.specs.Refusals.{ends_early, has_function, is_bare, is_defined, is_unresolved, operation_exceeds, operation_reserves}
use Rattle.asm_text.specs.Statements.{Operation, Plain, Return, Statement, Base, Does}
use Rattle.asm_text.specs.WrittenTexts.{MayFollow, IsOrderly, is_always_function}
use Rattle.soak_inputs.specs.Draws.{next}
use Rattle.soak_inputs.proofs.Statements.{always_of, call_of, call_statements, function_statements, functions_statements, round_statements, statements}
use Rattle.soak_inputs.specs.Texts.{Round, after_function, after_round, function_name, round_count, rounds}
use Rattle.soak_inputs.proofs.SaidLemmas.{CalleeFits, IsGood, rounds_good, same_numbers}

-- ---- names

same_name : (i : ℕ) → bytes_eq (function_name i) (function_name i) ≡ true
same_name i = (bytes_eq-Decides (function_name i) (function_name i)).1 refl

other_name : (i j : ℕ) → i ≤ 63 → j ≤ 63 → i ≢ j → bytes_eq (function_name i) (function_name j) ≡ false
other_name i j hi hj apart =
    false_from_ne_true (bytes_eq (function_name i) (function_name j))
    (λ t. apart (same_numbers i j (omega (arith, hi)) (omega (arith, hj)) (ap (drop 1) ((bytes_eq-Decides (function_name i) (function_name j)).0 t))))

-- ---- each line in its place

-- the lines that are left may follow one after another, whatever else; their names are defined among all lines
module _ (said : StatementLines) where
  abbrev Follow : StatementLines → ℕ → List Statement → Type 0
  Follow before number [] = ends_early before ≡ false
  Follow before number (s ∷ rest) =
      (MayFollow before s × ((following : StatementLines) → is_unresolved said s following ≡ false)) × Follow (before ++ (number, s) ∷ []) (number + 1) rest

  same_line : (l : ℕ × Statement) (ls : StatementLines) (m : ℕ × Statement) (ms : StatementLines) → l ∷ ls ≡ m ∷ ms → (l ≡ m) × (ls ≡ ms)
  same_line l ls m ms e = (cc, cc)

  no_line : (l : ℕ × Statement) (before following : StatementLines) → [] ≡ before ++ l ∷ following → ⊥
  no_line l [] following e = cc
  no_line l (b ∷ before) following e = cc

  place : (done : StatementLines) (number : ℕ) (rest : List Statement) → Follow done number rest → (before : StatementLines) (line : ℕ × Statement) (following : StatementLines)
      → enumerate_from number rest ≡ before ++ line ∷ following → MayFollow (done ++ before) line.1 × ((left : StatementLines) → is_unresolved said line.1 left ≡ false)
  place done number [] follow before line following is = absurd (no_line line before following is)
  place done number (s ∷ rest) follow [] line following is =
      let same = (same_line (number, s) (enumerate_from (number + 1) rest) line following is).0 in
      let P : ℕ × Statement → Type 0 = λ l. MayFollow (done ++ []) l.1 × ((left : StatementLines) → is_unresolved said l.1 left ≡ false) in
      subst P same (subst (λ (ls : StatementLines). MayFollow ls s) (sym (append-nil done)) follow.0.0, follow.0.1)
  place done number (s ∷ rest) follow (b ∷ before) line following is =
      let same = same_line (number, s) (enumerate_from (number + 1) rest) b (before ++ line ∷ following) is in
      let P : StatementLines → Type 0 = λ ls. MayFollow ls line.1 × ((left : StatementLines) → is_unresolved said line.1 left ≡ false) in
      subst P (append_assoc done ((number, s) ∷ []) before ∙ ap (λ (l : ℕ × Statement). done ++ l ∷ before) same.0)
      (place (done ++ (number, s) ∷ []) (number + 1) rest follow.1 before line following same.1)

  at_end : (done : StatementLines) (number : ℕ) (rest : List Statement) → Follow done number rest → ends_early (done ++ enumerate_from number rest) ≡ false
  at_end done number [] follow = ap ends_early (append-nil done) ∙ follow
  at_end done number (s ∷ rest) follow =
      ap ends_early (sym (append_assoc done ((number, s) ∷ []) (enumerate_from (number + 1) rest)))
      ∙ at_end (done ++ (number, s) ∷ []) (number + 1) rest follow.1

  orderly : (all : List Statement) → said ≡ enumerate_from 1 all → Follow [] 1 all → IsOrderly said
  orderly all is follow = record {
    follows = λ before line following e. (place [] 1 all follow before line following (sym is ∙ e)).0;
    resolved = λ before line following e. (place [] 1 all follow before line following (sym is ∙ e)).1 following;
    ends = ap ends_early is ∙ at_end [] 1 all follow;
  }

  -- ---- what stands before a line

  -- lines that end in function i: no later function has its name yet
  record Inside (i : ℕ) (before : StatementLines) : Type 0 where
    begun : has_function before ≡ true
    fresh : (j : ℕ) → i < j → j ≤ 63 → is_defined (function_name j) before ≡ false

  -- lines after which function i may begin
  record Outside (i : ℕ) (before : StatementLines) : Type 0 where
    bare : is_bare before ≡ false
    begun : 0 < i → has_function before ≡ true
    fresh : (j : ℕ) → i ≤ j → j ≤ 63 → is_defined (function_name j) before ≡ false

  inside_more : (i : ℕ) (before : StatementLines) (number : ℕ) (op : Operation) → Inside i before → Inside i (before ++ (number, Does op) ∷ [])
  inside_more i before number op h = record {
    begun = list_any-append (λ (l : ℕ × Statement). is_function l.1) before ((number, Does op) ∷ [])
        ∙ or_left (has_function before) (list_any (λ (l : ℕ × Statement). is_function l.1) ((number, Does op) ∷ [])) h.begun;
    fresh = λ j lt le. list_any-append (λ (l : ℕ × Statement). defines (function_name j) l.1) before ((number, Does op) ∷ [])
        ∙ or_from (is_defined (function_name j) before) false (h.fresh j lt le) refl;
  }

  does_follow : (i : ℕ) (before : StatementLines) (op : Operation) → Inside i before → operation_reserves op ≡ false → operation_exceeds op ≡ false → MayFollow before (Does op)
  does_follow i before op h registers range = record { place = ap not h.begun; registers = registers; range = range; name = refl }

  does : (i : ℕ) (before : StatementLines) (number : ℕ) (op : Operation) (rest : List Statement) → Inside i before → operation_reserves op ≡ false → operation_exceeds op ≡ false
      → ((following : StatementLines) → is_unresolved said (Does op) following ≡ false)
      → ((longer : StatementLines) → Inside i longer → Follow longer (number + 1) rest) → Follow before number (Does op ∷ rest)
  does i before number op rest h registers range resolved more =
      ((does_follow i before op h registers range, resolved), more (before ++ (number, Does op) ∷ []) (inside_more i before number op h))

  returned : (i : ℕ) (before : StatementLines) (number : ℕ) → Inside i before → Outside (i + 1) (before ++ (number, Does Return) ∷ [])
  returned i before number h =
      let inside = inside_more i before number Return h in
      record {
        bare = fold-append (λ (bare : Bool) (line : ℕ × Statement). cond (is_function line.1) true (cond (is_instruction line.1) false bare)) false before ((number, Does Return) ∷ []) ∙ refl;
        begun = λ _. inside.begun;
        fresh = λ j le most. inside.fresh j (omega (arith, le)) most;
      }

  begins : (i : ℕ) (before : StatementLines) (number : ℕ) → i ≤ 63 → Outside i before
      → MayFollow before (always_of (function_name i)) × Inside i (before ++ (number, always_of (function_name i)) ∷ [])
  begins i before number most h =
      let line : ℕ × Statement = (number, always_of (function_name i)) in (
        record { place = h.bare; registers = refl; range = refl; name = h.fresh i (omega arith) most },
        record {
          begun = list_any-append (λ (l : ℕ × Statement). is_function l.1) before (line ∷ []) ∙ or_right (has_function before) true refl;
          fresh = λ j lt le. list_any-append (λ (l : ℕ × Statement). defines (function_name j) l.1) before (line ∷ [])
              ∙ or_from (is_defined (function_name j) before) ((bytes_eq (function_name i) (function_name j) || false) || false) (h.fresh j (omega (arith, lt)) le)
              (ap (λ t. (t || false) || false) (other_name i j most le (λ e. omega (arith, e, lt))));
        },
      )

  -- ---- rounds and functions

  -- each function's name is defined
  abbrev AllDefined : Type 0
  AllDefined = (j : ℕ) → j ≤ 63 → is_defined (function_name j) said ≡ true

  calls_follow : (defined : AllDefined) (i : ℕ) (before : StatementLines) (number : ℕ) (callee : Option ℕ) (rest : List Statement) → CalleeFits callee → Inside i before
      → ((longer : StatementLines) (n : ℕ) → Inside i longer → Follow longer n rest) → Follow before number (call_statements callee ++ rest)
  calls_follow defined i before number None rest fits h more = more before number h
  calls_follow defined i before number (Some j) rest fits h more =
      does i before number (call_of (function_name j)) rest h refl refl (λ following. ap not (defined j fits)) (λ longer inside. more longer (number + 1) inside)

  round_follows : (defined : AllDefined) (i : ℕ) (before : StatementLines) (number : ℕ) (r : Round) (rest : List Statement) → IsGood r → Inside i before
      → ((longer : StatementLines) (n : ℕ) → Inside i longer → Follow longer n rest) → Follow before number (round_statements r ++ rest)
  round_follows defined i before number r rest good h more =
      does i before number (Plain (Mov 0 r.value)) (Does (Plain (Out 1)) ∷ call_statements r.callee ++ rest) h refl
      (le-ltb 4294967295 r.value (omega (arith, good.0))) (λ following. refl)
      (λ longer inside. does i longer (number + 1) (Plain (Out 1)) (call_statements r.callee ++ rest) inside refl refl (λ following. refl)
      (λ longest within. calls_follow defined i longest (number + 1 + 1) r.callee rest good.1 within more))

  rounds_follow : (defined : AllDefined) (i : ℕ) (before : StatementLines) (number : ℕ) (rs : List Round) (rest : List Statement) → AllByRecursion IsGood rs → Inside i before
      → ((longer : StatementLines) (n : ℕ) → Inside i longer → Follow longer n rest) → Follow before number (flat_map round_statements rs ++ rest)
  rounds_follow defined i before number [] rest good h more = more before number h
  rounds_follow defined i before number (r ∷ rs) rest good h more =
      subst (λ (ss : List Statement). Follow before number ss) (sym (append_assoc (round_statements r) (flat_map round_statements rs) rest))
      (round_follows defined i before number r (flat_map round_statements rs ++ rest) good.0 h
      (λ longer n inside. rounds_follow defined i longer n rs rest good.1 inside more))

  function_follows : (defined : AllDefined) (i x : ℕ) (before : StatementLines) (number : ℕ) (rest : List Statement) → i ≤ 63 → Outside i before
      → ((longer : StatementLines) (n : ℕ) → Outside (i + 1) longer → Follow longer n rest) → Follow before number (function_statements i x ++ rest)
  function_follows defined i x before number rest most h more =
      let rs = rounds i (round_count x) (next x) in
      let first = begins i before number most h in
      let longer = before ++ (number, always_of (function_name i)) ∷ [] in (
        (first.0, λ following. refl),
        subst (λ (ss : List Statement). Follow longer (number + 1) ss) (sym (append_assoc (flat_map round_statements rs) (Does Return ∷ []) rest))
            (rounds_follow defined i longer (number + 1) rs (Does Return ∷ rest) (rounds_good i (round_count x) (next x)) first.1
            (λ last n inside. ((does_follow i last Return inside refl refl, λ following. refl), more (last ++ (n, Does Return) ∷ []) (n + 1) (returned i last n inside)))),
      )

  ended_well : (before : StatementLines) → Outside 64 before → ends_early before ≡ false
  ended_well before h = or_from (not (has_function before)) (is_bare before) (ap not (h.begun (omega arith))) h.bare

  functions_follow : (defined : AllDefined) (i count x : ℕ) (before : StatementLines) (number : ℕ) → i + count ≡ 64 → Outside i before
      → Follow before number (functions_statements i count x)
  unfolding functions_statements
  functions_follow defined i zero x before number at h =
      ended_well before (subst (λ n. Outside n before) (let e : i ≡ 64 = omega (arith, at) in e) h)
  functions_follow defined i (suc count) x before number at h =
      function_follows defined i x before number (functions_statements (i + 1) count (after_function i x)) (omega (arith, at)) h
      (λ longer n outside. functions_follow defined (i + 1) count (after_function i x) longer n (omega (arith, at)) outside)

-- ---- the names of all functions

numbered_defines : (name : List ℕ) (n : ℕ) (all : List Statement) → is_defined name (enumerate_from n all) ≡ list_any (defines name) all
numbered_defines name n [] = refl
numbered_defines name n (s ∷ all) = ap (λ t. defines name s || t) (numbered_defines name (n + 1) all)

functions_define : (i count x j : ℕ) → i ≤ j → j < i + count → list_any (defines (function_name j)) (functions_statements i count x) ≡ true
unfolding functions_statements
functions_define i zero x j le lt = absurd (omega (arith, le, lt))
functions_define i (suc count) x j le lt =
    elim (cases_eq i j) [
      | inl e ↦ or_left (defines (function_name j) (always_of (function_name i))) (list_any (defines (function_name j)) (following ++ more))
          (subst (λ n. ((bytes_eq (function_name i) (function_name n) || false) ≡ true)) e (or_left (bytes_eq (function_name i) (function_name i)) false (same_name i)))
      | inr apart ↦ or_right (defines (function_name j) (always_of (function_name i))) (list_any (defines (function_name j)) (following ++ more))
          (list_any-append (defines (function_name j)) following more
          ∙ or_right (list_any (defines (function_name j)) following) (list_any (defines (function_name j)) more)
          (functions_define (i + 1) count (after_function i x) j (omega (arith, le, apart)) (omega (arith, lt))))
    ]
  where
    following : List Statement
    following = flat_map round_statements (rounds i (round_count x) (next x)) ++ Does Return ∷ []

    more : List Statement
    more = functions_statements (i + 1) count (after_function i x)

all_defined : (x j : ℕ) → j ≤ 63 → is_defined (function_name j) (enumerate_from 1 (statements x)) ≡ true
all_defined x j h = numbered_defines (function_name j) 1 (statements x) ∙ functions_define 0 64 x j (omega arith) (omega (arith, h))

pub text_orderly : (x : ℕ) → IsOrderly (enumerate_from 1 (statements x))
text_orderly x =
    let said = enumerate_from 1 (statements x) in
    let base : StatementLines = (1, Base 4096) ∷ [] in
    let outside : Outside said 0 base = record { bare = refl; begun = λ lt. absurd (omega (arith, lt)); fresh = λ j le most. refl } in
    orderly said (statements x) refl
    ((record { place = refl; registers = refl; range = refl; name = refl }, λ following. refl), functions_follow said (all_defined x) 0 64 x base 2 refl outside)

-- ---- how many lines and functions there are

rounds_short : (rs : List Round) → length (flat_map round_statements rs) ≤ 3 * length rs
rounds_short [] = omega arith
rounds_short (r ∷ rs) =
    omega (arith, length-append (round_statements r) (flat_map round_statements rs), call_short r.callee, rounds_short rs)
  where
    call_short : (callee : Option ℕ) → length (call_statements callee) ≤ 1
    call_short None = omega arith
    call_short (Some j) = omega arith

rounds_count : (i count x : ℕ) → length (rounds i count x) ≡ count
unfolding rounds
rounds_count i zero x = refl
rounds_count i (suc count) x = omega (arith, rounds_count i count (after_round i x))

two_rounds : (n : ℕ) → 1 + n % 2 ≤ 2
two_rounds n = omega arith

function_short : (i x : ℕ) → length (function_statements i x) ≤ 8
function_short i x =
    let rs = rounds i (round_count x) (next x) in
    omega (arith, length-append (flat_map round_statements rs) (Does Return ∷ []), rounds_short rs, rounds_count i (round_count x) (next x), two_rounds (next x / 2 ^ 33))

functions_short : (i count x : ℕ) → length (functions_statements i count x) ≤ 8 * count
unfolding functions_statements
functions_short i zero x = omega arith
functions_short i (suc count) x =
    let more = functions_statements (i + 1) count (after_function i x) in
    omega (arith, length-append (function_statements i x) more, function_short i x, functions_short (i + 1) count (after_function i x))

pub text_short : (x : ℕ) → length (statements x) ≤ 1024
text_short x = omega (arith, functions_short 0 64 x)

-- only functions that say always
always_append : (xs ys : List Statement) → list_all is_always_function xs ≡ true → list_all is_always_function ys ≡ true → list_all is_always_function (xs ++ ys) ≡ true
always_append xs ys h k = list_all-append is_always_function xs ys ∙ and_from (list_all is_always_function xs) (list_all is_always_function ys) h k

rounds_always : (rs : List Round) → list_all is_always_function (flat_map round_statements rs) ≡ true
rounds_always [] = refl
rounds_always (r ∷ rs) = always_append (round_statements r) (flat_map round_statements rs) (call_always r.callee) (rounds_always rs)
  where
    call_always : (callee : Option ℕ) → list_all is_always_function (call_statements callee) ≡ true
    call_always None = refl
    call_always (Some j) = refl

functions_always : (i count x : ℕ) → list_all is_always_function (functions_statements i count x) ≡ true
unfolding functions_statements
functions_always i zero x = refl
functions_always i (suc count) x =
    let rs = rounds i (round_count x) (next x) in
    always_append (function_statements i x) (functions_statements (i + 1) count (after_function i x))
    (always_append (flat_map round_statements rs) (Does Return ∷ []) (rounds_always rs) refl) (functions_always (i + 1) count (after_function i x))

numbered_always : (n : ℕ) (all : List Statement) → list_all (λ (line : ℕ × Statement). is_always_function line.1) (enumerate_from n all) ≡ list_all is_always_function all
numbered_always n [] = refl
numbered_always n (s ∷ all) = ap (λ t. is_always_function s && t) (numbered_always (n + 1) all)

pub text_always : (x : ℕ) → list_all (λ (line : ℕ × Statement). is_always_function line.1) (enumerate_from 1 (statements x)) ≡ true
text_always x = numbered_always 1 (statements x) ∙ functions_always 0 64 x

-- how many functions there are
numbered_count : (n : ℕ) (all : List Statement) → count_by (λ (line : ℕ × Statement). is_function line.1) (enumerate_from n all) ≡ count_by is_function all
numbered_count n [] = refl
numbered_count n (s ∷ all) =
    sum_by-cons (λ (line : ℕ × Statement). cond (is_function line.1) 1 0) (n, s) (enumerate_from (n + 1) all)
    ∙ ap (λ m. cond (is_function s) 1 0 + m) (numbered_count (n + 1) all)
    ∙ sym (sum_by-cons (λ s. cond (is_function s) 1 0) s all)

count_more : (xs ys : List Statement) → count_by is_function (xs ++ ys) ≡ count_by is_function xs + count_by is_function ys
count_more xs ys = sum_by-append (λ s. cond (is_function s) 1 0) xs ys

rounds_none : (rs : List Round) → count_by is_function (flat_map round_statements rs) ≡ 0
rounds_none [] = refl
rounds_none (r ∷ rs) = count_more (round_statements r) (flat_map round_statements rs) ∙ omega (arith, call_none r.callee, rounds_none rs)
  where
    call_none : (callee : Option ℕ) → count_by is_function (Does (Plain (Mov 0 r.value)) ∷ Does (Plain (Out 1)) ∷ call_statements callee) ≡ 0
    call_none None = refl
    call_none (Some j) = refl

function_one : (i x : ℕ) → count_by is_function (function_statements i x) ≡ 1
function_one i x =
    let rs = rounds i (round_count x) (next x) in
    sum_by-cons (λ s. cond (is_function s) 1 0) (always_of (function_name i)) (flat_map round_statements rs ++ Does Return ∷ [])
    ∙ omega (arith, count_more (flat_map round_statements rs) (Does Return ∷ []), rounds_none rs)

functions_count : (i count x : ℕ) → count_by is_function (functions_statements i count x) ≡ count
unfolding functions_statements
functions_count i zero x = refl
functions_count i (suc count) x =
    count_more (function_statements i x) (functions_statements (i + 1) count (after_function i x))
    ∙ omega (arith, function_one i x, functions_count (i + 1) count (after_function i x))

pub text_count : (x : ℕ) → count_by (λ (line : ℕ × Statement). is_function line.1) (enumerate_from 1 (statements x)) ≡ 64
text_count x =
    numbered_count 1 (statements x) ∙ sum_by-cons (λ s. cond (is_function s) 1 0) (Base 4096) (functions_statements 0 64 x) ∙ omega (arith, functions_count 0 64 x)
