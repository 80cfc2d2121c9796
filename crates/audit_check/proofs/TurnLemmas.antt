-- Turns of a word, and the search among them.
use mathlib.Core.Bool.{beq}
use Rattle.std.proofs.Common.{◌≡◌, ◌≢◌, ℕ, zero, suc, ◌+◌, ◌-◌, ◌%◌, ◌==◌, ◌<◌, ◌≤◌, Bool, true, false, not, List, [], ◌∷◌, ◌++◌, length, get_or, Some, None, refl, sym, ap, ◌∙◌, arith, inl, inr, length-append, eqb-true, eq-eqb}
use Rattle.std.specs.Prelude.{◌⊎◌, slice_get}
use Rattle.std.proofs.lemmas.Bool.{cases_lt, eqb-false, ne_eqb}
use Rattle.std.proofs.lemmas.Option.{slice_get-get_or, slice_get_read, slice_get_within}
use Rattle.audit_check.specs.private.Turns.{AreMade, IsLeast, IsMet, IsTurned, is_odd}

-- ---- odd and even

pub is_odd-more : (n : ℕ) → is_odd (n + 1) ≡ not (is_odd n)
is_odd-more n = by (n % 2 == 1) refl
  where
    by : (b : Bool) → n % 2 == 1 ≡ b → is_odd (n + 1) ≡ not (is_odd n)
    by true e =
        let is : n % 2 ≡ 1 = eqb-true (n % 2) 1 e in
        let other : (n + 1) % 2 ≢ 1 = λ (q : (n + 1) % 2 ≡ 1). omega arith in
        ne_eqb ((n + 1) % 2) 1 other ∙ sym (ap not e)
    by false e =
        let unlike : n % 2 ≢ 1 = eqb-false (n % 2) 1 e in
        let is : (n + 1) % 2 ≡ 1 = omega arith in
        eq-eqb ((n + 1) % 2) 1 is ∙ sym (ap not e)

other_side : (a b : Bool) → (a ≡ b → ⊥) → a ≡ not b
other_side true true e = absurd (e refl)
other_side true false e = refl
other_side false true e = refl
other_side false false e = absurd (e refl)

-- sides of a test that are compared
pub same_sides : (a b : Bool) → beq a b ≡ true → a ≡ b
same_sides true true e = refl
same_sides true false e = sym e
same_sides false true e = e
same_sides false false e = refl

pub apart_sides : (a b : Bool) → beq a b ≡ false → a ≡ b → ⊥
apart_sides true true e same = absurd cc
apart_sides true false e same = absurd cc
apart_sides false true e same = absurd cc
apart_sides false false e same = absurd cc

pub not_false : (b : Bool) → not b ≡ false → b ≡ true
not_false true e = refl
not_false false e = absurd cc

-- ---- places in a list

-- the turn of a number, as it is read
pub turn_read : (places read : List ℕ) (made turn at : ℕ) → read ≡ places → made < length read → turn ≡ get_or read made turn → at ≡ turn
    → slice_get places made ≡ Some at
turn_read places read made turn at all within is same =
    sym (ap (λ (l : List ℕ). slice_get l made) all) ∙ (slice_get_read read (length read) made turn refl within is ∙ ap Some (sym same))

left : (xs : List ℕ) (i x y : ℕ) → slice_get xs i ≡ Some x → slice_get (xs ++ y ∷ []) i ≡ Some x
left [] i x y is = absurd cc
left (z ∷ xs) zero x y is = is
left (z ∷ xs) (suc i) x y is = left xs i x y is

cases_last : (xs : List ℕ) (i x y : ℕ) → slice_get (xs ++ y ∷ []) i ≡ Some x → (slice_get xs i ≡ Some x) ⊎ ((i ≡ length xs) × (x ≡ y))
cases_last [] zero x y is = let same : x ≡ y = cc in inr (refl, same)
cases_last [] (suc i) x y is = absurd cc
cases_last (z ∷ xs) zero x y is = inl is
cases_last (z ∷ xs) (suc i) x y is = elim (cases_last xs i x y is) [ inl old ↦ inl old | inr new ↦ inr (ap suc new.0, new.1) ]

there_is : (xs : List ℕ) (i : ℕ) → i < length xs → slice_get xs i ≡ Some (get_or xs i 0)
there_is xs i low = slice_get-get_or xs i 0 low

-- places that rise
abbrev Rise : List ℕ → Type 0
Rise places = (i at next : ℕ) → slice_get places i ≡ Some at → slice_get places (i + 1) ≡ Some next → at < next

pub rise_far : (places : List ℕ) → Rise places → (i more at next : ℕ) → slice_get places i ≡ Some at → slice_get places (i + 1 + more) ≡ Some next → at < next
rise_far places rise i zero at next is is_next =
    let place : i + 1 + 0 ≡ i + 1 = omega arith in
    rise i at next is (sym (ap (slice_get places) place) ∙ is_next)
rise_far places rise i (suc more) at next is is_next =
    let within = slice_get_within places (i + 1 + suc more) next is_next in
    let mid = get_or places (i + 1 + more) 0 in
    let is_mid : slice_get places (i + 1 + more) ≡ Some mid = there_is places (i + 1 + more) (omega arith) in
    let place : i + 1 + suc more ≡ i + 1 + more + 1 = omega arith in
    let first = rise_far places rise i more at mid is is_mid in
    let second = rise (i + 1 + more) mid next is_mid (sym (ap (slice_get places) place) ∙ is_next) in
    omega arith

pub rises : (places : List ℕ) → Rise places → (i j at next : ℕ) → i < j → slice_get places i ≡ Some at → slice_get places j ≡ Some next → at < next
rises places rise i j at next less is is_next =
    let place : j ≡ i + 1 + (j - (i + 1)) = omega arith in
    rise_far places rise i (j - (i + 1)) at next is (sym (ap (slice_get places) place) ∙ is_next)

-- ---- how many turns are made

module _ (places : List ℕ) (rise : Rise places) where
  -- by the turns on both sides of a place
  pub made_by : (place made : ℕ) → made ≤ length places → ((at : ℕ) → 0 < made → slice_get places (made - 1) ≡ Some at → at ≤ place)
      → ((at : ℕ) → slice_get places made ≡ Some at → place < at) → AreMade places place made
  made_by place made within before after = record {
    within = within;
    before = λ i at low is. elim (cases_lt i (made - 1)) [
      | inl less ↦
          let last = get_or places (made - 1) 0 in
          let is_last : slice_get places (made - 1) ≡ Some last = there_is places (made - 1) (omega arith) in
          let rising = rises places rise i (made - 1) at last less is is_last in
          let bound = before last (omega arith) is_last in omega arith
      | inr more ↦
          let same : i ≡ made - 1 = omega arith in
          before at (omega arith) (sym (ap (slice_get places) same) ∙ is)
    ];
    after = λ i at low is. elim (cases_lt made i) [
      | inl less ↦
          let within' = slice_get_within places i at is in
          let first = get_or places made 0 in
          let is_first : slice_get places made ≡ Some first = there_is places made (omega arith) in
          let rising = rises places rise made i first at less is_first is in
          let bound = after first is_first in omega arith
      | inr more ↦
          let same : i ≡ made = omega arith in
          after at (sym (ap (slice_get places) same) ∙ is)
    ];
  }

  -- up to the next turn no other turn is made
  pub made_until : (from place made : ℕ) → AreMade places from made → from ≤ place → ((at : ℕ) → slice_get places made ≡ Some at → place < at)
      → AreMade places place made
  made_until from place made are low before =
      made_by place made are.within
      (λ at some is. let up = are.before (made - 1) at (omega arith) is in omega arith) before

  -- and there it is
  pub made_at_turn : (from made at : ℕ) → AreMade places from made → slice_get places made ≡ Some at → AreMade places at (made + 1)
  made_at_turn from made at are is =
      let within = slice_get_within places made at is in
      made_by at (made + 1) (omega arith)
      (λ there some is_there.
      let place : made + 1 - 1 ≡ made = omega arith in
      let same : slice_get places made ≡ Some there = sym (ap (slice_get places) place) ∙ is_there in
      let equal : at ≡ there = one at there (sym is ∙ same) in omega arith)
      (λ next is_next. rise made at next is is_next)
    where
      one : (a b : ℕ) → Some a ≡ Some b → a ≡ b
      one a b e = cc

-- ---- the turns at one more place

-- all turns are made at the last place
all_made : (on : ℕ → Bool) (last : ℕ) (places : List ℕ) → IsTurned on last places → AreMade places last (length places)
all_made on last places turned = record {
  within = omega arith;
  before = λ i at low is. turned.within i at is;
  after = λ i at low is. let within = slice_get_within places i at is in absurd (omega arith);
}

pub no_turns : (on : ℕ → Bool) → on 0 ≡ false → IsTurned on 0 []
no_turns on off = record {
  rise = λ i at next is is_next. absurd cc;
  within = λ i at is. absurd cc;
  tell = λ place made low are.
      let none : place ≡ 0 = omega arith in
      let within : made ≤ 0 = are.within in
      let made_none : made ≡ 0 = omega arith in
      ap on none ∙ (off ∙ sym (ap is_odd made_none));
}

-- the word is as it was
pub kept : (on : ℕ → Bool) (last : ℕ) (places : List ℕ) → IsTurned on last places → on (last + 1) ≡ on last → IsTurned on (last + 1) places
kept on last places turned same = record {
  rise = turned.rise;
  within = λ i at is. let low = turned.within i at is in omega arith;
  tell = λ place made low are. elim (cases_lt last place) [
    | inl past ↦
        let next : place ≡ last + 1 = omega arith in
        let here : AreMade places last made = record {
          within = are.within;
          before = λ i at less is. turned.within i at is;
          after = λ i at more is. let up = are.after i at more is in omega arith;
        } in
        ap on next ∙ (same ∙ turned.tell last made (omega arith) here)
    | inr before ↦ turned.tell place made before are
  ];
}

-- it has the value that the number of its turns says
pub noted : (on : ℕ → Bool) (last : ℕ) (places : List ℕ) → IsTurned on last places → on (last + 1) ≡ is_odd (length places)
    → IsTurned on (last + 1) places
noted on last places turned is =
    kept on last places turned (is ∙ sym (turned.tell last (length places) (omega arith) (all_made on last places turned)))

-- or it turns
pub turns : (on : ℕ → Bool) (last : ℕ) (places : List ℕ) → IsTurned on last places → (on (last + 1) ≡ is_odd (length places) → ⊥)
    → IsTurned on (last + 1) (places ++ (last + 1) ∷ [])
turns on last places turned other = record {
  rise = λ i at next is is_next. elim (cases_last places (i + 1) next (last + 1) is_next) [
    | inl old ↦ elim (cases_last places i at (last + 1) is) [
      | inl here ↦ turned.rise i at next here old
      | inr here ↦ let within = slice_get_within places (i + 1) next old in let at_end : i ≡ length places = here.0 in absurd (omega arith)
    ]
    | inr new ↦ elim (cases_last places i at (last + 1) is) [
      | inl here ↦ let low = turned.within i at here in let place : next ≡ last + 1 = new.1 in omega arith
      | inr here ↦ let at_end : i ≡ length places = here.0 in let past : i + 1 ≡ length places = new.0 in absurd (omega arith)
    ]
  ];
  within = λ i at is. elim (cases_last places i at (last + 1) is) [
    | inl old ↦ let low = turned.within i at old in omega arith
    | inr new ↦ let place : at ≡ last + 1 = new.1 in omega arith
  ];
  tell = λ place made low are. elim (cases_lt last place) [
    | inl past ↦ at_new place made low past are
    | inr before ↦ turned.tell place made before (earlier place made before are)
  ];
}
  where
    long : length (places ++ (last + 1) ∷ []) ≡ length places + 1
    long = length-append places ((last + 1) ∷ [])

    last_is : slice_get (places ++ (last + 1) ∷ []) (length places) ≡ Some (last + 1)
    last_is = at_length places
      where
        at_length : (xs : List ℕ) → slice_get (xs ++ (last + 1) ∷ []) (length xs) ≡ Some (last + 1)
        at_length [] = refl
        at_length (x ∷ xs) = at_length xs

    earlier : (place made : ℕ) → place ≤ last → AreMade (places ++ (last + 1) ∷ []) place made → AreMade places place made
    earlier place made low are = record {
      within = elim (cases_lt (length places) made) [
        | inl more ↦ let up = are.before (length places) (last + 1) more last_is in absurd (omega arith)
        | inr within ↦ within
      ];
      before = λ i at less is. are.before i at less (left places i at (last + 1) is);
      after = λ i at more is. are.after i at more (left places i at (last + 1) is);
    }

    at_new : (place made : ℕ) → place ≤ last + 1 → last < place → AreMade (places ++ (last + 1) ∷ []) place made → on place ≡ is_odd made
    at_new place made low past are =
        let next : place ≡ last + 1 = omega arith in
        let within = are.within in
        let all : made ≡ length places + 1 = elim (cases_lt made (length places + 1)) [
          | inl less ↦ let up = are.after (length places) (last + 1) (omega arith) last_is in absurd (omega arith)
          | inr more ↦ omega (arith, long)
        ] in
        ap on next ∙ (other_side (on (last + 1)) (is_odd (length places)) other ∙ (sym (is_odd-more (length places)) ∙ sym (ap is_odd all)))

-- ---- the search

module _ (on : ℕ → Bool) (last : ℕ) (places : List ℕ) (turned : IsTurned on last places) (wants : Bool) (from bound made : ℕ)
    (below : bound ≤ last) (are : AreMade places from made) where
  abbrev Met : ℕ → Type 0
  Met at = IsMet on wants from bound at

  -- the word is so at once
  pub at_once : is_odd made ≡ wants → from ≤ bound → IsLeast Met (Some from)
  at_once is within =
      (record { low = omega arith; high = within; is = turned.tell from made (omega arith) are ∙ is }, λ at met. met.low)

  pub past_bound : bound < from → IsLeast Met None
  past_bound past = λ at met. let low = met.low in let high = met.high in absurd (omega arith)

  -- or from the next turn on
  not_before : (is_odd made ≡ wants → ⊥) → (at : ℕ) → Met at → ((next : ℕ) → slice_get places made ≡ Some next → at < next) → ⊥
  not_before other at met before =
      let low = met.low in
      let high = met.high in
      other (sym (turned.tell at made (omega arith) (made_until places turned.rise from at made are low before)) ∙ met.is)

  pub at_turn : (is_odd made ≡ wants → ⊥) → (next : ℕ) → slice_get places made ≡ Some next → next ≤ bound → IsLeast Met (Some next)
  at_turn other next is within = (
    record {
      low = let up = are.after made next (omega arith) is in omega arith;
      high = within;
      is = turned.tell next (made + 1) (omega arith) (made_at_turn places turned.rise from made next are is)
          ∙ (is_odd-more made ∙ sym (other_side wants (is_odd made) (λ e. other (sym e))));
    },
    (λ at met. elim (cases_lt at next) [
      | inl less ↦ absurd (not_before other at met (λ there is_there. let same : next ≡ there = one next there (sym is ∙ is_there) in omega arith))
      | inr more ↦ more
    ]),
  )
    where
      one : (a b : ℕ) → Some a ≡ Some b → a ≡ b
      one a b e = cc

  pub turn_past : (is_odd made ≡ wants → ⊥) → ((next : ℕ) → slice_get places made ≡ Some next → bound < next) → IsLeast Met None
  turn_past other past = λ at met.
      let high = met.high in not_before other at met (λ next is. let up = past next is in omega arith)
