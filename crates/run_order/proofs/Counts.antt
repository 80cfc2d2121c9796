-- How many of rising numbers are before a number, and at it.
use Rattle.std.proofs.Common.{◌≡◌, inl, inr, ℕ, zero, suc, ◌+◌, ◌<◌, ◌≤◌, List, [], ◌∷◌, Bool, cond, length, Some, refl, ap, arith}
use Rattle.std.specs.Prelude.{count_by, nat_lt, slice_get, ◌==◌}
use Rattle.std.proofs.lemmas.List.Sums.{sum_by-cons}
use Rattle.std.proofs.lemmas.Bool.{cases_order}
use Rattle.std.proofs.lemmas.Bool.Decides.{nat_tests}
use Rattle.machine_step.specs.Follows.{Rise}

-- how many of one
abbrev tally : Bool → ℕ
tally passes = cond passes 1 0

-- how many are before a number
abbrev pub before : ℕ → List ℕ → ℕ
before place numbers = count_by (λ other. nat_lt other place) numbers

-- how many are this number
abbrev pub at : ℕ → List ℕ → ℕ
at place numbers = count_by (λ other. other == place) numbers

before-cons : (place number : ℕ) (numbers : List ℕ) → before place (number ∷ numbers) ≡ tally (nat_lt number place) + before place numbers
before-cons place number numbers = sum_by-cons (λ other. tally (nat_lt other place)) number numbers

at-cons : (place number : ℕ) (numbers : List ℕ) → at place (number ∷ numbers) ≡ tally (number == place) + at place numbers
at-cons place number numbers = sum_by-cons (λ other. tally (other == place)) number numbers

one_before : (place number : ℕ) → tally (nat_lt number (place + 1)) ≡ tally (nat_lt number place) + tally (number == place)
one_before place number = grind (arith, nat_tests)

is_before : (place number : ℕ) → number < place → tally (nat_lt number place) ≡ 1
is_before place number h = grind (arith, nat_tests)

not_before : (place number : ℕ) → place ≤ number → tally (nat_lt number place) ≡ 0
not_before place number h = grind (arith, nat_tests)

is_at : (place number : ℕ) → number ≡ place → tally (number == place) ≡ 1
is_at place number h = grind (arith, nat_tests)

not_at : (place number : ℕ) → place < number → tally (number == place) ≡ 0
not_at place number h = grind (arith, nat_tests)

not_at_less : (place number : ℕ) → number < place → tally (number == place) ≡ 0
not_at_less place number h = grind (arith, nat_tests)

-- those before the next number are those before this one, and those at it
pub before_next : (place : ℕ) (numbers : List ℕ) → before (place + 1) numbers ≡ before place numbers + at place numbers
before_next place [] = refl
before_next place (number ∷ numbers) =
    omega (
      arith,
      before-cons (place + 1) number numbers,
      before-cons place number numbers,
      at-cons place number numbers,
      one_before place number,
      before_next place numbers,
    )

-- none is before the first
pub before_none : (from last place : ℕ) (numbers : List ℕ) → Rise from last numbers → place ≤ from → before place numbers ≡ 0
before_none from last place [] rise low = refl
before_none from last place (number ∷ numbers) rise low =
    omega (
      arith,
      before-cons place number numbers,
      not_before place number (omega (arith, rise.0, low)),
      before_none number last place numbers rise.2 (omega (arith, rise.0, low)),
    )

-- none is at a number before the first
pub at_none : (from last place : ℕ) (numbers : List ℕ) → Rise from last numbers → place < from → at place numbers ≡ 0
at_none from last place [] rise low = refl
at_none from last place (number ∷ numbers) rise low =
    omega (
      arith,
      at-cons place number numbers,
      not_at place number (omega (arith, rise.0, low)),
      at_none number last place numbers rise.2 (omega (arith, rise.0, low)),
    )

-- all are before a number after the last
pub before_all : (from last place : ℕ) (numbers : List ℕ) → Rise from last numbers → last < place → before place numbers ≡ length numbers
before_all from last place [] rise high = refl
before_all from last place (number ∷ numbers) rise high =
    omega (
      arith,
      before-cons place number numbers,
      is_before place number (omega (arith, rise.1, high)),
      before_all number last place numbers rise.2 high,
    )

-- none is before or at a number before the first
none_up_to : (number last place : ℕ) (numbers : List ℕ) → Rise number last numbers → place < number
    → before place (number ∷ numbers) + at place (number ∷ numbers) ≡ 0
none_up_to number last place numbers rise more =
    omega (
      arith,
      before-cons place number numbers,
      at-cons place number numbers,
      not_before place number (omega (arith, more)),
      not_at place number more,
      before_none number last place numbers rise (omega (arith, more)),
      at_none number last place numbers rise more,
    )

-- those at a number come after those before it
pub at_places : (from last place i : ℕ) (numbers : List ℕ) → Rise from last numbers → before place numbers ≤ i
    → i < before place numbers + at place numbers → slice_get numbers i ≡ Some place
at_places from last place i [] rise low high = absurd (omega (arith, high))
at_places from last place zero (number ∷ numbers) rise low high =
    elim (cases_order number place) [
      | inl same ↦ ap Some same
      | inr apart ↦ elim apart [
        | inl less ↦ absurd (omega (arith, low, before-cons place number numbers, is_before place number less))
        | inr more ↦ absurd (omega (arith, high, none_up_to number last place numbers rise.2 more))
      ]
    ]
at_places from last place (suc i) (number ∷ numbers) rise low high =
    elim (cases_order number place) [
      | inl same ↦
          at_places number last place i numbers rise.2
          (omega (arith, before_none number last place numbers rise.2 (omega (arith, same))))
          (omega (
            arith,
            high,
            before-cons place number numbers,
            at-cons place number numbers,
            not_before place number (omega (arith, same)),
            is_at place number same,
          ))
      | inr apart ↦ elim apart [
        | inl less ↦
            at_places number last place i numbers rise.2
            (omega (arith, low, before-cons place number numbers, is_before place number less))
            (omega (
              arith,
              high,
              before-cons place number numbers,
              at-cons place number numbers,
              is_before place number less,
              not_at_less place number less,
            ))
        | inr more ↦ absurd (omega (arith, high, none_up_to number last place numbers rise.2 more))
      ]
    ]
