-- The first commands that patch sleds, and whether they come before a command.
use Rattle.std.proofs.Common.{◌≡◌, ℕ, ◌+◌, ◌<◌, zero, suc, List, [], ◌∷◌, ◌++◌, ◌||◌, Bool, true, false, cond, length, take, Option, Some, None, refl, sym, ap, ◌∙◌, ◌==◌, inl, inr, arith}
use Rattle.std.specs.Prelude.{option_map, filter, slice_get}
use Rattle.std.specs.List.{list_any, enumerate_from}
use Rattle.std.proofs.lemmas.Bool.{cases_Bool, lt-ltb, le-ltb, cases_lt, eqb-true, eq-eqb, ne_eqb}
use Rattle.std.proofs.lemmas.List.Folds.{list_any-append}
use Rattle.std.proofs.lemmas.Option.{none-some, same_Some}
use Rattle.xray_image.specs.declared.sled.Sled.{Sled}
use Rattle.xray_image.specs.Program.{Program}
use Rattle.patch_script.specs.declared.command.PatchCommand.{PatchCommand}
use Rattle.patch_script.specs.declared.command.PatchCommand.TheVariants as commands
use Rattle.patch_script.specs.declared.first_patches.FirstPatches.{FirstPatches}
use Rattle.patch_script.specs.private.FirstPatches.{patches_all, patches_function, first_number, AreFirst, or_number, AddsFirst, is_before}
use Rattle.patch_script.specs.Micros.{all_sleds, sleds_of, patches, numbers}
use Rattle.patch_script.specs.private.Placing.{patched_by}

-- ---- one command more

or_next : (o : Option ℕ) (b : Bool) (n : ℕ) → option_map suc (or_number o b n) ≡ or_number (option_map suc o) b (suc n)
or_next None true n = refl
or_next None false n = refl
or_next (Some m) b n = refl

first_number-last : (test : PatchCommand → Bool) (before : List PatchCommand) (command : PatchCommand)
    → first_number test (before ++ command ∷ []) ≡ or_number (first_number test before) (test command) (length before)
first_number-last test [] command = elim (test command) as (λ b. cond b (Some 0) None ≡ or_number None b 0) [ true ↦ refl | false ↦ refl ]
first_number-last test (c ∷ cs) command =
    ap (λ o. cond (test c) (Some 0) o) (ap (option_map suc) (first_number-last test cs command) ∙ or_next (first_number test cs) (test command) (length cs))
    ∙ elim (test c) as (λ b. cond b (Some 0) (or_number (option_map suc (first_number test cs)) (test command) (suc (length cs)))
    ≡ or_number (cond b (Some 0) (option_map suc (first_number test cs))) (test command) (suc (length cs))) [ true ↦ refl | false ↦ refl ]

pub first_more : (ids : ℕ) (before : List PatchCommand) (command : PatchCommand) (number : ℕ) (old new : FirstPatches) → AreFirst ids before old → number ≡ length before
    → AddsFirst old command number new → AreFirst ids (before ++ command ∷ []) new
first_more ids before command number old new are count more = record {
  room = more.room ∙ are.room;
  all = more.all ∙ ap (λ o. or_number o (patches_all command) number) are.all ∙ ap (or_number (first_number patches_all before) (patches_all command)) count
      ∙ sym (first_number-last patches_all before command);
  by_id = λ id. more.by_id id ∙ ap (λ o. or_number o (patches_function id command) number) (are.by_id id)
      ∙ ap (or_number (first_number (patches_function id) before) (patches_function id command)) count
      ∙ sym (first_number-last (patches_function id) before command);
}

-- ---- commands before one

before_next : (o : Option ℕ) (n : ℕ) → is_before (option_map suc o) (suc n) ≡ is_before o n
before_next None n = refl
before_next (Some m) n = elim (cases_lt m n) [
  | inl lt ↦ lt-ltb (suc m) (suc n) (omega arith) ∙ sym (lt-ltb m n lt)
  | inr le ↦ le-ltb (suc m) (suc n) (omega arith) ∙ sym (le-ltb m n le)
]

none_before : (o : Option ℕ) → is_before o 0 ≡ false
none_before None = refl
none_before (Some m) = le-ltb m 0 (omega arith)

pub is_before-first : (test : PatchCommand → Bool) (script : List PatchCommand) (n : ℕ) → is_before (first_number test script) n ≡ list_any test (take n script)
is_before-first test [] zero = refl
is_before-first test [] (suc n) = refl
is_before-first test (c ∷ cs) zero = none_before (first_number test (c ∷ cs))
is_before-first test (c ∷ cs) (suc n) = elim (cases_Bool (test c)) [
  | inl so ↦ ap (λ b. is_before (cond b (Some 0) (option_map suc (first_number test cs))) (suc n)) so ∙ lt-ltb 0 (suc n) (omega arith)
      ∙ sym (ap (λ b. b || list_any test (take n cs)) so)
  | inr isnt ↦ ap (λ b. is_before (cond b (Some 0) (option_map suc (first_number test cs))) (suc n)) isnt ∙ before_next (first_number test cs) n
      ∙ is_before-first test cs n ∙ sym (ap (λ b. b || list_any test (take n cs)) isnt)
]

-- ---- the sleds that commands patch

-- a number is among those of sleds that are numbered from n on
counted_from : (n : ℕ) (sleds : List Sled) (k : ℕ) (sled : Sled) (test : Sled → Bool) → slice_get sleds k ≡ Some sled
    → list_any (λ j. j == n + k) (numbers (filter (λ s. test s.1) (enumerate_from n sleds))) ≡ test sled
counted_from n [] k sled test at = absurd (none-some sled at)
counted_from n (s ∷ ss) zero sled test at = elim (cases_Bool (test s)) [
  | inl so ↦
      ap (λ b. list_any (λ j. j == n + 0) (numbers (cond b ((n, s) ∷ filter (λ s. test s.1) (enumerate_from (n + 1) ss)) (filter (λ s. test s.1) (enumerate_from (n + 1) ss))))) so
      ∙ ap (λ b. b || list_any (λ j. j == n + 0) (numbers (filter (λ s. test s.1) (enumerate_from (n + 1) ss)))) (eq-eqb n (n + 0) (omega arith))
      ∙ sym (ap test (sym (same_Some s sled at)) ∙ so)
  | inr isnt ↦
      ap (λ b. list_any (λ j. j == n + 0) (numbers (cond b ((n, s) ∷ filter (λ s. test s.1) (enumerate_from (n + 1) ss)) (filter (λ s. test s.1) (enumerate_from (n + 1) ss))))) isnt
      ∙ below (n + 1) ss (n + 0) (omega arith)
      ∙ sym (ap test (sym (same_Some s sled at)) ∙ isnt)
]
  where
    below : (m : ℕ) (ss : List Sled) (k : ℕ) → k < m → list_any (λ j. j == k) (numbers (filter (λ s. test s.1) (enumerate_from m ss))) ≡ false
    below m [] k lt = refl
    below m (s ∷ ss) k lt = elim (test s) as (λ b. list_any (λ j. j == k) (numbers (cond b ((m, s) ∷ filter (λ s. test s.1) (enumerate_from (m + 1) ss)) (filter (λ s. test s.1) (enumerate_from (m + 1) ss)))) ≡ false) [
      | true ↦ ap (λ b. b || list_any (λ j. j == k) (numbers (filter (λ s. test s.1) (enumerate_from (m + 1) ss)))) (ne_eqb m k (λ same. omega (arith, same))) ∙ below (m + 1) ss k (omega arith)
      | false ↦ below (m + 1) ss k (omega arith)
    ]
counted_from n (s ∷ ss) (suc k) sled test at =
    let next : n + suc k ≡ (n + 1) + k = omega arith in
    let rest : list_any (λ j. j == n + suc k) (numbers (filter (λ s. test s.1) (enumerate_from (n + 1) ss))) ≡ test sled =
    ap (λ m. list_any (λ j. j == m) (numbers (filter (λ s. test s.1) (enumerate_from (n + 1) ss)))) next ∙ counted_from (n + 1) ss k sled test at in
    elim (test s) as (λ b. list_any (λ j. j == n + suc k) (numbers (cond b ((n, s) ∷ filter (λ s. test s.1) (enumerate_from (n + 1) ss)) (filter (λ s. test s.1) (enumerate_from (n + 1) ss)))) ≡ test sled) [
      | true ↦ ap (λ b. b || list_any (λ j. j == n + suc k) (numbers (filter (λ s. test s.1) (enumerate_from (n + 1) ss)))) (ne_eqb n (n + suc k) (λ same. omega (arith, same))) ∙ rest
      | false ↦ rest
    ]

all_counted : (n : ℕ) (sleds : List Sled) (k : ℕ) (sled : Sled) → slice_get sleds k ≡ Some sled → list_any (λ j. j == n + k) (numbers (enumerate_from n sleds)) ≡ true
all_counted n [] k sled at = absurd (none-some sled at)
all_counted n (s ∷ ss) zero sled at = ap (λ b. b || list_any (λ j. j == n + 0) (numbers (enumerate_from (n + 1) ss))) (eq-eqb n (n + 0) (omega arith))
all_counted n (s ∷ ss) (suc k) sled at =
    let next : n + suc k ≡ (n + 1) + k = omega arith in
    ap (λ b. b || list_any (λ j. j == n + suc k) (numbers (enumerate_from (n + 1) ss))) (ne_eqb n (n + suc k) (λ same. omega (arith, same)))
    ∙ ap (λ m. list_any (λ j. j == m) (numbers (enumerate_from (n + 1) ss))) next ∙ all_counted (n + 1) ss k sled at

-- a command patches a sled if it patches all, or the sled's function
patches_sled : (program : Program) (k : ℕ) (sled : Sled) → slice_get program.sleds k ≡ Some sled → (command : PatchCommand)
    → list_any (λ j. j == k) (numbers (patches program command)) ≡ (patches_all command || patches_function sled.id command)
patches_sled program k sled at commands.Patch = ap (λ m. list_any (λ j. j == m) (numbers (all_sleds program))) (let zero_first : k ≡ 0 + k = omega arith in zero_first) ∙ all_counted 0 program.sleds k sled at
patches_sled program k sled at (commands.PatchFunction id) =
    ap (λ m. list_any (λ j. j == m) (numbers (sleds_of program id))) (let zero_first : k ≡ 0 + k = omega arith in zero_first)
    ∙ counted_from 0 program.sleds k sled (λ s. s.id == id) at
    ∙ turned sled.id id
  where
    turned : (a b : ℕ) → (a == b) ≡ (b == a)
    turned a b = elim (cases_Bool (a == b)) [
      | inl so ↦ so ∙ sym (eq-eqb b a (sym (eqb-true a b so)))
      | inr isnt ↦ isnt ∙ sym (ne_eqb b a (λ same. let so : (a == b) ≡ true = eq-eqb a b (sym same) in cc))
    ]
patches_sled program k sled at command = refl

swap_or : (a b c d : Bool) → ((a || b) || (c || d)) ≡ ((a || c) || (b || d))
swap_or true b c d = refl
swap_or false true true d = refl
swap_or false true false d = refl
swap_or false false true d = refl
swap_or false false false d = refl

-- whether earlier commands patch a sled
pub patched_before-is : (program : Program) (k : ℕ) (sled : Sled) → slice_get program.sleds k ≡ Some sled → (before : List PatchCommand)
    → list_any (λ j. j == k) (patched_by program before) ≡ (list_any patches_all before || list_any (patches_function sled.id) before)
patched_before-is program k sled at [] = refl
patched_before-is program k sled at (c ∷ cs) =
    list_any-append (λ j. j == k) (numbers (patches program c)) (patched_by program cs)
    ∙ ap (λ b. b || list_any (λ j. j == k) (patched_by program cs)) (patches_sled program k sled at c)
    ∙ ap (λ b. (patches_all c || patches_function sled.id c) || b) (patched_before-is program k sled at cs)
    ∙ swap_or (patches_all c) (patches_function sled.id c) (list_any patches_all cs) (list_any (patches_function sled.id) cs)
