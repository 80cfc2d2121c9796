-- The words that relocations set, with one relocation more.
use Rattle.std.proofs.Common.{◌≡◌, ◌+◌, ℕ, zero, suc, Bool, true, false, cond, List, [], ◌∷◌, ◌++◌, Option, Some, None, refl, sym, ap, ◌∙◌, arith}
use Rattle.std.specs.Prelude.{find, option_map}
use Rattle.std.specs.List.{range_with_len}
use Rattle.std.specs.Option.{option_or}
use Rattle.std.proofs.lemmas.List.Folds.{find-append}
use Rattle.elf_file.specs.Addends.{addend_of, first_addend, sets_word}

-- numbers from one on, with one more
range_more : (a n : ℕ) → range_with_len a (suc n) ≡ range_with_len a n ++ (a + n) ∷ []
range_more a zero = let e : a ≡ a + 0 = omega arith in ap (λ k. k ∷ []) e
range_more a (suc n) =
    let e : (a + 1) + n ≡ a + suc n = omega arith in
    ap (λ ks. a ∷ ks) (range_more (a + 1) n ∙ ap (λ k. range_with_len (a + 1) n ++ k ∷ []) e)

numbers_more : (n : ℕ) → range_with_len 0 (n + 1) ≡ range_with_len 0 n ++ n ∷ []
numbers_more n =
    let e : n + 1 ≡ suc n = omega arith in
    let f : 0 + n ≡ n = omega arith in
    ap (range_with_len 0) e ∙ range_more 0 n ∙ ap (λ k. range_with_len 0 n ++ k ∷ []) f

-- what is found, and then changed
map_or : {X Y : Type 0} (f : X → Y) (o p : Option X) → option_map f (option_or o p) ≡ option_or (option_map f o) (option_map f p)
map_or f None p = refl
map_or f (Some x) p = refl

-- what is found in one number
one_found : (table : List ℕ) (address number : ℕ) (b : Bool) → sets_word table address number ≡ b
    → option_map (addend_of table) (find (sets_word table address) (number ∷ [])) ≡ cond (sets_word table address number) (Some (addend_of table number)) None
one_found table address number true is =
    ap (λ t. option_map (addend_of table) (cond t (Some number) None)) is ∙ sym (ap (λ t. cond t (Some (addend_of table number)) None) is)
one_found table address number false is =
    ap (λ t. option_map (addend_of table) (cond t (Some number) None)) is ∙ sym (ap (λ t. cond t (Some (addend_of table number)) None) is)

pub addend_more : (table : List ℕ) (number address : ℕ)
    → first_addend table (range_with_len 0 (number + 1)) address
    ≡ option_or (first_addend table (range_with_len 0 number) address) (cond (sets_word table address number) (Some (addend_of table number)) None)
addend_more table number address =
    ap (λ ns. option_map (addend_of table) (find (sets_word table address) ns)) (numbers_more number)
    ∙ ap (option_map (addend_of table)) (find-append (sets_word table address) (range_with_len 0 number) (number ∷ []))
    ∙ map_or (addend_of table) (find (sets_word table address) (range_with_len 0 number)) (find (sets_word table address) (number ∷ []))
    ∙ ap (option_or (first_addend table (range_with_len 0 number) address)) (one_found table address number (sets_word table address number) refl)
