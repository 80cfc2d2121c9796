-- The assembler text, round after round and function after function.
use Rattle.std.proofs.Common.{◌≡◌, ℕ, suc, ◌+◌, ◌-◌, ◌<◌, List, [], ◌∷◌, ◌++◌, refl, sym, ap, ◌∙◌, append_assoc, append-nil, arith}
use Rattle.std.specs.Prelude.{codes, decimal}
use Rattle.std.specs.List.{flat_map}
use Rattle.std.proofs.lemmas.List.Concat.{flat_map-append}
use Rattle.text_lines.specs.Written.{written_line, written_text}
use Rattle.soak_inputs.specs.Texts.{rounds, after_rounds, round, after_round, round_lines, round_count, functions_lines, after_functions, function_lines, after_function, function_line, return_line}
use Rattle.soak_inputs.specs.Draws.{next}

pub written-append : (xs ys : List (List (List ℕ))) → written_text (xs ++ ys) ≡ written_text xs ++ written_text ys
written-append xs ys = flat_map-append (λ words. written_line words ++ 10 ∷ []) xs ys

-- one item less is left
one_less : (n k : ℕ) → k < n → n - k ≡ suc (n - (k + 1))
one_less n k lt = omega (arith, lt)

none_left : (n : ℕ) → n - n ≡ 0
none_left n = omega arith

-- ---- rounds

abbrev pub rounds_text : (i count x : ℕ) → List ℕ
rounds_text i count x = written_text (flat_map round_lines (rounds i count x))

rounds_first : (i n x : ℕ) → rounds i (suc n) x ≡ round i x ∷ rounds i n (after_round i x)
unfolding rounds
rounds_first i n x = refl

rounds_none : (i x : ℕ) → rounds i 0 x ≡ []
unfolding rounds
rounds_none i x = refl

after_rounds_first : (i n x : ℕ) → after_rounds i (suc n) x ≡ after_rounds i n (after_round i x)
unfolding after_rounds
after_rounds_first i n x = refl

after_rounds_none : (i x : ℕ) → after_rounds i 0 x ≡ x
unfolding after_rounds
after_rounds_none i x = refl

text_first : (i n x : ℕ) → rounds_text i (suc n) x ≡ written_text (round_lines (round i x)) ++ rounds_text i n (after_round i x)
text_first i n x =
    ap (λ rs. written_text (flat_map round_lines rs)) (rounds_first i n x)
    ∙ written-append (round_lines (round i x)) (flat_map round_lines (rounds i n (after_round i x)))

pub round_more : (i n k x : ℕ) (text more whole : List ℕ) → k < n → text ++ rounds_text i (n - k) x ≡ whole
    → more ≡ text ++ written_text (round_lines (round i x)) → more ++ rounds_text i (n - (k + 1)) (after_round i x) ≡ whole
round_more i n k x text more whole lt so_far e =
    ap (λ t. t ++ rounds_text i (n - (k + 1)) (after_round i x)) e
    ∙ append_assoc text (written_text (round_lines (round i x))) (rounds_text i (n - (k + 1)) (after_round i x))
    ∙ ap (λ t. text ++ t) (sym (ap (λ m. rounds_text i m x) (one_less n k lt) ∙ text_first i (n - (k + 1)) x))
    ∙ so_far

pub after_round_more : (i n k x last : ℕ) → k < n → after_rounds i (n - k) x ≡ last → after_rounds i (n - (k + 1)) (after_round i x) ≡ last
after_round_more i n k x last lt so_far =
    sym (ap (λ m. after_rounds i m x) (one_less n k lt) ∙ after_rounds_first i (n - (k + 1)) x) ∙ so_far

pub rounds_done : (i n k x : ℕ) (text whole : List ℕ) → k ≡ n → text ++ rounds_text i (n - k) x ≡ whole → text ≡ whole
rounds_done i n k x text whole at so_far =
    sym (ap (λ m. text ++ rounds_text i m x) (let e : n - k ≡ 0 = omega (arith, at) in e)
    ∙ ap (λ rs. text ++ written_text (flat_map round_lines rs)) (rounds_none i x) ∙ append-nil text) ∙ so_far

pub after_rounds_done : (i n k x last : ℕ) → k ≡ n → after_rounds i (n - k) x ≡ last → x ≡ last
after_rounds_done i n k x last at so_far =
    sym (ap (λ m. after_rounds i m x) (let e : n - k ≡ 0 = omega (arith, at) in e) ∙ after_rounds_none i x) ∙ so_far

-- ---- functions

abbrev pub functions_text : (i count x : ℕ) → List ℕ
functions_text i count x = written_text (functions_lines i count x)

functions_first : (i n x : ℕ) → functions_lines i (suc n) x ≡ function_lines i x ++ functions_lines (i + 1) n (after_function i x)
unfolding functions_lines
functions_first i n x = refl

functions_none : (i x : ℕ) → functions_lines i 0 x ≡ []
unfolding functions_lines
functions_none i x = refl

after_functions_first : (i n x : ℕ) → after_functions i (suc n) x ≡ after_functions (i + 1) n (after_function i x)
unfolding after_functions
after_functions_first i n x = refl

after_functions_none : (i x : ℕ) → after_functions i 0 x ≡ x
unfolding after_functions
after_functions_none i x = refl

functions_text_first : (i n x : ℕ) → functions_text i (suc n) x ≡ written_text (function_lines i x) ++ functions_text (i + 1) n (after_function i x)
functions_text_first i n x =
    ap written_text (functions_first i n x) ∙ written-append (function_lines i x) (functions_lines (i + 1) n (after_function i x))

pub function_more : (n i x : ℕ) (text more whole : List ℕ) → i < n → text ++ functions_text i (n - i) x ≡ whole
    → more ≡ text ++ written_text (function_lines i x) → more ++ functions_text (i + 1) (n - (i + 1)) (after_function i x) ≡ whole
function_more n i x text more whole lt so_far e =
    ap (λ t. t ++ functions_text (i + 1) (n - (i + 1)) (after_function i x)) e
    ∙ append_assoc text (written_text (function_lines i x)) (functions_text (i + 1) (n - (i + 1)) (after_function i x))
    ∙ ap (λ t. text ++ t) (sym (ap (λ m. functions_text i m x) (one_less n i lt) ∙ functions_text_first i (n - (i + 1)) x))
    ∙ so_far

pub after_function_more : (n i x last : ℕ) → i < n → after_functions i (n - i) x ≡ last → after_functions (i + 1) (n - (i + 1)) (after_function i x) ≡ last
after_function_more n i x last lt so_far =
    sym (ap (λ m. after_functions i m x) (one_less n i lt) ∙ after_functions_first i (n - (i + 1)) x) ∙ so_far

pub functions_done : (n i x : ℕ) (text whole : List ℕ) → i ≡ n → text ++ functions_text i (n - i) x ≡ whole → text ≡ whole
functions_done n i x text whole at so_far =
    sym (ap (λ m. text ++ functions_text i m x) (let e : n - i ≡ 0 = omega (arith, at) in e)
    ∙ ap (λ ls. text ++ written_text ls) (functions_none i x) ∙ append-nil text) ∙ so_far

pub after_functions_done : (n i x last : ℕ) → i ≡ n → after_functions i (n - i) x ≡ last → x ≡ last
after_functions_done n i x last at so_far =
    sym (ap (λ m. after_functions i m x) (let e : n - i ≡ 0 = omega (arith, at) in e) ∙ after_functions_none i x) ∙ so_far

-- ---- a whole function

four : (s a r e : List ℕ) → ((s ++ a) ++ r) ++ e ≡ s ++ (a ++ (r ++ e))
four s a r e = append_assoc (s ++ a) r e ∙ append_assoc s a (r ++ e)

function_first_line : (i : ℕ) → written_line (function_line i) ++ 10 ∷ [] ≡ codes "fn f" ++ decimal i ++ codes " always\n"
function_first_line i = ap (λ t. codes "fn f" ++ t) (append_assoc (decimal i) (codes " always") (10 ∷ []))

function_text : (i x : ℕ) → written_text (function_lines i x)
    ≡ (codes "fn f" ++ decimal i ++ codes " always\n") ++ (rounds_text i (round_count x) (next x) ++ codes "ret\n")
function_text i x =
    let all = flat_map round_lines (rounds i (round_count x) (next x)) in
    ap (λ t. t ++ written_text (all ++ return_line ∷ [])) (function_first_line i)
    ∙ ap (λ t. (codes "fn f" ++ decimal i ++ codes " always\n") ++ t) (written-append all (return_line ∷ []))

pub function_whole : (i x count y : ℕ) (start named looped text : List ℕ) → count ≡ round_count x → y ≡ next x
    → named ≡ start ++ (codes "fn f" ++ decimal i ++ codes " always\n") → looped ≡ named ++ rounds_text i count y → text ≡ looped ++ codes "ret\n"
    → text ≡ start ++ written_text (function_lines i x)
function_whole i x count y start named looped text counted drew first rest last =
    last
    ∙ ap (λ t. t ++ codes "ret\n") (rest ∙ ap (λ t. t ++ rounds_text i count y) first ∙ ap (λ n. (start ++ (codes "fn f" ++ decimal i ++ codes " always\n")) ++ rounds_text i n y) counted
    ∙ ap (λ z. (start ++ (codes "fn f" ++ decimal i ++ codes " always\n")) ++ rounds_text i (round_count x) z) drew)
    ∙ four start (codes "fn f" ++ decimal i ++ codes " always\n") (rounds_text i (round_count x) (next x)) (codes "ret\n")
    ∙ ap (λ t. start ++ t) (sym (function_text i x))

pub after_function_whole : (i x count y z : ℕ) → count ≡ round_count x → y ≡ next x → z ≡ after_rounds i count y → z ≡ after_function i x
after_function_whole i x count y z counted drew looped =
    looped ∙ ap (λ n. after_rounds i n y) counted ∙ ap (λ w. after_rounds i (round_count x) w) drew
