-- The assembler text: 64 functions. Each function except the last calls functions after it.
use Rattle.std.specs.Prelude.{ℕ, zero, suc, ◌+◌, List, [], ◌∷◌, ◌++◌, Option, Some, None, codes, decimal, nat_lt, min, if◌then◌else◌}
use Rattle.std.specs.List.{flat_map}
use Rattle.text_lines.specs.Written.{written_text}
use Rattle.soak_inputs.specs.Draws.{next, drawn}

-- ---- one function

-- The last function, 63, calls none. Each other function calls one of the next four, or the last one.
abbrev pub last_function : ℕ
last_function = 63

abbrev pub callee : (i : ℕ) → (x : ℕ) → Option ℕ
callee i x = if nat_lt i last_function then Some (min last_function (i + 1 + drawn 4 x)) else None

abbrev pub after_callee : (i : ℕ) → (x : ℕ) → ℕ
after_callee i x = if nat_lt i last_function then next x else x

-- a number is moved to a register and printed, and then a function is called
pub record Round : Type 0 where
  pub value : ℕ
  pub callee : Option ℕ

-- a round of function i; what it calls is drawn before what it prints
abbrev pub round : (i : ℕ) → (x : ℕ) → Round
round i x = record { value = drawn 256 (after_callee i x); callee = callee i x }

abbrev pub after_round : (i : ℕ) → (x : ℕ) → ℕ
after_round i x = next (after_callee i x)

unfoldable pub rounds : (i count : ℕ) → (x : ℕ) → List Round
rounds i zero x = []
rounds i (suc count) x = round i x ∷ rounds i count (after_round i x)

unfoldable pub after_rounds : (i count : ℕ) → (x : ℕ) → ℕ
after_rounds i zero x = x
after_rounds i (suc count) x = after_rounds i count (after_round i x)

-- a function has one round or two
abbrev pub round_count : ℕ → ℕ
round_count x = 1 + drawn 2 x

abbrev pub after_function : (i : ℕ) → (x : ℕ) → ℕ
after_function i x = after_rounds i (round_count x) (next x)

-- ---- its lines, each as its words

abbrev pub function_name : ℕ → List ℕ
function_name i = codes "f" ++ decimal i

abbrev pub function_line : ℕ → List (List ℕ)
function_line i = codes "fn" ∷ function_name i ∷ codes "always" ∷ []

abbrev pub call_lines : Option ℕ → List (List (List ℕ))
call_lines None = []
call_lines (Some j) = (codes "call" ∷ function_name j ∷ []) ∷ []

abbrev pub round_lines : Round → List (List (List ℕ))
round_lines r = (codes "mov" ∷ codes "eax," ∷ decimal r.value ∷ []) ∷ (codes "out" ∷ codes "1" ∷ []) ∷ call_lines r.callee

abbrev pub return_line : List (List ℕ)
return_line = codes "ret" ∷ []

abbrev pub function_lines : (i : ℕ) → (x : ℕ) → List (List (List ℕ))
function_lines i x = function_line i ∷ flat_map round_lines (rounds i (round_count x) (next x)) ++ return_line ∷ []

-- ---- the text

-- the lines of this many functions, from function i on
unfoldable pub functions_lines : (i count : ℕ) → (x : ℕ) → List (List (List ℕ))
functions_lines i zero x = []
functions_lines i (suc count) x = function_lines i x ++ functions_lines (i + 1) count (after_function i x)

unfoldable pub after_functions : (i count : ℕ) → (x : ℕ) → ℕ
after_functions i zero x = x
after_functions i (suc count) x = after_functions (i + 1) count (after_function i x)

abbrev pub base_line : List (List ℕ)
base_line = codes "base" ∷ codes "0x1000" ∷ []

-- all lines
abbrev pub all_lines : ℕ → List (List (List ℕ))
all_lines x = base_line ∷ functions_lines 0 64 x

-- the text, and the state after it
abbrev pub assembler_text : ℕ → List ℕ
assembler_text x = written_text (all_lines x)

abbrev pub after_text : ℕ → ℕ
after_text x = after_functions 0 64 x
