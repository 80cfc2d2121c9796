-- What is true of every statement of a text that was read.
use Rattle.std.proofs.Common.{◌≡◌, ℕ, zero, suc, ◌%◌, ◌<◌, ◌≤◌, Bool, true, false, cond, not, ◌&&◌, List, [], ◌∷◌, ◌++◌, length, get_or, Option, Some, None, refl, sym, subst, arith, eqb, ltb, leb}
use Rattle.std.specs.Prelude.{⊤, is_some, find, Result, Ok, Err, option_map, option_and_then, slice_get, unwrap_or}
use Rattle.std.specs.List.{list_all, filter_map, cons_option, AllByRecursion}
use Rattle.std.specs.Str.{bytes_eq}
use Rattle.std.proofs.lemmas.Bool.{ltb-false, leb-true, eqb-true, eqb-false, and_parts, or_parts, not-false}
use Rattle.xray_io.specs.Rows.{◌>>=◌}
use Rattle.text_lines.specs.Words.{is_clean, words_of}
use Rattle.asm_text.specs.declared.fault.AsmFault.{AsmFault}
use Rattle.asm_text.specs.declared.fault.AsmFault.TheVariants as faults
use Rattle.asm_text.specs.declared.keyword.Keyword.{Keyword}
use Rattle.asm_text.specs.declared.keyword.Keyword.TheVariants as words
use Rattle.asm_text.specs.declared.statement.Choice.{Choice}
use Rattle.asm_text.specs.declared.statement.Choice.TheVariants.{ByLength}
use Rattle.xray_image.specs.Program.{is_name_byte}
use Rattle.subset_decode.specs.declared.instr.Instr.{Instr}
use Rattle.subset_decode.specs.declared.instr.Instr.TheVariants as instrs
use Rattle.subset_decode.specs.Registers.{is_reserved, IsRegister}
use Rattle.subset_decode.specs.Encoding.{registers, reserved_register, IsNamed}
use Rattle.asm_text.proofs.NameLemmas.{position_within}
use Rattle.asm_text.specs.declared.statement.Branch.TheVariants as branches
use Rattle.asm_text.specs.Numbers.{number_written}
use Rattle.asm_text.specs.Registers.{register32, register64, before_comma, names32, names64, number_in, reserved, either}
use Rattle.asm_text.specs.Names.{is_name, is_decimal, name_written, before_end}
use Rattle.asm_text.specs.Statements.{Operation, Plain, Go, TailJump, Return, Statement, Base, Entry, Func, Label, Does}
use Rattle.asm_text.specs.Language.{keyword_says, label_of, statement_of_line, statement_keyword_of, statement_of, choice_of}
use Rattle.asm_text.specs.declared.layout.Laid.{Laid}
use Rattle.asm_text.specs.Layout.{StatementLines, base_in, base_of}
use Rattle.asm_text.specs.private.Views.{statement_said}
use Rattle.asm_text.specs.private.Laying.{lines_of, placed_in}
use Rattle.asm_text.specs.private.Files.{HasShortName}
use Rattle.asm_text.specs.private.Fits.{Fits, OperationFits, AllFit}
use Rattle.asm_text.specs.Refusals.{statement_judged, statement_spoken, with_words, statement_with_line, read_statements, is_statement_misplaced, names_reserved, operation_reserves, operation_exceeds, is_wide, is_out_of_range, repeats, exceeds_limits}

-- none of the instructions that go to no name is a branch
abbrev pub NamesNoPlace : Instr → Type 0
NamesNoPlace (instrs.Mov dst imm) = ⊤
NamesNoPlace (instrs.Add dst src) = ⊤
NamesNoPlace (instrs.Sub dst src) = ⊤
NamesNoPlace (instrs.Push reg) = ⊤
NamesNoPlace (instrs.Pop reg) = ⊤
NamesNoPlace (instrs.Call rel) = ⊥
NamesNoPlace (instrs.Jmp rel) = ⊥
NamesNoPlace (instrs.Jnz rel) = ⊥
NamesNoPlace instrs.Ret = ⊤
NamesNoPlace (instrs.Out port) = ⊤

-- the registers of an instruction are among the sixteen
abbrev pub AllSmall : List ℕ → Type 0
AllSmall [] = ⊤
AllSmall (r ∷ rs) = (r < 16) × AllSmall rs

abbrev pub SmallRegisters : Operation → Type 0
SmallRegisters (Plain instr) = AllSmall (registers instr) × NamesNoPlace instr
SmallRegisters (Go branch name) = ⊤
SmallRegisters (TailJump name) = ⊤
SmallRegisters Return = ⊤

-- a function's name is a name, and registers are among the sixteen
abbrev pub IsShort : Statement → Type 0
IsShort (Base address) = ⊤
IsShort (Entry name) = ⊤
IsShort (Func name choice) = is_name name ≡ true
IsShort (Label name) = ⊤
IsShort (Does operation) = SmallRegisters operation

abbrev pub SaysShort : Option Statement → Type 0
SaysShort None = ⊤
SaysShort (Some s) = IsShort s

mapped : {X : Type 0} (f : X → Statement) (o : Option X) → ((x : X) → o ≡ Some x → IsShort (f x)) → SaysShort (option_map f o)
mapped f None h = tt
mapped f (Some x) h = h x refl

chained : {X Y : Type 0} (f : X → Y → Statement) (g : Option Y) (o : Option X) → ((x : X) (y : Y) → o ≡ Some x → g ≡ Some y → IsShort (f x y)) → SaysShort (option_and_then (λ x. option_map (λ y. f x y) g) o)
chained f g None h = tt
chained f g (Some x) h = mapped (λ y. f x y) g (λ y e. h x y refl e)

-- the registers that words name are among the sixteen
position_small : (names : List (List ℕ)) (word : List ℕ) (i : ℕ) → number_in names word ≡ Some i → i < length names
position_small names word i h = position_within (λ name. bytes_eq name word) names i (sym h)

reserved_small : (o : Option ℕ) (i : ℕ) → ((n : ℕ) → o ≡ Some n → n < 16) → option_and_then reserved o ≡ Some i → i < 16
reserved_small None i h e = absurd (cc e)
reserved_small (Some n) i h e = by_test (is_reserved n) e
  where
    by_test : (t : Bool) → cond t (Some n) None ≡ Some i → i < 16
    by_test true same = let at : n ≡ i = cc same in subst (λ m. m < 16) at (h n refl)
    by_test false same = absurd (cc same)

either_small : (a b : Option ℕ) (i : ℕ) → ((n : ℕ) → a ≡ Some n → n < 16) → ((n : ℕ) → b ≡ Some n → n < 16) → either a b ≡ Some i → i < 16
either_small None b i ha hb e = hb i e
either_small (Some n) b i ha hb e = ha i e

small32 : (word : List ℕ) (i : ℕ) → register32 word ≡ Some i → i < 16
small32 word i e =
    either_small (number_in names32 word) (option_and_then reserved (number_in names64 word)) i (position_small names32 word)
    (λ n. reserved_small (number_in names64 word) n (position_small names64 word)) e

small64 : (word : List ℕ) (i : ℕ) → register64 word ≡ Some i → i < 16
small64 word i e =
    either_small (number_in names64 word) (option_and_then reserved (number_in names32 word)) i (position_small names64 word)
    (λ n. reserved_small (number_in names32 word) n (position_small names32 word)) e

before_comma_small : (register : List ℕ → Option ℕ) → ((word : List ℕ) (i : ℕ) → register word ≡ Some i → i < 16)
    → (o : Option (List ℕ)) (i : ℕ) → option_and_then register o ≡ Some i → i < 16
before_comma_small register small None i e = absurd (cc e)
before_comma_small register small (Some word) i e = small word i e

name_short : (word : List ℕ) → is_name word ≡ true → length word ≤ 255
name_short word h =
    let a = and_parts ((leb 1 (length word) && leb (length word) 255) && not (is_decimal (get_or word 0 0))) (list_all is_name_byte word) h in
    let b = and_parts (leb 1 (length word) && leb (length word) 255) (not (is_decimal (get_or word 0 0))) a.0 in
    leb-true (length word) 255 (and_parts (leb 1 (length word)) (leb (length word) 255) b.0).1

named : (word : List ℕ) (choice : Choice) → SaysShort (option_map (λ n. Func n choice) (name_written word))
named word choice = by_name (is_name word) refl
  where
    by_name : (t : Bool) → is_name word ≡ t → SaysShort (option_map (λ n. Func n choice) (cond t (Some word) None))
    by_name true h = h
    by_name false h = tt

chosen : (word : List ℕ) (choice : Option Choice) → SaysShort (option_and_then (λ n. option_map (λ c. Func n c) choice) (name_written word))
chosen word choice = by_name (is_name word) refl
  where
    by_name : (t : Bool) → is_name word ≡ t → SaysShort (option_and_then (λ n. option_map (λ c. Func n c) choice) (cond t (Some word) None))
    by_name true h = mapped (λ c. Func word c) choice (λ _ _. h)
    by_name false h = tt

says_short : (keyword : Keyword) (following : List (List ℕ)) → SaysShort (keyword_says keyword following)
says_short words.Base (number ∷ []) = mapped Base (number_written number) (λ _ _. tt)
says_short words.Entry (name ∷ []) = mapped Entry (name_written name) (λ _ _. tt)
says_short words.Function (name ∷ []) = named name ByLength
says_short words.Function (name ∷ choice ∷ []) = chosen name (choice_of choice)
says_short words.Mov (dst ∷ number ∷ []) =
    chained (λ r n. Does (Plain (instrs.Mov r n))) (number_written number) (option_and_then register32 (before_comma dst))
    (λ r n at _. ((before_comma_small register32 small32 (before_comma dst) r at, tt), tt))
says_short words.Add (dst ∷ src ∷ []) =
    chained (λ r s. Does (Plain (instrs.Add r s))) (register64 src) (option_and_then register64 (before_comma dst))
    (λ r s at to. ((before_comma_small register64 small64 (before_comma dst) r at, (small64 src s to, tt)), tt))
says_short words.Sub (dst ∷ src ∷ []) =
    chained (λ r s. Does (Plain (instrs.Sub r s))) (register64 src) (option_and_then register64 (before_comma dst))
    (λ r s at to. ((before_comma_small register64 small64 (before_comma dst) r at, (small64 src s to, tt)), tt))
says_short words.Push (reg ∷ []) = mapped (λ r. Does (Plain (instrs.Push r))) (register64 reg) (λ r at. ((small64 reg r at, tt), tt))
says_short words.Pop (reg ∷ []) = mapped (λ r. Does (Plain (instrs.Pop r))) (register64 reg) (λ r at. ((small64 reg r at, tt), tt))
says_short words.Call (name ∷ []) = mapped (λ n. Does (Go branches.Call n)) (name_written name) (λ _ _. tt)
says_short words.Jmp (name ∷ []) = mapped (λ n. Does (Go branches.Jmp n)) (name_written name) (λ _ _. tt)
says_short words.Jnz (name ∷ []) = mapped (λ n. Does (Go branches.Jnz n)) (name_written name) (λ _ _. tt)
says_short words.TailJump (name ∷ []) = mapped (λ n. Does (TailJump n)) (name_written name) (λ _ _. tt)
says_short words.Ret [] = tt
says_short words.Out (number ∷ []) = mapped (λ n. Does (Plain (instrs.Out n))) (number_written number) (λ _ _. (tt, tt))
says_short keyword following = tt

label_short : (word : List ℕ) (following : List (List ℕ)) → SaysShort (label_of word following)
label_short word [] = mapped Label (option_and_then name_written (before_end 58 word)) (λ _ _. tt)
label_short word (next ∷ following) = tt

-- the statement of a line
pub line_short : (keyword : Option Keyword) (word : List ℕ) (following : List (List ℕ)) → SaysShort (statement_of_line keyword word following)
line_short None word following = label_short word following
line_short (Some keyword) word following = says_short keyword following

-- a register among the sixteen that isn't reserved can be named
register_fits : (n : ℕ) → n < 16 → is_reserved n ≡ false → IsRegister n
register_fits n small free =
    let parts = or_parts (eqb n 4) (eqb n 10) free in
    (small, eqb-false n 4 parts.0, eqb-false n 10 parts.1)

reserved_first : (r : ℕ) (rs : List ℕ) (t : Bool) → is_reserved r ≡ t → r < 16 → (is_some (find is_reserved rs) ≡ false → AllByRecursion IsRegister rs)
    → is_some (cond t (Some r) (find is_reserved rs)) ≡ false → AllByRecursion IsRegister (r ∷ rs)
reserved_first r rs true here small rest e = absurd (cc e)
reserved_first r rs false here small rest e = (register_fits r small here, rest e)

none_reserved : (rs : List ℕ) → is_some (find is_reserved rs) ≡ false → AllSmall rs → AllByRecursion IsRegister rs
none_reserved [] free small = tt
none_reserved (r ∷ rs) free small = reserved_first r rs (is_reserved r) refl small.0 (λ e. none_reserved rs e small.1) free

instr_fits : (instr : Instr) → AllSmall (registers instr) → NamesNoPlace instr → is_some (reserved_register instr) ≡ false → is_wide instr ≡ false → IsNamed instr
instr_fits (instrs.Mov dst imm) small plain free narrow =
    let named = none_reserved (dst ∷ []) free small in (named.0, omega (arith, ltb-false 4294967295 imm narrow))
instr_fits (instrs.Add dst src) small plain free narrow = let named = none_reserved (dst ∷ src ∷ []) free small in (named.0, named.1.0)
instr_fits (instrs.Sub dst src) small plain free narrow = let named = none_reserved (dst ∷ src ∷ []) free small in (named.0, named.1.0)
instr_fits (instrs.Push reg) small plain free narrow = (none_reserved (reg ∷ []) free small).0
instr_fits (instrs.Pop reg) small plain free narrow = (none_reserved (reg ∷ []) free small).0
instr_fits (instrs.Call rel) small plain free narrow = absurd plain
instr_fits (instrs.Jmp rel) small plain free narrow = absurd plain
instr_fits (instrs.Jnz rel) small plain free narrow = absurd plain
instr_fits instrs.Ret small plain free narrow = tt
instr_fits (instrs.Out port) small plain free narrow = omega (arith, ltb-false 255 port narrow)

operation_fits : (operation : Operation) → SmallRegisters operation → operation_reserves operation ≡ false → operation_exceeds operation ≡ false → OperationFits operation
operation_fits (Plain instr) small free narrow = instr_fits instr small.0 small.1 free narrow
operation_fits (Go branch name) small free narrow = tt
operation_fits (TailJump name) small free narrow = tt
operation_fits Return small free narrow = tt

fits_from : (s : Statement) → IsShort s → names_reserved s ≡ false → is_out_of_range s ≡ false → Fits s
fits_from (Base address) short free range =
    let parts = or_parts (not (eqb (address % 16) 0)) (ltb 0x7FFF00000000 address) range in
    (eqb-true (address % 16) 0 (not-false (eqb (address % 16) 0) parts.0), ltb-false 0x7FFF00000000 address parts.1)
fits_from (Entry name) short free range = tt
fits_from (Func name choice) short free range = name_short name short
fits_from (Label name) short free range = tt
fits_from (Does operation) short free range = operation_fits operation short free range

AllFit-more : (lines : StatementLines) (number : ℕ) (s : Statement) → AllFit lines → Fits s → AllFit (lines ++ (number, s) ∷ [])
AllFit-more [] number s fit h = (h, tt)
AllFit-more (line ∷ following) number s fit h = (fit.0, AllFit-more following number s fit.1 h)

abbrev pub Good : Result StatementLines AsmFault → Type 0
Good (Ok lines) = AllFit lines
Good (Err fault) = ⊤

judged_good : (before : StatementLines) (number : ℕ) (s : Statement) → AllFit before → IsShort s → Good (statement_judged before number s)
judged_good before number s fit short =
    by_tests (is_statement_misplaced before s) (names_reserved s) (is_out_of_range s) (repeats before s) (exceeds_limits (before ++ (number, s) ∷ [])) refl refl
  where
    by_tests : (m r o p e : Bool) → names_reserved s ≡ r → is_out_of_range s ≡ o
        → Good (cond m (Err (faults.Syntax number)) (cond r (Err (faults.Register number)) (cond o (Err (faults.Range number)) (cond p (Err (faults.Repeat number)) (cond e (Err (faults.Limit number)) (Ok (before ++ (number, s) ∷ [])))))))
    by_tests true r o p e free range = tt
    by_tests false true o p e free range = tt
    by_tests false false true p e free range = tt
    by_tests false false false true e free range = tt
    by_tests false false false false true free range = tt
    by_tests false false false false false free range = AllFit-more before number s fit (fits_from s short free range)

spoken_good : (before : StatementLines) (number : ℕ) (o : Option Statement) → AllFit before → SaysShort o → Good (statement_spoken before number o)
spoken_good before number None fit short = tt
spoken_good before number (Some s) fit short = judged_good before number s fit short

words_good : (before : StatementLines) (number : ℕ) (words : List (List ℕ)) → AllFit before → Good (with_words before number words)
words_good before number [] fit = fit
words_good before number (word ∷ following) fit = spoken_good before number (statement_of (word ∷ following)) fit (line_short (statement_keyword_of word) word following)

line_good : (before : StatementLines) (line : ℕ × List ℕ) → AllFit before → Good (statement_with_line before line)
line_good before (number, line) fit = by_clean (is_clean line)
  where
    by_clean : (t : Bool) → Good (cond (not t) (Err (faults.Syntax number)) (with_words before number (words_of line)))
    by_clean true = words_good before number (words_of line) fit
    by_clean false = tt

then_good : (r : Result StatementLines AsmFault) (f : StatementLines → Result StatementLines AsmFault) → Good r → ((lines : StatementLines) → AllFit lines → Good (f lines)) → Good (r >>= f)
then_good (Ok lines) f good more = more lines good
then_good (Err fault) f good more = tt

-- all that was read fits
pub read_good : (before : StatementLines) (lines : List (ℕ × List ℕ)) → AllFit before → Good (read_statements before lines)
read_good before [] fit = fit
read_good before (line ∷ following) fit = then_good (statement_with_line before line) (λ lines. read_statements lines following) (line_good before line fit) (λ lines more. read_good lines following more)

abbrev pub BaseFits : Option ℕ → Type 0
BaseFits None = ⊤
BaseFits (Some n) = (n % 16 ≡ 0) × (n ≤ 0x7FFF00000000)

base_first : (s : Statement) (bases : List ℕ) → Fits s → BaseFits (slice_get bases 0) → BaseFits (slice_get (cons_option (base_in s) bases) 0)
base_first (Base address) bases fit h = fit
base_first (Entry name) bases fit h = h
base_first (Func name choice) bases fit h = h
base_first (Label name) bases fit h = h
base_first (Does operation) bases fit h = h

first_base : (lines : StatementLines) → AllFit lines → BaseFits (slice_get (filter_map (λ line. base_in line.1) lines) 0)
first_base [] fit = tt
first_base (line ∷ following) fit = base_first line.1 (filter_map (λ line. base_in line.1) following) fit.0 (first_base following fit.1)

or_default : (o : Option ℕ) → BaseFits o → (unwrap_or o 4096 % 16 ≡ 0) × (unwrap_or o 4096 ≤ 0x7FFF00000000)
or_default None h = (refl, omega arith)
or_default (Some n) h = h

-- the base of statements that fit
pub base_fits : (lines : StatementLines) → AllFit lines → base_of lines ≤ 0x7FFF00000000
base_fits lines fit = (or_default (slice_get (filter_map (λ line. base_in line.1) lines) 0) (first_base lines fit)).1

pub base_aligned : (lines : StatementLines) → AllFit lines → base_of lines % 16 ≡ 0
base_aligned lines fit = (or_default (slice_get (filter_map (λ line. base_in line.1) lines) 0) (first_base lines fit)).0

short_from : (s : Statement) → Fits s → HasShortName s
short_from (Base address) fit = tt
short_from (Entry name) fit = tt
short_from (Func name choice) fit = fit
short_from (Label name) fit = tt
short_from (Does operation) fit = tt

-- the names of lines that fit
pub names_fit : (laid : List Laid) → AllFit (lines_of (placed_in laid)) → (i : ℕ) (d : Laid) → i < length laid → HasShortName (statement_said (get_or laid i d).statement)
names_fit [] fit i d within = absurd (omega arith)
names_fit (line ∷ following) fit zero d within = short_from (statement_said line.statement) fit.0
names_fit (line ∷ following) fit (suc i) d within = names_fit following fit.1 i d (omega arith)
