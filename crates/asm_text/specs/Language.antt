-- The lines of the language: which words say what.
use Rattle.std.specs.Prelude.{ℕ, List, [], ◌∷◌, Option, Some, None, codes, option_map, option_and_then}
use Rattle.text_lines.specs.Keywords.{in_table}
use Rattle.subset_decode.specs.declared.instr.Instr.{Instr}
use Rattle.subset_decode.specs.declared.instr.Instr.TheVariants as instrs
use Rattle.asm_text.specs.declared.statement.Choice.{Choice}
use Rattle.asm_text.specs.declared.statement.Choice.TheVariants.{ByLength, Always, Args, Never}
use Rattle.asm_text.specs.declared.statement.Branch.TheVariants as branches
use Rattle.asm_text.specs.declared.keyword.Keyword.{Keyword}
use Rattle.asm_text.specs.declared.keyword.Keyword.TheVariants as words
use Rattle.asm_text.specs.Numbers.{number_written}
use Rattle.asm_text.specs.Names.{name_written, before_end}
use Rattle.asm_text.specs.Registers.{register32, register64, before_comma}
use Rattle.asm_text.specs.Statements.{Plain, Go, TailJump, Return, Statement, Base, Entry, Func, Label, Does}

-- the first words of lines, except labels
abbrev pub statement_keywords : List (List ℕ × Keyword)
statement_keywords =
    (codes "base", words.Base) ∷ (codes "entry", words.Entry) ∷ (codes "fn", words.Function)
    ∷ (codes "mov", words.Mov) ∷ (codes "add", words.Add) ∷ (codes "sub", words.Sub)
    ∷ (codes "push", words.Push) ∷ (codes "pop", words.Pop)
    ∷ (codes "call", words.Call) ∷ (codes "jmp", words.Jmp) ∷ (codes "jnz", words.Jnz)
    ∷ (codes "tailjmp", words.TailJump) ∷ (codes "ret", words.Ret) ∷ (codes "out", words.Out) ∷ []

-- the keyword that a word is
abbrev pub statement_keyword_of : List ℕ → Option Keyword
statement_keyword_of word = in_table statement_keywords word

-- the words after a function's name
abbrev pub choices : List (List ℕ × Choice)
choices = (codes "always", Always) ∷ (codes "never", Never) ∷ (codes "args", Args) ∷ []

abbrev pub choice_of : List ℕ → Option Choice
choice_of word = in_table choices word

-- an instruction on two registers, destination first
abbrev pub on_two_registers : (ℕ → ℕ → Instr) → List ℕ → List ℕ → Option Statement
on_two_registers instr first second =
    option_and_then (λ dst. option_map (λ src. Does (Plain (instr dst src))) (register64 second))
    (option_and_then register64 (before_comma first))

-- a move of a number
abbrev pub move : List ℕ → List ℕ → Option Statement
move first second =
    option_and_then (λ dst. option_map (λ imm. Does (Plain (instrs.Mov dst imm))) (number_written second))
    (option_and_then register32 (before_comma first))

-- what a keyword keyword_says with the words after it
abbrev pub keyword_says : Keyword → List (List ℕ) → Option Statement
keyword_says words.Base (number ∷ []) = option_map Base (number_written number)
keyword_says words.Entry (name ∷ []) = option_map Entry (name_written name)
keyword_says words.Function (name ∷ []) = option_map (λ n. Func n ByLength) (name_written name)
keyword_says words.Function (name ∷ choice ∷ []) =
    option_and_then (λ n. option_map (λ c. Func n c) (choice_of choice)) (name_written name)
keyword_says words.Mov (dst ∷ number ∷ []) = move dst number
keyword_says words.Add (dst ∷ src ∷ []) = on_two_registers instrs.Add dst src
keyword_says words.Sub (dst ∷ src ∷ []) = on_two_registers instrs.Sub dst src
keyword_says words.Push (reg ∷ []) = option_map (λ r. Does (Plain (instrs.Push r))) (register64 reg)
keyword_says words.Pop (reg ∷ []) = option_map (λ r. Does (Plain (instrs.Pop r))) (register64 reg)
keyword_says words.Call (name ∷ []) = option_map (λ n. Does (Go branches.Call n)) (name_written name)
keyword_says words.Jmp (name ∷ []) = option_map (λ n. Does (Go branches.Jmp n)) (name_written name)
keyword_says words.Jnz (name ∷ []) = option_map (λ n. Does (Go branches.Jnz n)) (name_written name)
keyword_says words.TailJump (name ∷ []) = option_map (λ n. Does (TailJump n)) (name_written name)
keyword_says words.Ret [] = Some (Does Return)
keyword_says words.Out (number ∷ []) = option_map (λ n. Does (Plain (instrs.Out n))) (number_written number)
keyword_says keyword following = None

-- a label: a name and a colon (58), by itself in a line
abbrev pub label_of : List ℕ → List (List ℕ) → Option Statement
label_of word [] = option_map Label (option_and_then name_written (before_end 58 word))
label_of word (next ∷ following) = None

-- a line that begins with a keyword, or a label
abbrev pub statement_of_line : Option Keyword → List ℕ → List (List ℕ) → Option Statement
statement_of_line (Some keyword) word following = keyword_says keyword following
statement_of_line None word following = label_of word following

-- what the words of a line say
abbrev pub statement_of : List (List ℕ) → Option Statement
statement_of [] = None
statement_of (word ∷ following) = statement_of_line (statement_keyword_of word) word following
