-- The texts that print a thread's end.
use Rattle.std.specs.Prelude.{ℕ, List, [], ◌∷◌, ◌++◌, Bool, true, false, codes, decimal, slice_index, ◌/◌, ◌%◌}
use Rattle.std.specs.Fmt.{digits}
use Rattle.std.specs.List.{flat_map}
use Rattle.handler_word.specs.declared.mark.Mark.{Mark}
use Rattle.handler_word.specs.Runs.{runs_text}
use Rattle.machine_step.specs.declared.end.End.{End}
use Rattle.machine_step.specs.declared.end.End.TheVariants as ends
use Rattle.machine_step.specs.PlainStep.{State}

abbrev pub end_text : End → List ℕ
end_text ends.Returned = codes "returned"
end_text ends.Fuel = codes "fuel"
end_text ends.Passings = codes "passings"
end_text ends.OutputFull = codes "output-full"
end_text ends.StackFull = codes "stack-full"
end_text ends.StackEmpty = codes "stack-empty"
end_text ends.BadTarget = codes "bad-target"

-- lower-case hexadecimal, without leading zeros
abbrev pub short_hexadecimal : ℕ → List ℕ
short_hexadecimal n = digits 16 false n

-- the registers that are printed, by their numbers
abbrev pub printed_registers : List (List ℕ × ℕ)
printed_registers =
    (codes "rax=", 0) ∷ (codes "rcx=", 1) ∷ (codes "rdx=", 2) ∷ (codes "rbx=", 3) ∷ (codes "rbp=", 5) ∷ (codes "rsi=", 6)
    ∷ (codes "rdi=", 7) ∷ (codes "r8=", 8) ∷ (codes "r9=", 9) ∷ (codes "r11=", 11) ∷ (codes "r12=", 12) ∷ (codes "r13=", 13)
    ∷ (codes "r14=", 14) ∷ (codes "r15=", 15) ∷ []

abbrev pub register_text : List ℕ → List ℕ × ℕ → List ℕ
register_text registers (name, n) = name ++ short_hexadecimal (slice_index registers n) ++ codes " "

abbrev pub flag_text : Bool → List ℕ
flag_text true = codes "zf=1"
flag_text false = codes "zf=0"

-- two digits per byte, or - if there are none
abbrev pub hex_byte : ℕ → List ℕ
hex_byte b = short_hexadecimal (b / 16) ++ short_hexadecimal (b % 16)

abbrev pub output_text : List ℕ → List ℕ
output_text [] = codes "-"
output_text (b ∷ bytes) = flat_map hex_byte (b ∷ bytes)

abbrev pub line_feed : List ℕ
line_feed = 10 ∷ []

-- the end, with these counts of instructions and passings
abbrev pub counts_text : ℕ → End → ℕ → ℕ → List ℕ
counts_text thread end instructions passings =
    codes "thread " ++ decimal thread ++ codes " " ++ end_text end
    ++ codes " instructions " ++ decimal instructions ++ codes " passings " ++ decimal passings ++ line_feed

-- the end and the counts
abbrev pub counts_line : ℕ → End → State → List ℕ
counts_line thread end last = counts_text thread end last.instructions last.passings

-- the registers and the zero flag
abbrev pub registers_line : List ℕ → Bool → List ℕ
registers_line registers zero_flag = flat_map (register_text registers) printed_registers ++ flag_text zero_flag ++ line_feed

-- the output
abbrev pub output_line : List ℕ → List ℕ
output_line output = codes "output " ++ output_text output ++ line_feed

-- the marks of the passings
abbrev pub marks_line : List Mark → List ℕ
marks_line marks = codes "marks " ++ runs_text marks ++ line_feed

-- the text of a plain run: three lines
abbrev pub plain_text : ℕ → End → State → List ℕ
plain_text thread end last = counts_line thread end last ++ registers_line last.registers last.zero_flag ++ output_line last.output

-- the text of a replayed thread: the same and a fourth line
abbrev pub state_text : ℕ → End → State → List Mark → List ℕ
state_text thread end last marks = plain_text thread end last ++ marks_line marks
