-- Where the units of a text's lines lie. Places count from the code's first byte.
use Rattle.std.specs.Prelude.{ℕ, suc, ◌+◌, ◌%◌, ◌||◌, ◌==◌, pos, ◌-ℤ◌, ℤ, Bool, true, false, nat_le, List, [], ◌∷◌, ◌++◌, length, map, sum_by, slice_get, Option, Some, None, option_map, unwrap_or, if◌then◌else◌}
use Rattle.std.specs.List.{flat_map, filter_map, position_or_len}
use Rattle.std.specs.Str.{bytes_eq}
use Rattle.subset_decode.specs.declared.instr.Instr.{Instr}
use Rattle.subset_decode.specs.declared.instr.Instr.TheVariants as instrs
use Rattle.xray_image.specs.Units.{Piece, Instruction, JumpSled, ReturnSled, Align, piece_bytes, sleds_in}
use Rattle.xray_image.specs.Container.{Function, MapEntry}
use Rattle.asm_text.specs.declared.statement.Choice.{Choice}
use Rattle.asm_text.specs.declared.statement.Choice.TheVariants.{ByLength, Always, Args, Never}
use Rattle.asm_text.specs.declared.statement.Branch.{Branch}
use Rattle.asm_text.specs.declared.statement.Branch.TheVariants as branches
use Rattle.asm_text.specs.Statements.{Operation, Plain, Go, TailJump, Return, Statement, Base, Entry, Func, Label, Does}

-- the lines of a text that say something, with their numbers
abbrev pub StatementLines : Type 0
StatementLines = List (ℕ × Statement)

-- ---- the parts of the code

-- a unit that its line determines, or a branch to a name
pub data UnitDraft : Type 0 where
  Fixed : (piece : Piece) → UnitDraft
  Jump : (branch : Branch) (name : List ℕ) → UnitDraft

-- the displacement of the nop in each sled
abbrev pub sled_shift : ℕ
sled_shift = 0x200

abbrev pub branch_width : Branch → ℕ
branch_width branches.Call = 5
branch_width branches.Jmp = 5
branch_width branches.Jnz = 6

-- the length of a part in bytes
abbrev pub width : UnitDraft → ℕ
width (Fixed piece) = length (piece_bytes piece)
width (Jump branch name) = branch_width branch

abbrev pub widths : List UnitDraft → ℕ
widths parts = sum_by width parts

-- a sled at an odd place gets an alignment byte before it
abbrev pub aligned : ℕ → Piece → List UnitDraft
aligned place sled = if place % 2 == 0 then Fixed sled ∷ [] else Fixed Align ∷ Fixed sled ∷ []

-- the parts of an instruction line in a function that isn't instrumented, and in one that is
abbrev pub plain_parts : Operation → List UnitDraft
plain_parts (Plain instr) = Fixed (Instruction instr) ∷ []
plain_parts (Go branch name) = Jump branch name ∷ []
plain_parts (TailJump name) = Jump branches.Jmp name ∷ []
plain_parts Return = Fixed (Instruction instrs.Ret) ∷ []

abbrev pub traced_parts : ℕ → Operation → List UnitDraft
traced_parts place (Plain instr) = Fixed (Instruction instr) ∷ []
traced_parts place (Go branch name) = Jump branch name ∷ []
traced_parts place (TailJump name) = aligned place (JumpSled sled_shift) ++ Jump branches.Jmp name ∷ []
traced_parts place Return = aligned place (ReturnSled sled_shift)

-- the parts of a line, by whether its function is instrumented and where the line begins
abbrev pub parts_of_line : Bool → ℕ → Statement → List UnitDraft
parts_of_line traced place (Base address) = []
parts_of_line traced place (Entry name) = []
parts_of_line traced place (Func name choice) = if traced then aligned place (JumpSled sled_shift) else []
parts_of_line traced place (Label name) = []
parts_of_line traced place (Does operation) = if traced then traced_parts place operation else plain_parts operation

-- ---- which functions are instrumented

abbrev pub is_function : Statement → Bool
is_function (Func name choice) = true
is_function statement = false

abbrev pub is_instruction : Statement → Bool
is_instruction (Does operation) = true
is_instruction statement = false

-- how many instruction lines there are before the next function
abbrev pub instruction_lines : StatementLines → ℕ
instruction_lines [] = 0
instruction_lines (line ∷ following) =
    if is_function line.1 then 0 else if is_instruction line.1 then suc (instruction_lines following) else instruction_lines following

-- which functions are instrumented, by what they say and by their numbers of instruction lines
abbrev pub Choosing : Type 0
Choosing = Choice → ℕ → Bool

-- those that say always or args, and those that say nothing and have at least as many instruction lines as the
-- threshold
abbrev pub by_threshold : ℕ → Choosing
by_threshold threshold Always count = true
by_threshold threshold Args count = true
by_threshold threshold Never count = false
by_threshold threshold ByLength count = nat_le threshold count

-- all that don't say never
abbrev pub unless_never : Choosing
unless_never Always count = true
unless_never Args count = true
unless_never Never count = false
unless_never ByLength count = true

-- ---- places

-- the function that a line belongs to: whether it is instrumented, whether it always is, and where it starts
pub record LineOwner : Type 0 where
  pub traced : Bool
  pub always : Bool
  pub start : ℕ

abbrev pub no_owner : LineOwner
no_owner = record { traced = false; always = false; start = 0 }

-- a function that says always or args is always instrumented
abbrev pub is_always : Choice → Bool
is_always ByLength = false
is_always Always = true
is_always Args = true
is_always Never = false

-- a function that begins at a place; an instrumented one starts with its entry sled, after any alignment byte
abbrev pub owner_at : Bool → Choice → ℕ → LineOwner
owner_at traced choice place =
    record { traced = traced; always = is_always choice; start = if traced then place + place % 2 else place }

-- the function that a line belongs to, by that of the line before it and by the lines after it
abbrev pub owner_of : Choosing → ℕ → LineOwner → Statement → StatementLines → LineOwner
owner_of chosen place owner (Base address) following = owner
owner_of chosen place owner (Entry name) following = owner
owner_of chosen place owner (Func name choice) following = owner_at (chosen choice (instruction_lines following)) choice place
owner_of chosen place owner (Label name) following = owner
owner_of chosen place owner (Does operation) following = owner

-- a line with its function and the place where it begins
pub record Placed : Type 0 where
  pub line : ℕ
  pub statement : Statement
  pub owner : LineOwner
  pub place : ℕ

abbrev pub parts_at : Placed → List UnitDraft
parts_at p = parts_of_line p.owner.traced p.place p.statement

-- the first line begins at 0, and each other one after the parts of the line before it
abbrev pub placed_from : Choosing → ℕ → LineOwner → StatementLines → List Placed
placed_from chosen place owner [] = []
placed_from chosen place owner (line ∷ following) =
    let here = owner_of chosen place owner line.1 following in
    record { line = line.0; statement = line.1; owner = here; place = place }
    ∷ placed_from chosen (place + widths (parts_of_line here.traced place line.1)) here following

abbrev pub lines_placed : Choosing → StatementLines → List Placed
lines_placed chosen lines = placed_from chosen 0 no_owner lines

-- all parts, one after the other
abbrev pub all_parts : Choosing → StatementLines → List UnitDraft
all_parts chosen lines = flat_map parts_at (lines_placed chosen lines)

abbrev pub sleds_of_part : UnitDraft → ℕ
sleds_of_part (Fixed piece) = sleds_in piece
sleds_of_part (Jump branch name) = 0

-- ---- names

-- whether a statement gives a function, or a label, this name
abbrev pub names_function : List ℕ → Statement → Bool
names_function name (Base address) = false
names_function name (Entry other) = false
names_function name (Func other choice) = bytes_eq other name
names_function name (Label other) = false
names_function name (Does operation) = false

abbrev pub names_label : List ℕ → Statement → Bool
names_label name (Base address) = false
names_label name (Entry other) = false
names_label name (Func other choice) = false
names_label name (Label other) = bytes_eq other name
names_label name (Does operation) = false

abbrev pub defines : List ℕ → Statement → Bool
defines name statement = names_function name statement || names_label name statement

-- the place that a line gives: that of an instruction line's first byte, which may be an alignment byte, or a
-- function's start
abbrev pub own_place : Placed → Option ℕ
own_place p =
    if is_function p.statement then Some p.owner.start else if is_instruction p.statement then Some p.place else None

-- the place of the next instruction line or function
abbrev pub next_place : List Placed → Option ℕ
next_place lines = slice_get (filter_map own_place lines) 0

-- the place of a name: a function's start, or for a label the place of the next instruction line or function after it
abbrev pub place_of : List ℕ → List Placed → Option ℕ
place_of name [] = None
place_of name (p ∷ following) = if defines name p.statement then next_place (p ∷ following) else place_of name following

-- ---- the program

abbrev pub branch_to : Branch → ℤ → Instr
branch_to branches.Call rel = instrs.Call rel
branch_to branches.Jmp rel = instrs.Jmp rel
branch_to branches.Jnz rel = instrs.Jnz rel

-- A part as a unit. A branch is the last part of its line, so its distance counts from the end of the line.
abbrev pub piece_of : List Placed → ℕ → UnitDraft → Piece
piece_of lines following (Fixed piece) = piece
piece_of lines following (Jump branch name) =
    Instruction (branch_to branch (pos (unwrap_or (place_of name lines) 0) -ℤ pos following))

abbrev pub line_pieces : List Placed → Placed → List Piece
line_pieces lines p = map (piece_of lines (p.place + widths (parts_at p))) (parts_at p)

abbrev pub pieces : List Placed → List Piece
pieces lines = flat_map (line_pieces lines) lines

-- the function that a line begins, at its start
abbrev pub function_in : ℕ → Placed → Statement → Option Function
function_in base p (Base address) = None
function_in base p (Entry name) = None
function_in base p (Func name choice) = Some (record { start = base + p.owner.start; name = name })
function_in base p (Label name) = None
function_in base p (Does operation) = None

abbrev pub functions : ℕ → List Placed → List Function
functions base lines = filter_map (λ p. function_in base p p.statement) lines

-- the kind of the entry sled of a function: 3, with argument logging, if it says args, and otherwise 0
abbrev pub entry_kind : Choice → ℕ
entry_kind ByLength = 0
entry_kind Always = 0
entry_kind Args = 3
entry_kind Never = 0

-- the kind of the sled that a line of an instrumented function has: of its entry, 1 exit, 2 tail
abbrev pub operation_kind : Operation → Option ℕ
operation_kind (Plain instr) = None
operation_kind (Go branch name) = None
operation_kind (TailJump name) = Some 2
operation_kind Return = Some 1

abbrev pub sled_kind : Statement → Option ℕ
sled_kind (Base address) = None
sled_kind (Entry name) = None
sled_kind (Func name choice) = Some (entry_kind choice)
sled_kind (Label name) = None
sled_kind (Does operation) = operation_kind operation

-- the map entry of a sled at an address, in a function that begins at an address
abbrev pub map_entry_for : (sled function kind always : ℕ) → MapEntry
map_entry_for sled function kind always = record { sled = sled; function = function; kind = kind; always = always; version = 0 }

-- the entry of a line's sled in the sled map
abbrev pub entry_in : ℕ → Placed → Option MapEntry
entry_in base p =
    if p.owner.traced
    then option_map
    (λ kind. map_entry_for (base + (p.place + p.place % 2)) (base + p.owner.start) kind (if p.owner.always then 1 else 0))
    (sled_kind p.statement)
    else None

abbrev pub map_entries : ℕ → List Placed → List MapEntry
map_entries base lines = filter_map (entry_in base) lines

-- the address of the first byte, and the number of the entry function
abbrev pub base_in : Statement → Option ℕ
base_in (Base address) = Some address
base_in (Entry name) = None
base_in (Func name choice) = None
base_in (Label name) = None
base_in (Does operation) = None

abbrev pub entry_in_line : Statement → Option (List ℕ)
entry_in_line (Base address) = None
entry_in_line (Entry name) = Some name
entry_in_line (Func name choice) = None
entry_in_line (Label name) = None
entry_in_line (Does operation) = None

-- the base of a text that gives none
abbrev pub default_base : ℕ
default_base = 4096

abbrev pub base_of : StatementLines → ℕ
base_of lines = unwrap_or (slice_get (filter_map (λ line. base_in line.1) lines) 0) default_base

abbrev pub number_of_function : Option (List ℕ) → List Function → ℕ
number_of_function None all = 0
number_of_function (Some name) all = position_or_len (λ f. bytes_eq f.name name) all

abbrev pub entry_of : StatementLines → List Function → ℕ
entry_of lines all = number_of_function (slice_get (filter_map (λ line. entry_in_line line.1) lines) 0) all
