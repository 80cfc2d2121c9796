-- Small texts worked by hand: what the definitions make of them.
use Rattle.std.proofs.Common.{◌≡◌, ℕ, true, false, List, [], ◌∷◌, ◌++◌, refl}
use Rattle.std.specs.Prelude.{codes, Result, Ok, Err}
use Rattle.asm_text.specs.declared.fault.AsmFault.{AsmFault}
use Rattle.asm_text.specs.declared.fault.AsmFault.TheVariants as faults
use Rattle.asm_text.specs.Assembling.{assembled}

-- lines of ASCII text
abbrev pub text : List (List ℕ) → List ℕ
text [] = []
text (line ∷ lines) = line ++ 10 ∷ text lines

abbrev pub verdict_of : List (List ℕ) → ℕ → Result (List ℕ) AsmFault
verdict_of lines threshold = assembled (text lines) threshold false

-- a move, an output and a return
moved_byte : verdict_of (codes "base 0x1000" ∷ codes "fn main always" ∷ codes "mov eax, 65" ∷ codes "out 1" ∷ codes "ret" ∷ []) 1 ≡ Ok (88 ∷ 82 ∷ 73 ∷ 77 ∷ 1 ∷ 0 ∷ 0 ∷ 0 ∷ 0 ∷ 16 ∷ 0 ∷ 0 ∷ 0 ∷ 0 ∷ 0 ∷ 0 ∷ 29 ∷ 0 ∷ 0 ∷ 0 ∷ 1 ∷ 0 ∷ 0 ∷ 0 ∷ 2 ∷ 0 ∷ 0 ∷ 0 ∷ 0 ∷ 0 ∷ 0 ∷ 0 ∷ 0 ∷ 16 ∷ 32 ∷ 0 ∷ 0 ∷ 0 ∷ 0 ∷ 0 ∷ 16 ∷ 16 ∷ 32 ∷ 0 ∷ 0 ∷ 0 ∷ 0 ∷ 0 ∷ 32 ∷ 16 ∷ 32 ∷ 0 ∷ 0 ∷ 0 ∷ 0 ∷ 0 ∷ 48 ∷ 16 ∷ 32 ∷ 0 ∷ 0 ∷ 0 ∷ 0 ∷ 0 ∷ 235 ∷ 9 ∷ 102 ∷ 15 ∷ 31 ∷ 132 ∷ 0 ∷ 0 ∷ 2 ∷ 0 ∷ 0 ∷ 184 ∷ 65 ∷ 0 ∷ 0 ∷ 0 ∷ 230 ∷ 1 ∷ 195 ∷ 46 ∷ 102 ∷ 15 ∷ 31 ∷ 132 ∷ 0 ∷ 0 ∷ 2 ∷ 0 ∷ 0 ∷ 0 ∷ 16 ∷ 0 ∷ 0 ∷ 0 ∷ 0 ∷ 0 ∷ 0 ∷ 4 ∷ 109 ∷ 97 ∷ 105 ∷ 110 ∷ 0 ∷ 16 ∷ 0 ∷ 0 ∷ 0 ∷ 0 ∷ 0 ∷ 0 ∷ 0 ∷ 16 ∷ 0 ∷ 0 ∷ 0 ∷ 0 ∷ 0 ∷ 0 ∷ 0 ∷ 1 ∷ 0 ∷ 0 ∷ 0 ∷ 0 ∷ 0 ∷ 0 ∷ 0 ∷ 0 ∷ 0 ∷ 0 ∷ 0 ∷ 0 ∷ 0 ∷ 0 ∷ 18 ∷ 16 ∷ 0 ∷ 0 ∷ 0 ∷ 0 ∷ 0 ∷ 0 ∷ 0 ∷ 16 ∷ 0 ∷ 0 ∷ 0 ∷ 0 ∷ 0 ∷ 0 ∷ 1 ∷ 1 ∷ 0 ∷ 0 ∷ 0 ∷ 0 ∷ 0 ∷ 0 ∷ 0 ∷ 0 ∷ 0 ∷ 0 ∷ 0 ∷ 0 ∷ 0 ∷ 0 ∷ [])
moved_byte = refl

-- the same with relative addresses in its map
relative_map : assembled (text (codes "base 0x1000" ∷ codes "fn main always" ∷ codes "mov eax, 65" ∷ codes "out 1" ∷ codes "ret" ∷ [])) 1 true ≡ Ok (88 ∷ 82 ∷ 73 ∷ 77 ∷ 1 ∷ 0 ∷ 0 ∷ 0 ∷ 0 ∷ 16 ∷ 0 ∷ 0 ∷ 0 ∷ 0 ∷ 0 ∷ 0 ∷ 29 ∷ 0 ∷ 0 ∷ 0 ∷ 1 ∷ 0 ∷ 0 ∷ 0 ∷ 2 ∷ 0 ∷ 0 ∷ 0 ∷ 0 ∷ 0 ∷ 0 ∷ 0 ∷ 0 ∷ 16 ∷ 32 ∷ 0 ∷ 0 ∷ 0 ∷ 0 ∷ 0 ∷ 16 ∷ 16 ∷ 32 ∷ 0 ∷ 0 ∷ 0 ∷ 0 ∷ 0 ∷ 32 ∷ 16 ∷ 32 ∷ 0 ∷ 0 ∷ 0 ∷ 0 ∷ 0 ∷ 48 ∷ 16 ∷ 32 ∷ 0 ∷ 0 ∷ 0 ∷ 0 ∷ 0 ∷ 235 ∷ 9 ∷ 102 ∷ 15 ∷ 31 ∷ 132 ∷ 0 ∷ 0 ∷ 2 ∷ 0 ∷ 0 ∷ 184 ∷ 65 ∷ 0 ∷ 0 ∷ 0 ∷ 230 ∷ 1 ∷ 195 ∷ 46 ∷ 102 ∷ 15 ∷ 31 ∷ 132 ∷ 0 ∷ 0 ∷ 2 ∷ 0 ∷ 0 ∷ 0 ∷ 16 ∷ 0 ∷ 0 ∷ 0 ∷ 0 ∷ 0 ∷ 0 ∷ 4 ∷ 109 ∷ 97 ∷ 105 ∷ 110 ∷ 0 ∷ 0 ∷ 240 ∷ 255 ∷ 255 ∷ 255 ∷ 255 ∷ 255 ∷ 248 ∷ 255 ∷ 239 ∷ 255 ∷ 255 ∷ 255 ∷ 255 ∷ 255 ∷ 0 ∷ 1 ∷ 2 ∷ 0 ∷ 0 ∷ 0 ∷ 0 ∷ 0 ∷ 0 ∷ 0 ∷ 0 ∷ 0 ∷ 0 ∷ 0 ∷ 0 ∷ 0 ∷ 242 ∷ 255 ∷ 239 ∷ 255 ∷ 255 ∷ 255 ∷ 255 ∷ 255 ∷ 216 ∷ 255 ∷ 239 ∷ 255 ∷ 255 ∷ 255 ∷ 255 ∷ 255 ∷ 1 ∷ 1 ∷ 2 ∷ 0 ∷ 0 ∷ 0 ∷ 0 ∷ 0 ∷ 0 ∷ 0 ∷ 0 ∷ 0 ∷ 0 ∷ 0 ∷ 0 ∷ 0 ∷ [])
relative_map = refl

-- an alignment byte before the exit sled
odd_exit : verdict_of (codes "base 0x1000" ∷ codes "fn main always" ∷ codes "out 0" ∷ codes "ret" ∷ []) 1 ≡ Ok (88 ∷ 82 ∷ 73 ∷ 77 ∷ 1 ∷ 0 ∷ 0 ∷ 0 ∷ 0 ∷ 16 ∷ 0 ∷ 0 ∷ 0 ∷ 0 ∷ 0 ∷ 0 ∷ 25 ∷ 0 ∷ 0 ∷ 0 ∷ 1 ∷ 0 ∷ 0 ∷ 0 ∷ 2 ∷ 0 ∷ 0 ∷ 0 ∷ 0 ∷ 0 ∷ 0 ∷ 0 ∷ 0 ∷ 16 ∷ 32 ∷ 0 ∷ 0 ∷ 0 ∷ 0 ∷ 0 ∷ 16 ∷ 16 ∷ 32 ∷ 0 ∷ 0 ∷ 0 ∷ 0 ∷ 0 ∷ 32 ∷ 16 ∷ 32 ∷ 0 ∷ 0 ∷ 0 ∷ 0 ∷ 0 ∷ 48 ∷ 16 ∷ 32 ∷ 0 ∷ 0 ∷ 0 ∷ 0 ∷ 0 ∷ 235 ∷ 9 ∷ 102 ∷ 15 ∷ 31 ∷ 132 ∷ 0 ∷ 0 ∷ 2 ∷ 0 ∷ 0 ∷ 230 ∷ 0 ∷ 144 ∷ 195 ∷ 46 ∷ 102 ∷ 15 ∷ 31 ∷ 132 ∷ 0 ∷ 0 ∷ 2 ∷ 0 ∷ 0 ∷ 0 ∷ 16 ∷ 0 ∷ 0 ∷ 0 ∷ 0 ∷ 0 ∷ 0 ∷ 4 ∷ 109 ∷ 97 ∷ 105 ∷ 110 ∷ 0 ∷ 16 ∷ 0 ∷ 0 ∷ 0 ∷ 0 ∷ 0 ∷ 0 ∷ 0 ∷ 16 ∷ 0 ∷ 0 ∷ 0 ∷ 0 ∷ 0 ∷ 0 ∷ 0 ∷ 1 ∷ 0 ∷ 0 ∷ 0 ∷ 0 ∷ 0 ∷ 0 ∷ 0 ∷ 0 ∷ 0 ∷ 0 ∷ 0 ∷ 0 ∷ 0 ∷ 0 ∷ 14 ∷ 16 ∷ 0 ∷ 0 ∷ 0 ∷ 0 ∷ 0 ∷ 0 ∷ 0 ∷ 16 ∷ 0 ∷ 0 ∷ 0 ∷ 0 ∷ 0 ∷ 0 ∷ 1 ∷ 1 ∷ 0 ∷ 0 ∷ 0 ∷ 0 ∷ 0 ∷ 0 ∷ 0 ∷ 0 ∷ 0 ∷ 0 ∷ 0 ∷ 0 ∷ 0 ∷ 0 ∷ [])
odd_exit = refl

-- the same with argument logging at the entry
argument_entry : verdict_of (codes "base 0x1000" ∷ codes "fn main args" ∷ codes "out 0" ∷ codes "ret" ∷ []) 1 ≡ Ok (88 ∷ 82 ∷ 73 ∷ 77 ∷ 1 ∷ 0 ∷ 0 ∷ 0 ∷ 0 ∷ 16 ∷ 0 ∷ 0 ∷ 0 ∷ 0 ∷ 0 ∷ 0 ∷ 25 ∷ 0 ∷ 0 ∷ 0 ∷ 1 ∷ 0 ∷ 0 ∷ 0 ∷ 2 ∷ 0 ∷ 0 ∷ 0 ∷ 0 ∷ 0 ∷ 0 ∷ 0 ∷ 0 ∷ 16 ∷ 32 ∷ 0 ∷ 0 ∷ 0 ∷ 0 ∷ 0 ∷ 16 ∷ 16 ∷ 32 ∷ 0 ∷ 0 ∷ 0 ∷ 0 ∷ 0 ∷ 32 ∷ 16 ∷ 32 ∷ 0 ∷ 0 ∷ 0 ∷ 0 ∷ 0 ∷ 48 ∷ 16 ∷ 32 ∷ 0 ∷ 0 ∷ 0 ∷ 0 ∷ 0 ∷ 235 ∷ 9 ∷ 102 ∷ 15 ∷ 31 ∷ 132 ∷ 0 ∷ 0 ∷ 2 ∷ 0 ∷ 0 ∷ 230 ∷ 0 ∷ 144 ∷ 195 ∷ 46 ∷ 102 ∷ 15 ∷ 31 ∷ 132 ∷ 0 ∷ 0 ∷ 2 ∷ 0 ∷ 0 ∷ 0 ∷ 16 ∷ 0 ∷ 0 ∷ 0 ∷ 0 ∷ 0 ∷ 0 ∷ 4 ∷ 109 ∷ 97 ∷ 105 ∷ 110 ∷ 0 ∷ 16 ∷ 0 ∷ 0 ∷ 0 ∷ 0 ∷ 0 ∷ 0 ∷ 0 ∷ 16 ∷ 0 ∷ 0 ∷ 0 ∷ 0 ∷ 0 ∷ 0 ∷ 3 ∷ 1 ∷ 0 ∷ 0 ∷ 0 ∷ 0 ∷ 0 ∷ 0 ∷ 0 ∷ 0 ∷ 0 ∷ 0 ∷ 0 ∷ 0 ∷ 0 ∷ 0 ∷ 14 ∷ 16 ∷ 0 ∷ 0 ∷ 0 ∷ 0 ∷ 0 ∷ 0 ∷ 0 ∷ 16 ∷ 0 ∷ 0 ∷ 0 ∷ 0 ∷ 0 ∷ 0 ∷ 1 ∷ 1 ∷ 0 ∷ 0 ∷ 0 ∷ 0 ∷ 0 ∷ 0 ∷ 0 ∷ 0 ∷ 0 ∷ 0 ∷ 0 ∷ 0 ∷ 0 ∷ 0 ∷ [])
argument_entry = refl

-- alignment bytes before a function and before its exit sled, and a call over one
call_forward : verdict_of (codes "base 0x1000" ∷ codes "fn main always" ∷ codes "call f" ∷ codes "ret" ∷ codes "fn f always" ∷ codes "ret" ∷ []) 1 ≡ Ok (88 ∷ 82 ∷ 73 ∷ 77 ∷ 1 ∷ 0 ∷ 0 ∷ 0 ∷ 0 ∷ 16 ∷ 0 ∷ 0 ∷ 0 ∷ 0 ∷ 0 ∷ 0 ∷ 51 ∷ 0 ∷ 0 ∷ 0 ∷ 2 ∷ 0 ∷ 0 ∷ 0 ∷ 4 ∷ 0 ∷ 0 ∷ 0 ∷ 0 ∷ 0 ∷ 0 ∷ 0 ∷ 0 ∷ 16 ∷ 32 ∷ 0 ∷ 0 ∷ 0 ∷ 0 ∷ 0 ∷ 16 ∷ 16 ∷ 32 ∷ 0 ∷ 0 ∷ 0 ∷ 0 ∷ 0 ∷ 32 ∷ 16 ∷ 32 ∷ 0 ∷ 0 ∷ 0 ∷ 0 ∷ 0 ∷ 48 ∷ 16 ∷ 32 ∷ 0 ∷ 0 ∷ 0 ∷ 0 ∷ 0 ∷ 235 ∷ 9 ∷ 102 ∷ 15 ∷ 31 ∷ 132 ∷ 0 ∷ 0 ∷ 2 ∷ 0 ∷ 0 ∷ 232 ∷ 12 ∷ 0 ∷ 0 ∷ 0 ∷ 195 ∷ 46 ∷ 102 ∷ 15 ∷ 31 ∷ 132 ∷ 0 ∷ 0 ∷ 2 ∷ 0 ∷ 0 ∷ 144 ∷ 235 ∷ 9 ∷ 102 ∷ 15 ∷ 31 ∷ 132 ∷ 0 ∷ 0 ∷ 2 ∷ 0 ∷ 0 ∷ 144 ∷ 195 ∷ 46 ∷ 102 ∷ 15 ∷ 31 ∷ 132 ∷ 0 ∷ 0 ∷ 2 ∷ 0 ∷ 0 ∷ 0 ∷ 16 ∷ 0 ∷ 0 ∷ 0 ∷ 0 ∷ 0 ∷ 0 ∷ 4 ∷ 109 ∷ 97 ∷ 105 ∷ 110 ∷ 28 ∷ 16 ∷ 0 ∷ 0 ∷ 0 ∷ 0 ∷ 0 ∷ 0 ∷ 1 ∷ 102 ∷ 0 ∷ 16 ∷ 0 ∷ 0 ∷ 0 ∷ 0 ∷ 0 ∷ 0 ∷ 0 ∷ 16 ∷ 0 ∷ 0 ∷ 0 ∷ 0 ∷ 0 ∷ 0 ∷ 0 ∷ 1 ∷ 0 ∷ 0 ∷ 0 ∷ 0 ∷ 0 ∷ 0 ∷ 0 ∷ 0 ∷ 0 ∷ 0 ∷ 0 ∷ 0 ∷ 0 ∷ 0 ∷ 16 ∷ 16 ∷ 0 ∷ 0 ∷ 0 ∷ 0 ∷ 0 ∷ 0 ∷ 0 ∷ 16 ∷ 0 ∷ 0 ∷ 0 ∷ 0 ∷ 0 ∷ 0 ∷ 1 ∷ 1 ∷ 0 ∷ 0 ∷ 0 ∷ 0 ∷ 0 ∷ 0 ∷ 0 ∷ 0 ∷ 0 ∷ 0 ∷ 0 ∷ 0 ∷ 0 ∷ 0 ∷ 28 ∷ 16 ∷ 0 ∷ 0 ∷ 0 ∷ 0 ∷ 0 ∷ 0 ∷ 28 ∷ 16 ∷ 0 ∷ 0 ∷ 0 ∷ 0 ∷ 0 ∷ 0 ∷ 0 ∷ 1 ∷ 0 ∷ 0 ∷ 0 ∷ 0 ∷ 0 ∷ 0 ∷ 0 ∷ 0 ∷ 0 ∷ 0 ∷ 0 ∷ 0 ∷ 0 ∷ 0 ∷ 40 ∷ 16 ∷ 0 ∷ 0 ∷ 0 ∷ 0 ∷ 0 ∷ 0 ∷ 28 ∷ 16 ∷ 0 ∷ 0 ∷ 0 ∷ 0 ∷ 0 ∷ 0 ∷ 1 ∷ 1 ∷ 0 ∷ 0 ∷ 0 ∷ 0 ∷ 0 ∷ 0 ∷ 0 ∷ 0 ∷ 0 ∷ 0 ∷ 0 ∷ 0 ∷ 0 ∷ 0 ∷ [])
call_forward = refl

-- a tail jump to the next function, whose distance is 0
tail_jump : verdict_of (codes "base 0x1000" ∷ codes "fn a always" ∷ codes "tailjmp b" ∷ codes "fn b always" ∷ codes "ret" ∷ []) 1 ≡ Ok (88 ∷ 82 ∷ 73 ∷ 77 ∷ 1 ∷ 0 ∷ 0 ∷ 0 ∷ 0 ∷ 16 ∷ 0 ∷ 0 ∷ 0 ∷ 0 ∷ 0 ∷ 0 ∷ 51 ∷ 0 ∷ 0 ∷ 0 ∷ 2 ∷ 0 ∷ 0 ∷ 0 ∷ 4 ∷ 0 ∷ 0 ∷ 0 ∷ 0 ∷ 0 ∷ 0 ∷ 0 ∷ 0 ∷ 16 ∷ 32 ∷ 0 ∷ 0 ∷ 0 ∷ 0 ∷ 0 ∷ 16 ∷ 16 ∷ 32 ∷ 0 ∷ 0 ∷ 0 ∷ 0 ∷ 0 ∷ 32 ∷ 16 ∷ 32 ∷ 0 ∷ 0 ∷ 0 ∷ 0 ∷ 0 ∷ 48 ∷ 16 ∷ 32 ∷ 0 ∷ 0 ∷ 0 ∷ 0 ∷ 0 ∷ 235 ∷ 9 ∷ 102 ∷ 15 ∷ 31 ∷ 132 ∷ 0 ∷ 0 ∷ 2 ∷ 0 ∷ 0 ∷ 144 ∷ 235 ∷ 9 ∷ 102 ∷ 15 ∷ 31 ∷ 132 ∷ 0 ∷ 0 ∷ 2 ∷ 0 ∷ 0 ∷ 233 ∷ 0 ∷ 0 ∷ 0 ∷ 0 ∷ 235 ∷ 9 ∷ 102 ∷ 15 ∷ 31 ∷ 132 ∷ 0 ∷ 0 ∷ 2 ∷ 0 ∷ 0 ∷ 144 ∷ 195 ∷ 46 ∷ 102 ∷ 15 ∷ 31 ∷ 132 ∷ 0 ∷ 0 ∷ 2 ∷ 0 ∷ 0 ∷ 0 ∷ 16 ∷ 0 ∷ 0 ∷ 0 ∷ 0 ∷ 0 ∷ 0 ∷ 1 ∷ 97 ∷ 28 ∷ 16 ∷ 0 ∷ 0 ∷ 0 ∷ 0 ∷ 0 ∷ 0 ∷ 1 ∷ 98 ∷ 0 ∷ 16 ∷ 0 ∷ 0 ∷ 0 ∷ 0 ∷ 0 ∷ 0 ∷ 0 ∷ 16 ∷ 0 ∷ 0 ∷ 0 ∷ 0 ∷ 0 ∷ 0 ∷ 0 ∷ 1 ∷ 0 ∷ 0 ∷ 0 ∷ 0 ∷ 0 ∷ 0 ∷ 0 ∷ 0 ∷ 0 ∷ 0 ∷ 0 ∷ 0 ∷ 0 ∷ 0 ∷ 12 ∷ 16 ∷ 0 ∷ 0 ∷ 0 ∷ 0 ∷ 0 ∷ 0 ∷ 0 ∷ 16 ∷ 0 ∷ 0 ∷ 0 ∷ 0 ∷ 0 ∷ 0 ∷ 2 ∷ 1 ∷ 0 ∷ 0 ∷ 0 ∷ 0 ∷ 0 ∷ 0 ∷ 0 ∷ 0 ∷ 0 ∷ 0 ∷ 0 ∷ 0 ∷ 0 ∷ 0 ∷ 28 ∷ 16 ∷ 0 ∷ 0 ∷ 0 ∷ 0 ∷ 0 ∷ 0 ∷ 28 ∷ 16 ∷ 0 ∷ 0 ∷ 0 ∷ 0 ∷ 0 ∷ 0 ∷ 0 ∷ 1 ∷ 0 ∷ 0 ∷ 0 ∷ 0 ∷ 0 ∷ 0 ∷ 0 ∷ 0 ∷ 0 ∷ 0 ∷ 0 ∷ 0 ∷ 0 ∷ 0 ∷ 40 ∷ 16 ∷ 0 ∷ 0 ∷ 0 ∷ 0 ∷ 0 ∷ 0 ∷ 28 ∷ 16 ∷ 0 ∷ 0 ∷ 0 ∷ 0 ∷ 0 ∷ 0 ∷ 1 ∷ 1 ∷ 0 ∷ 0 ∷ 0 ∷ 0 ∷ 0 ∷ 0 ∷ 0 ∷ 0 ∷ 0 ∷ 0 ∷ 0 ∷ 0 ∷ 0 ∷ 0 ∷ [])
tail_jump = refl

-- labels, branches back and forward, and an entry function without sleds
fibonacci : verdict_of (codes "base 0x1000" ∷ codes "entry main" ∷ codes "fn main never" ∷ codes "mov edi, 20" ∷ codes "call fib" ∷ codes "ret" ∷ codes "fn fib always" ∷ codes "mov ecx, 0" ∷ codes "add rdi, rcx" ∷ codes "jnz nz" ∷ codes "ret" ∷ codes "nz:" ∷ codes "mov ecx, 1" ∷ codes "sub rdi, rcx" ∷ codes "jnz big" ∷ codes "add rax, rcx" ∷ codes "ret" ∷ codes "big:" ∷ codes "push rdi" ∷ codes "call fib" ∷ codes "pop rdi" ∷ codes "mov ecx, 1" ∷ codes "sub rdi, rcx" ∷ codes "call fib" ∷ codes "ret" ∷ []) 1 ≡ Ok (88 ∷ 82 ∷ 73 ∷ 77 ∷ 1 ∷ 0 ∷ 0 ∷ 0 ∷ 0 ∷ 16 ∷ 0 ∷ 0 ∷ 0 ∷ 0 ∷ 0 ∷ 0 ∷ 109 ∷ 0 ∷ 0 ∷ 0 ∷ 2 ∷ 0 ∷ 0 ∷ 0 ∷ 4 ∷ 0 ∷ 0 ∷ 0 ∷ 0 ∷ 0 ∷ 0 ∷ 0 ∷ 0 ∷ 16 ∷ 32 ∷ 0 ∷ 0 ∷ 0 ∷ 0 ∷ 0 ∷ 16 ∷ 16 ∷ 32 ∷ 0 ∷ 0 ∷ 0 ∷ 0 ∷ 0 ∷ 32 ∷ 16 ∷ 32 ∷ 0 ∷ 0 ∷ 0 ∷ 0 ∷ 0 ∷ 48 ∷ 16 ∷ 32 ∷ 0 ∷ 0 ∷ 0 ∷ 0 ∷ 0 ∷ 191 ∷ 20 ∷ 0 ∷ 0 ∷ 0 ∷ 232 ∷ 2 ∷ 0 ∷ 0 ∷ 0 ∷ 195 ∷ 144 ∷ 235 ∷ 9 ∷ 102 ∷ 15 ∷ 31 ∷ 132 ∷ 0 ∷ 0 ∷ 2 ∷ 0 ∷ 0 ∷ 185 ∷ 0 ∷ 0 ∷ 0 ∷ 0 ∷ 72 ∷ 1 ∷ 207 ∷ 15 ∷ 133 ∷ 12 ∷ 0 ∷ 0 ∷ 0 ∷ 144 ∷ 195 ∷ 46 ∷ 102 ∷ 15 ∷ 31 ∷ 132 ∷ 0 ∷ 0 ∷ 2 ∷ 0 ∷ 0 ∷ 185 ∷ 1 ∷ 0 ∷ 0 ∷ 0 ∷ 72 ∷ 41 ∷ 207 ∷ 15 ∷ 133 ∷ 14 ∷ 0 ∷ 0 ∷ 0 ∷ 72 ∷ 1 ∷ 200 ∷ 195 ∷ 46 ∷ 102 ∷ 15 ∷ 31 ∷ 132 ∷ 0 ∷ 0 ∷ 2 ∷ 0 ∷ 0 ∷ 87 ∷ 232 ∷ 185 ∷ 255 ∷ 255 ∷ 255 ∷ 95 ∷ 185 ∷ 1 ∷ 0 ∷ 0 ∷ 0 ∷ 72 ∷ 41 ∷ 207 ∷ 232 ∷ 171 ∷ 255 ∷ 255 ∷ 255 ∷ 144 ∷ 195 ∷ 46 ∷ 102 ∷ 15 ∷ 31 ∷ 132 ∷ 0 ∷ 0 ∷ 2 ∷ 0 ∷ 0 ∷ 0 ∷ 16 ∷ 0 ∷ 0 ∷ 0 ∷ 0 ∷ 0 ∷ 0 ∷ 4 ∷ 109 ∷ 97 ∷ 105 ∷ 110 ∷ 12 ∷ 16 ∷ 0 ∷ 0 ∷ 0 ∷ 0 ∷ 0 ∷ 0 ∷ 3 ∷ 102 ∷ 105 ∷ 98 ∷ 12 ∷ 16 ∷ 0 ∷ 0 ∷ 0 ∷ 0 ∷ 0 ∷ 0 ∷ 12 ∷ 16 ∷ 0 ∷ 0 ∷ 0 ∷ 0 ∷ 0 ∷ 0 ∷ 0 ∷ 1 ∷ 0 ∷ 0 ∷ 0 ∷ 0 ∷ 0 ∷ 0 ∷ 0 ∷ 0 ∷ 0 ∷ 0 ∷ 0 ∷ 0 ∷ 0 ∷ 0 ∷ 38 ∷ 16 ∷ 0 ∷ 0 ∷ 0 ∷ 0 ∷ 0 ∷ 0 ∷ 12 ∷ 16 ∷ 0 ∷ 0 ∷ 0 ∷ 0 ∷ 0 ∷ 0 ∷ 1 ∷ 1 ∷ 0 ∷ 0 ∷ 0 ∷ 0 ∷ 0 ∷ 0 ∷ 0 ∷ 0 ∷ 0 ∷ 0 ∷ 0 ∷ 0 ∷ 0 ∷ 0 ∷ 66 ∷ 16 ∷ 0 ∷ 0 ∷ 0 ∷ 0 ∷ 0 ∷ 0 ∷ 12 ∷ 16 ∷ 0 ∷ 0 ∷ 0 ∷ 0 ∷ 0 ∷ 0 ∷ 1 ∷ 1 ∷ 0 ∷ 0 ∷ 0 ∷ 0 ∷ 0 ∷ 0 ∷ 0 ∷ 0 ∷ 0 ∷ 0 ∷ 0 ∷ 0 ∷ 0 ∷ 0 ∷ 98 ∷ 16 ∷ 0 ∷ 0 ∷ 0 ∷ 0 ∷ 0 ∷ 0 ∷ 12 ∷ 16 ∷ 0 ∷ 0 ∷ 0 ∷ 0 ∷ 0 ∷ 0 ∷ 1 ∷ 1 ∷ 0 ∷ 0 ∷ 0 ∷ 0 ∷ 0 ∷ 0 ∷ 0 ∷ 0 ∷ 0 ∷ 0 ∷ 0 ∷ 0 ∷ 0 ∷ 0 ∷ [])
fibonacci = refl

-- one instruction line is enough for the threshold 1
one_return : verdict_of (codes "fn a" ∷ codes "ret" ∷ []) 1 ≡ Ok (88 ∷ 82 ∷ 73 ∷ 77 ∷ 1 ∷ 0 ∷ 0 ∷ 0 ∷ 0 ∷ 16 ∷ 0 ∷ 0 ∷ 0 ∷ 0 ∷ 0 ∷ 0 ∷ 23 ∷ 0 ∷ 0 ∷ 0 ∷ 1 ∷ 0 ∷ 0 ∷ 0 ∷ 2 ∷ 0 ∷ 0 ∷ 0 ∷ 0 ∷ 0 ∷ 0 ∷ 0 ∷ 0 ∷ 16 ∷ 32 ∷ 0 ∷ 0 ∷ 0 ∷ 0 ∷ 0 ∷ 16 ∷ 16 ∷ 32 ∷ 0 ∷ 0 ∷ 0 ∷ 0 ∷ 0 ∷ 32 ∷ 16 ∷ 32 ∷ 0 ∷ 0 ∷ 0 ∷ 0 ∷ 0 ∷ 48 ∷ 16 ∷ 32 ∷ 0 ∷ 0 ∷ 0 ∷ 0 ∷ 0 ∷ 235 ∷ 9 ∷ 102 ∷ 15 ∷ 31 ∷ 132 ∷ 0 ∷ 0 ∷ 2 ∷ 0 ∷ 0 ∷ 144 ∷ 195 ∷ 46 ∷ 102 ∷ 15 ∷ 31 ∷ 132 ∷ 0 ∷ 0 ∷ 2 ∷ 0 ∷ 0 ∷ 0 ∷ 16 ∷ 0 ∷ 0 ∷ 0 ∷ 0 ∷ 0 ∷ 0 ∷ 1 ∷ 97 ∷ 0 ∷ 16 ∷ 0 ∷ 0 ∷ 0 ∷ 0 ∷ 0 ∷ 0 ∷ 0 ∷ 16 ∷ 0 ∷ 0 ∷ 0 ∷ 0 ∷ 0 ∷ 0 ∷ 0 ∷ 0 ∷ 0 ∷ 0 ∷ 0 ∷ 0 ∷ 0 ∷ 0 ∷ 0 ∷ 0 ∷ 0 ∷ 0 ∷ 0 ∷ 0 ∷ 0 ∷ 0 ∷ 12 ∷ 16 ∷ 0 ∷ 0 ∷ 0 ∷ 0 ∷ 0 ∷ 0 ∷ 0 ∷ 16 ∷ 0 ∷ 0 ∷ 0 ∷ 0 ∷ 0 ∷ 0 ∷ 1 ∷ 0 ∷ 0 ∷ 0 ∷ 0 ∷ 0 ∷ 0 ∷ 0 ∷ 0 ∷ 0 ∷ 0 ∷ 0 ∷ 0 ∷ 0 ∷ 0 ∷ 0 ∷ [])
one_return = refl

-- and not enough for the threshold 2
below_threshold : verdict_of (codes "fn a" ∷ codes "ret" ∷ []) 2 ≡ Ok (88 ∷ 82 ∷ 73 ∷ 77 ∷ 1 ∷ 0 ∷ 0 ∷ 0 ∷ 0 ∷ 16 ∷ 0 ∷ 0 ∷ 0 ∷ 0 ∷ 0 ∷ 0 ∷ 1 ∷ 0 ∷ 0 ∷ 0 ∷ 1 ∷ 0 ∷ 0 ∷ 0 ∷ 0 ∷ 0 ∷ 0 ∷ 0 ∷ 0 ∷ 0 ∷ 0 ∷ 0 ∷ 0 ∷ 16 ∷ 32 ∷ 0 ∷ 0 ∷ 0 ∷ 0 ∷ 0 ∷ 16 ∷ 16 ∷ 32 ∷ 0 ∷ 0 ∷ 0 ∷ 0 ∷ 0 ∷ 32 ∷ 16 ∷ 32 ∷ 0 ∷ 0 ∷ 0 ∷ 0 ∷ 0 ∷ 48 ∷ 16 ∷ 32 ∷ 0 ∷ 0 ∷ 0 ∷ 0 ∷ 0 ∷ 195 ∷ 0 ∷ 16 ∷ 0 ∷ 0 ∷ 0 ∷ 0 ∷ 0 ∷ 0 ∷ 1 ∷ 97 ∷ [])
below_threshold = refl

-- an instruction before the first function
no_function : verdict_of (codes "mov eax, 1" ∷ []) 1 ≡ Err (faults.Syntax 1)
no_function = refl

-- the text ends in a function without an instruction line
empty_function : verdict_of (codes "fn a" ∷ []) 1 ≡ Err (faults.Syntax 2)
empty_function = refl

-- r10 belongs to the sleds
sled_scratch : verdict_of (codes "fn a" ∷ codes "mov r10d, 1" ∷ codes "ret" ∷ []) 1 ≡ Err (faults.Register 2)
sled_scratch = refl

-- a base is a multiple of 16
odd_base : verdict_of (codes "base 0x1001" ∷ codes "fn a" ∷ codes "ret" ∷ []) 1 ≡ Err (faults.Range 1)
odd_base = refl

-- a port is a byte
high_port : verdict_of (codes "fn a" ∷ codes "out 256" ∷ codes "ret" ∷ []) 1 ≡ Err (faults.Range 2)
high_port = refl

-- a name twice
same_name : verdict_of (codes "fn a" ∷ codes "ret" ∷ codes "fn a" ∷ codes "ret" ∷ []) 1 ≡ Err (faults.Repeat 3)
same_name = refl

-- a jump to no name
no_target : verdict_of (codes "fn a" ∷ codes "jmp b" ∷ codes "ret" ∷ []) 1 ≡ Err (faults.Label 2)
no_target = refl

-- a label at the end of the last function, and a jump to it
last_label : verdict_of (codes "fn a" ∷ codes "jmp b" ∷ codes "ret" ∷ codes "b:" ∷ []) 1 ≡ Err (faults.Label 4)
last_label = refl

-- an entry that names a label
label_as_entry : verdict_of (codes "entry b" ∷ codes "fn a" ∷ codes "b:" ∷ codes "ret" ∷ []) 1 ≡ Err (faults.Label 1)
label_as_entry = refl
