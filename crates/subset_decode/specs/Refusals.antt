-- When bytes are no instruction. Each refusal is defined by the encodings alone. The shortest prefix of the bytes that
-- decides gives the answer.
use Rattle.std.specs.Prelude.{◌≡◌, ℕ, List, [], ◌∷◌, ◌++◌, Some, Result, Ok, Err}
use Rattle.subset_decode.specs.declared.instr.Instr.{Instr}
use Rattle.subset_decode.specs.declared.fault.DecodeFault.{DecodeFault}
use Rattle.subset_decode.specs.declared.fault.DecodeFault.TheVariants.{Short, Unknown, Register}
use Rattle.subset_decode.specs.Encoding.{spelling, IsNamed, IsEncodable, reserved_register, Begins}

-- these bytes are a proper prefix of the encoding of some instruction
abbrev pub IsCut : List ℕ → Type 0
IsCut bytes = (i : Instr) × IsNamed i × (next : ℕ) × Begins (bytes ++ next ∷ []) (spelling i)

-- some prefix of the bytes is followed by b; some instruction goes on after the prefix, but no encoding goes on with b
abbrev pub IsUnknownByte : ℕ → List ℕ → Type 0
IsUnknownByte b bytes =
    (front : List ℕ) × Begins (front ++ b ∷ []) bytes × IsCut front
    × ((i : Instr) → IsEncodable i → Begins (front ++ b ∷ []) (spelling i) → ⊥)

-- the prefix begins encodings, and n is the first reserved register of each of them
abbrev pub NamesReserved : ℕ → List ℕ → Type 0
NamesReserved n bytes =
    (front : List ℕ) × Begins front bytes
    × ((i : Instr) × IsEncodable i × Begins front (spelling i))
    × ((i : Instr) → IsEncodable i → Begins front (spelling i) → reserved_register i ≡ Some n)

-- the fault of bytes
abbrev pub Refuses : List ℕ → DecodeFault → Type 0
Refuses bytes Short = IsCut bytes
Refuses bytes (Unknown b) = IsUnknownByte b bytes
Refuses bytes (Register n) = NamesReserved n bytes

-- what the bytes are: an instruction that they begin with, or a fault
abbrev pub Answers : List ℕ → Result Instr DecodeFault → Type 0
Answers bytes (Ok i) = IsNamed i × Begins (spelling i) bytes
Answers bytes (Err f) = Refuses bytes f
