-- The plain machine: what a thread does if its sleds are only counted.
use Rattle.std.specs.Prelude.{◌≡◌, ◌≢◌, ◌^◌, ◌+◌, ◌*◌, ◌/◌, ◌%◌, ◌==◌, ◌⊎◌, ℕ, zero, suc, List, [], ◌∷◌, ◌++◌, length, Bool, false, if◌then◌else◌, Some, replicate, slice_get, slice_index, slice_set, Contains, MatchBool, ◌-◌, ℤ}
use Rattle.std.specs.Int.{w64, cast_unsigned}
use Rattle.subset_decode.specs.declared.instr.Instr.{Instr}
use Rattle.subset_decode.specs.declared.instr.Instr.TheVariants.{Mov, Add, Sub, Push, Pop, Call, Jmp, Jnz, Ret, Out}
use Rattle.subset_decode.specs.Encoding.{spelling}
use Rattle.xray_image.specs.declared.sled.Sled.{Sled}
use Rattle.xray_image.specs.declared.sled.SledKind.{SledKind}
use Rattle.xray_image.specs.declared.sled.SledKind.TheVariants as kinds
use Rattle.xray_image.specs.declared.unit.Unit.{Unit}
use Rattle.xray_image.specs.declared.unit.What.{What}
use Rattle.xray_image.specs.declared.unit.What.TheVariants as whats
use Rattle.xray_image.specs.Program.{Program}
use Rattle.machine_step.specs.declared.limits.Limits.{Limits}
use Rattle.machine_step.specs.declared.end.End.{End}
use Rattle.machine_step.specs.declared.end.End.TheVariants as ends

-- a thread between two steps; register n is at place n, and the top of the stack comes first
pub record State : Type 0 where
  pub address : ℕ
  pub registers : List ℕ
  pub zero_flag : Bool
  pub stack : List ℕ
  pub output : List ℕ
  pub instructions : ℕ
  pub passings : ℕ

-- a thread at the start of the entry function, with its number in rdi and 0 everywhere else
abbrev pub opening : Program → ℕ → State
opening program thread = record {
  address = program.entry;
  registers = slice_set (replicate 16 0) 7 thread;
  zero_flag = false;
  stack = [];
  output = [];
  instructions = 0;
  passings = 0;
}

-- a step leads on, or it is the thread's end
pub data Next : Type 0 where
  Goes : (next : State) → Next
  Ends : (end : End) → (last : State) → Next

-- the state after an instruction that goes on at an address
abbrev pub counted : State → ℕ → State
counted s address = record s { address = address; instructions = s.instructions + 1 }

-- `ret`, which an exit sled is too; on an empty stack it is the end
abbrev pub returns : State → List ℕ → Next
returns s [] = Ends ends.Returned (counted s s.address)
returns s (address ∷ stack) = Goes (record (counted s address) { stack = stack })

-- the most values on a stack, and the most bytes of an output
abbrev pub stack_limit : ℕ
stack_limit = 65536

abbrev pub output_limit : ℕ
output_limit = 65536

-- the value of a register
abbrev pub register : State → ℕ → ℕ
register s n = slice_index s.registers n

-- what an addition or a subtraction leaves, and goes on at an address: the value mod 2^64, and whether it is 0
abbrev pub computed : State → ℕ → ℕ → ℕ → State
computed s following dst value =
    record (counted s following) { registers = slice_set s.registers dst (value % 2 ^ 64); zero_flag = value % 2 ^ 64 == 0 }

-- a value is pushed, if there is room
abbrev pub pushed : State → ℕ → ℕ → Next
pushed s address value =
    if length s.stack == stack_limit then Ends ends.StackFull s
    else Goes (record (counted s address) { stack = value ∷ s.stack })

-- the value on top of the stack goes into a register, if there is one
abbrev pub popped : State → ℕ → ℕ → List ℕ → Next
popped s following reg [] = Ends ends.StackEmpty s
popped s following reg (value ∷ stack) =
    Goes (record (counted s following) { registers = slice_set s.registers reg value; stack = stack })

-- where a branch goes: the address after it plus the distance that it names, mod 2^64
abbrev pub branched : ℕ → ℤ → ℕ
branched following distance = (following + cast_unsigned w64 distance) % 2 ^ 64

-- what an instruction does; `following` is the address after it, from which a branch counts
abbrev pub does : State → ℕ → Instr → Next
does s following (Mov dst imm) = Goes (record (counted s following) { registers = slice_set s.registers dst imm })
does s following (Add dst src) = Goes (computed s following dst (register s dst + register s src))
does s following (Sub dst src) = Goes (computed s following dst (register s dst + (2 ^ 64 - register s src)))
does s following (Push reg) = pushed s following (register s reg)
does s following (Pop reg) = popped s following reg s.stack
does s following (Call rel) = pushed s (branched following rel) following
does s following (Jmp rel) = Goes (counted s (branched following rel))
does s following (Jnz rel) = Goes (counted s (if s.zero_flag then following else branched following rel))
does s following Ret = returns s s.stack
does s following (Out port) =
    if length s.output == output_limit then Ends ends.OutputFull s
    else Goes (record (counted s following) { output = s.output ++ register s 0 % 256 ∷ [] })

-- an instruction wants fuel
abbrev pub fuelled : Limits → State → Next → Next
fuelled limits s next = if s.instructions == limits.fuel then Ends ends.Fuel s else next

-- after its passing, an entry sled, which may log arguments, and a tail sled do nothing, and an exit sled is a return
abbrev pub after_passing : Limits → State → SledKind → Next
after_passing limits s kinds.Entry = Goes (record s { address = s.address + 11 })
after_passing limits s kinds.Tail = Goes (record s { address = s.address + 11 })
after_passing limits s kinds.Args = Goes (record s { address = s.address + 11 })
after_passing limits s kinds.Exit = fuelled limits s (returns s s.stack)

-- a passing of a sled, with the stamp of its event, and with the function's first argument if the sled is at an entry
pub record Passing : Type 0 where
  pub sled : ℕ
  pub id : ℕ
  pub kind : SledKind
  pub cpu : ℕ
  pub counter : ℕ
  pub argument : ℕ

abbrev pub passing_at : Limits → ℕ → State → ℕ → Sled → Passing
passing_at limits thread s k sled = record {
  sled = k;
  id = sled.id;
  kind = sled.kind;
  cpu = (thread + s.passings / limits.migrate) % limits.cpus;
  counter = (limits.tsc + limits.tick * s.instructions) % 2 ^ 64;
  argument = register s 7;
}

-- the step of a unit, with the passing that it makes
abbrev pub UnitStep : Program → Limits → ℕ → State → What → List Passing → Next → Type 0
UnitStep program limits thread s (whats.Plain instr) made next =
    (made ≡ []) × (next ≡ fuelled limits s (does s (s.address + length (spelling instr)) instr))
UnitStep program limits thread s (whats.Sled k) made next =
    MatchBool (s.passings == limits.passings)
    ((made ≡ []) × (next ≡ Ends ends.Passings s))
    ((sled : Sled) × (slice_get program.sleds k ≡ Some sled)
    × (made ≡ passing_at limits thread s k sled ∷ [])
    × (next ≡ after_passing limits (record s { passings = s.passings + 1 }) sled.kind))
UnitStep program limits thread s whats.Pad made next =
    (made ≡ []) × (next ≡ Goes (record s { address = s.address + 1 }))

-- the step of a thread: that of the unit at its address, or its end if there is no unit
abbrev pub PlainStep : Program → Limits → ℕ → State → List Passing → Next → Type 0
PlainStep program limits thread s made next =
    (((u : Unit) → Contains program.units u → u.address ≢ s.address) × (made ≡ []) × (next ≡ Ends ends.BadTarget s))
    ⊎ ((u : Unit) × Contains program.units u × (u.address ≡ s.address) × UnitStep program limits thread s u.what made next)

-- n steps and one more lead from a state to an end, with these passings on the way
abbrev pub RunsTo : Program → Limits → ℕ → ℕ → State → List Passing → End → State → Type 0
RunsTo program limits thread zero s passed end last = PlainStep program limits thread s passed (Ends end last)
RunsTo program limits thread (suc n) s passed end last =
    (made : List Passing) × (later : List Passing) × (mid : State)
    × PlainStep program limits thread s made (Goes mid)
    × RunsTo program limits thread n mid later end last
    × (passed ≡ made ++ later)

-- what the steps of a thread come to from its opening: its passings, its end and its last state
abbrev pub PlainRun : Program → Limits → ℕ → List Passing → End → State → Type 0
PlainRun program limits thread passed end last =
    (n : ℕ) × RunsTo program limits thread n (opening program thread) passed end last
