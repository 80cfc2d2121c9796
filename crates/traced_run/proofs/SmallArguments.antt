-- The registers of a plain run have 64 bits, and so have the arguments of its passings.
use Rattle.std.proofs.Common.{◌≡◌, ℕ, zero, suc, ◌+◌, ◌%◌, ◌<◌, ◌^◌, ◌==◌, Bool, true, false, List, [], ◌∷◌, Some, refl, sym, subst, arith, inl, inr, length}
use Rattle.std.specs.Prelude.{All, Contains, MatchBool, if◌then◌else◌, replicate, slice_get, slice_index, slice_set}
use Rattle.std.specs.List.{AllByRecursion}
use Rattle.std.proofs.lemmas.Nat.{mod_below}
use Rattle.std.proofs.lemmas.List.Elements.{All-append, All-cons, All-nil}
use Rattle.subset_decode.specs.declared.instr.Instr.{Instr}
use Rattle.subset_decode.specs.declared.instr.Instr.TheVariants.{Mov, Add, Sub, Push, Pop, Call, Jmp, Jnz, Ret, Out}
use Rattle.subset_decode.specs.Encoding.{IsNamed, spelling}
use Rattle.xray_image.specs.declared.sled.Sled.{Sled as XraySled}
use Rattle.xray_image.specs.declared.sled.SledKind.{SledKind}
use Rattle.xray_image.specs.declared.sled.SledKind.TheVariants as kinds
use Rattle.xray_image.specs.declared.unit.Unit.{Unit as XrayUnit}
use Rattle.xray_image.specs.declared.unit.What.{What}
use Rattle.xray_image.specs.declared.unit.What.TheVariants as whats
use Rattle.xray_image.specs.Program.{IsAccepted, Program}
use Rattle.machine_step.specs.declared.end.End.{End}
use Rattle.machine_step.specs.declared.end.End.TheVariants as ends
use Rattle.machine_step.specs.declared.limits.Limits.{Limits}
use Rattle.machine_step.specs.PlainStep.{Ends, Goes, Next, Passing, PlainRun, PlainStep, RunsTo, State, UnitStep, after_passing, computed, counted, does, fuelled, opening, output_limit, passing_at, popped, pushed, register, returns, stack_limit}
use Rattle.machine_step.proofs.Accepted.{low_address}
use Rattle.traced_run.proofs.AcceptedCode.{at_place, names_registers}

-- ---- values

abbrev IsSmall : ℕ → Type 0
IsSmall v = v < 2 ^ 64

abbrev AreSmall : List ℕ → Type 0
AreSmall = AllByRecursion IsSmall

set_small : (xs : List ℕ) (i v : ℕ) → AreSmall xs → IsSmall v → AreSmall (slice_set xs i v)
set_small [] i v small value = tt
set_small (x ∷ xs) zero v (first, rest) value = (value, rest)
set_small (x ∷ xs) (suc i) v (first, rest) value = (first, set_small xs i v rest value)

index_small : (xs : List ℕ) (i : ℕ) → AreSmall xs → IsSmall (slice_index xs i)
index_small [] i small = omega arith
index_small (x ∷ xs) zero (first, rest) = first
index_small (x ∷ xs) (suc i) (first, rest) = index_small xs i rest

zeros_small : (n : ℕ) → AreSmall (replicate n 0)
zeros_small zero = tt
zeros_small (suc n) = (omega arith, zeros_small n)

-- ---- states

record HasSmall (s : State) : Type 0 where
  registers : AreSmall s.registers
  stack : AreSmall s.stack

abbrev NextSmall : Next → Type 0
NextSmall (Goes s) = HasSmall s
NextSmall (Ends end s) = Unit {0}

by_flag : (b : Bool) (end : End) (s : State) (next : Next) → NextSmall next → NextSmall (if b then Ends end s else next)
by_flag true end s next small = tt
by_flag false end s next small = small

fuelled_small : (limits : Limits) (s : State) (next : Next) → NextSmall next → NextSmall (fuelled limits s next)
fuelled_small limits s next = by_flag (s.instructions == limits.fuel) ends.Fuel s next

returns_small : (s : State) (stack : List ℕ) → HasSmall s → AreSmall stack → NextSmall (returns s stack)
returns_small s [] small values = tt
returns_small s (address ∷ stack) small (first, rest) = record { registers = small.registers; stack = rest }

pushed_small : (s : State) (address value : ℕ) → HasSmall s → IsSmall value → NextSmall (pushed s address value)
pushed_small s address value small is =
    by_flag (length s.stack == stack_limit) ends.StackFull s (Goes (record (counted s address) { stack = value ∷ s.stack }))
    (record { registers = small.registers; stack = (is, small.stack) })

popped_small : (s : State) (following reg : ℕ) (stack : List ℕ) → HasSmall s → AreSmall stack → NextSmall (popped s following reg stack)
popped_small s following reg [] small values = tt
popped_small s following reg (value ∷ stack) small (first, rest) =
    record { registers = set_small s.registers reg value small.registers first; stack = rest }

computed_small : (s : State) (following dst value : ℕ) → HasSmall s → HasSmall (computed s following dst value)
computed_small s following dst value small =
    record { registers = set_small s.registers dst (value % 2 ^ 64) small.registers (mod_below value (2 ^ 64) (omega arith)); stack = small.stack }

-- what an instruction leaves; the address after a call is pushed
does_small : (s : State) (instr : Instr) → s.address + 6 < 2 ^ 64 → IsNamed instr → HasSmall s
    → NextSmall (does s (s.address + length (spelling instr)) instr)
does_small s (Mov dst imm) low named small =
    record { registers = set_small s.registers dst imm small.registers (omega (arith, named.1)); stack = small.stack }
does_small s (Add dst src) low named small = computed_small s _ dst _ small
does_small s (Sub dst src) low named small = computed_small s _ dst _ small
does_small s (Push reg) low named small = pushed_small s _ (register s reg) small (index_small s.registers reg small.registers)
does_small s (Pop reg) low named small = popped_small s _ reg s.stack small small.stack
does_small s (Call rel) low named small =
    let five : length (spelling (Call rel)) ≡ 5 = refl in
    pushed_small s _ (s.address + length (spelling (Call rel))) small (omega (arith, low, five))
does_small s (Jmp rel) low named small = record { registers = small.registers; stack = small.stack }
does_small s (Jnz rel) low named small = record { registers = small.registers; stack = small.stack }
does_small s Ret low named small = returns_small s s.stack small small.stack
does_small s (Out port) low named small =
    by_flag (length s.output == output_limit) ends.OutputFull s _ (record { registers = small.registers; stack = small.stack })

passed_small : (limits : Limits) (s : State) (kind : SledKind) → HasSmall s → NextSmall (after_passing limits s kind)
passed_small limits s kinds.Entry small = record { registers = small.registers; stack = small.stack }
passed_small limits s kinds.Tail small = record { registers = small.registers; stack = small.stack }
passed_small limits s kinds.Args small = record { registers = small.registers; stack = small.stack }
passed_small limits s kinds.Exit small = fuelled_small limits s (returns s s.stack) (returns_small s s.stack small small.stack)

-- ---- runs

-- the passings of a step, and what it leads to
abbrev StepSmall : List Passing → Next → Type 0
StepSmall made next = All (λ p. p.argument < 2 ^ 64) made × NextSmall next

abbrev HasArgument : Passing → Type 0
HasArgument p = p.argument < 2 ^ 64

step_of : (made : List Passing) (next goal : Next) → next ≡ goal → NextSmall goal → All HasArgument made → StepSmall made next
step_of made next goal is small all = (all, subst NextSmall (sym is) small)

none_made : (made : List Passing) → made ≡ [] → All HasArgument made
none_made made is = subst (All HasArgument) (sym is) (All-nil HasArgument)

module _ (bytes : List ℕ) (program : Program) (accepted : IsAccepted bytes program) (limits : Limits) (thread : ℕ) where
  low_unit : (u : XrayUnit) → Contains program.units u → u.address + 6 < 2 ^ 64
  low_unit u among = let at = at_place program.units u among in low_address bytes program accepted at.0 u at.1

  unit_small : (s : State) (u : XrayUnit) → Contains program.units u → u.address ≡ s.address → (what : What) → u.what ≡ what
      → (made : List Passing) (next : Next) → HasSmall s → UnitStep program limits thread s what made next → StepSmall made next
  unit_small s u among at (whats.Plain instr) is made next small (none, goes) =
      let low : s.address + 6 < 2 ^ 64 = subst (λ (a : ℕ). a + 6 < 2 ^ 64) at (low_unit u among) in
      step_of made next _ goes
      (fuelled_small limits s _ (does_small s instr low (names_registers bytes program accepted u instr among is) small)) (none_made made none)
  unit_small s u among at whats.Pad is made next small (none, goes) =
      step_of made next _ goes (record { registers = small.registers; stack = small.stack }) (none_made made none)
  unit_small s u among at (whats.Sled k) is made next small step = by_left (s.passings == limits.passings) step
    where
      by_left : (left : Bool)
          → MatchBool left ((made ≡ []) × (next ≡ Ends ends.Passings s))
          ((sled : XraySled) × (slice_get program.sleds k ≡ Some sled)
          × (made ≡ passing_at limits thread s k sled ∷ [])
          × (next ≡ after_passing limits (record s { passings = s.passings + 1 }) sled.kind))
          → StepSmall made next
      by_left true (none, ended) = step_of made next _ ended tt (none_made made none)
      by_left false (sled, found, e, goes) =
          let p : Passing = passing_at limits thread s k sled in
          step_of made next _ goes
          (passed_small limits (record s { passings = s.passings + 1 }) sled.kind (record { registers = small.registers; stack = small.stack }))
          (subst (All HasArgument) (sym e) (All-cons HasArgument p [] (index_small s.registers 7 small.registers) (All-nil HasArgument)))

  step_small : (s : State) (made : List Passing) (next : Next) → HasSmall s → PlainStep program limits thread s made next → StepSmall made next
  step_small s made next small (inl (away, none, ended)) = step_of made next _ ended tt (none_made made none)
  step_small s made next small (inr (u, among, at, step)) = unit_small s u among at u.what refl made next small step

  runs_small : (n : ℕ) (s : State) (passed : List Passing) (end : End) (last : State) → HasSmall s
      → RunsTo program limits thread n s passed end last → All HasArgument passed
  runs_small zero s passed end last small step = (step_small s passed (Ends end last) small step).0
  runs_small (suc n) s passed end last small (made, later, mid, step, rest, is) =
      let first = step_small s made (Goes mid) small step in
      subst (All HasArgument) (sym is) (All-append HasArgument made later first.0 (runs_small n mid later end last first.1 rest))

  pub run_arguments : (passed : List Passing) (end : End) (last : State) → thread < 2 ^ 64
      → PlainRun program limits thread passed end last → All (λ p. p.argument < 2 ^ 64) passed
  run_arguments passed end last few (n, run) =
      runs_small n (opening program thread) passed end last
      (record { registers = set_small (replicate 16 0) 7 thread (zeros_small 16) few; stack = tt }) run
