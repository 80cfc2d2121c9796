-- No instruction of an image reads or writes r10.
use Rattle.std.proofs.Common.{◌≡◌, ◌≢◌, ℕ, ◌+◌, ◌-◌, ◌^◌, ◌%◌, ◌==◌, Bool, true, false, if◌then◌else◌, List, [], ◌∷◌, ◌++◌, length, refl, sym, ap, ◌∙◌, arith}
use Rattle.std.specs.Prelude.{slice_set}
use Rattle.std.proofs.lemmas.List.{get_or-set_other, set_comm}
use Rattle.subset_decode.specs.declared.instr.Instr.{Instr}
use Rattle.subset_decode.specs.declared.instr.Instr.TheVariants.{Mov, Add, Sub, Push, Pop, Call, Jmp, Jnz, Ret, Out}
use Rattle.subset_decode.specs.Encoding.{IsNamed}
use Rattle.machine_step.specs.declared.end.End.TheVariants as ends
use Rattle.machine_step.specs.declared.limits.Limits.{Limits}
use Rattle.machine_step.specs.PlainStep.{Ends, Goes, Next, State, computed, counted, does, fuelled, output_limit, popped, register, returns, stack_limit}
use Rattle.traced_run.specs.Executed.{with_r10}

-- the same step with another r10
abbrev pub but_r10 : ℕ → Next → Next
but_r10 r (Goes s) = Goes (with_r10 r s)
but_r10 r (Ends end s) = Ends end (with_r10 r s)

by_flag : (r : ℕ) (b : Bool) (x y : Next) → (if b then but_r10 r x else but_r10 r y) ≡ but_r10 r (if b then x else y)
by_flag r true x y = refl
by_flag r false x y = refl

pub fuelled_but : (limits : Limits) (r : ℕ) (s : State) (next : Next)
    → fuelled limits (with_r10 r s) (but_r10 r next) ≡ but_r10 r (fuelled limits s next)
fuelled_but limits r s next = by_flag r (s.instructions == limits.fuel) (Ends ends.Fuel s) next

pub returns_but : (r : ℕ) (s : State) (stack : List ℕ) → returns (with_r10 r s) stack ≡ but_r10 r (returns s stack)
returns_but r s [] = refl
returns_but r s (address ∷ stack) = refl

-- a register other than r10
same_register : (r : ℕ) (s : State) (n : ℕ) → n ≢ 10 → register (with_r10 r s) n ≡ register s n
same_register r s n other = get_or-set_other s.registers 10 n r 0 other

-- writes to r10 and to another register can change places
written : (r : ℕ) (s : State) (n value : ℕ) → n ≢ 10
    → slice_set (slice_set s.registers 10 r) n value ≡ slice_set (slice_set s.registers n value) 10 r
written r s n value other = set_comm s.registers 10 n r value (λ e. other (sym e))

popped_but : (r : ℕ) (s : State) (following n : ℕ) → n ≢ 10 → (stack : List ℕ)
    → popped (with_r10 r s) following n stack ≡ but_r10 r (popped s following n stack)
popped_but r s following n other [] = refl
popped_but r s following n other (value ∷ stack) =
    ap (λ (registers : List ℕ). Goes (record (counted s following) { registers = registers; stack = stack })) (written r s n value other)

computed_but : (r : ℕ) (s : State) (following dst value value' : ℕ) → dst ≢ 10 → value' ≡ value
    → computed (with_r10 r s) following dst value' ≡ with_r10 r (computed s following dst value)
computed_but r s following dst value value' other same =
    ap (λ v. computed (with_r10 r s) following dst v) same
    ∙ ap (λ (registers : List ℕ). let t : State = record (counted s following) { registers = registers; zero_flag = value % 2 ^ 64 == 0 } in t)
    (written r s dst (value % 2 ^ 64) other)

rax_other : (n : ℕ) → n ≡ 0 → n ≢ 10
rax_other n rax e = omega arith

pub does_but : (r : ℕ) (s : State) (following : ℕ) (instr : Instr) → IsNamed instr
    → does (with_r10 r s) following instr ≡ but_r10 r (does s following instr)
does_but r s following (Mov dst imm) ((small, not_rsp, other), fits) =
    ap (λ (registers : List ℕ). Goes (record (counted s following) { registers = registers })) (written r s dst imm other)
does_but r s following (Add dst src) ((small, not_rsp, other), (small', not_rsp', other')) =
    ap Goes (computed_but r s following dst _ _ other
    (ap (λ v. v + register (with_r10 r s) src) (same_register r s dst other) ∙ ap (λ v. register s dst + v) (same_register r s src other')))
does_but r s following (Sub dst src) ((small, not_rsp, other), (small', not_rsp', other')) =
    ap Goes (computed_but r s following dst _ _ other
    (ap (λ v. v + (2 ^ 64 - register (with_r10 r s) src)) (same_register r s dst other) ∙ ap (λ v. register s dst + (2 ^ 64 - v)) (same_register r s src other')))
does_but r s following (Push reg) (small, not_rsp, other) =
    ap (λ v. if length s.stack == stack_limit then Ends ends.StackFull (with_r10 r s) else Goes (record (counted (with_r10 r s) following) { stack = v ∷ s.stack }))
    (same_register r s reg other)
    ∙ by_flag r (length s.stack == stack_limit) (Ends ends.StackFull s) (Goes (record (counted s following) { stack = register s reg ∷ s.stack }))
does_but r s following (Pop reg) (small, not_rsp, other) = popped_but r s following reg other s.stack
does_but r s following (Call rel) named =
    by_flag r (length s.stack == stack_limit) _ _
does_but r s following (Jmp rel) named = refl
does_but r s following (Jnz rel) named = refl
does_but r s following Ret named = returns_but r s s.stack
does_but r s following (Out port) named =
    ap (λ v. if length s.output == output_limit then Ends ends.OutputFull (with_r10 r s) else Goes (record (counted (with_r10 r s) following) { output = s.output ++ v % 256 ∷ [] }))
    (same_register r s 0 (rax_other 0 refl))
    ∙ by_flag r (length s.output == output_limit) (Ends ends.OutputFull s) (Goes (record (counted s following) { output = s.output ++ register s 0 % 256 ∷ [] }))
