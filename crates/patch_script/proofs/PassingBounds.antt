-- The bound of a passing is the first micro step that awaits it.
use Rattle.std.proofs.Common.{◌≡◌, ℕ, zero, suc, ◌+◌, ◌<◌, ◌≤◌, List, [], ◌∷◌, Bool, true, false, not, cond, length, unwrap_or, ap, arith}
use Rattle.std.specs.Prelude.{◌==◌, ◌&&◌, nat_lt, slice_get}
use Rattle.std.specs.List.{position_or_len}
use Rattle.std.proofs.lemmas.Bool.Decides.{nat_tests}
use Rattle.xray_image.specs.Program.{Program}
use Rattle.patch_script.specs.declared.command.PatchCommand.{PatchCommand}
use Rattle.patch_script.specs.declared.micro.Micro.{Micro}
use Rattle.patch_script.specs.declared.micro.Micro.TheVariants.{Store, Await, End}
use Rattle.patch_script.specs.Bounds.{awaits_passing, bound_of}
use Rattle.patch_script.specs.Micros.{micros, micro_at, total_of}

first_within : (p : Micro → Bool) (steps : List Micro) → position_or_len p steps ≤ length steps
first_within p [] = omega arith
first_within p (step ∷ steps) =
    elim (p step) as (λ b. cond (not b) (1 + position_or_len p steps) 0 ≤ length (step ∷ steps)) [
      | true ↦ omega arith
      | false ↦ let rest = first_within p steps in omega arith
    ]

awaits_it : (awaited thread count passing more place : ℕ) → awaited ≡ thread → passing < count
    → cond (not ((awaited == thread) && nat_lt passing count)) (1 + more) 0 ≤ place
awaits_it awaited thread count passing more place same less = grind (arith, nat_tests)

first_awaited : (thread passing : ℕ) (steps : List Micro) (place count : ℕ) → unwrap_or (slice_get steps place) End ≡ Await thread count → passing < count
    → position_or_len (awaits_passing thread passing) steps ≤ place
first_awaited thread passing [] place count at less = cc
first_awaited thread passing (Store word value ∷ steps) zero count at less = cc
first_awaited thread passing (Await awaited reached ∷ steps) zero count at less =
    let same : awaited ≡ thread = cc in let counts : reached ≡ count = cc in
    awaits_it awaited thread reached passing (position_or_len (awaits_passing thread passing) steps) 0 same (omega arith)
first_awaited thread passing (End ∷ steps) zero count at less = cc
first_awaited thread passing (step ∷ steps) (suc place) count at less =
    elim (awaits_passing thread passing step) as (λ b. cond (not b) (1 + position_or_len (awaits_passing thread passing) steps) 0 ≤ suc place) [
      | true ↦ omega arith
      | false ↦ let rest = first_awaited thread passing steps place count at less in omega arith
    ]

awaits_less : (awaited thread count passing more place : ℕ) → (awaited ≡ thread → count ≤ passing) → place ≤ more
    → suc place ≤ cond (not ((awaited == thread) && nat_lt passing count)) (1 + more) 0
awaits_less awaited thread count passing more place few le = grind (arith, nat_tests)

reached_from : (thread passing : ℕ) (steps : List Micro) (place : ℕ) → place ≤ length steps
    → ((i count : ℕ) → i < place → unwrap_or (slice_get steps i) End ≡ Await thread count → count ≤ passing)
    → place ≤ position_or_len (awaits_passing thread passing) steps
reached_from thread passing [] place within few = within
reached_from thread passing (step ∷ steps) zero within few = omega arith
reached_from thread passing (Store word value ∷ steps) (suc place) within few =
    let rest = reached_from thread passing steps place (omega arith) (λ i count less at. few (suc i) count (omega arith) at) in omega arith
reached_from thread passing (Await awaited count ∷ steps) (suc place) within few =
    let rest = reached_from thread passing steps place (omega arith) (λ i more less at. few (suc i) more (omega arith) at) in
    awaits_less awaited thread count passing (position_or_len (awaits_passing thread passing) steps) place
    (λ same. few 0 count (omega arith) (ap (λ t. Await t count) same)) rest
reached_from thread passing (End ∷ steps) (suc place) within few =
    let rest = reached_from thread passing steps place (omega arith) (λ i count less at. few (suc i) count (omega arith) at) in omega arith

pub bound_within : (program : Program) (threads : ℕ) (script : List PatchCommand) (thread passing : ℕ) → bound_of program threads script thread passing ≤ total_of program threads script
bound_within program threads script thread passing = first_within (awaits_passing thread passing) (micros program threads script)

pub bound_awaited : (program : Program) (threads : ℕ) (script : List PatchCommand) (thread passing place count : ℕ) → micro_at program threads script place ≡ Await thread count
    → passing < count → bound_of program threads script thread passing ≤ place
bound_awaited program threads script thread passing place count at less = first_awaited thread passing (micros program threads script) place count at less

pub bound_reached : (program : Program) (threads : ℕ) (script : List PatchCommand) (thread passing place : ℕ) → place ≤ total_of program threads script
    → ((i count : ℕ) → i < place → micro_at program threads script i ≡ Await thread count → count ≤ passing) → place ≤ bound_of program threads script thread passing
bound_reached program threads script thread passing place within few = reached_from thread passing (micros program threads script) place within few
