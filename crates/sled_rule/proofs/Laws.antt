-- What the laws of scripts say of a table's script.
use Rattle.std.proofs.Common.{◌≡◌, ℕ, zero, suc, ◌+◌, ◌<◌, ◌≤◌, List, [], ◌∷◌, length, sym, subst, ◌∙◌, inl, inr, arith, unwrap_or}
use Rattle.std.specs.Prelude.{◌↔◌, ◌⊎◌, slice_get, slice_index}
use Rattle.xray_image.specs.Program.{Program}
use Rattle.sled_words.specs.Parts.{initial_words}
use Rattle.patch_script.specs.Limits.{most_micros}
use Rattle.patch_script.specs.declared.command.PatchCommand.{PatchCommand}
use Rattle.patch_script.specs.declared.micro.Micro.{Micro}
use Rattle.patch_script.specs.declared.micro.Micro.TheVariants.{Store, Await, End}
use Rattle.patch_script.specs.Bounds.{bound_of}
use Rattle.patch_script.specs.CodeAt.{code_at, stored_in}
use Rattle.patch_script.specs.Micros.{micros, micro_at, start_of, total_of}
use Rattle.patch_script.specs.Plans.{Plan}
use Rattle.patch_script.specs.Refusals.{commands_of}
use Rattle.patch_script.specs.StoredWords.{AreCodeAt}
use Rattle.sled_rule.specs.Plans.{code_in, bound_in, start_in, total_in, micro_in}

-- the code after one more micro step
abbrev pub CodeNext : Plan → Type 0
CodeNext plan = (place word : ℕ) → code_in plan (place + 1) word ≡ unwrap_or (stored_in word (micro_in plan place)) (code_in plan place word)

pub code_next : ((program : Program) (threads : ℕ) (script : List PatchCommand) (place word : ℕ)
    → code_at program threads script (place + 1) word ≡ unwrap_or (stored_in word (micro_at program threads script place)) (code_at program threads script place word))
    → (plan : Plan) → CodeNext plan
unfolding code_in micro_in
code_next said plan place word = said plan.program plan.threads (commands_of plan.lines) place word

-- the code before any micro step
pub code_first : ((program : Program) (threads : ℕ) (script : List PatchCommand) → AreCodeAt program threads script 0 (initial_words program threads))
    → (plan : Plan) (word : ℕ) → word < length (initial_words plan.program plan.threads)
    → slice_index (initial_words plan.program plan.threads) word ≡ code_in plan 0 word
unfolding code_in
code_first said plan word within = said plan.program plan.threads (commands_of plan.lines) word within

-- a place that comes after no await for more passings than a thread has made is within the bound of its passing
abbrev pub BoundReached : Plan → Type 0
BoundReached plan = (thread passing place : ℕ) → place ≤ total_in plan
    → ((i count : ℕ) → i < place → micro_in plan i ≡ Await thread count → count ≤ passing) → place ≤ bound_in plan thread passing

pub bound_reached : ((program : Program) (threads : ℕ) (script : List PatchCommand) (thread passing place : ℕ) → place ≤ total_of program threads script
    → ((i count : ℕ) → i < place → micro_at program threads script i ≡ Await thread count → count ≤ passing) → place ≤ bound_of program threads script thread passing)
    → (plan : Plan) → BoundReached plan
unfolding bound_in total_in micro_in
bound_reached said plan thread passing place within few = said plan.program plan.threads (commands_of plan.lines) thread passing place within few

-- ---- what the methods of scripts answer

pub micro_is : (plan : Plan) (place : ℕ) (micro : Micro) → micro ≡ micro_at plan.program plan.threads (commands_of plan.lines) place → micro_in plan place ≡ micro
unfolding micro_in
micro_is plan place micro is = sym is

pub start_is : (plan : Plan) (start : ℕ) → start ≡ start_of plan.program plan.threads (commands_of plan.lines) → start_in plan ≡ start
unfolding start_in
start_is plan start is = sym is

pub few_in : (plan : Plan) → total_of plan.program plan.threads (commands_of plan.lines) ≤ most_micros → total_in plan ≤ most_micros
unfolding total_in
few_in plan few = few

-- ---- a store or an await is within the script

store_before_end : (steps : List Micro) (place word value : ℕ) → unwrap_or (slice_get steps place) End ≡ Store word value → place < length steps
store_before_end [] place word value is = cc
store_before_end (step ∷ steps) zero word value is = omega arith
store_before_end (step ∷ steps) (suc place) word value is = let rest = store_before_end steps place word value is in omega arith

await_before_end : (steps : List Micro) (place thread count : ℕ) → unwrap_or (slice_get steps place) End ≡ Await thread count → place < length steps
await_before_end [] place thread count is = cc
await_before_end (step ∷ steps) zero thread count is = omega arith
await_before_end (step ∷ steps) (suc place) thread count is = let rest = await_before_end steps place thread count is in omega arith

pub store_within : (plan : Plan) (place word value : ℕ) → micro_in plan place ≡ Store word value → place < total_in plan
unfolding micro_in total_in
store_within plan place word value is = store_before_end (micros plan.program plan.threads (commands_of plan.lines)) place word value is

pub await_within : (plan : Plan) (place thread count : ℕ) → micro_in plan place ≡ Await thread count → place < total_in plan
unfolding micro_in total_in
await_within plan place thread count is = await_before_end (micros plan.program plan.threads (commands_of plan.lines)) place thread count is

-- ---- the code after a store, and after an await

pub code_stored : (plan : Plan) → CodeNext plan → (place word value w : ℕ) → micro_in plan place ≡ Store word value
    → code_in plan (place + 1) w ≡ unwrap_or (stored_in w (Store word value)) (code_in plan place w)
code_stored plan next place word value w is =
    subst (λ (m : Micro). code_in plan (place + 1) w ≡ unwrap_or (stored_in w m) (code_in plan place w)) is (next place w)

pub code_awaited : (plan : Plan) → CodeNext plan → (place thread count w : ℕ) → micro_in plan place ≡ Await thread count
    → code_in plan (place + 1) w ≡ code_in plan place w
code_awaited plan next place thread count w is =
    subst (λ (m : Micro). code_in plan (place + 1) w ≡ unwrap_or (stored_in w m) (code_in plan place w)) is (next place w)

-- the end is at the last place
pub end_is : (plan script : Plan) (place at : ℕ) (IsEnd : Type 0) → script ≡ plan → place ≡ at → at ≤ total_in script
    → IsEnd ↔ (total_of plan.program plan.threads (commands_of plan.lines) ≤ place) → IsEnd ↔ (at ≡ total_in plan)
unfolding total_in
end_is plan script place at IsEnd same here within said =
    let bound : at ≤ total_of plan.program plan.threads (commands_of plan.lines) = subst (λ (z : Plan). at ≤ total_of z.program z.threads (commands_of z.lines)) same within in (
      λ is. let past = said.0 is in omega arith,
      λ is. said.1 (omega arith),
    )

-- a store is neither an await nor the end, and an await is neither a store nor the end
pub is_store : (micro : Micro) (word value : ℕ) → micro ≡ Store word value → ((thread : ℕ) × (count : ℕ) × (micro ≡ Await thread count)) ⊎ (micro ≡ End) → ⊥
is_store micro word value is (inl (thread, count, other)) = let both : Store word value ≡ Await thread count = sym is ∙ other in cc
is_store micro word value is (inr other) = let both : Store word value ≡ End = sym is ∙ other in cc

pub is_await : (micro : Micro) (thread count : ℕ) → micro ≡ Await thread count → ((word : ℕ) × (value : ℕ) × (micro ≡ Store word value)) ⊎ (micro ≡ End) → ⊥
is_await micro thread count is (inl (word, value, other)) = let both : Await thread count ≡ Store word value = sym is ∙ other in cc
is_await micro thread count is (inr other) = let both : Await thread count ≡ End = sym is ∙ other in cc

-- two awaits of one micro step are of the same thread, for the same count
pub same_await : (thread count thread' count' : ℕ) → Await thread count ≡ Await thread' count' → (thread ≡ thread') × (count ≡ count')
same_await thread count thread' count' same = (cc, cc)
