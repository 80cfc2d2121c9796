-- The rule of the pool: what is true between any two steps about what is queued and what the passes know. A thread's
-- number is the place of its pass in the list of views. At place 0 is the pass that only opens the pool.
use Rattle.std.specs.Prelude.{◌≡◌, ◌<◌, ◌≤◌, ◌⊎◌, ◌+◌, ℕ, Bool, true, false, List, [], ◌∷◌, ◌++◌, All, length, replicate, slice_index_or}
use mathlib.Core.Option.{some}
use lib.ListN.{get_elem?}
use Rattle.fdr_buffer.specs.Filled.{Filled, empty_buffer}
use Rattle.machine_step.specs.declared.setup.Setup.{Setup}
use Rattle.buffer_queue.specs.declared.view.View.{View}
use Rattle.buffer_queue.specs.Views.{opener}
use Rattle.buffer_queue.specs.Left.{IsSuffix, IsUsed, of_thread, row_at}

abbrev pub one_if : Bool → ℕ
one_if true = 1
one_if false = 0

-- how many passes are between a put and the take after it
abbrev pub turning : List View → ℕ
turning [] = 0
turning (v ∷ views) = one_if v.between + turning views

-- the buffers are a thread's, and their serials count from 0
abbrev pub IsCounted : ℕ → List Filled → Type 0
IsCounted thread buffers = (k : ℕ) (other : Filled) → k < length buffers
    → ((slice_index_or buffers k other).thread ≡ thread) × ((slice_index_or buffers k other).serial ≡ k)

-- What a pool has come to: what it was made with; how many passes were made, that at place 0 among them; how many
-- fresh buffers were queued; how many passes pass 1 was handed back, from thread 2 on; which buffers were drained;
-- and for each place, what its thread has sealed.
pub record PoolState : Type 0 where
  pub setup : Setup
  pub passes : ℕ
  pub pushed : ℕ
  pub joined : ℕ
  pub drained : List Filled
  pub sealed : List (List Filled)

-- what pass 1 knows besides is so
pub record HeadFits (state : PoolState) (v : View) : Type 0 where
  pub given : v.given + 1 ≡ state.passes
  pub pushed : v.pushed ≡ state.pushed
  pub drained : v.drained ≡ state.drained
  pub joined : length v.returned ≡ state.joined
  pub returned : (k : ℕ) → k < state.joined → row_at v.returned k ≡ row_at state.sealed (k + 2)

-- what a thread's pass knows is so, and it wasn't handed back
pub record LiveFits (state : PoolState) (place : ℕ) (v : View) : Type 0 where
  pub thread : v.thread ≡ place
  pub some_thread : 0 < place
  pub setup : v.setup ≡ state.setup
  pub sealed : v.sealed ≡ row_at state.sealed place
  pub still_out : (place ≡ 1) ⊎ (state.joined + 1 < place)
  pub head : place ≡ 1 → HeadFits state v

-- what the pass at a place knows is so
pub record Fits (state : PoolState) (place : ℕ) (v : View) : Type 0 where
  pub live : v.live ≡ true → LiveFits state place v
  pub rests : v.live ≡ false → v.between ≡ false
  pub opened : v.opens ≡ false

-- What is true of an opened pool. Its passes: there is one for each thread, none is made twice, and what each knows is
-- so. Its stages: while fresh buffers are queued, pass 1 is alone and nothing is sealed; while buffers are drained,
-- pass 1 has all other passes and isn't between a put and a take. Its buffers, both drained and queued: fresh ones come
-- first; those of a thread are the last that it sealed, and all of them while a fresh one is left; and there are as
-- many as were queued fresh, and one more for each pass between a put and a take.
pub record KeepsOpen (items : List Filled) (views : List View) : Type 0 where
  pub state : PoolState
  pub fresh : ℕ
  pub used : List Filled
  pub one_each : length views ≡ state.passes
  pub one_row : length state.sealed ≡ state.passes
  pub some_out : state.joined + 1 < state.passes
  pub few : state.passes ≤ state.setup.threads + 1
  pub fit : (place : ℕ) (v : View) → get_elem? views place ≡ some v → Fits state place v
  pub counted : (place : ℕ) → IsCounted place (row_at state.sealed place)
  pub enough : state.pushed + state.setup.threads ≤ state.setup.max
  pub stocking : state.pushed + state.setup.threads < state.setup.max
      → (state.passes ≡ 2) × (used ≡ []) × ((place : ℕ) → row_at state.sealed place ≡ [])
  pub draining : 0 < length state.drained → (state.joined + 2 ≡ state.passes) × (turning views ≡ 0)
  pub all : state.drained ++ items ≡ replicate fresh (empty_buffer state.setup.size) ++ used
  pub last : (place : ℕ) → IsSuffix (of_thread place used) (row_at state.sealed place)
  pub whole : 0 < fresh → (place : ℕ) → of_thread place used ≡ row_at state.sealed place
  pub count : length state.drained + length items ≡ state.pushed + turning views
  pub each : All (IsUsed state.setup.size state.passes) used

-- a queue that no pool was opened on
abbrev pub IsUnopened : List Filled → List View → Type 0
IsUnopened items views = (items ≡ []) × (views ≡ opener ∷ [])

abbrev pub KeepsPool : List Filled → List View → Type 0
KeepsPool items views = IsUnopened items views ⊎ KeepsOpen items views
