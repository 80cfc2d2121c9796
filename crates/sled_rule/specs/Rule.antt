-- The rule of the table: what is true of its words, and of what the seats know, between any two steps.
use Rattle.std.specs.Prelude.{◌≡◌, ℕ, ◌+◌, ◌<◌, ◌≤◌, List, [], ◌∷◌, length, slice_index}
use mathlib.Core.Option.{some}
use lib.ListN.{get_elem?}
use Rattle.atomic_table.specs.Table.{State}
use Rattle.patch_script.specs.declared.micro.Micro.TheVariants.{Await}
use Rattle.patch_script.specs.Plans.{Plan}
use Rattle.sled_rule.specs.declared.views.Load.{Load}
use Rattle.sled_rule.specs.declared.views.Met.{Met}
use Rattle.sled_rule.specs.declared.views.PatchView.{PatchView}
use Rattle.sled_rule.specs.declared.views.WorkView.{WorkView}
use Rattle.sled_rule.specs.declared.views.NoteView.{NoteView}
use Rattle.sled_rule.specs.declared.views.TallyView.{TallyView}
use Rattle.sled_rule.specs.declared.views.View.{View}
use Rattle.sled_rule.specs.declared.views.View.TheVariants.{Patch, Work, Note, Tally, Spent}
use Rattle.sled_rule.specs.Plans.{IsCodeIn, code_in, bound_in, start_in, total_in, micro_in}
use Rattle.sled_rule.specs.Slots.{code_slot, progress_slot, slot_count}
use Rattle.sled_rule.specs.Views.{ended_count, first_patch}

-- what the progress word of a thread holds
abbrev pub progress : Plan → List ℕ → ℕ → ℕ
progress plan words thread = slice_index words (progress_slot plan thread)

-- a load found a value that its word has at its place, and the place is within the bound of the passing
pub record IsLawful (plan : Plan) (thread : ℕ) (load : Load) : Type 0 where
  pub value : code_in plan load.place load.word ≡ load.value
  pub bound : load.place ≤ bound_in plan thread load.count

-- lawful loads of a thread, at places that never fall, from one place up to another
unfoldable pub Rises : Plan → ℕ → ℕ → List Load → ℕ → Type 0
Rises plan thread low [] high = low ≤ high
Rises plan thread low (load ∷ loads) high = (low ≤ load.place) × IsLawful plan thread load × Rises plan thread load.place loads high

-- the thread is among those that were met
pub record IsMet (met : List Met) (thread : ℕ) : Type 0 where
  pub index : ℕ
  pub one : Met
  pub at : get_elem? met index ≡ some one
  pub is : one.thread ≡ thread

-- a thread that was met had a seat, had seen no place that is still to come, and has ended
pub record WasMet (plan : Plan) (words : List ℕ) (p : PatchView) (one : Met) : Type 0 where
  pub first : 0 < one.thread
  pub given : one.thread ≤ p.given
  pub seen : one.seen ≤ p.place
  pub ended : progress plan words one.thread ≡ ended_count

-- what the words hold, and what the patcher knows
pub record IsCore (plan : Plan) (words : List ℕ) (p : PatchView) : Type 0 where
  pub script : p.script ≡ plan
  pub wide : length words ≡ slot_count plan
  pub place : p.place ≤ total_in plan
  pub given : p.given ≤ plan.threads
  -- each code word is the code at the place
  pub code : (word : ℕ) → IsCodeIn plan word → slice_index words (code_slot plan word) ≡ code_in plan p.place word
  -- threads have seats only after the start
  pub started : 0 < p.given → start_in plan ≤ p.place
  pub met : (i : ℕ) (one : Met) → get_elem? p.met i ≡ some one → WasMet plan words p one
  -- no thread was met twice
  pub once : (i j : ℕ) (one other : Met) → get_elem? p.met i ≡ some one → get_elem? p.met j ≡ some other → one.thread ≡ other.thread → i ≡ j
  -- a thread without a seat has made no passing
  pub idle : (thread : ℕ) → p.given < thread → thread ≤ plan.threads → progress plan words thread ≡ 0
  -- each await that was passed was reached
  pub awaited : (i thread count : ℕ) → i < p.place → micro_in plan i ≡ Await thread count → count ≤ progress plan words thread
  pub room : length p.known ≡ plan.threads + 1
  pub known : (thread : ℕ) → thread ≤ plan.threads → slice_index p.known thread ≤ progress plan words thread

-- what a thread's seat of this number knows; each thread has one owner
pub record IsWork (plan : Plan) (words : List ℕ) (p : PatchView) (owner : ℕ → ℕ) (seat : ℕ) (v : WorkView) : Type 0 where
  pub script : v.script ≡ plan
  pub first : 0 < v.thread
  pub given : v.thread ≤ p.given
  pub own : owner v.thread ≡ seat
  pub unmet : IsMet p.met v.thread → ⊥
  pub from : start_in plan ≤ v.seen
  pub to : v.seen ≤ p.place
  pub count : progress plan words v.thread ≡ v.count
  pub loads : Rises plan v.thread (start_in plan) v.loads v.seen

pub record IsNote (plan : Plan) (p : PatchView) (v : NoteView) : Type 0 where
  pub script : v.script ≡ plan
  pub told : v.told ≤ p.place

pub record IsTally (plan : Plan) (words : List ℕ) (p : PatchView) (v : TallyView) : Type 0 where
  pub script : v.script ≡ plan
  pub first : 0 < v.thread
  pub given : v.thread ≤ p.given
  pub count : v.count ≤ progress plan words v.thread

-- what the view of the seat of this number says is so; there is one patcher
module _ (plan : Plan) (words : List ℕ) (p : PatchView) (patcher : ℕ) (owner : ℕ → ℕ) (seat : ℕ) where
  abbrev pub Knows : View → Type 0
  Knows (Patch v) = (v ≡ p) × (seat ≡ patcher)
  Knows (Work v) = IsWork plan words p owner seat v
  Knows (Note v) = IsNote plan p v
  Knows (Tally v) = IsTally plan words p v
  Knows Spent = Unit {0}

-- the rule
pub record KeepsCode (plan : Plan) (s : State (Unit {0}) View) : Type 0 where
  pub patch : PatchView
  pub patcher : ℕ
  pub owner : ℕ → ℕ
  pub core : IsCore plan s.words patch
  pub each : (seat : ℕ) (v : View) → get_elem? s.views seat ≡ some v → Knows plan s.words patch patcher owner seat v

-- the view of the first seat, the patcher's
abbrev pub first_view : Plan → View
first_view plan = Patch (first_patch plan)
