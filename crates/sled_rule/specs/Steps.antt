-- What each step of a seat lets it learn.
use Rattle.std.specs.Prelude.{◌≡◌, ℕ, ◌<◌, ◌≤◌, []}
use Rattle.patch_script.specs.Plans.{Plan}
use Rattle.sled_rule.specs.declared.views.PatchView.{PatchView}
use Rattle.sled_rule.specs.declared.views.WorkView.{WorkView}
use Rattle.sled_rule.specs.declared.views.NoteView.{NoteView}
use Rattle.sled_rule.specs.declared.views.TallyView.{TallyView}
use Rattle.sled_rule.specs.declared.views.View.{View}
use Rattle.sled_rule.specs.declared.views.View.TheVariants.{Patch, Work, Note, Tally}
use Rattle.sled_rule.specs.Plans.{code_in, bound_in}
use Rattle.sled_rule.specs.Views.{first_patch, loading}

-- ---- views of one kind; what is said of a view of another kind means nothing

abbrev no_plan : Plan
no_plan = record {
  program = record { base = 0; entry = 0; code = []; functions = []; units = []; sleds = []; trampolines = record { entry = 0; exit = 0; tail = 0; args = 0 } };
  threads = 0;
  lines = [];
}

abbrev pub patch_of : View → PatchView
patch_of (Patch v) = v
patch_of _ = first_patch no_plan

abbrev pub work_of : View → WorkView
work_of (Work v) = v
work_of _ = record { script = no_plan; thread = 0; seen = 0; count = 0; loads = [] }

abbrev pub note_of : View → NoteView
note_of (Note v) = v
note_of _ = record { script = no_plan; told = 0 }

abbrev pub tally_of : View → TallyView
tally_of (Tally v) = v
tally_of _ = record { script = no_plan; thread = 0; count = 0 }

-- ---- steps

-- A value was found in a word. The word has it at a place that isn't before what the seat had seen, and isn't past the
-- bound of its passing. The place is the first such place.
pub record IsFetched (old : WorkView) (word value : ℕ) (new : WorkView) : Type 0 where
  pub place : ℕ
  pub from : old.seen ≤ place
  pub bound : place ≤ bound_in old.script old.thread old.count
  pub here : code_in old.script place word ≡ value
  pub first : (before : ℕ) → old.seen ≤ before → before < place → code_in old.script before word ≡ value → ⊥
  pub view : new ≡ loading old word value place
