-- What the calls of the table speak of.
use Rattle.std.specs.Prelude.{◌≡◌, ◌↔◌, ℕ, ◌<◌, ◌≤◌, Bool, IsTrue, slice_index}
use Rattle.patch_script.specs.declared.micro.Micro.TheVariants.{Await}
use Rattle.patch_script.specs.Plans.{Plan}
use Rattle.sled_rule.specs.declared.table.CodeTable.{CodeTable}
use Rattle.sled_rule.specs.declared.seats.PatchSeat.{PatchSeat}
use Rattle.sled_rule.specs.declared.seats.WorkSeat.{WorkSeat}
use Rattle.sled_rule.specs.declared.seats.Note.{Note}
use Rattle.sled_rule.specs.declared.seats.Tally.{Tally}
use Rattle.sled_rule.specs.declared.views.PatchView.{PatchView}
use Rattle.sled_rule.specs.declared.views.WorkView.{WorkView}
use Rattle.sled_rule.specs.declared.views.NoteView.{NoteView}
use Rattle.sled_rule.specs.declared.views.TallyView.{TallyView}
use Rattle.sled_rule.specs.Plans.{micro_in}
use Rattle.sled_rule.specs.Rule.{IsMet}
use Rattle.sled_rule.specs.Steps.{patch_of, work_of, note_of, tally_of}
use Rattle.sled_rule.specs.Views.{looked_at}

-- what a seat, a note or a tally knows
abbrev pub patch_view : PatchSeat → PatchView
patch_view seat = patch_of seat.seat.me.0

abbrev pub work_view : WorkSeat → WorkView
work_view seat = work_of seat.seat.me.0

abbrev pub note_view : Note → NoteView
note_view note = note_of note.seat.me.0

abbrev pub tally_view : Tally → TallyView
tally_view tally = tally_of tally.seat.me.0

-- the script of a table
abbrev pub script_of : CodeTable → Plan
script_of table = table.script

-- the seat, note or tally is the table's
abbrev pub IsPatcherOf : CodeTable → PatchSeat → Type 0
IsPatcherOf table seat = (seat.seat.table_id ≡ table.table.shared.table_id) × ((patch_view seat).script ≡ script_of table)

abbrev pub IsWorkerOf : CodeTable → WorkSeat → Type 0
IsWorkerOf table seat = (seat.seat.table_id ≡ table.table.shared.table_id) × ((work_view seat).script ≡ script_of table)

abbrev pub IsNoteOf : CodeTable → Note → Type 0
IsNoteOf table note = (note.seat.table_id ≡ table.table.shared.table_id) × ((note_view note).script ≡ script_of table)

abbrev pub IsTallyOf : CodeTable → Tally → Type 0
IsTallyOf table tally = (tally.seat.table_id ≡ table.table.shared.table_id) × ((tally_view tally).script ≡ script_of table)

-- The awaited thread had a value. It is at least what was known of the thread, and is known from then on. The answer is
-- whether the value reaches the await's count. If it does, the await is passed.
pub record IsLooked (old : PatchView) (result : Bool) (new : PatchView) : Type 0 where
  pub thread : ℕ
  pub count : ℕ
  pub value : ℕ
  pub step : micro_in old.script old.place ≡ Await thread count
  pub grows : slice_index old.known thread ≤ value
  pub answer : IsTrue result ↔ (count ≤ value)
  pub view : new ≡ looked_at old thread count value
  pub known : slice_index new.known thread ≡ value

-- each thread that was given a seat was met
abbrev pub AllMet : PatchView → Type 0
AllMet p = (thread : ℕ) → 0 < thread → thread ≤ p.given → IsMet p.met thread
