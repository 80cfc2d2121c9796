-- What seats know, and how it changes.
use Rattle.std.specs.Prelude.{ℕ, ◌+◌, max, [], ◌∷◌, ◌++◌, nat_lt, replicate, slice_index, slice_set, if◌then◌else◌}
use Rattle.patch_script.specs.Plans.{Plan}
use Rattle.sled_rule.specs.declared.views.PatchView.{PatchView}
use Rattle.sled_rule.specs.declared.views.WorkView.{WorkView}
use Rattle.sled_rule.specs.declared.views.NoteView.{NoteView}
use Rattle.sled_rule.specs.declared.views.TallyView.{TallyView}
use Rattle.sled_rule.specs.Plans.{start_in}

-- the count of a thread that has ended: 2^64 - 1
abbrev pub ended_count : ℕ
ended_count = 18446744073709551615

-- ---- the patcher's

-- at first: no micro step was made, no thread has a seat, and nothing is known of any thread
abbrev pub first_patch : Plan → PatchView
first_patch plan = record { script = plan; place = 0; given = 0; met = []; known = replicate (plan.threads + 1) 0 }

-- one more micro step was made
abbrev pub advanced : PatchView → PatchView
advanced p = record p { place = p.place + 1 }

-- one more thread has a seat
abbrev pub giving : PatchView → PatchView
giving p = record p { given = p.given + 1 }

-- it is known that a thread has reached a count
abbrev pub knowing : PatchView → ℕ → ℕ → PatchView
knowing p thread count = record p { known = slice_set p.known thread count }

-- an await for a count was looked at, and the thread had a value; if that reaches the count, the await is passed
abbrev pub looked_at : PatchView → ℕ → ℕ → ℕ → PatchView
looked_at p thread count value = record p {
  place = (if nat_lt value count then p.place else p.place + 1);
  known = slice_set p.known thread value;
}

-- a tally was heeded
abbrev pub heeding : PatchView → TallyView → PatchView
heeding p tally = knowing p tally.thread (max (slice_index p.known tally.thread) tally.count)

-- a thread that has ended was met
abbrev pub meeting : PatchView → WorkView → PatchView
meeting p v = record p { met = record { thread = v.thread; seen = v.seen } ∷ p.met; known = slice_set p.known v.thread ended_count }

-- ---- a thread's

-- the seat of the next thread, which has seen what the patcher made before threads start
abbrev pub next_work : PatchView → WorkView
next_work p = record { script = p.script; thread = p.given + 1; seen = start_in p.script; count = 0; loads = [] }

-- a value was loaded from a word, which has it at a place
abbrev pub loading : WorkView → ℕ → ℕ → ℕ → WorkView
loading v word value place = record v {
  seen = place;
  loads = v.loads ++ record { count = v.count; word = word; value = value; place = place } ∷ [];
}

abbrev pub counting : WorkView → ℕ → WorkView
counting v count = record v { count = count }

-- a note was heard
abbrev pub hearing : WorkView → NoteView → WorkView
hearing v note = record v { seen = max v.seen note.told }

-- ---- notes and tallies

abbrev pub note_at : PatchView → NoteView
note_at p = record { script = p.script; told = p.place }

abbrev pub tally_at : WorkView → TallyView
tally_at v = record { script = v.script; thread = v.thread; count = v.count }
