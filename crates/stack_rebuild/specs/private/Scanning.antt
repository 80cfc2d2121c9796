-- What is kept of paths and open calls while events are taken, for the contracts of private functions.
use Rattle.std.specs.Prelude.{◌≡◌, ◌<◌, ◌+◌, ◌++◌, ℕ, List, [], ◌∷◌, length, map, reverse, All}
use Rattle.std.specs.Option.{option_to_list}
use Rattle.fdr_record.specs.declared.event.Event.{Event}
use Rattle.stack_rebuild.specs.declared.call.Call.{Call}
use Rattle.stack_rebuild.specs.declared.tally.Tally.{Tally}
use Rattle.stack_rebuild.specs.declared.thread_stack.Frame.{Frame}
use Rattle.stack_rebuild.specs.Calls.{Standing, open_calls, pair_at, standing_after}
use Rattle.stack_rebuild.specs.Stacks.{Timed, path_of, spent_in, timed}
use Rattle.stack_rebuild.specs.PathSums.{AreSums, path_at}

-- the pair that an event makes after a history of its thread, with its path
abbrev pub timed_now : Event → List Event → List Timed
timed_now e history = map (timed (reverse (e ∷ history))) (option_to_list (pair_at e (length history) (open_calls history)))

-- each path that had a number still has it
pub record Keeps (old new : List (List ℕ)) : Type 0 where
  pub kept : (n : ℕ) → n < length old → (n < length new) × (path_at new n ≡ path_at old n)

-- the paths of frames have numbers
abbrev pub AreWithin : List (List ℕ) → List Frame → Type 0
AreWithin paths frames = (0 < length paths) × All (λ frame. frame.path < length paths) frames

-- A frame has the path of its call, which was made in those outside it, and the time that its direct children took.
pub record IsFrame (paths : List (List ℕ)) (events : List Event) (frame : Frame) (call : Call) (outer : List Call) : Type 0 where
  pub path : path_at paths frame.path ≡ path_of (call ∷ outer)
  pub within : frame.path < length paths
  pub spent : frame.spent ≡ spent_in events call.entry

-- the frames are those of the calls, both listed from the innermost to the outermost
abbrev pub AreFrames : List (List ℕ) → List Event → List Frame → List Call → Type 0
AreFrames paths events [] [] = Unit {0}
AreFrames paths events [] (call ∷ outer) = ⊥
AreFrames paths events (frame ∷ frames) [] = ⊥
AreFrames paths events (frame ∷ frames) (call ∷ outer) = IsFrame paths events frame call outer × AreFrames paths events frames outer

-- the number of the innermost frame's path, listed first, or that of the empty path if there is no frame
abbrev pub top_of : List Frame → ℕ
top_of [] = 0
top_of (frame ∷ frames) = frame.path

-- a frame that has spent more
abbrev pub spending : ℕ → Frame → Frame
spending duration frame = record { path = frame.path; spent = frame.spent + duration }

-- the innermost frame, listed first, has spent more
abbrev pub with_spent : ℕ → List Frame → List Frame
with_spent duration [] = []
with_spent duration (frame ∷ frames) = spending duration frame ∷ frames

-- a frame of a call of a function is opened in the innermost one
pub record Opens (func : ℕ) (old new : List Frame) (paths paths' : List (List ℕ)) : Type 0 where
  pub frame : Frame
  pub is : new ≡ old ++ frame ∷ []
  pub path : path_at paths' frame.path ≡ path_at paths (top_of (reverse old)) ++ func ∷ []
  pub within : frame.path < length paths'
  pub spent : frame.spent ≡ 0
  pub keeps : Keeps paths paths'

-- where a thread is after its history, with the frames of its open calls, and what pairs of all threads say of paths
pub record Follows (calls : Standing) (frames : List Frame) (paths : List (List ℕ)) (tallies : List Tally) (pairs : List Timed) (history : List Event) : Type 0 where
  pub stands : calls ≡ standing_after history
  pub framed : AreFrames paths (reverse history) (reverse frames) (open_calls history)
  pub summed : AreSums paths tallies pairs

-- what stands for a frame that isn't there
abbrev pub no_frame : Frame
no_frame = record { path = 0; spent = 0 }
