-- The frames of open calls.
use Rattle.std.specs.Prelude.{◌≡◌, ◌<◌, ◌%◌, ◌==◌, Bool, ℕ, List, All, count_by, length, map, reverse, slice_index_or}
use Rattle.stack_rebuild.specs.OpenPaths.{OpenPath}
use Rattle.stack_rebuild.specs.PathSums.{path_at}
use Rattle.call_trie.specs.declared.frames.Frame.{Frame}

-- the open call of a frame
abbrev pub open_path : List (List ℕ) → Frame → OpenPath
open_path paths frame = record { func = frame.func; path = path_at paths frame.node; tsc = frame.tsc; spent = frame.spent }

-- the open calls, from the innermost to the outermost, if the frames are listed from the outermost to the innermost
abbrev pub open_in : List (List ℕ) → List Frame → List OpenPath
open_in paths frames = map (open_path paths) (reverse frames)

-- the number of a frame's node
abbrev pub node_in : Frame → ℕ
node_in frame = frame.node

-- the nodes of frames have numbers other than 0
abbrev pub AreWithin : List (List ℕ) → List Frame → Type 0
AreWithin paths frames = All (λ node. (0 < node) × (node < length paths)) (map node_in frames)

-- whether a frame's function has this remainder
abbrev pub is_like : ℕ → Frame → Bool
is_like b frame = frame.func % 8192 == b

-- the counts are those of frames, by the remainders of their functions
pub record AreCounts (frames : List Frame) (counts : List ℕ) : Type 0 where
  pub size : length counts ≡ 8192
  pub each : (b : ℕ) → b < 8192 → slice_index_or counts b 0 ≡ count_by (is_like b) frames
