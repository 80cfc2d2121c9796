-- What the fields of frames say.
use Rattle.std.specs.Prelude.{◌≤◌, List, length, vec_capacity}
use Rattle.stack_rebuild.specs.Stacks.{most_open}
use Rattle.call_trie.specs.declared.frames.Frame.{Frame}
use Rattle.call_trie.specs.declared.frames.Frames.TheInside.{Inside}
use Rattle.call_trie.specs.private.Frames.{AreCounts}

-- the frames
abbrev pub frames_in : Inside → List Frame
frames_in a = a.frames.items

-- they are counted, there are only so many, and there is room for as many
pub record AreFrames (a : Inside) : Type 0 where
  pub counted : AreCounts a.frames.items a.counts.items
  pub few : length a.frames.items ≤ most_open
  pub fit : most_open ≤ vec_capacity a.frames
