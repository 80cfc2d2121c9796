-- What the fields of a recorder say.
use Rattle.std.specs.Prelude.{◌≡◌, ◌<◌, [], length}
use Rattle.stack_rebuild.specs.PathSums.{path_at}
use Rattle.call_trie.specs.declared.recorder.TrieRecorder.TheInside.{Inside}
use Rattle.call_trie.specs.private.Frames.{AreWithin, open_in}
use Rattle.call_trie.specs.Tries.{Trie}

-- what it holds
abbrev pub trie_in : Inside → Trie
trie_in a = record {
  room = a.nodes.room;
  state = a.state;
  paths = a.nodes.paths;
  tallies = a.nodes.tallies;
  calls = open_in a.nodes.paths a.frames;
}

-- the nodes of frames are there
pub record IsTrie (a : Inside) : Type 0 where
  pub frames : AreWithin a.nodes.paths a.frames
  pub root : path_at a.nodes.paths 0 ≡ []
  pub some : 0 < length a.nodes.paths
