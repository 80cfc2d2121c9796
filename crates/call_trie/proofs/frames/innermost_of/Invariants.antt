use Rattle.std.proofs.Common.{◌≡◌, ◌≤◌, ℕ, List, length, take}
use Rattle.stack_rebuild.specs.OpenPaths.{open_from}
use Rattle.call_trie.specs.private.Frames.{open_in}
use Rattle.call_trie.proofs.frames.innermost_of.Given as goal

abbrev pub invariant-searching : goal.invariant-searching
invariant-searching l = record {
  within : l.place ≤ length l.frames;
  same : (paths : List (List ℕ)) → open_from l.func (open_in paths l.frames) ≡ open_from l.func (open_in paths (take l.place l.frames));
}

abbrev pub decreases-searching : goal.decreases-searching
decreases-searching l = l.place
