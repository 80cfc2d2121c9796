use Rattle.std.proofs.Common.{◌≡◌, ◌+◌, drop, map}
use Rattle.call_trie.specs.Tries.{Trie}
use Rattle.xray_program.specs.Profile.{trouble_of}
use Rattle.xray_program.proofs.profile.trouble_of.Given as goal

abbrev pub invariant-loop-recorder : goal.invariant-loop-recorder
invariant-loop-recorder l = record {
  thread : l.thread ≡ l.recorder-index;
  rest : trouble_of 1 (map (λ (t : Trie). t.state) l.recorders) ≡ trouble_of (l.thread + 1) (map (λ (t : Trie). t.state) (drop l.recorder-index l.recorders));
}
