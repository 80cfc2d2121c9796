use Rattle.std.proofs.Common.{◌∙◌, ap}
use Rattle.std.proofs.lemmas.Result.{on_ok_weaker}
use Rattle.stack_rebuild.specs.Stacks.{timed_pairs}
use Rattle.call_trie.specs.Tries.{Trie, paths_opened}
use Rattle.call_trie.proofs.RecorderEvents.{known_after}
use Rattle.call_trie.proofs.recorder.TrieRecorder.add_to.Goals as goal

pub returns-clause-sums : goal.returns-clause-sums
returns-clause-sums c =
    on_ok_weaker c.add_to.result
    (λ sums before events so own. sums before (timed_pairs events) so (record {
      opened = paths_opened events;
      paths_are = ap (λ (t : Trie). t.paths) c.self.view_is ∙ own.paths c.requires.live;
      tallies_are = ap (λ (t : Trie). t.tallies) c.self.view_is ∙ own.tallies c.requires.live;
      numbered = (known_after c.a_thread_goes_on.ensures events).pairs;
    })) c.add_to.ensures.sums
