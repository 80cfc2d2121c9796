use Rattle.std.proofs.Common.{◌∙◌, ap, refl, sym}
use Rattle.call_trie.specs.Tries.{Trie, same_itself}
use Rattle.call_trie.proofs.TrieBounds.{roomy}
use Rattle.call_trie.proofs.RecorderFields.{entered_room, left_room}
use Rattle.call_trie.proofs.RecorderEvents.{has_stopped, stands_entered, stands_left, stands_stopped}
use Rattle.call_trie.proofs.recorder.TrieRecorderRecorder.note.Goals as goal

pub leave-requires : goal.leave-requires
leave-requires c = roomy c.args.self.now c.requires.room.0 (ap (λ (t : Trie). t.state) (sym c.self.view_is) ∙ c.in-Live.is) c.requires.room.1 c.requires.room.2

pub returns-in-Entry-clause-noted : goal.returns-in-Entry-clause-noted
returns-in-Entry-clause-noted c = λ events stands.
    stands_entered c.a_thread_goes_on.ensures c.args.self.now c.enter.new.self events c.args.event c.in-Entry.is (ap (λ (t : Trie). t.state) (sym c.self.view_is) ∙ c.in-Live.is) stands c.enter.ensures

pub returns-in-Entry-clause-follows : goal.returns-in-Entry-clause-follows
returns-in-Entry-clause-follows c = entered_room _ c.args.self.now c.enter.new.self c.enter.ensures

pub returns-in-Exit-clause-noted : goal.returns-in-Exit-clause-noted
returns-in-Exit-clause-noted c = λ events stands.
    stands_left c.a_thread_goes_on.ensures c.args.self.now c.leave.new.self events c.args.event c.in-Exit.is (ap (λ (t : Trie). t.state) (sym c.self.view_is) ∙ c.in-Live.is) stands c.leave.ensures

pub returns-in-Exit-clause-follows : goal.returns-in-Exit-clause-follows
returns-in-Exit-clause-follows c = left_room c.args.event.func c.args.event.tsc c.args.self.now c.leave.new.self c.leave.ensures

pub returns-in-Full : goal.returns-in-Full
returns-in-Full c = record {
  noted = λ events stands.
      stands_stopped c.args.self.now events c.args.event (λ live. has_stopped _ c.in-Full.is (ap (λ (t : Trie). t.state) c.self.view_is ∙ live)) stands;
  follows = same_itself _;
  stopped = λ stopped. refl;
}
