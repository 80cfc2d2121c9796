use Rattle.std.proofs.Common.{◌≡◌, ◌+◌, length, refl, sym, ap, subst, arith}
use Rattle.std.specs.Prelude.{All, IsTrue}
use Rattle.std.proofs.lemmas.List.Elements.{All-tail}
use Rattle.std.proofs.lemmas.Result.{on_ok_weaker}
use Rattle.fdr_record.specs.Recordable.{IsRecordable}
use Rattle.fdr_buffer.specs.declared.buffer.TheConstants.{LARGEST_SIZE}
use Rattle.fdr_buffer.specs.Filled.{Filled}
use Rattle.runtime_log.specs.declared.notes.Notes.{Notes}
use Rattle.runtime_log.specs.private.Coming.{events_to_come}
use Rattle.runtime_log.specs.private.Notes.{AreFew, SameLog}
use Rattle.runtime_log.proofs.AddedBlocks.{NotesEvent, adds_first, adds_more, counted, fills_again, packed_more}
use Rattle.runtime_log.proofs.PackedFile.{fills_first}
use Rattle.runtime_log.proofs.packing.Packing.add.Goals as goal

pub events-init : goal.events-init
events-init c =
    let old = c.args.self.now in
    let head = c.args.head in
    let first = c.in-Some.first in
    let gives = c.in-Some.ensures.gives in
    let before = counted old.notes (old.notes.facts.blocks + 1) in
    let noted = sym c.begin.ensures.others.1 in
    let file = ap (λ x. x.items) c.begin.ensures.others.0 in
    record {
      may = c.in-Some.ensures.may;
      recordable = All-tail IsRecordable first (events_to_come c.next.new.self) (subst (All IsRecordable) gives c.requires.recordable);
      few = subst (λ (n : Notes). AreFew n.facts) noted c.note.ensures.few;
      begun = subst (λ (b : Filled). IsTrue b.begun × (b.size ≡ LARGEST_SIZE)) (sym c.begin.ensures.buffer) (refl, refl);
      adds = adds_first head old c.begin.new.self c.args.events c.next.new.self first (old.notes.facts.blocks + 1) refl gives
          (fills_first head old.file.items first c.begin.new.self (λ size e. refl) file c.begin.ensures.buffer)
          (subst (λ (n : Notes). NotesEvent head.thread first before n) noted c.note.ensures.notes)
          (subst (λ (n : Notes). SameLog before.facts n.facts) noted c.note.ensures.log);
      room = omega (arith, c.note.ensures.events, ap (λ (n : Notes). n.facts.events) c.begin.ensures.others.1, ap length gives);
    }

pub events-preserved : goal.events-preserved
events-preserved c =
    let i = c.events.invariant in
    let old = c.args.self.now in
    let mid = c.events.self in
    let head = c.args.head in
    let event = c.in-Some-next.event in
    let gives = c.in-Some-next.ensures.gives in
    let noted = sym c.put.ensures.notes in
    let put = c.put.new.self in
    let added = adds_more head old mid put c.args.events c.events.events c.next-in-events.new.self event i.adds gives
    (λ es fills. c.in_ok-put.ensures.fills old.file.items es (fills_again head old.file.items es mid (record mid { notes = c.note-in-Some-next.new.self }) refl refl fills))
    (subst (λ (n : Notes). NotesEvent head.thread event mid.notes n) noted c.note-in-Some-next.ensures.notes)
    (subst (λ (n : Notes). SameLog mid.notes.facts n.facts) noted c.note-in-Some-next.ensures.log) in
    record {
      may = c.add_stretch.ensures.may;
      recordable = c.add_stretch.ensures.recordable (All-tail IsRecordable event (events_to_come c.next-in-events.new.self) (subst (All IsRecordable) gives i.recordable));
      few = c.add_stretch.ensures.few;
      begun = c.add_stretch.ensures.begun;
      adds = c.add_stretch.ensures.adds old c.args.events added;
      room = omega (arith, i.room, c.add_stretch.ensures.room, c.note-in-Some-next.ensures.events, ap (λ (n : Notes). n.facts.events) c.put.ensures.notes, ap length gives);
    }

pub events-smaller : goal.events-smaller
events-smaller c = omega (arith, c.add_stretch.ensures.fewer, ap length c.in-Some-next.ensures.gives)

pub returns-clause-packs : goal.returns-clause-packs
returns-clause-packs c = λ log taken b packed shows some is.
    let i = c.events.invariant in
    on_ok_weaker c.flush.result
    (packed_more log taken b c.args.head c.args.self.now c.events.self c.flush.new.self c.args.events c.events.events packed shows is i.adds
    (c.next-in-events.ensures.ends c.in_default-next.is) i.few i.begun.1 c.flush.ensures.others.0 c.flush.ensures.others.1) c.flush.ensures.file
