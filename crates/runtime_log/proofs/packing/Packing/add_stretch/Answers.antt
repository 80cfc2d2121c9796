use Rattle.std.proofs.Common.{◌≡◌, ◌++◌, length, true, refl, ap, ◌∙◌, arith}
use Rattle.std.proofs.lemmas.List.{length-append}
use Rattle.fdr_buffer.specs.Filled.{Filled}
use Rattle.fdr_buffer.specs.Segments.{has_room}
use Rattle.fdr_record.specs.Recordable.{IsRecordable}
use Rattle.runtime_log.specs.declared.notes.Notes.{Notes}
use Rattle.runtime_log.specs.private.Coming.{events_to_come}
use Rattle.runtime_log.specs.private.Stretches.{stretch_events}
use Rattle.runtime_log.proofs.StretchPacking.{adds_stretch, all_after, stretch_count, stretch_goes_on, stretch_room}
use Rattle.runtime_log.proofs.packing.Packing.add_stretch.Goals as goal

pub put_records-requires-clause-says : goal.put_records-requires-clause-says
put_records-requires-clause-says c =
    let after = c.args.last.now in
    let says = c.in-Some.ensures.gives in
    (stretch_events c.in-Some.stretch.count after.cpu after.tsc says.0, stretch_goes_on c.args.self.now.buffer.events after c.in-Some.stretch says.0 _ _ c.requires.last.0 says.1)

pub returns-clause-begun : goal.returns-clause-begun
returns-clause-begun c =
    let after = c.args.last.now in
    let says = c.in-Some.ensures.gives in
    let buffer = c.put_records.ensures _ (stretch_goes_on c.args.self.now.buffer.events after c.in-Some.stretch says.0 _ _ c.requires.last.0 says.1) in
    (ap (λ (b : Filled). b.begun) buffer ∙ c.requires.begun.0, ap (λ (b : Filled). b.size) buffer ∙ c.requires.begun.1)

pub returns-clause-adds : goal.returns-clause-adds
returns-clause-adds c = λ first all adds.
    let after = c.args.last.now in
    let stretch = c.in-Some.stretch in
    let says = c.in-Some.ensures.gives in
    let old = c.args.self.now in
    let goes_on = stretch_goes_on old.buffer.events after stretch says.0 _ _ c.requires.last.0 says.1 in
    let room : has_room old.buffer.size (old.buffer.events ++ stretch_events stretch.count after.cpu after.tsc says.0) ≡ true =
    stretch_room old.buffer.size c.room.result old.buffer.events _ stretch.records.now goes_on.bytes c.in-Some.ensures.within c.room.ensures in
    adds_stretch c.args.head first old (record { file = old.file; buffer = c.put_records.new.self; notes = c.note_stretch.new.self }) all c.args.events.now c.stretch.new.self after stretch says.0
    c.a_segment_grows.ensures.joined says.1 c.requires.last.1 room refl c.note_stretch.ensures (c.put_records.ensures _ goes_on) adds

pub returns-clause-recordable : goal.returns-clause-recordable
returns-clause-recordable c = λ all.
    let says = c.in-Some.ensures.gives in all_after IsRecordable _ (events_to_come c.stretch.new.self) (events_to_come c.args.events.now) says.1.parts all

pub returns-clause-room : goal.returns-clause-room
returns-clause-room c =
    let after = c.args.last.now in
    let stretch = c.in-Some.stretch in
    let says = c.in-Some.ensures.gives in
    let more = stretch_events stretch.count after.cpu after.tsc says.0 in
    let noted = ap (λ (n : Notes). n.facts.events) c.note_stretch.ensures in
    omega (arith, noted, ap length says.1.parts, length-append more (events_to_come c.stretch.new.self), stretch_count stretch.count after.cpu after.tsc says.0)

pub returns-clause-fewer : goal.returns-clause-fewer
returns-clause-fewer c =
    let after = c.args.last.now in
    let says = c.in-Some.ensures.gives in
    let more = stretch_events c.in-Some.stretch.count after.cpu after.tsc says.0 in
    omega (arith, ap length says.1.parts, length-append more (events_to_come c.stretch.new.self))
