use Rattle.std.proofs.Common.{◌≡◌, true, [], ◌∷◌, ◌++◌, length, refl, sym, ap, subst, ◌∙◌, arith}
use Rattle.fdr_buffer.specs.Segments.{has_room}
use Rattle.fdr_buffer.specs.Filled.{Filled}
use Rattle.fdr_buffer.specs.private.Buffer.{events_told}
use Rattle.fdr_buffer.proofs.BufferFields.{room_is, count_small, put_leaves}
use Rattle.fdr_buffer.proofs.buffer.Buffer.put.Goals as goal

pub put_event-self-inside-requires-clause-room : goal.put_event-self-inside-requires-clause-room
put_event-self-inside-requires-clause-room c =
    let a = c.self.inside in
    let event = c.args.event.now in
    let begun = ap (λ (v : Filled). v.begun) c.self.view_is ∙ c.requires.begun in
    let HasRoom : Filled → Type 0 = λ v. has_room v.size (v.events ++ event ∷ []) ≡ true in
    let room = subst HasRoom (sym c.self.view_is) c.requires.room in
    rw (c.of-lead.ensures.records, c.deref_mut.ensures.value) (room_is a (events_told a) event c.self.invariant begun room)

pub overflow_add-self : goal.overflow_add-self
overflow_add-self c =
    let a = c.self.inside in
    let begun = ap (λ (v : Filled). v.begun) c.self.view_is ∙ c.requires.begun in
    let small = count_small a (events_told a) c.self.invariant begun in
    omega arith

pub invariant_of-self : goal.invariant_of-self
invariant_of-self c =
    let put = c.put_event-self-inside in
    (put_leaves c.self.inside c.args.self.now c.args.event.now c.of-lead.result put.new.bytes put.result c.self.view_is c.self.invariant c.requires.begun c.requires.room c.requires.recordable.id
    (record { records = c.of-lead.ensures.records; cpu = c.of-lead.ensures.cpu; tsc = c.of-lead.ensures.tsc; arg = c.of-lead.ensures.arg; logged = c.requires.recordable.arg })
    (omega (arith, put.auto.bytes, ap length c.deref_mut.ensures.value))
    (put.ensures.bytes ∙ rw c.deref_mut.ensures.value refl) put.ensures.next).0

pub returns : goal.returns
returns c =
    let put = c.put_event-self-inside in
    (put_leaves c.self.inside c.args.self.now c.args.event.now c.of-lead.result put.new.bytes put.result c.self.view_is c.self.invariant c.requires.begun c.requires.room c.requires.recordable.id
    (record { records = c.of-lead.ensures.records; cpu = c.of-lead.ensures.cpu; tsc = c.of-lead.ensures.tsc; arg = c.of-lead.ensures.arg; logged = c.requires.recordable.arg })
    (omega (arith, put.auto.bytes, ap length c.deref_mut.ensures.value))
    (put.ensures.bytes ∙ rw c.deref_mut.ensures.value refl) put.ensures.next).1
