use Rattle.std.proofs.Common.{◌+◌, ◌≤◌, length, refl, ap, ◌∙◌, arith}
use Rattle.fdr_buffer.proofs.BufferFields.{counts_small, records_leave, room_left}
use Rattle.fdr_buffer.proofs.buffer.Buffer.put_records.Goals as goal

pub overflow_add-self : goal.overflow_add-self
overflow_add-self c =
    let a = c.self.inside in
    let left = room_left a c.args.self.now c.self.view_is c.self.invariant c.requires.begun in
    let within : a.used + length c.args.records.now ≤ length a.bytes.items = omega (arith, left.0, left.1, c.requires.room) in
    let small = counts_small a c.args.self.now c.args.records.now c.args.count c.args.last.now c.requires.says.0 c.self.view_is c.self.invariant c.requires.begun within c.requires.says.1 in
    omega (arith, small)

pub invariant_of-self : goal.invariant_of-self
invariant_of-self c =
    let a = c.self.inside in
    let put = c.put_bytes-self-inside in
    let left = room_left a c.args.self.now c.self.view_is c.self.invariant c.requires.begun in
    let within : a.used + length c.args.records.now ≤ length a.bytes.items = omega (arith, left.0, left.1, c.requires.room) in
    (records_leave a c.args.self.now c.args.records.now c.args.count c.args.last.now c.requires.says.0 put.new.bytes put.result c.self.view_is c.self.invariant c.requires.begun within c.requires.says.1
    (omega (arith, put.auto.bytes, ap length c.deref_mut.ensures.value))
    (put.ensures.bytes ∙ rw c.deref_mut.ensures.value refl) put.ensures.next).0

pub returns : goal.returns
returns c = λ more is.
    let a = c.self.inside in
    let put = c.put_bytes-self-inside in
    let left = room_left a c.args.self.now c.self.view_is c.self.invariant c.requires.begun in
    let within : a.used + length c.args.records.now ≤ length a.bytes.items = omega (arith, left.0, left.1, c.requires.room) in
    (records_leave a c.args.self.now c.args.records.now c.args.count c.args.last.now more put.new.bytes put.result c.self.view_is c.self.invariant c.requires.begun within is
    (omega (arith, put.auto.bytes, ap length c.deref_mut.ensures.value))
    (put.ensures.bytes ∙ rw c.deref_mut.ensures.value refl) put.ensures.next).1
