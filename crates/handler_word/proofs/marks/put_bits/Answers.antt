use Rattle.handler_word.proofs.MarkBits.{marks_in_byte, marks_in_place, filled_in_place, put_there}
use Rattle.handler_word.proofs.marks.put_bits.Goals as goal

pub returns-then-place-eq0-clause-marks : goal.returns-then-place-eq0-clause-marks
returns-then-place-eq0-clause-marks c =
    rw c.push_reserved.ensures.items
    (marks_in_byte c.args.bytes.now.items c.args.marks c.args.bits c.requires.filled c.if-place-eq0.true c.requires.small)

pub returns-else-place-eq0-clause-marks : goal.returns-else-place-eq0-clause-marks
returns-else-place-eq0-clause-marks c =
    marks_in_place c.args.bytes.now.items c.args.marks c.args.bits _ c.requires.filled c.if-place-eq0.false c.requires.small
    (put_there c.args.bytes.now.items c.args.marks c.args.bits c.index_mut.result.now c.requires.filled c.if-place-eq0.false c.requires.small c.index_mut.ensures.value)

pub returns-else-place-eq0-clause-filled : goal.returns-else-place-eq0-clause-filled
returns-else-place-eq0-clause-filled c =
    filled_in_place c.args.bytes.now.items c.args.marks c.args.bits _ c.requires.filled c.if-place-eq0.false c.requires.small
    (put_there c.args.bytes.now.items c.args.marks c.args.bits c.index_mut.result.now c.requires.filled c.if-place-eq0.false c.requires.small c.index_mut.ensures.value)
