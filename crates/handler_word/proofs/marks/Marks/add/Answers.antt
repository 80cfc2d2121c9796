use Rattle.std.proofs.Common.{◌≡◌, ◌+◌, [], ◌∷◌, ◌++◌, cond, refl, ap, ◌∙◌, arith}
use mir.Val.{bool_byte}
use Rattle.std.proofs.lemmas.List.Sums.{sum_by-append}
use Rattle.handler_word.specs.declared.mark.Mark.{Mark}
use Rattle.handler_word.specs.declared.mark.Mark.TheVariants.{Skipped, NoHandler, NotLogging, Recorded, RecordedArg}
use Rattle.handler_word.specs.private.Bits.{marks_from}
use Rattle.handler_word.specs.MarkList.{is_recorded, recorded_count}
use Rattle.handler_word.proofs.MarkBits.{seen_counts}
use Rattle.handler_word.proofs.marks.Marks.add.Goals as goal

-- whether a mark is recorded, as a number
counted_once : (mark : Mark) → bool_byte (is_recorded mark) ≡ cond (is_recorded mark) 1 0
counted_once Skipped = refl
counted_once NoHandler = refl
counted_once NotLogging = refl
counted_once Recorded = refl
counted_once RecordedArg = refl

pub put_bits-requires-clause-room : goal.put_bits-requires-clause-room
put_bits-requires-clause-room c =
    let a = c.self.inside in
    let seen = seen_counts a.bytes.items a.len a.room c.args.self.now c.self.view_is in
    omega (arith, c.self.invariant.room, seen.0, seen.1)

pub overflow_add-self : goal.overflow_add-self
overflow_add-self c =
    let a = c.self.inside in
    let seen = seen_counts a.bytes.items a.len a.room c.args.self.now c.self.view_is in
    omega (arith, seen.0, seen.1)

pub invariant_of-self : goal.invariant_of-self
invariant_of-self c =
    let a = c.self.inside in
    let seen = seen_counts a.bytes.items a.len a.room c.args.self.now c.self.view_is in
    let before = marks_from a.bytes.items 0 a.len in
    let all : recorded_count (before ++ c.args.mark ∷ []) ≡ recorded_count before + (0 + cond (is_recorded c.args.mark) 1 0) =
    sum_by-append (λ mark. cond (is_recorded mark) 1 0) before (c.args.mark ∷ []) in
    let one : c.from.result ≡ cond (is_recorded c.args.mark) 1 0 = c.from.ensures ∙ (ap bool_byte c.is_recorded.ensures ∙ counted_once c.args.mark) in
    record {
      within = omega (arith, seen.0, seen.1);
      filled = c.put_bits.ensures.filled;
      room = omega (arith, c.self.invariant.room, c.put_bits.ensures.room);
      recorded = rw (c.put_bits.ensures.marks, c.bits.ensures.mark) (omega (arith, all, one, c.self.invariant.recorded));
    }
