use Rattle.std.proofs.Common.{◌≡◌, ◌≤◌, ◌+◌, ◌-◌, ◌*◌, ◌/◌, ◌++◌, length, drop, replicate, subst, sym, ap, ◌∙◌, arith}
use Rattle.std.proofs.lemmas.List.{length-take-le, get_or-take}
use Rattle.handler_word.specs.declared.mark.Mark.{Mark}
use Rattle.handler_word.specs.private.Bits.{marks_from}
use Rattle.handler_word.specs.MarkList.{MarkList}
use Rattle.handler_word.proofs.FullBytes.{bytes_there}
use Rattle.handler_word.proofs.MarkBits.{seen_counts}
use Rattle.handler_word.proofs.marks.Marks.end_of_bytes.Goals as goal

pub end_of_alike-end-requires : goal.end_of_alike-end-requires
end_of_alike-end-requires c =
    let a = c.self.inside in
    let seen = seen_counts a.bytes.items a.len a.room c.args.self.now c.self.view_is in
    let full = length-take-le (a.len / 2) c.deref.result.now (omega (arith, c.self.invariant.filled.count, ap length c.deref.ensures.value)) in
    omega (arith, full, seen.0)

pub returns-clause-within : goal.returns-clause-within
returns-clause-within c =
    let a = c.self.inside in
    let seen = seen_counts a.bytes.items a.len a.room c.args.self.now c.self.view_is in
    let full = length-take-le (a.len / 2) c.deref.result.now (omega (arith, c.self.invariant.filled.count, ap length c.deref.ensures.value)) in
    omega (arith, full, seen.0, c.end_of_alike-end.ensures.within)

pub returns-clause-same : goal.returns-clause-same
returns-clause-same c =
    let a = c.self.inside in
    let n = c.args.first in
    let end = c.end_of_alike-end.result in
    let seen = seen_counts a.bytes.items a.len a.room c.args.self.now c.self.view_is in
    let full = length-take-le (a.len / 2) c.deref.result.now (omega (arith, c.self.invariant.filled.count, ap length c.deref.ensures.value)) in
    let from : n / 2 ≤ end = c.end_of_alike-end.ensures.from in
    let to : end ≤ a.len / 2 = omega (arith, full, c.end_of_alike-end.ensures.within) in
    let last : n + (end - n / 2) * 2 ≡ end * 2 = omega (arith, from, c.if-first-ne0.false) in
    let more : (end - n / 2) * 2 ≡ end * 2 - n = omega (arith, from, c.if-first-ne0.false) in
    let there = bytes_there c.deref.result.now a.len n c.bits-alike.result (end - n / 2) c.if-first-ne0.false (omega (arith, to, from)) c.bits-alike.ensures.small
    (λ i begun below. sym (get_or-take (a.len / 2) c.deref.result.now i 0 (omega (arith, to, from))) ∙ c.end_of_alike-end.ensures.alike i begun (omega (arith, from))) in
    subst (λ (m : MarkList). drop n m.items ≡ replicate (end * 2 - n) c.args.mark ++ drop (end * 2) m.items) c.self.view_is
    (subst (λ (mark : Mark). drop n (marks_from a.bytes.items 0 a.len) ≡ replicate (end * 2 - n) mark ++ drop (end * 2) (marks_from a.bytes.items 0 a.len))
    c.bits-alike.ensures.mark (rw (last, more, c.deref.ensures.value) at there))
