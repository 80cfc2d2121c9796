use Rattle.std.proofs.Common.{◌∷◌, ◌++◌, sym, ◌∙◌, arith}
use Rattle.audit_check.specs.private.Marks.{spaced}
use Rattle.audit_check.proofs.TakingRuns.{next_run, none_of, one_more, shorter, still_on, stops, whole_part}
use Rattle.audit_check.proofs.thread_rows.take_runs.Goals as goal

pub returns-in_err-mark-clause-only : goal.returns-in_err-mark-clause-only
returns-in_err-mark-clause-only c = λ runs rest are some few text.
    let on = c.runs.invariant.printed runs rest are some few text in
    let next = next_run c.runs.left.now c.in-Some.run'.now c.runs.marks.items c.runs.before runs rest on c.in-Some.ensures in
    absurd (c.in_err-mark.ensures.only next.mark next.count (spaced next.later ++ 10 ∷ rest) next.unlike next.some (omega (arith, next.room, few)) next.ends next.text)

pub runs-smaller : goal.runs-smaller
runs-smaller c =
    let found = c.in_ok-mark.ensures.found.1 in
    shorter c.runs.left.now c.in-Some.run'.now c.in_ok-mark.rest.now c.runs.marks.items c.take_next.new.marks.items c.in_ok-mark.mark found.0 c.in-Some.ensures found.1

pub runs-preserved : goal.runs-preserved
runs-preserved c =
    let found = c.in_ok-mark.ensures.found.1 in
    record {
      room = c.in_ok-mark.ensures.room;
      few = c.in_ok-mark.ensures.few;
      taken = one_more c.args.row.now c.runs.left.now c.in-Some.run'.now c.in_ok-mark.rest.now c.runs.marks.items c.take_next.new.marks.items c.runs.before
          c.in_ok-mark.mark found.0 c.runs.invariant.taken c.in-Some.ensures c.in_ok-mark.ensures.found.0 found.1;
      printed = λ runs rest are some few text.
          let on = c.runs.invariant.printed runs rest are some few text in
          let next = next_run c.runs.left.now c.in-Some.run'.now c.runs.marks.items c.runs.before runs rest on c.in-Some.ensures in
          let same = c.in_ok-mark.ensures.only next.mark next.count (spaced next.later ++ 10 ∷ rest) next.unlike next.some (omega (arith, next.room, few))
          next.ends next.text in
          still_on c.in-Some.run'.now c.in_ok-mark.rest.now c.runs.marks.items c.take_next.new.marks.items c.runs.before runs rest c.in_ok-mark.mark
          next same.0 same.1 same.2;
    }

pub returns-then-is_some-clause-found : goal.returns-then-is_some-clause-found
returns-then-is_some-clause-found c =
    whole_part c.args.row.now c.runs.left.now c.runs.marks.items c.runs.before c.runs.invariant.taken (sym c.is_some.ensures ∙ c.if-is_some.true)

pub returns-then-is_some-clause-only : goal.returns-then-is_some-clause-only
returns-then-is_some-clause-only c = λ runs rest are some few text.
    let s = stops c.runs.left.now c.runs.marks.items c.runs.before runs rest (c.runs.invariant.printed runs rest are some few text) c.in_default.ensures in
    (s.text, s.marks_are)

pub returns-else-is_some-clause-only : goal.returns-else-is_some-clause-only
returns-else-is_some-clause-only c = λ runs rest are some few text.
    let s = stops c.runs.left.now c.runs.marks.items c.runs.before runs rest (c.runs.invariant.printed runs rest are some few text) c.in_default.ensures in
    some (s.some (none_of c.runs.before (sym c.is_some.ensures ∙ c.if-is_some.false)))
