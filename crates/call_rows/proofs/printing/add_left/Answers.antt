use Rattle.std.proofs.Common.{◌++◌, List, ℕ, [], ◌∷◌, ◌∙◌, Ok, ap, reverse, sym, subst}
use Rattle.xray_io.specs.Text.{AddsText, adds_more, adds_nothing, adds_within}
use Rattle.fdr_file.specs.ThreadEvents.{ThreadEvent}
use Rattle.fdr_file.specs.EventsLeft.{events_left}
use Rattle.function_names.specs.Name.{naming}
use Rattle.call_rows.specs.CallRows.{rows_after}
use Rattle.call_rows.specs.private.Folding.{Follows}
use Rattle.call_rows.proofs.CallLines.{given_more, given_none, lines_next, lines_of, rest_of_lines, turned_more}
use Rattle.call_rows.proofs.CallsAnswers.{calls_refused, calls_unwritten}
use Rattle.call_rows.proofs.printing.add_left.Goals as goal

pub calls-init : goal.calls-init
calls-init g c = ([], given_none _, c.new-fold.ensures, adds_nothing g.met.S.Sink.along_none c.args.to.now)

pub returns-in_err-row : goal.returns-in_err-row
returns-in_err-row g c =
    let names = naming c.args.names in
    let inv = c.calls.invariant in
    let rest = rest_of_lines c.a_thread_goes_on.ensures c.each_pair_is_a_whole_call.ensures c.args.format names c.args.wanted.now (events_left c.args.cursor.now) inv.0 (events_left c.calls.cursor) inv.1 in
    calls_refused (lines_of c.args.format names c.args.wanted.now (rows_after (reverse inv.0))) rest.rest
    (lines_of c.args.format names c.args.wanted.now (rows_after (reverse (events_left c.args.cursor.now)))) (sym rest.is) inv.3 c.from_residual.result c.from_residual.ensures.1

pub calls-preserved : goal.calls-preserved
calls-preserved g c =
    let names = naming c.args.names in
    let inv = c.calls.invariant in
    let given = inv.0 in
    let e : ThreadEvent = record { thread = c.in-Some.thread; pid = c.in-Some.pid; event = c.in-Some.event } in (
      given ++ e ∷ [],
      given_more _ given _ _ e inv.1 c.in-Some.ensures.next,
      subst (Follows c.next-in-Some.new.self) (turned_more given e) (c.in_ok-row.ensures.follows (reverse given) inv.2),
      subst (λ (t : List ℕ). AddsText g.S.Sink.written g.S.Sink.faults g.S.Sink.along c.args.to.now c.add_wanted.new.to t (Ok tt))
          (lines_next c.args.format names c.args.wanted.now given e c.in_ok-row.row (c.in_ok-row.ensures.row (reverse given) inv.2))
          (adds_more g.met.S.Sink.along_both inv.3 c.in_ok-add_wanted.ensures),
    )

pub returns-in_err-add_wanted : goal.returns-in_err-add_wanted
returns-in_err-add_wanted g c =
    let names = naming c.args.names in
    let inv = c.calls.invariant in
    let given = inv.0 in
    let e : ThreadEvent = record { thread = c.in-Some.thread; pid = c.in-Some.pid; event = c.in-Some.event } in
    let next = given_more _ given _ _ e inv.1 c.in-Some.ensures.next in
    let rest = rest_of_lines c.a_thread_goes_on.ensures c.each_pair_is_a_whole_call.ensures c.args.format names c.args.wanted.now _ (given ++ e ∷ []) _ next in
    let line = lines_next c.args.format names c.args.wanted.now given e c.in_ok-row.row (c.in_ok-row.ensures.row (reverse given) inv.2) in
    calls_unwritten
    (adds_within g.met.S.Sink.along_both rest.rest inv.3 c.in_err-add_wanted.ensures (ap (λ (t : List ℕ). t ++ rest.rest) line ∙ rest.is))
    c.from_residual-in_err-add_wanted.result c.from_residual-in_err-add_wanted.ensures.1
