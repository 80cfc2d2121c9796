use Rattle.std.proofs.Common.{◌++◌, ℕ, List, [], ◌∷◌, Ok, refl, subst}
use Rattle.function_names.specs.Name.{naming}
use Rattle.fdr_file.specs.ThreadEvents.{ThreadEvent}
use Rattle.xray_io.specs.Text.{AddsText, adds_failed, adds_more, adds_nothing, adds_within}
use Rattle.trace_forms.specs.private.Texts.{later_json, next_json}
use Rattle.trace_forms.proofs.GivenTexts.{all_texts, one_given, one_text}
use Rattle.trace_forms.proofs.trace_events.add_later.Goals as goal

pub objects-init : goal.objects-init
objects-init g c = ([], refl, adds_nothing g.met.S.Sink.along_none c.args.text.now)

pub objects-preserved : goal.objects-preserved
objects-preserved g c =
    let names = naming c.args.names in
    let given = c.objects.invariant.0 in
    let e : ThreadEvent = record { thread = c.in-Some.thread; pid = c.in-Some.pid; event = c.in-Some.event } in (
      given ++ e ∷ [],
      one_given _ given _ _ e c.objects.invariant.1 c.in-Some.ensures,
      subst (λ (t : List ℕ). AddsText g.S.Sink.written g.S.Sink.faults g.S.Sink.along c.args.text.now c.add_event.new.text t (Ok tt)) (one_text (next_json names) given e)
          (adds_more g.met.S.Sink.along_both {answer = Ok tt} c.objects.invariant.2 c.in_ok-add_event.ensures),
    )

pub returns-in_err-add_event : goal.returns-in_err-add_event
returns-in_err-add_event g c =
    let names = naming c.args.names in
    let given = c.objects.invariant.0 in
    let e : ThreadEvent = record { thread = c.in-Some.thread; pid = c.in-Some.pid; event = c.in-Some.event } in
    adds_failed (adds_within g.met.S.Sink.along_both (later_json names (g.E.EventSource.left c.next_event.new.self)) c.objects.invariant.2 c.in_err-add_event.ensures
    (all_texts (next_json names) _ given _ _ e c.objects.invariant.1 c.in-Some.ensures)) c.from_residual.result c.from_residual.ensures.1
