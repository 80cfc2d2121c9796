use Rattle.std.proofs.Common.{◌++◌, ◌∙◌, List, ℕ, [], ◌∷◌, Ok, ap, arith, refl, subst, sym}
use Rattle.std.specs.List.{flat_map}
use Rattle.xray_io.specs.Text.{AddsText, adds_failed, adds_more, adds_nothing, adds_within}
use Rattle.fdr_file.specs.ThreadEvents.{ThreadEvent}
use Rattle.trace_forms.specs.BasicLogs.{event_bytes, wide_cpu}
use Rattle.trace_forms.proofs.GivenTexts.{all_texts, one_given, one_text}
use Rattle.trace_forms.proofs.Wide.{narrow_first, narrow_later}
use Rattle.trace_forms.proofs.basic_text.add_records.Goals as goal

pub records-init : goal.records-init
records-init g c = ([], refl, c.requires, adds_nothing g.met.S.Sink.along_none c.args.text.now)

pub add_record-requires : goal.add_record-requires
add_record-requires g c =
    let e : ThreadEvent = record { thread = c.in-Some.thread; pid = c.in-Some.pid; event = c.in-Some.event } in
    omega (arith, narrow_first e (g.E.EventSource.left c.next_event.new.self) (sym (ap wide_cpu c.in-Some.ensures) ∙ c.records.invariant.2))

pub records-preserved : goal.records-preserved
records-preserved g c =
    let given = c.records.invariant.0 in
    let e : ThreadEvent = record { thread = c.in-Some.thread; pid = c.in-Some.pid; event = c.in-Some.event } in (
      given ++ e ∷ [],
      one_given _ given _ _ e c.records.invariant.1 c.in-Some.ensures,
      narrow_later e (g.E.EventSource.left c.next_event.new.self) (sym (ap wide_cpu c.in-Some.ensures) ∙ c.records.invariant.2),
      subst (λ (t : List ℕ). AddsText g.S.Sink.written g.S.Sink.faults g.S.Sink.along c.args.text.now c.add_record.new.text t (Ok tt)) (one_text event_bytes given e)
          (adds_more g.met.S.Sink.along_both {answer = Ok tt} c.records.invariant.3 c.in_ok-add_record.ensures),
    )

pub returns-in_err-add_record : goal.returns-in_err-add_record
returns-in_err-add_record g c =
    let given = c.records.invariant.0 in
    let e : ThreadEvent = record { thread = c.in-Some.thread; pid = c.in-Some.pid; event = c.in-Some.event } in
    adds_failed (adds_within g.met.S.Sink.along_both (flat_map event_bytes (g.E.EventSource.left c.next_event.new.self)) c.records.invariant.3 c.in_err-add_record.ensures
    (all_texts event_bytes _ given _ _ e c.records.invariant.1 c.in-Some.ensures)) c.from_residual.result c.from_residual.ensures.1
