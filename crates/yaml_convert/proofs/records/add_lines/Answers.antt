use Rattle.std.proofs.Common.{◌++◌, List, ℕ, [], ◌∷◌, Ok, refl, subst}
use Rattle.std.specs.List.{flat_map}
use Rattle.xray_io.specs.Text.{AddsText, adds_failed, adds_more, adds_nothing, adds_within}
use Rattle.fdr_file.specs.ThreadEvents.{ThreadEvent}
use Rattle.yaml_convert.specs.Yaml.{event_line}
use Rattle.yaml_convert.proofs.YamlLines.{all_lines, one_given, one_line}
use Rattle.function_names.specs.Name.{naming}
use Rattle.yaml_convert.proofs.records.add_lines.Goals as goal

pub lines-init : goal.lines-init
lines-init g c = ([], refl, adds_nothing g.met.S.Sink.along_none c.args.text.now)

pub lines-preserved : goal.lines-preserved
lines-preserved g c =
    let names = naming c.args.names in
    let given = c.lines.invariant.0 in
    let e : ThreadEvent = record { thread = c.in-Some.thread; pid = c.in-Some.pid; event = c.in-Some.event } in (
      given ++ e ∷ [],
      one_given _ given _ _ e c.lines.invariant.1 c.in-Some.ensures,
      subst (λ (t : List ℕ). AddsText g.S.Sink.written g.S.Sink.faults g.S.Sink.along c.args.text.now c.add_event.new.text t (Ok tt)) (one_line names given e)
          (adds_more g.met.S.Sink.along_both c.lines.invariant.2 c.in_ok-add_event.ensures),
    )

pub returns-in_err-add_event : goal.returns-in_err-add_event
returns-in_err-add_event g c =
    let names = naming c.args.names in
    let given = c.lines.invariant.0 in
    let e : ThreadEvent = record { thread = c.in-Some.thread; pid = c.in-Some.pid; event = c.in-Some.event } in
    adds_failed (adds_within g.met.S.Sink.along_both (flat_map (event_line names) (g.E.EventSource.left c.next_event.new.self)) c.lines.invariant.2 c.in_err-add_event.ensures
    (all_lines names _ given _ _ e c.lines.invariant.1 c.in-Some.ensures)) c.from_residual.result c.from_residual.ensures.1
