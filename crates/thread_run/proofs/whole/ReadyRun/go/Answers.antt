use Rattle.std.proofs.Common.{[], ap, map, refl, subst, sym, ◌∙◌}
use Rattle.machine_step.specs.declared.setup.Setup.{Setup}
use Rattle.patch_script.specs.Refusals.{commands_of}
use Rattle.sled_rule.specs.Seats.{script_of, work_view}
use Rattle.thread_run.specs.Ready.{ReadyRun}
use Rattle.thread_run.specs.Recordings.{StandsFor}
use Rattle.thread_run.specs.Runs.{HaveRunBeside}
use Rattle.thread_run.proofs.EachItem.{all_of}
use Rattle.thread_run.proofs.GatheredRuns.{gathered_with_pool, pooled_passes, run_leaves}
use Rattle.thread_run.proofs.whole.ReadyRun.go.Goals as goal

pub run_workers-end-requires-clause-no_events : goal.run_workers-end-requires-clause-no_events
run_workers-end-requires-clause-no_events g c κs within =
    all_of (λ r. StandsFor r []) c.new_recorders-recorders.result.items (λ i r found. (c.new_recorders-recorders.ensures.recorders i r found).no_events)

pub left_by-requires-clause-passes : goal.left_by-requires-clause-passes
left_by-requires-clause-passes g c =
    let s = c.self.inside in
    let has = c.self.invariant.0 in
    let made = c.new_recorders-recorders in
    let gathered = c.gathered_of-gathered in
    pooled_passes (script_of s.threads.table) s.pool gathered.result
    (gathered_with_pool (script_of s.threads.table) s.pool s.threads.limits made.result.items c.run_workers-end.result gathered.result made.ensures.recorders
    c.run_workers-end.ensures.worked (has.limits ∙ ap (λ (t : Setup). t.limits) (sym has.pool_is))
    (made.ensures.count ∙ ap (λ (t : Setup). t.threads) (sym has.pool_is)) gathered.ensures.cpus gathered.ensures.seats gathered.ensures.parts)

pub returns-clause-left : goal.returns-clause-left
returns-clause-left g c =
    let s = c.self.inside in
    let has = c.self.invariant.0 in
    let made = c.new_recorders-recorders in
    let gathered = c.gathered_of-gathered in
    let plan = script_of s.threads.table in
    let ran = gathered_with_pool plan s.pool s.threads.limits made.result.items c.run_workers-end.result gathered.result made.ensures.recorders
    c.run_workers-end.ensures.worked (has.limits ∙ ap (λ (t : Setup). t.limits) (sym has.pool_is))
    (made.ensures.count ∙ ap (λ (t : Setup). t.threads) (sym has.pool_is)) gathered.ensures.cpus gathered.ensures.seats gathered.ensures.parts in
    let left = c.left_by.ensures in
    let end = c.left_by.result in
    let leaves = run_leaves c.kept_buffers_hold_events.ensures.one plan s.pool s.setup plan.program gathered.result end.cpus.items end.seats.items
    end.segments.items end.first.items end.buffers.items left.buffers.0 has.pool_is refl has.count ran left.cpus left.seats left.segments left.first
    left.buffers.1 left.buffers.2 in
    subst (λ (r : ReadyRun). HaveRunBeside (script_of r.table).program (commands_of (script_of r.table).lines) r.setup end.cpus.items
    (map (λ s. work_view s) end.seats.items) end.segments.items end.first.items end.buffers.items) c.self.view_is leaves
