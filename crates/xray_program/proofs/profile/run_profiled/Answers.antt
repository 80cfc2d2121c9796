use Rattle.std.proofs.Common.{◌∙◌, map, ap, subst}
use Rattle.call_trie.specs.Tries.{HasSameRoom, StandsFor}
use Rattle.machine_step.specs.declared.limits.Limits.{Limits}
use Rattle.patch_script.specs.Plans.{Plan}
use Rattle.sled_rule.specs.Seats.{script_of, work_view}
use Rattle.sled_rule.specs.declared.table.CodeTable.{CodeTable}
use Rattle.thread_run.specs.Recorded.{HaveRecorded}
use Rattle.xray_program.proofs.ProfiledThreads.{profiled, recorders_few}
use Rattle.xray_program.proofs.profile.run_profiled.Goals as goal

pub returns-clause-profiled : goal.returns-clause-profiled
returns-clause-profiled g c =
    let end = c.go.result in
    let old = c.in_ok-recorders.recorders.items in
    let limits = c.profile_limits-limits.result in
    let seats = map (λ s. work_view s) end.seats.items in
    let Recorded : Plan → Limits → Type 0 = λ plan bounds.
    HaveRecorded StandsFor HasSameRoom plan bounds old end.cpus.items seats end.recorders.items in
    profiled c.args.options c.args.steps.now c.args.script limits old end.cpus.items seats end.recorders.items c.requires.program c.requires.threads
    c.profile_limits-limits.ensures.options c.in_ok-recorders.ensures.count c.in_ok-recorders.ensures.room
    (subst (λ plan. Recorded plan limits) (ap (λ (t : CodeTable). script_of t) c.in_ok-ready.ensures.table ∙ c.in_ok-table.ensures.script)
    (subst (Recorded (script_of c.in_ok-ready.ready.table)) c.in_ok-ready.ensures.limits c.go.ensures.recorded))

pub returns-clause-few : goal.returns-clause-few
returns-clause-few g c =
    recorders_few c.args.options c.args.steps.now c.args.script c.go.result.cpus.items c.go.result.recorders.items
    (returns-clause-profiled g c) c.requires.options
