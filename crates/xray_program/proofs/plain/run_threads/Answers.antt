use Rattle.std.proofs.Common.{◌+◌, subst}
use Rattle.xray_image.specs.Program.{Program}
use Rattle.machine_step.specs.PlainEnd.{IsPlainEnd}
use Rattle.xray_program.proofs.PlainThreads.{no_ends, one_end_more}
use Rattle.xray_program.proofs.plain.run_threads.Goals as goal

pub loop-thread-init : goal.loop-thread-init
loop-thread-init c = rw c.new-ends.ensures.items (no_ends c.args.image.now c.args.bounds)

pub loop-thread-preserved : goal.loop-thread-preserved
loop-thread-preserved c =
    let run = rw c.plain_limits.ensures at
    (subst (λ (program : Program). IsPlainEnd program c.plain_limits.result (c.loop-thread.thread + 1) c.in_ok-plain_run.field-0) c.in_ok-steps.ensures.program
    c.in_ok-plain_run.ensures.run) in
    rw c.in_ok-push.ensures.items
    (one_end_more c.args.image.now c.args.bounds c.loop-thread.thread c.loop-thread.ends.items _ c.loop-thread.invariant run c.in_ok-plain_run.ensures.registers)
