use Rattle.std.proofs.Common.{arith}
use Rattle.run_order.proofs.OrderText.{order_written}
use Rattle.run_order.proofs.ShortSchedules.{few_lines, text_short}
use Rattle.run_order.proofs.laws.an_order_is_a_schedule.Goals as goal

pub returns-clause-reads : goal.returns-clause-reads
returns-clause-reads c bytes program text plan statement schedule accepted may e ordered =
    let written = order_written (λ p n s thread passing. c.awaits_bound_passings.ensures.within p n s thread passing) bytes program text plan statement schedule accepted may e ordered in
    c.a_written_schedule_is_read.ensures statement.setup.threads schedule (omega (arith, may.names.setup_is.few_threads)) written.turns written.words
    (few_lines schedule written.short)

pub returns-clause-short : goal.returns-clause-short
returns-clause-short c bytes program text plan statement schedule accepted may e ordered =
    let written = order_written (λ p n s thread passing. c.awaits_bound_passings.ensures.within p n s thread passing) bytes program text plan statement schedule accepted may e ordered in
    text_short statement.setup.threads schedule may.names.setup_is.few_threads written.turns written.words written.short
