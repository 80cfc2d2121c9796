use Rattle.std.proofs.Common.{arith}
use Rattle.soak_inputs.specs.Inputs.{soak_turns}
use Rattle.soak_inputs.specs.Scripts.{after_script}
use Rattle.soak_inputs.specs.Texts.{after_text}
use Rattle.soak_inputs.proofs.ScheduleLemmas.{schedule_fits, schedule_of_threads, schedule_short}
use Rattle.soak_inputs.proofs.laws.the_schedule_is_read.Goals as goal

pub returns : goal.returns
returns c = λ number.
    let x = after_script (after_text number) in
    c.a_written_schedule_is_read.ensures 4 (soak_turns number) (omega arith) (schedule_of_threads x) (schedule_fits x) (schedule_short x)
