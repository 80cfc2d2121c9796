-- What fits the records of a trace.
use Rattle.std.specs.Prelude.{◌<◌, ◌^◌}
use Rattle.machine_step.specs.PlainStep.{Passing}

-- the stamp, the id and the argument of a passing fit
pub record PassingFits (p : Passing) : Type 0 where
  pub cpu : p.cpu < 2 ^ 16
  pub id : p.id < 2 ^ 28
  pub counter : p.counter < 2 ^ 64
  pub argument : p.argument < 2 ^ 64
