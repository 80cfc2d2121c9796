-- What threads are run with, by the options of the words.
use Rattle.command_words.specs.declared.run_options.Bounds.{Bounds}
use Rattle.command_words.specs.declared.run_options.RunOptions.{RunOptions}
use Rattle.command_words.specs.declared.run_options.Stamps.{Stamps}
use Rattle.machine_step.specs.declared.limits.Limits.{Limits}
use Rattle.machine_step.specs.declared.setup.Setup.{Setup}

-- the limits of each thread, and how its passings are stamped
abbrev pub limits_of : Bounds → Stamps → Limits
limits_of bounds stamps = record {
  fuel = bounds.fuel;
  passings = bounds.passings;
  tick = stamps.tick;
  tsc = stamps.tsc;
  cpus = stamps.cpus;
  migrate = stamps.migrate;
}

-- The limits of a plain run. No event of it is seen, so no words say how its passings are stamped: the counter stands
-- still.
abbrev pub plain_limits : Bounds → Limits
plain_limits bounds = limits_of bounds (record { tick = 0; tsc = 0; cpus = 1; migrate = 1 })

-- what a run of traced threads is made with
abbrev pub setup_of : RunOptions → Setup
setup_of options = record {
  threads = options.bounds.threads;
  size = options.buffers.size;
  max = options.buffers.max;
  limits = limits_of options.bounds options.stamps;
  pid = options.pid;
  wall = options.wall;
  frequency = options.frequency;
}
