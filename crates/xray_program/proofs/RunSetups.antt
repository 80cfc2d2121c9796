-- What is asked of a setup is met by the options of words that are in their ranges, and by those of `soak`.
use Rattle.std.proofs.Common.{arith}
use Rattle.command_words.specs.Ranges.{AreBounds, AreRunOptions, AreStamps}
use Rattle.command_words.specs.declared.run_options.Bounds.{Bounds}
use Rattle.command_words.specs.declared.run_options.Stamps.{Stamps}
use Rattle.command_words.specs.declared.run_options.RunOptions.{RunOptions}
use Rattle.machine_step.specs.Setups.{AreLimits, IsSetup}
use Rattle.xray_program.specs.Setups.{limits_of, setup_of}
use Rattle.xray_program.specs.Soak.{soak_setup}

pub options_make_limits : (bounds : Bounds) (stamps : Stamps) → AreBounds bounds → AreStamps stamps → AreLimits (limits_of bounds stamps)
options_make_limits bounds stamps bound stamped = record {
  fuel = bound.fuel;
  passings = bound.passings;
  tick = stamped.counter.0;
  tsc = stamped.counter.1;
  some_cpu = stamped.cpus.0;
  few_cpus = stamped.cpus.1;
  some_stay = stamped.migrate.0;
  short_stay = stamped.migrate.1;
}

pub options_make_a_setup : (options : RunOptions) → AreRunOptions options → IsSetup (setup_of options)
options_make_a_setup options its = record {
  some_thread = its.bounds.threads.0;
  few_threads = its.bounds.threads.1;
  least = its.buffers.size.0;
  most = its.buffers.size.1;
  enough = its.enough;
  few_buffers = its.buffers.max.1;
  room = its.room;
  limits_are = options_make_limits options.bounds options.stamps its.bounds its.stamps;
  pid = omega (arith, its.pid);
  wall_is = its.wall;
  frequency = its.frequency;
}

pub soak_is_setup : IsSetup soak_setup
soak_is_setup = record {
  some_thread = omega arith;
  few_threads = omega arith;
  least = omega arith;
  most = omega arith;
  enough = omega arith;
  few_buffers = omega arith;
  room = omega arith;
  limits_are = record {
    fuel = omega arith;
    passings = omega arith;
    tick = omega arith;
    tsc = omega arith;
    some_cpu = omega arith;
    few_cpus = omega arith;
    some_stay = omega arith;
    short_stay = omega arith;
  };
  pid = omega arith;
  wall_is = record { secs = omega arith; micros = omega arith };
  frequency = omega arith;
}
