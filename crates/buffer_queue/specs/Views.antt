-- What a pass knows when a queue is made, and once it was handed back.
use Rattle.std.specs.Prelude.{true, false, []}
use Rattle.machine_step.specs.declared.setup.Setup.{Setup}
use Rattle.buffer_queue.specs.declared.view.View.{View}

-- the setup of a pass that is of no pool
abbrev pub no_setup : Setup
no_setup = record {
  threads = 0;
  size = 0;
  max = 0;
  limits = record { fuel = 0; passings = 0; tick = 0; tsc = 0; cpus = 0; migrate = 0 };
  pid = 0;
  wall = record { secs = 0; micros = 0 };
  frequency = 0;
}

-- a pass that was handed back
abbrev pub spent : View
spent = record {
  opens = false;
  live = false;
  thread = 0;
  setup = no_setup;
  sealed = [];
  between = false;
  given = 0;
  pushed = 0;
  drained = [];
  returned = [];
}

-- the pass that a queue is made with
abbrev pub opener : View
opener = record spent { opens = true }
