-- What is asked of the limits of threads, and of what a replay or a run is made with.
use Rattle.std.specs.Prelude.{◌+◌, ◌*◌, ◌<◌, ◌≤◌, ◌^◌}
use Rattle.fdr_buffer.specs.Times.{IsTime}
use Rattle.fdr_buffer.specs.declared.buffer.TheConstants.{LARGEST_SIZE, LEAST_SIZE, MOST_BUFFERS, TRACE_LIMIT}
use Rattle.sled_words.specs.declared.words.TheConstants.{MAX_THREADS}
use Rattle.machine_step.specs.declared.limits.Limits.{Limits}
use Rattle.machine_step.specs.declared.setup.Setup.{Setup}

-- threads may have these limits, and their passings may be stamped in this way
pub record AreLimits (limits : Limits) : Type 0 where
  -- a thread makes at most this many instructions
  pub fuel : limits.fuel ≤ 1000000000
  -- and this many passings
  pub passings : limits.passings ≤ 1048576
  -- the counter and its steps are of 64 bits
  pub tick : limits.tick < 2 ^ 64
  pub tsc : limits.tsc < 2 ^ 64
  -- there is a CPU
  pub some_cpu : 1 ≤ limits.cpus
  -- the field of a record counts them all
  pub few_cpus : limits.cpus ≤ 65535
  -- a thread makes a passing before it moves to the next CPU
  pub some_stay : 1 ≤ limits.migrate
  -- a thread that makes all of its passings may stay where it is
  pub short_stay : limits.migrate ≤ 1048576

-- a replay or a run may be made with this
pub record IsSetup (setup : Setup) : Type 0 where
  -- there is a thread
  pub some_thread : 1 ≤ setup.threads
  -- each thread has its release word and its progress word
  pub few_threads : setup.threads ≤ MAX_THREADS
  -- a buffer has room for any event
  pub least : LEAST_SIZE ≤ setup.size
  -- no buffer is larger than this
  pub most : setup.size ≤ LARGEST_SIZE
  -- each thread has a buffer
  pub enough : setup.threads ≤ setup.max
  -- no run has more buffers than this
  pub few_buffers : setup.max ≤ MOST_BUFFERS
  -- All buffers fit a trace file. Each has 16 bytes before it, and the file's header has 32.
  pub room : setup.max * (setup.size + 16) + 32 ≤ TRACE_LIMIT
  pub limits_are : AreLimits setup.limits
  -- the process's number is of 31 bits
  pub pid : setup.pid < 2 ^ 31
  pub wall_is : IsTime setup.wall
  -- the counter's frequency is of 64 bits
  pub frequency : setup.frequency < 2 ^ 64
