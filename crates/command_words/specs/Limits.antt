-- The limits of what options say.
use Rattle.std.specs.Prelude.{ℕ}
use Rattle.fdr_buffer.specs.declared.buffer.TheConstants.{TRACE_LIMIT}

-- the most threads
abbrev pub most_threads : ℕ
most_threads = 16

-- the most instructions that each thread makes
abbrev pub most_fuel : ℕ
most_fuel = 1000000000

-- the most passings that each thread makes
abbrev pub most_passings : ℕ
most_passings = 1048576

-- the most CPUs that a thread moves between
abbrev pub most_cpus : ℕ
most_cpus = 65535

-- the most passings that a thread makes before it moves to the next CPU
abbrev pub most_stay : ℕ
most_stay = 1048576

-- the most nodes of a thread's call trie
abbrev pub most_nodes : ℕ
most_nodes = 262144

-- the highest number of a process
abbrev pub most_pid : ℕ
most_pid = 2147483647

-- the most bytes of a trace file
abbrev pub trace_limit : ℕ
trace_limit = TRACE_LIMIT
