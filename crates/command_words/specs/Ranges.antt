-- The ranges of what a command holds. They are what the machine that replays a schedule asks of its setup and of its
-- threads' limits.
use Rattle.std.specs.Prelude.{◌≡◌, ◌≢◌, ◌+◌, ◌*◌, ◌≤◌, ◌<◌, ◌^◌, ℕ, List, [], ◌∷◌, Some, IfSome}
use Rattle.fdr_buffer.specs.declared.buffer.TheConstants.{LARGEST_SIZE, LEAST_SIZE, MOST_BUFFERS}
use Rattle.fdr_buffer.specs.Times.{IsTime}
use Rattle.xray_io.specs.declared.wall.Wall.{Wall}
use Rattle.command_words.specs.declared.profile_options.ProfileOptions.{ProfileOptions}
use Rattle.command_words.specs.declared.run_options.Bounds.{Bounds}
use Rattle.command_words.specs.declared.run_options.Buffers.{Buffers}
use Rattle.command_words.specs.declared.run_options.RunOptions.{RunOptions}
use Rattle.command_words.specs.declared.run_options.Stamps.{Stamps}
use Rattle.command_words.specs.Limits.{most_cpus, most_fuel, most_nodes, most_passings, most_pid, most_stay, most_threads, trace_limit}
use Rattle.command_words.specs.Words.{Command, Sim, Run, Plain, Asm, Account, Profile, Soak, outputs_of, reading}

-- there may be this many threads: at least one, and at most `most_threads`
abbrev pub IsThreadCount : ℕ → Type 0
IsThreadCount threads = (1 ≤ threads) × (threads ≤ most_threads)

-- threads may have these limits
pub record AreBounds (bounds : Bounds) : Type 0 where
  pub threads : IsThreadCount bounds.threads
  pub fuel : bounds.fuel ≤ most_fuel
  pub passings : bounds.passings ≤ most_passings

-- passings may be stamped in this way
pub record AreStamps (stamps : Stamps) : Type 0 where
  pub counter : (stamps.tick < 2 ^ 64) × (stamps.tsc < 2 ^ 64)
  pub cpus : (1 ≤ stamps.cpus) × (stamps.cpus ≤ most_cpus)
  pub migrate : (1 ≤ stamps.migrate) × (stamps.migrate ≤ most_stay)

-- a run may have these buffers
pub record AreBuffers (buffers : Buffers) : Type 0 where
  pub size : (LEAST_SIZE ≤ buffers.size) × (buffers.size ≤ LARGEST_SIZE)
  pub max : (1 ≤ buffers.max) × (buffers.max ≤ MOST_BUFFERS)

-- A run may have these options. Each is in its range, there is a buffer for each thread, and all of them fit a trace
-- file.
pub record AreRunOptions (options : RunOptions) : Type 0 where
  pub bounds : AreBounds options.bounds
  pub stamps : AreStamps options.stamps
  pub frequency : options.frequency < 2 ^ 64
  pub buffers : AreBuffers options.buffers
  pub enough : options.bounds.threads ≤ options.buffers.max
  pub room : options.buffers.max * (options.buffers.size + 16) + 32 ≤ trace_limit
  pub pid : options.pid ≤ most_pid
  pub wall : IsTime options.wall

-- a profile may have these options
pub record AreProfileOptions (options : ProfileOptions) : Type 0 where
  pub bounds : AreBounds options.bounds
  pub stamps : AreStamps options.stamps
  pub nodes : (1 ≤ options.nodes) × (options.nodes ≤ most_nodes)

-- the numbers that a command holds are in their ranges
abbrev pub InRange : Command → Type 0
InRange (Sim image script schedule trace audit options) = AreRunOptions options
InRange (Run image script trace audit options) = AreRunOptions options
InRange (Plain image bounds) = AreBounds bounds
InRange (Asm text image threshold relative) = threshold ≤ 4294967295
InRange (Account trace names options) = IfSome options.top (λ top. top ≤ 4294967295)
InRange (Profile image script options) = AreProfileOptions options
InRange (Soak number) = number < 2 ^ 64
InRange command = Unit {0}

-- a name is none of these
abbrev pub IsNone : List ℕ → (others : List (List ℕ)) → Type 0
IsNone name [] = Unit {0}
IsNone name (other ∷ []) = name ≢ other
IsNone name (other ∷ another ∷ others) = (name ≢ other) × IsNone name (another ∷ others)

-- no two names are the same
abbrev pub AreApart : List (List ℕ) → Type 0
AreApart [] = Unit {0}
AreApart (name ∷ []) = Unit {0}
AreApart (name ∷ other ∷ []) = name ≢ other
AreApart (name ∷ other ∷ another ∷ names) = IsNone name (other ∷ another ∷ names) × AreApart (other ∷ another ∷ names)

-- so are the outputs of each command that words say
abbrev pub OutputsAreApart : Type 0
OutputsAreApart = (wall : Wall) (words : List (List ℕ)) (command : Command) → reading wall words ≡ Some command
    → AreApart (outputs_of command)

-- all that a command holds is in its range, and no two of its outputs have the same name
abbrev pub HasRanges : Command → Type 0
HasRanges command = InRange command × AreApart (outputs_of command)
