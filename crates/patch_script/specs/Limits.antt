-- The limits of scripts.
use Rattle.std.specs.Prelude.{ℕ}

-- the most commands
abbrev pub most_commands : ℕ
most_commands = 1024

-- the most micro steps: each command stores four words of each sled at most
abbrev pub most_micros : ℕ
most_micros = 16777216
