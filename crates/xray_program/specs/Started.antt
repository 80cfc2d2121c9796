-- When a call starts threads.
use Rattle.std.specs.Prelude.{◌≡◌, ◌⊎◌, ℕ, Bool, true, false, MatchOption, Option}
use Rattle.std.specs.Option.{option_map_or}
use Rattle.command_words.specs.Words.{Command}
use Rattle.xray_program.specs.Commands.{IsProfile, IsStill, is_still}

-- a profile was said
abbrev pub SaysProfile : Option Command → Type 0
SaysProfile said = MatchOption said ⊥ IsProfile

-- a `run` or a `profile` was said: a command that isn't still
abbrev pub SaysThreads : Option Command → Type 0
SaysThreads said = option_map_or is_still said true ≡ false

-- the statuses of a call that came to its outputs: all were written, or one of them failed
abbrev pub CameToOutputs : ℕ → Type 0
CameToOutputs status = (status ≡ 0) ⊎ (status ≡ 4) ⊎ (status ≡ 7)

-- Whether threads were started through what a call starts them through, before the call and after it. No thread has run if
-- the command is one that starts none; if the arguments say no command, or an input stops the call; or if memory runs out.
-- Only a `profile` takes memory after its threads have ended, for its report. A `run` or a `profile` that came to its
-- outputs has started its threads.
pub record StartsLate (said : Option Command) (status : ℕ) (before after : Bool) : Type 0 where
  pub still : IsStill said → after ≡ before
  pub stopped : (status ≡ 1) ⊎ (status ≡ 2) ⊎ (status ≡ 3) ⊎ (status ≡ 6) → after ≡ before
  pub memory : status ≡ 5 → (after ≡ before) ⊎ SaysProfile said
  pub started : SaysThreads said → CameToOutputs status → after ≡ true
