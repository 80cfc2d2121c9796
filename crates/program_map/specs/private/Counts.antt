-- Sleds that are numbered one by one, for the contracts of private functions.
use Rattle.std.specs.Prelude.{◌≡◌, ◌==◌, ℕ, Bool, false, List, [], Option, Some, None, map}
use Rattle.std.specs.List.{last_or}
use Rattle.program_map.specs.declared.numbering.Counting.{Counting}
use Rattle.program_map.specs.declared.numbering.NumberedSleds.{NumberedSleds}
use Rattle.program_map.specs.declared.sled.MapSled.{MapSled}
use Rattle.program_map.specs.Numbering.{Numbering, functions_among, numbered_after}

-- whether a number is the last one, if there is one
abbrev pub is_last : Option ℕ → ℕ → Bool
is_last None n = false
is_last (Some last) n = last == n

-- these sleds were numbered
pub record IsCounted (sleds : List MapSled) (counting : Counting) : Type 0 where
  pub numbered : counting.sleds.items ≡ numbered_after [] sleds
  pub functions : counting.functions ≡ functions_among sleds
  pub last : counting.last ≡ last_or None (map (λ sled. sled.function) sleds)

abbrev pub numbering_held : NumberedSleds → Numbering
numbering_held held = record { sleds = held.sleds.items; functions = held.functions; left_out = held.left_out }
