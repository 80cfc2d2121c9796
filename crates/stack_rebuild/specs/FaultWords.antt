-- The words that a line on err gives for a trace that has no stacks: the name of the refusal and its value, with a
-- blank between them.
use Rattle.std.specs.Prelude.{ℕ, List, ◌++◌, Option, Some, None, codes, decimal}
use Rattle.stack_rebuild.specs.declared.stack_row.StackFault.{StackFault}
use Rattle.stack_rebuild.specs.declared.stack_row.StackFault.TheVariants.{Deep, NoMemory}

-- the words for a trace with a thread that has too many calls open at once
abbrev pub deep_words : ℕ → List ℕ
deep_words thread = codes "Deep " ++ decimal thread

-- the words; there are none if memory ran out, since nothing is refused then
abbrev pub stack_words : StackFault → Option (List ℕ)
stack_words (Deep thread) = Some (deep_words thread)
stack_words NoMemory = None
