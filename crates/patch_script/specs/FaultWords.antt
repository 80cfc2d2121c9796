-- The words that a line on err gives for a text that isn't a script: the name of the refusal and its value, with a
-- blank between them.
use Rattle.std.specs.Prelude.{ℕ, List, ◌++◌, Option, Some, None, codes, decimal}
use Rattle.patch_script.specs.declared.fault.ScriptFault.{ScriptFault}
use Rattle.patch_script.specs.declared.fault.ScriptFault.TheVariants.{Limit, Syntax, Function, Thread, Go, Hold, Log, SelfWait, NoMemory}

-- the words; there are none if memory ran out, since nothing is refused then
abbrev pub script_words : ScriptFault → Option (List ℕ)
script_words (Limit line) = Some (codes "Limit " ++ decimal line)
script_words (Syntax line) = Some (codes "Syntax " ++ decimal line)
script_words (Function line) = Some (codes "Function " ++ decimal line)
script_words (Thread line) = Some (codes "Thread " ++ decimal line)
script_words (Go line) = Some (codes "Go " ++ decimal line)
script_words (Hold line) = Some (codes "Hold " ++ decimal line)
script_words (Log line) = Some (codes "Log " ++ decimal line)
script_words (SelfWait line) = Some (codes "SelfWait " ++ decimal line)
script_words NoMemory = None
