-- The words that a line on err gives for bytes that aren't a log: the name of the refusal and its values, with a blank
-- between them.
use Rattle.std.specs.Prelude.{ℕ, List, ◌++◌, Option, Some, codes, decimal}
use Rattle.trace_words.specs.TraceWords.{trace_words}
use Rattle.runtime_log.specs.declared.fault.LogFault.{LogFault}
use Rattle.runtime_log.specs.declared.fault.LogFault.TheVariants.{Trace, Tag, Kind, Function}

-- a refusal that a trace may have too has the words of it; there are none if memory ran out
abbrev pub log_words : LogFault → Option (List ℕ)
log_words (Trace fault) = trace_words fault
log_words (Tag place tag) = Some (codes "Tag " ++ decimal place ++ codes " " ++ decimal tag)
log_words (Kind place kind) = Some (codes "Kind " ++ decimal place ++ codes " " ++ decimal kind)
log_words (Function place func) = Some (codes "Function " ++ decimal place ++ codes " " ++ decimal func)
