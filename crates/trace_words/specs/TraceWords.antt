-- The words that a line on err gives for a file that isn't a trace: the name of the refusal and its values, with a
-- blank between them.
use Rattle.std.specs.Prelude.{ℕ, List, ◌++◌, Option, Some, None, codes, decimal}
use Rattle.fdr_record.specs.declared.fault.RecFault.{RecFault}
use Rattle.fdr_record.specs.declared.fault.RecFault.TheVariants as records
use Rattle.fdr_file.specs.declared.fault.TraceFault.{TraceFault}
use Rattle.fdr_file.specs.declared.fault.TraceFault.TheVariants.{Short, Version, Form, Order, Extents, Bad, NoBase, NoMemory}

-- why bytes aren't a record
abbrev pub record_words : RecFault → List ℕ
record_words records.Short = codes "Short"
record_words (records.Action action) = codes "Action " ++ decimal action
record_words (records.Kind kind) = codes "Kind " ++ decimal kind

-- the words; there are none if memory ran out, since nothing is refused then
abbrev pub trace_words : TraceFault → Option (List ℕ)
trace_words (Short place) = Some (codes "Short " ++ decimal place)
trace_words (Version version) = Some (codes "Version " ++ decimal version)
trace_words (Form form) = Some (codes "Form " ++ decimal form)
trace_words (Order place) = Some (codes "Order " ++ decimal place)
trace_words (Extents place) = Some (codes "Extents " ++ decimal place)
trace_words (Bad place fault) = Some (codes "Bad " ++ decimal place ++ codes " " ++ record_words fault)
trace_words (NoBase place) = Some (codes "NoBase " ++ decimal place)
trace_words NoMemory = None
