-- The words that a line on err gives for bytes that aren't a basic log, and for a trace that has no text in a form: the
-- name of the refusal and its values, with a blank between them.
use Rattle.std.specs.Prelude.{ℕ, List, ◌++◌, Option, Some, None, codes, decimal}
use Rattle.trace_forms.specs.declared.basic.BasicFault.{BasicFault}
use Rattle.trace_forms.specs.declared.basic.BasicFault.TheVariants.{Short, Version, Form, Tag, Kind, NoMemory}

-- the words; there are none if memory ran out, since nothing is refused then
abbrev pub basic_words : BasicFault → Option (List ℕ)
basic_words (Short place) = Some (codes "Short " ++ decimal place)
basic_words (Version version) = Some (codes "Version " ++ decimal version)
basic_words (Form form) = Some (codes "Form " ++ decimal form)
basic_words (Tag place tag) = Some (codes "Tag " ++ decimal place ++ codes " " ++ decimal tag)
basic_words (Kind place kind) = Some (codes "Kind " ++ decimal place ++ codes " " ++ decimal kind)
basic_words NoMemory = None
