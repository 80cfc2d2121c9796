-- The parts of an event's line after the name of its function.
use Rattle.std.specs.Prelude.{◌++◌, ℕ, List, codes, decimal}
use Rattle.fdr_record.specs.declared.event.Event.{Event}
use Rattle.yaml_convert.specs.Yaml.{arg_text, event_counter, event_kind_text}

-- where the event was: its CPU, its thread and its process
abbrev pub stamp_text : ℕ → ℕ → ℕ → List ℕ
stamp_text cpu thread pid = codes "', cpu: " ++ decimal cpu ++ codes ", thread: " ++ decimal thread ++ codes ", process: " ++ decimal pid ++ codes ", kind: "

-- what happened: its kind, the argument that it logs, and its counter
abbrev pub happened_text : Event → List ℕ
happened_text event = event_kind_text event.kind ++ arg_text event.kind event.arg ++ event_counter event
