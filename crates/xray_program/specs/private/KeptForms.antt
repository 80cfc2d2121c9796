-- Inputs of which values are kept that have more than what the bytes read as.
use Rattle.map_names.specs.MapNames.{named}
use Rattle.map_names.specs.declared.naming.MapNames.{MapNames}
use Rattle.program_map.specs.Programs.{program_held}
use Rattle.program_map.specs.declared.program.ProgramMap.{ProgramMap}
use Rattle.xray_program.specs.Inputs.{map_form, program_form}
use Rattle.xray_program.specs.Taking.{Form}

-- such a kind of input: a value is read if what it holds is
abbrev pub kept_form : {X V : Type 0} → Form X → (held : V → X) → Form V
kept_form form held = record {
  kind = form.kind;
  limit = form.limit;
  Reads = λ bytes value. form.Reads bytes (held value);
  Refuses = form.Refuses;
}

-- a sled map, of which the names are kept
abbrev pub kept_map_form : Form MapNames
kept_map_form = kept_form map_form named

-- a compiled program, of which the sled map is kept
abbrev pub kept_program_form : Form ProgramMap
kept_program_form = kept_form program_form program_held
