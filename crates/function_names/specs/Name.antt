-- How functions are named in texts about a trace.
use Rattle.std.specs.Prelude.{ℕ, Bool, ◌||◌, ◌==◌, List, [], ◌∷◌, ◌++◌, codes, decimal, Option, Some, None, if◌then◌else◌}
use Rattle.std.specs.Option.{option_map_or, unwrap_or}
use Rattle.std.specs.List.{flat_map, list_any}
use Rattle.map_names.specs.MapNames.{named}
use Rattle.map_names.specs.Naming.{Naming, no_names}
use Rattle.xray_image.specs.Program.{Program}
use Rattle.xray_image.specs.Ids.{name_of}
use Rattle.function_names.specs.declared.names.Names.{Names}
use Rattle.function_names.specs.declared.names.Names.TheVariants.{Ids, Image, Map}
use Rattle.function_names.specs.declared.form.NameForm.{NameForm}
use Rattle.function_names.specs.declared.form.NameForm.TheVariants.{Plain, Field, Frame, Quoted}

-- ---- where names come from

-- the names of a program: those of its functions that have a sled
abbrev pub program_names : Program → Naming
program_names program = record { name = name_of program }

-- the names of a program, if there is one
abbrev pub image_names : Option Program → Naming
image_names None = no_names
image_names (Some program) = program_names program

-- the names that are meant: none; those of an image; or those of a sled map
abbrev pub naming : Names → Naming
naming Ids = no_names
naming (Image image) = program_names image.now
naming (Map map) = named map.now

-- ---- the text of a name

-- A byte in a name. A frame of a path ends at a semicolon (59), so a colon (58) is written in its place. A single mark
-- (39) is doubled between such marks, and a double mark (34) in a field of csv that has marks around it.
abbrev pub byte_text : NameForm → ℕ → List ℕ
byte_text Plain b = b ∷ []
byte_text Field b = if b == 34 then 34 ∷ 34 ∷ [] else b ∷ []
byte_text Frame b = if b == 59 then 58 ∷ [] else b ∷ []
byte_text Quoted b = if b == 39 then 39 ∷ 39 ∷ [] else b ∷ []

-- a byte for which a field of csv needs marks around it: a comma, a double mark, a line feed or a carriage return
abbrev pub needs_marks : ℕ → Bool
needs_marks b = b == 44 || b == 34 || b == 10 || b == 13

-- the marks around a name, which only a field of csv may have
abbrev pub marks_around : NameForm → List ℕ → List ℕ
marks_around Plain name = []
marks_around Field name = if list_any needs_marks name then 34 ∷ [] else []
marks_around Frame name = []
marks_around Quoted name = []

-- a name in a form
abbrev pub spelled : NameForm → List ℕ → List ℕ
spelled form name = marks_around form name ++ flat_map (byte_text form) name ++ marks_around form name

-- the text for the name of a function that isn't known: # and its id
abbrev pub number_text : ℕ → List ℕ
number_text id = codes "#" ++ decimal id

-- the name of the function with an id as it is, or the text for one that isn't known
abbrev pub plain_name : Naming → ℕ → List ℕ
plain_name names id = unwrap_or (names.name id) (number_text id)

-- the text for the name of the function with an id
abbrev pub name_text : NameForm → Naming → ℕ → List ℕ
name_text form names id = option_map_or (spelled form) (names.name id) (number_text id)

-- the text for a callee in a path: its name as a frame, after a semicolon
abbrev pub callee_text : Naming → ℕ → List ℕ
callee_text names id = codes ";" ++ name_text Frame names id
