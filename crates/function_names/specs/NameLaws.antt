-- What is true of every name in a text.
use Rattle.std.specs.Prelude.{◌≡◌, ◌≢◌, ◌<◌, ◌++◌, All, ℕ, List, ◌∷◌, IsTrue, Some, Ok}
use Rattle.std.specs.List.{list_all}
use Rattle.map_names.specs.Maps.{map_naming}
use Rattle.xray_image.specs.Extract.{extract_text}
use Rattle.xray_image.specs.Program.{IsAccepted, Program}
use Rattle.function_names.specs.declared.form.NameForm.TheVariants.{Field, Quoted}
use Rattle.function_names.specs.Name.{program_names, spelled}
use Rattle.function_names.specs.Reading.{csv_field, ends_field, is_in_line, yaml_quoted}

-- in csv, any name is read back, if the next byte ends a field
abbrev pub CsvReadsBack : Type 0
CsvReadsBack = (name rest : List ℕ) (next : ℕ) → IsTrue (ends_field next) → csv_field (spelled Field name ++ next ∷ rest) ≡ Some (name, next ∷ rest)

-- in YAML, a name that may stand in one line is read back, if no further mark follows that behind it
abbrev pub YamlReadsBack : Type 0
YamlReadsBack =
    (name rest : List ℕ) (next : ℕ) → IsTrue (list_all is_in_line name) → next ≢ 39
    → yaml_quoted (39 ∷ spelled Quoted name ++ 39 ∷ next ∷ rest) ≡ Some (name, next ∷ rest)

-- the map that `extract` prints of an accepted image file is a sled map, and names the functions as the image does
abbrev pub MapsName : Type 0
MapsName = (bytes : List ℕ) (program : Program) → All (λ b. b < 256) bytes → IsAccepted bytes program → map_naming (extract_text program) ≡ Ok (program_names program)
