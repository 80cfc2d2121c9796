-- The parts of the file that each line makes.
use Rattle.std.specs.Prelude.{◌≡◌, ◌≤◌, ◌<◌, ℕ, Bool, true, false, if◌then◌else◌, List, [], length, map, slice_index_or, Option, Some, None, ⊤}
use Rattle.xray_image.specs.Container.{Function, MapEntry}
use Rattle.asm_text.specs.declared.layout.Laid.{Laid}
use Rattle.asm_text.specs.private.Views.{statement_said}
use Rattle.asm_text.specs.Statements.{Statement, Base, Entry, Func, Label, Does}
use Rattle.std.specs.List.{flat_map}
use Rattle.xray_image.specs.Units.{piece_bytes}
use Rattle.xray_image.specs.Limits.{highest_base, most_code, most_functions, most_sleds}
use Rattle.asm_text.specs.declared.laid_text.LaidText.{LaidText}
use Rattle.asm_text.specs.declared.header.Header.{Header}
use Rattle.asm_text.specs.Layout.{Placed, function_in, functions, map_entries, map_entry_for, pieces, base_of, entry_of}
use Rattle.asm_text.specs.private.Laying.{lines_of}
use Rattle.asm_text.specs.private.LaidTexts.{all_in, IsLaidText}
use Rattle.asm_text.specs.declared.map.MapVersion.{MapVersion}
use Rattle.asm_text.specs.declared.map.MapVersion.TheVariants as versions
use Rattle.asm_text.specs.declared.map.SledEntry.{SledEntry}
use Rattle.asm_text.specs.Writing.{File, function_bytes, in_version, map_version}

-- a function's name fits its field
abbrev pub HasShortName : Statement → Type 0
HasShortName (Base address) = ⊤
HasShortName (Entry name) = ⊤
HasShortName (Func name choice) = length name ≤ 255
HasShortName (Label name) = ⊤
HasShortName (Does operation) = ⊤

abbrev pub bytes_of_function : Option Function → List ℕ
bytes_of_function None = []
bytes_of_function (Some f) = function_bytes f

-- the entry of the function that a line begins
abbrev pub function_line_bytes : ℕ → Placed → List ℕ
function_line_bytes base p = bytes_of_function (function_in base p p.statement)

-- whether the addresses of a map are relative
abbrev pub is_relative : MapVersion → Bool
is_relative versions.Absolute = false
is_relative versions.Relative = true

abbrev pub entry_of_sled : SledEntry → MapEntry
entry_of_sled e = map_entry_for e.sled e.function e.kind (if e.always then 1 else 0)

-- each function's name fits its field
abbrev pub AreShortNames : List Laid → Type 0
AreShortNames lines = (i : ℕ) (d : Laid) → i < length lines → HasShortName (statement_said (slice_index_or lines i d).statement)

-- the image of lines at their places
abbrev pub image_laid : Bool → List Placed → File
image_laid relative all =
    let base = base_of (lines_of all) in
    record {
      base = base;
      entry = entry_of (lines_of all) (functions base all);
      code = flat_map piece_bytes (pieces all);
      functions = functions base all;
      entries = map (in_version (map_version relative)) (map_entries base all);
    }

-- the counts, names and addresses of a text fit the fields of the file
pub record IsWritable (text : LaidText) : Type 0 where
  pub laid : IsLaidText text
  pub names : AreShortNames text.lines.items
  pub base : base_of (lines_of (all_in text)) ≤ highest_base
  pub code : length (flat_map piece_bytes (pieces (all_in text))) ≤ most_code
  pub functions : length (functions 0 (all_in text)) ≤ most_functions
  pub entries : length (map_entries 0 (all_in text)) ≤ most_sleds

-- the header has the counts of what the lines make
pub record IsHeaderOf (all : List Placed) (code_length : ℕ) (h : Header) : Type 0 where
  pub base : h.base ≡ base_of (lines_of all)
  pub code : h.code ≡ code_length
  pub count : h.functions ≡ length (functions 0 all)
  pub sleds : h.entries ≡ length (map_entries 0 all)
  pub entry : h.entry ≡ entry_of (lines_of all) (functions 0 all)
