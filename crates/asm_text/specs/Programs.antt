-- The program that an assembler text says.
use Rattle.std.specs.Prelude.{◌≡◌, ℕ, ◌+◌, ◌==◌, not, List, map, take, find, slice_get, Option, Some, None, option_map, option_and_then, Ok}
use Rattle.std.specs.Option.{option_map_or}
use Rattle.std.specs.List.{flat_map, filter_map, last_or}
use Rattle.std.specs.Str.{bytes_eq}
use Rattle.xray_image.specs.declared.sled.Sled.{Sled}
use Rattle.xray_image.specs.Container.{Function, MapEntry}
use Rattle.xray_image.specs.Units.{piece_bytes, units_from}
use Rattle.xray_image.specs.Program.{Program, Trampolines, IsAccepted, id_of, kind_of}
use Rattle.asm_text.specs.Statements.{Statement, Base, Entry, Func, Label, Does}
use Rattle.asm_text.specs.Layout.{StatementLines, by_threshold, lines_placed, pieces, functions, map_entries, entry_in, base_of, entry_in_line, sled_shift}
use Rattle.asm_text.specs.Assembling.{statements_said}

-- the function that an entry line names, or else the first function
abbrev pub entry_function : Option (List ℕ) → List Function → Option Function
entry_function None all = slice_get all 0
entry_function (Some name) all = find (λ f. bytes_eq f.name name) all

-- the address at which threads start: that of the entry function
abbrev pub entry_address : StatementLines → List Function → ℕ
entry_address said all =
    option_map_or (λ f. f.start) (entry_function (slice_get (filter_map (λ line. entry_in_line line.1) said) 0) all) 0

-- a sled as its entry in the map says, with the id of its function and the displacement that each sled has
abbrev pub sled_said : List MapEntry → MapEntry → Sled
sled_said entries e = record {
  address = e.sled;
  function = e.function;
  id = id_of entries e.function;
  kind = kind_of e.kind;
  always = not (e.always == 0);
  shift = sled_shift;
}

-- the trampolines, by the kind of the sleds that call them, at fixed distances from the base
abbrev pub trampolines_at : ℕ → Trampolines
trampolines_at base = record {
  entry = base + 0x200000;
  exit = base + 0x200010;
  tail = base + 0x200020;
  args = base + 0x200030;
}

-- the program that lines say, with a sled for each line of an instrumented function that has one
abbrev pub program_said : ℕ → StatementLines → Program
program_said threshold said =
    let base = base_of said in
    let all = lines_placed (by_threshold threshold) said in
    let entries = map_entries base all in
    record {
      base = base;
      entry = entry_address said (functions base all);
      code = flat_map piece_bytes (pieces all);
      functions = functions base all;
      units = units_from base 0 (pieces all);
      sleds = map (sled_said entries) entries;
      trampolines = trampolines_at base;
    }

-- the file is accepted by the definition of image files, and holds the program that the text says
pub record IsProgramOf (text : List ℕ) (threshold : ℕ) (file : List ℕ) : Type 0 where
  pub said : StatementLines
  pub read : statements_said text ≡ Ok said
  pub accepted : IsAccepted file (program_said threshold said)

-- ---- the function that a line belongs to

-- the name that a function line gives
abbrev pub function_named : Statement → Option (List ℕ)
function_named (Base address) = None
function_named (Entry name) = None
function_named (Func name choice) = Some name
function_named (Label name) = None
function_named (Does operation) = None

-- the name of the function that this line belongs to: that of the last function line up to it
abbrev pub function_over : StatementLines → ℕ → Option (List ℕ)
function_over said i = last_or None (filter_map (λ line. function_named line.1) (take (i + 1) said))

-- the sled of this line, if it has one
abbrev pub sled_at_line : ℕ → StatementLines → ℕ → Option Sled
sled_at_line threshold said i =
    let all = lines_placed (by_threshold threshold) said in
    option_map (sled_said (map_entries (base_of said) all)) (option_and_then (entry_in (base_of said)) (slice_get all i))
