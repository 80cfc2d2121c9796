-- The text of a program's sled map, as `map_names` reads sled maps.
use Rattle.std.specs.Prelude.{ℕ, ◌-◌, ◌==◌, ◌++◌, not, Bool, true, false, List, [], length, map, codes, decimal, if◌then◌else◌}
use Rattle.std.specs.Fmt.{digits}
use Rattle.std.specs.List.{filter, flat_map, list_any}
use Rattle.map_names.specs.Entries.{NamedFunction}
use Rattle.map_names.specs.Spelling.{single_quoted}
use Rattle.xray_io.specs.Piece.{right_aligned}
use Rattle.elf_file.specs.Symbols.{SymbolNames, function_name_at}
use Rattle.program_map.specs.declared.facts.MapFacts.{MapFacts}
use Rattle.program_map.specs.declared.numbering.NumberedSled.{NumberedSled}
use Rattle.program_map.specs.declared.sled.MapSledKind.{MapSledKind}
use Rattle.program_map.specs.declared.sled.MapSledKind.TheVariants.{FunctionEnter, FunctionExit, TailExit, LogArgsEnter, CustomEvent, TypedEvent}
use Rattle.program_map.specs.Numbering.{groups_in}
use Rattle.program_map.specs.Programs.{MappedProgram}

-- ---- the parts of a line

-- an address, in upper-case digits without leading zeros
abbrev pub map_address : ℕ → List ℕ
map_address address = codes "0x" ++ digits 16 true address

-- the words for the kinds, as LLVM has them
abbrev pub map_kind_word : MapSledKind → List ℕ
map_kind_word FunctionEnter = codes "function-enter"
map_kind_word FunctionExit = codes "function-exit"
map_kind_word TailExit = codes "tail-exit"
map_kind_word LogArgsEnter = codes "log-args-enter"
map_kind_word CustomEvent = codes "custom-event"
map_kind_word TypedEvent = codes "typed-event"

-- the words for yes and no
abbrev pub map_truth_word : Bool → List ℕ
map_truth_word true = codes "true"
map_truth_word false = codes "false"

-- A name as a map may have it. One with a line feed (10) can't stand in a line, and is left out.
abbrev pub line_name : List ℕ → List ℕ
line_name name = if list_any (λ b. b == 10) name then [] else name

-- the name of the function at an address, in a line; it is empty if the file has none
abbrev pub line_name_at : SymbolNames → ℕ → List ℕ
line_name_at names function = line_name (function_name_at names function)

-- that of a sled's function
abbrev pub sled_name : SymbolNames → NumberedSled → List ℕ
sled_name names numbered = line_name_at names numbered.sled.function

-- ---- the text

-- the line of a sled whose function has this name
abbrev pub named_line : List ℕ → NumberedSled → List ℕ
named_line name numbered =
    codes "- { id: " ++ decimal numbered.id ++ codes ", address: " ++ map_address numbered.sled.address
    ++ codes ", function: " ++ map_address numbered.sled.function ++ codes ", kind: " ++ map_kind_word numbered.sled.kind
    ++ codes ", always-instrument: " ++ map_truth_word numbered.sled.always
    ++ codes ", function-name: " ++ single_quoted name
    ++ codes ", version: " ++ decimal numbered.sled.version ++ codes " }\n"

-- the line of a sled
abbrev pub map_line : SymbolNames → NumberedSled → List ℕ
map_line names numbered = named_line (sled_name names numbered) numbered

-- a line for each sled in their order, between the marks of a YAML document
abbrev pub map_text : MappedProgram → List ℕ
map_text program = codes "---\n" ++ flat_map (map_line program.names) program.numbering.sleds ++ codes "...\n"

-- what the lines say
abbrev pub named_sled : SymbolNames → NumberedSled → NamedFunction
named_sled names numbered = record { id = numbered.id; name = sled_name names numbered }

-- ---- what is said of it

-- the function of a sled has a name
abbrev pub has_name : SymbolNames → NumberedSled → Bool
has_name names numbered = not (length (sled_name names numbered) == 0)

-- the ids of sleds whose functions have a name
abbrev pub named_ids : SymbolNames → List NumberedSled → List ℕ
named_ids names sleds = map (λ numbered. numbered.id) (filter (has_name names) sleds)

-- how many functions have a name: ids go up in the order of the sleds, so that those of a function stand side by side
abbrev pub functions_named : SymbolNames → List NumberedSled → ℕ
functions_named names sleds = groups_in (named_ids names sleds)

-- how many sleds and functions have an id, how many of these functions have no name, and how many sleds have no id
abbrev pub map_facts : MappedProgram → MapFacts
map_facts program = record {
  sleds = length program.numbering.sleds;
  functions = program.numbering.functions;
  unnamed = program.numbering.functions - functions_named program.names program.numbering.sleds;
  left_out = program.numbering.left_out;
}

-- a line: a number at the right end of twenty places, and what it is
unfoldable pub map_fact_line : ℕ → List ℕ → List ℕ
map_fact_line number what = right_aligned number 20 ++ codes " " ++ what ++ codes "\n"

-- four lines
abbrev pub map_facts_text : MapFacts → List ℕ
map_facts_text facts =
    map_fact_line facts.sleds (codes "sleds") ++ map_fact_line facts.functions (codes "functions")
    ++ map_fact_line facts.unnamed (codes "functions without a name") ++ map_fact_line facts.left_out (codes "sleds without an id left out")
