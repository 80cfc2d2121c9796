-- The text of a sled map.
use Rattle.std.specs.Prelude.{ℕ, List, [], ◌++◌, Bool, true, false, codes, decimal}
use Rattle.std.specs.List.{flat_map}
use Rattle.std.specs.Option.{unwrap_or}
use Rattle.xray_io.specs.Piece.{hexadecimal}
use Rattle.xray_image.specs.declared.sled.Sled.{Sled}
use Rattle.xray_image.specs.declared.sled.SledKind.{SledKind}
use Rattle.xray_image.specs.declared.sled.SledKind.TheVariants.{Entry, Exit, Tail, Args}
use Rattle.xray_image.specs.Program.{Program}
use Rattle.xray_image.specs.Ids.{name_of}

-- the names that llvm-xray's extract has for the kinds
abbrev pub kind_text : SledKind → List ℕ
kind_text Entry = codes "function-enter"
kind_text Exit = codes "function-exit"
kind_text Tail = codes "tail-exit"
kind_text Args = codes "function-enter-arg"

abbrev pub truth_text : Bool → List ℕ
truth_text true = codes "true"
truth_text false = codes "false"

-- an address in sixteen digits
abbrev pub address_text : ℕ → List ℕ
address_text address = codes "0x" ++ hexadecimal address 16

-- the line of a sled
abbrev pub sled_line : Program → Sled → List ℕ
sled_line program sled =
    codes "- { id: " ++ decimal sled.id ++ codes ", address: " ++ address_text sled.address
    ++ codes ", function: " ++ address_text sled.function ++ codes ", kind: " ++ kind_text sled.kind
    ++ codes ", always-instrument: " ++ truth_text sled.always
    ++ codes ", function-name: '" ++ unwrap_or (name_of program sled.id) [] ++ codes "' }\n"

-- a line for each sled in the order of the map, between the marks of a YAML document
abbrev pub extract_text : Program → List ℕ
extract_text program = codes "---\n" ++ flat_map (sled_line program) program.sleds ++ codes "...\n"
