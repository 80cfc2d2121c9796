-- The image file of an assembler text.
use Rattle.std.specs.Prelude.{ℕ, ◌+◌, Bool, List, [], length, map, Result, Ok, Err, Vec}
use Rattle.std.specs.declared.alloc.Global.{Global}
use Rattle.std.specs.List.{flat_map}
use Rattle.std.specs.Str.Lines.{lines}
use Rattle.xray_io.specs.Rows.{◌>>=◌}
use Rattle.text_lines.specs.Lines.{numbered_lines}
use Rattle.xray_image.specs.Units.{piece_bytes}
use Rattle.asm_text.specs.declared.fault.AsmFault.{AsmFault}
use Rattle.asm_text.specs.Layout.{StatementLines, by_threshold, lines_placed, pieces, functions, map_entries, base_of, entry_of}
use Rattle.asm_text.specs.Refusals.{read_statements, text_ended}
use Rattle.asm_text.specs.Writing.{File, image_bytes, in_version, map_version}

-- the image of lines that are in order, with a map of version 2 if its addresses are relative, and else of version 0
abbrev pub image_of : (threshold : ℕ) (relative : Bool) → StatementLines → File
image_of threshold relative said =
    let base = base_of said in
    let all = lines_placed (by_threshold threshold) said in
    record {
      base = base;
      entry = entry_of said (functions base all);
      code = flat_map piece_bytes (pieces all);
      functions = functions base all;
      entries = map (in_version (map_version relative)) (map_entries base all);
    }

-- what a text says, line after line, or its first refusal
abbrev pub statements_said : List ℕ → Result StatementLines AsmFault
statements_said text = read_statements [] (numbered_lines text) >>= λ said. text_ended (length (lines text) + 1) said

-- the image file of a text, or its first refusal
abbrev pub assembled : List ℕ → (threshold : ℕ) (relative : Bool) → Result (List ℕ) AsmFault
assembled text threshold relative =
    statements_said text >>= λ said. Ok (image_bytes (image_of threshold relative said))

-- an answer, with the bytes of its image
abbrev pub seen : Result (Vec ℕ Global) AsmFault → Result (List ℕ) AsmFault
seen (Ok file) = Ok file.items
seen (Err fault) = Err fault
