-- The text of a flame graph: a picture in SVG, with a line for each frame that is drawn.
use Rattle.std.specs.Prelude.{◌+◌, ◌-◌, ◌*◌, ◌/◌, ◌%◌, ◌==◌, ◌&&◌, ◌||◌, Bool, ℕ, List, [], ◌∷◌, ◌++◌, codes, decimal, length, nat_le, nat_lt, slice_index, take, if◌then◌else◌}
use Rattle.std.specs.List.{flat_map}
use Rattle.std.specs.Str.{bytes_eq}
use Rattle.map_names.specs.Naming.{Naming}
use Rattle.function_names.specs.Name.{plain_name}
use Rattle.stack_rebuild.specs.Stacks.{PathRow}
use Rattle.flame_graph.specs.Characters.{characters}
use Rattle.flame_graph.specs.Frames.{calls_of, frames, frames_total}
use Rattle.flame_graph.specs.Picture.{is_drawn, left_of, left_out, levels_of, width_of}
use Rattle.flame_graph.specs.declared.frame.Calls.{Calls}

-- ---- names

-- U+FFFD, which stands for what has no place in a text of XML
abbrev pub replacement : List ℕ
replacement = 239 ∷ 191 ∷ 189 ∷ []

-- A character of one byte. If it isn't a printable character of ASCII, it is replaced.
abbrev pub xml_byte : ℕ → List ℕ
xml_byte byte =
    if byte == 38 then codes "&amp;" else if byte == 60 then codes "&lt;" else if byte == 62 then codes "&gt;"
    else if byte == 34 then codes "&quot;" else if nat_le 32 byte && nat_le byte 126 then byte ∷ [] else replacement

-- whether a character is U+FFFE or U+FFFF, which no text of XML has
abbrev pub is_outside : List ℕ → Bool
is_outside character = bytes_eq character (239 ∷ 191 ∷ 190 ∷ []) || bytes_eq character (239 ∷ 191 ∷ 191 ∷ [])

-- a character of several bytes
abbrev pub xml_wide : List ℕ → List ℕ
xml_wide character = if is_outside character then replacement else character

abbrev pub xml_character : List ℕ → List ℕ
xml_character character = if length character == 1 then xml_byte (slice_index character 0) else xml_wide character

-- characters, one after the other
abbrev pub xml_characters : List (List ℕ) → List ℕ
xml_characters characters = flat_map xml_character characters

-- a name in a text of XML
abbrev pub xml_text : List ℕ → List ℕ
xml_text name = xml_characters (characters name)

-- how many characters fit into a width in thousandths of a pixel: each takes 7.3 pixels, and 6 pixels are left free
abbrev pub fitting : ℕ → ℕ
fitting width = (width - 6000) / 7300

-- the first characters of a name, and two dots
abbrev pub cut_text : (most : ℕ) → List ℕ → List ℕ
cut_text most name = xml_characters (take most (characters name)) ++ codes ".."

-- the part of a name that has room for this many characters: the whole name, or its first characters and two dots
abbrev pub shortened : (room : ℕ) → List ℕ → List ℕ
shortened room name = if nat_le (length (characters name)) room then xml_text name else cut_text (room - 2) name

-- ---- numbers

-- thousandths of a pixel, in pixels
abbrev pub pixels : ℕ → List ℕ
pixels n = decimal (n / 1000) ++ codes "." ++ decimal (n / 100 % 10) ++ decimal (n / 10 % 10) ++ decimal (n % 10)

-- seconds, and millionths of a second
abbrev pub seconds_text : (seconds millionths : ℕ) → List ℕ
seconds_text seconds millionths =
    decimal seconds ++ codes "." ++ decimal (millionths / 100000 % 10) ++ decimal (millionths / 10000 % 10) ++ decimal (millionths / 1000 % 10)
    ++ decimal (millionths / 100 % 10) ++ decimal (millionths / 10 % 10) ++ decimal (millionths % 10) ++ codes " seconds"

-- a total in cycles; if the counter has a frequency, in seconds, rounded down
abbrev pub total_text : (frequency total : ℕ) → List ℕ
total_text frequency total =
    if frequency == 0 then decimal total ++ codes " cycles" else seconds_text (total / frequency) (total % frequency * 1000000 / frequency)

-- ---- lines

-- how high the picture is, in pixels: 48 above the frames, 16 for each row of them, and 32 below
abbrev pub height_of : (levels : ℕ) → ℕ
height_of levels = 80 + levels * 16

-- the pixels above the frames of a length: a caller is drawn below its callees
abbrev pub top_of : (levels size : ℕ) → ℕ
top_of levels size = 48 + (levels - size) * 16

-- what is shown of a frame under the pointer: its name, and its calls
abbrev pub calls_text : Calls → List ℕ
calls_text calls = codes ": count " ++ decimal calls.count ++ codes ", sum " ++ decimal calls.sum ++ codes ", self " ++ decimal calls.own ++ codes "</title>"

abbrev pub hint_text : List ℕ → Calls → List ℕ
hint_text name calls = codes "<g><title>" ++ xml_text name ++ calls_text calls

-- its rectangle: the left upper corner, the size, and the colour, which follows from the id of its function
abbrev pub corner_text : (left top : ℕ) → List ℕ
corner_text left top = codes "<rect x=\"" ++ pixels left ++ codes "\" y=\"" ++ decimal top ++ codes "\""

abbrev pub size_text : ℕ → List ℕ
size_text width = codes " width=\"" ++ pixels width ++ codes "\" height=\"15\" rx=\"2\""

abbrev pub colour_text : ℕ → List ℕ
colour_text id =
    codes " fill=\"rgb(" ++ decimal (205 + id * 31 % 50) ++ codes "," ++ decimal (100 + id * 89 % 120) ++ codes "," ++ decimal (id * 37 % 55) ++ codes ")\"/>"

abbrev pub box_text : (left width top id : ℕ) → List ℕ
box_text left width top id = corner_text (left + 10000) top ++ size_text width ++ colour_text id

-- its label, if there is room for three characters, and what ends the line
abbrev pub baseline_text : (left top : ℕ) → List ℕ
baseline_text left top = codes "<text x=\"" ++ pixels left ++ codes "\" y=\"" ++ decimal top ++ codes "\">"

abbrev pub room_text : (left bottom room : ℕ) → List ℕ → List ℕ
room_text left bottom room name = baseline_text left bottom ++ shortened room name ++ codes "</text></g>\n"

abbrev pub label_text : (left width top : ℕ) → List ℕ → List ℕ
label_text left width top name =
    if nat_lt (fitting width) 3 then codes "</g>\n" else room_text (left + 13000) (top + 12) (fitting width) name

-- the line of a frame
abbrev pub frame_line : (left width top id : ℕ) → List ℕ → Calls → List ℕ
frame_line left width top id name calls = hint_text name calls ++ box_text left width top id ++ label_text left width top name

-- the function of a frame: the innermost one
abbrev pub func_of : List ℕ → ℕ
func_of frame = slice_index frame (length frame - 1)

-- the line of a frame of rows, if it is drawn
abbrev pub frame_text : Naming → List PathRow → List ℕ → List ℕ
frame_text names rows frame =
    if is_drawn rows frame then
    frame_line (left_of rows frame) (width_of rows frame) (top_of (levels_of rows) (length frame)) (func_of frame) (plain_name names (func_of frame)) (calls_of rows frame)
    else []

-- ---- the picture

-- what stands before the total
abbrev pub start_text : (levels : ℕ) → List ℕ
start_text levels =
    codes "<svg xmlns=\"http://www.w3.org/2000/svg\" width=\"1200\" height=\"" ++ decimal (height_of levels) ++ codes "\" viewBox=\"0 0 1200 "
    ++ decimal (height_of levels) ++ codes "\" font-family=\"monospace\" font-size=\"12\">\n<rect width=\"1200\" height=\"" ++ decimal (height_of levels)
    ++ codes "\" fill=\"#f8f4e4\"/>\n<text x=\"600\" y=\"28\" font-size=\"17\" text-anchor=\"middle\">Flame graph: "

-- what stands before the frames
abbrev pub head_text : (frequency levels total : ℕ) → List ℕ
head_text frequency levels total = start_text levels ++ total_text frequency total ++ codes "</text>\n"

-- what stands after them
abbrev pub foot_text : (levels left : ℕ) → List ℕ
foot_text levels left =
    codes "<text x=\"10\" y=\"" ++ decimal (68 + levels * 16) ++ codes "\">Frames narrower than 0.1 pixels, which are left out: " ++ decimal left ++ codes "</text>\n</svg>\n"

-- the flame graph of rows
abbrev pub flame_text : (frequency : ℕ) → Naming → List PathRow → List ℕ
flame_text frequency names rows =
    head_text frequency (levels_of rows) (frames_total rows) ++ flat_map (frame_text names rows) (frames rows) ++ foot_text (levels_of rows) (left_out rows)
