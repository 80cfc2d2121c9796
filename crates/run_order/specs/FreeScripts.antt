-- A script without its waits: its commands, its text, and where its places are.
use Rattle.std.specs.Prelude.{◌&&◌, ◌+◌, ◌==◌, ◌∷◌, ◌++◌, ℕ, List, [], Bool, true, false, not, nat_le, nat_lt, codes, filter, if◌then◌else◌, is_some, length, slice_get, take, unwrap_or}
use Rattle.std.specs.List.{flat_map, slice_split}
use Rattle.std.specs.Str.Lines.{lines}
use Rattle.text_lines.specs.Keywords.{in_table}
use Rattle.text_lines.specs.Words.{words_of}
use Rattle.xray_image.specs.Program.{Program}
use Rattle.sled_words.specs.Words.{state_word}
use Rattle.patch_script.specs.declared.command.PatchCommand.{PatchCommand}
use Rattle.patch_script.specs.declared.micro.Micro.{Micro}
use Rattle.patch_script.specs.declared.micro.Micro.TheVariants.{Store, Await, End}
use Rattle.patch_script.specs.Micros.{micros}
use Rattle.patch_script.specs.Plans.{is_waiting}

-- ---- its commands

-- those at which no thread and no patcher waits
abbrev pub free_commands : List PatchCommand → List PatchCommand
free_commands script = filter (λ command. not (is_waiting command)) script

-- ---- its text

-- the parts between LFs, each with the LF that ends it; an empty last part is no line
abbrev pub whole_of_parts : List (List ℕ) → List (List ℕ)
whole_of_parts [] = []
whole_of_parts (part ∷ []) = if length part == 0 then [] else part ∷ []
whole_of_parts (part ∷ next ∷ later) = (part ++ 10 ∷ []) ∷ whole_of_parts (next ∷ later)

-- the lines of a text, each with what ends it
abbrev pub lines_with_ends : List ℕ → List (List ℕ)
lines_with_ends text = whole_of_parts (slice_split (λ byte. byte == 10) text)

-- the first words of the lines at which a thread or the patcher may wait
abbrev pub waiting_words : List (List ℕ × Bool)
waiting_words = (codes "hold", true) ∷ (codes "release", true) ∷ (codes "await", true) ∷ []

-- the words of a line begin with one of them
abbrev pub begins_wait : List (List ℕ) → Bool
begins_wait [] = false
begins_wait (word ∷ following) = is_some (in_table waiting_words word)

-- the line that bytes have, which hold one line
abbrev pub line_in : List ℕ → List ℕ
line_in bytes = unwrap_or (slice_get (lines bytes) 0) []

-- the text without its lines of `hold`, `release` and `await`; all other lines stay byte for byte
abbrev pub free_text : List ℕ → List ℕ
free_text text = flat_map (λ line. line) (filter (λ line. not (begins_wait (words_of (line_in line)))) (lines_with_ends text))

-- ---- its places

-- a thread's release word
abbrev pub is_release_word : Program → ℕ → ℕ → Bool
is_release_word program threads word = nat_lt (state_word program) word && nat_le word (state_word program + threads)

-- the script without waits makes this micro step too
abbrev pub is_free : Program → ℕ → Micro → Bool
is_free program threads (Store word value) = not (is_release_word program threads word)
is_free program threads (Await thread count) = false
is_free program threads End = false

-- the place of the script without waits that a place of the script is
abbrev pub free_place : Program → ℕ → List PatchCommand → ℕ → ℕ
free_place program threads script place = length (filter (is_free program threads) (take place (micros program threads script)))
