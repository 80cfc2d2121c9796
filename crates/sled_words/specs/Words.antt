-- The numbers of the words: four per sled, then the handler's and the state's, then two per thread, and last the
-- argument handler's.
use Rattle.std.specs.Prelude.{◌≡◌, ℕ, ◌+◌, ◌*◌, ◌<◌, ◌⊎◌, length}
use Rattle.xray_image.specs.Program.{Program}
use Rattle.sled_words.specs.declared.part.Part.{Part}
use Rattle.sled_words.specs.declared.part.Part.TheVariants.{Head, Id, Opcode, Offset}

abbrev pub part_number : Part → ℕ
part_number Head = 0
part_number Id = 1
part_number Opcode = 2
part_number Offset = 3

-- the word of a part of a sled
abbrev pub word_of : ℕ → Part → ℕ
word_of sled part = 4 * sled + part_number part

-- the word that says whether a handler is set
abbrev pub handler_word : Program → ℕ
handler_word program = 4 * length program.sleds

-- the word that says in which state the log is
abbrev pub state_word : Program → ℕ
state_word program = 4 * length program.sleds + 1

-- the word that lets a held thread go on
abbrev pub release_word : Program → ℕ → ℕ
release_word program thread = 4 * length program.sleds + 1 + thread

-- the word in which a thread keeps the number of its passings
abbrev pub progress_word : Program → ℕ → ℕ → ℕ
progress_word program threads thread = 4 * length program.sleds + 1 + threads + thread

-- the word that says whether an argument handler is set, which comes after all others
abbrev pub arg_handler_word : Program → ℕ → ℕ
arg_handler_word program threads = 4 * length program.sleds + 2 + 2 * threads

-- A code word is one that scripts store in, or that passings load: any word but the progress words. All are before
-- these but the argument handler's.
abbrev pub IsCodeWord : Program → ℕ → ℕ → Type 0
IsCodeWord program threads word = (word < progress_word program threads 1) ⊎ (word ≡ arg_handler_word program threads)

-- how many code words there are for this many threads
abbrev pub code_word_count : Program → ℕ → ℕ
code_word_count program threads = 4 * length program.sleds + 3 + threads

-- how many words there are for this many threads
abbrev pub word_count : Program → ℕ → ℕ
word_count program threads = 4 * length program.sleds + 3 + 2 * threads
