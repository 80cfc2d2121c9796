-- Worked examples of the code at a place, checked by computing.
use Rattle.std.proofs.Common.{◌≡◌, ℕ, List, [], ◌∷◌, map, refl}
use Rattle.sled_words.specs.declared.part.Part.TheVariants.{Head, Id, Opcode, Offset}
use Rattle.sled_words.specs.Words.{word_of, handler_word, state_word, release_word, arg_handler_word}
use Rattle.patch_script.specs.declared.command.PatchCommand.{PatchCommand}
use Rattle.patch_script.specs.declared.command.PatchCommand.TheVariants as commands
use Rattle.patch_script.specs.CodeAt.{code_at}
use Rattle.patch_script.proofs.Rows.{one_function}

-- eight stores patch the two sleds, and two unpatch them
script : List PatchCommand
script = commands.Patch ∷ commands.Go ∷ commands.Unpatch ∷ commands.Init ∷ commands.SetHandler ∷ commands.SetArgHandler ∷ []

-- words of the code after some of the stores: how many stores, the word, and what it holds
rows : List (ℕ × ℕ × ℕ)
rows =
    -- after three stores the id, the opcode and the offset are patched, and the head isn't yet
    (3, word_of 0 Offset, 0x1FFFF5)
    ∷ (3, word_of 0 Head, 0x09EB)
    ∷ (4, word_of 0 Head, 0xBA41)
    -- unpatching removes the head, and leaves the parts that a thread loads after a patched head
    ∷ (9, word_of 0 Head, 0x09EB)
    ∷ (9, word_of 0 Id, 1)
    ∷ (9, word_of 0 Opcode, 0xE8)
    -- an exit sled that was patched is a return with another byte after it
    ∷ (10, word_of 1 Head, 0xBAC3)
    -- the log is being initialized, and then is initialized; then the handler is set, and then the argument handler
    ∷ (11, state_word one_function, 1)
    ∷ (12, state_word one_function, 2)
    ∷ (12, handler_word one_function, 0)
    ∷ (13, handler_word one_function, 1)
    ∷ (13, arg_handler_word one_function 1, 0)
    ∷ (14, arg_handler_word one_function 1, 1)
    ∷ []

each_holds : map (λ row. code_at one_function 1 script row.0 row.1) rows ≡ map (λ row. row.2) rows
unfolding script rows
each_holds = refl

released : code_at one_function 2 (commands.Hold 2 0 ∷ commands.Go ∷ commands.Release 2 ∷ []) 1 (release_word one_function 2) ≡ 1
released = refl
