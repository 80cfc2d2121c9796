-- A thread's release word is loaded nowhere but where it may hold the thread.
use Rattle.std.proofs.Common.{ℕ, ◌+◌, ◌<◌, ◌≤◌, ◌==◌, Bool, true, false, List, [], ◌∷◌, length, Option, refl, arith}
use Rattle.std.specs.Prelude.{All, if◌then◌else◌}
use Rattle.std.proofs.lemmas.List.Elements.{All-head, All-tail}
use Rattle.xray_image.specs.Program.{Program}
use Rattle.handler_word.specs.declared.mark.Mark.{Mark}
use Rattle.handler_word.specs.declared.mark.Mark.TheVariants.{NoHandler, Recorded, RecordedArg, Skipped}
use Rattle.sled_words.specs.Parts.{patched_head}
use Rattle.sled_words.specs.Words.{release_word}
use Rattle.machine_step.specs.Loads.{is_held_at, sled_logs_args}
use Rattle.audit_check.specs.private.Ways.{AreOwn, IsOwn, Leaf, Tree, arg_handler_tree, handler_tree, handlers_tree, head_tree, id_tree, passing_tree, state_tree, trees_of}

-- either of two trees
either_own : (release : ℕ) (b : Bool) (t u : Tree) → IsOwn release t → IsOwn release u → IsOwn release (if b then t else u)
either_own release true t u own other = own
either_own release false t u own other = other

module _ (program : Program) (threads thread : ℕ) (some : 0 < thread) (within : thread ≤ threads) where
  abbrev release : ℕ
  release = release_word program thread

  state_own : (recording : Mark) → IsOwn release (state_tree program recording)
  state_own recording = ((λ e. omega (arith, e)), λ value. tt)

  handler_own : IsOwn release (handler_tree program)
  handler_own = ((λ e. omega (arith, e)), λ value. either_own release (value == 0) (Leaf NoHandler) (state_tree program Recorded) tt (state_own Recorded))

  arg_handler_own : IsOwn release (arg_handler_tree program threads)
  arg_handler_own = (
    (λ e. omega (arith, e)),
    λ value.
        either_own release (value == 0) (handler_tree program) (state_tree program RecordedArg) handler_own (state_own RecordedArg),
  )

  handlers_own : (sled : ℕ) → IsOwn release (handlers_tree program threads sled)
  handlers_own sled =
      either_own release (sled_logs_args program sled) (arg_handler_tree program threads) (handler_tree program) arg_handler_own handler_own

  id_own : (sled : ℕ) → sled < length program.sleds → IsOwn release (id_tree program threads sled)
  id_own sled low = ((λ e. omega (arith, e)), λ _. ((λ e. omega (arith, e)), λ _. ((λ e. omega (arith, e)), λ _. handlers_own sled)))

  head_own : (sled : ℕ) → sled < length program.sleds → IsOwn release (head_tree program threads sled)
  head_own sled low = (
    (λ e. omega (arith, e)),
    λ value.
        either_own release (value == patched_head) (id_tree program threads sled) (Leaf Skipped) (id_own sled low) tt,
  )

  passing_own : (held : Bool) (sled : ℕ) → sled < length program.sleds → IsOwn release (passing_tree program threads thread held sled)
  passing_own true sled low = (refl, head_own sled low)
  passing_own false sled low = head_own sled low

  pub trees_own : (hold : Option ℕ) (number : ℕ) (sleds : List ℕ) → All (λ sled. sled < length program.sleds) sleds
      → AreOwn release (trees_of program threads thread hold number sleds)
  trees_own hold number [] all = tt
  trees_own hold number (sled ∷ sleds) all = (
    passing_own (is_held_at hold number) sled (All-head (λ k. k < length program.sleds) sled sleds all),
    trees_own hold (number + 1) sleds (All-tail (λ k. k < length program.sleds) sled sleds all),
  )
