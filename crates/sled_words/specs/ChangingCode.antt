-- Code that changes while threads run: the value of each word at each place.
use Rattle.std.specs.Prelude.{◌≡◌, ◌≤◌, ◌+◌, ℕ, Option, Some}
use Rattle.xray_image.specs.Program.{Program}
use Rattle.sled_words.specs.declared.part.Part.{Part}
use Rattle.sled_words.specs.declared.part.Part.TheVariants.{Head}
use Rattle.sled_words.specs.Allowed.{IsAllowed}
use Rattle.sled_words.specs.Parts.{patched_head}
use Rattle.sled_words.specs.Words.{handler_word, release_word, word_of}

-- The changes keep each sled whole for a thread that loads its head first, and then its other parts. The head is
-- allowed at each place. So are the words after those of the sleds. Once the head is patched at a place, each other
-- part is allowed there and at all later places.
pub record KeepsSleds (program : Program) (threads thread : ℕ) (code : ℕ → ℕ → ℕ) : Type 0 where
  pub head : (place k : ℕ) → IsAllowed program threads thread (word_of k Head) (code place (word_of k Head))
  pub part : (p q k : ℕ) (part : Part) → p ≤ q → code p (word_of k Head) ≡ patched_head
      → IsAllowed program threads thread (word_of k part) (code q (word_of k part))
  pub other : (place word : ℕ) → handler_word program ≤ word → IsAllowed program threads thread word (code place word)

-- The changes let a thread come to its end. Its loads are made from the place `start` on. `bound` gives the last place for
-- the loads of a passing, counted from 0. The bounds never fall, none is before `start`, and none is after `total`. The
-- thread is held before at most one passing, and at the bound of that passing its release word is 1.
pub record LetsEnd (program : Program) (thread : ℕ) (hold : Option ℕ) (code : ℕ → ℕ → ℕ) (start total : ℕ) (bound : ℕ → ℕ) : Type 0 where
  pub begins : start ≤ bound 0
  pub rises : (passing : ℕ) → bound passing ≤ bound (passing + 1)
  pub ends : (passing : ℕ) → bound passing ≤ total
  pub releases : (passing : ℕ) → hold ≡ Some passing → code (bound passing) (release_word program thread) ≡ 1
