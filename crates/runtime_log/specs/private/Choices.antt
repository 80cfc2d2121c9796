-- Blocks by their places, and what they are of a log.
use Rattle.std.specs.Prelude.{◌≡◌, ◌≤◌, ℕ, ◌+◌, ◌-◌, ◌==◌, ⊤, List, [], ◌∷◌, ◌++◌, length, take, drop, count_by, Option, Some, None, Ok}
use Rattle.std.specs.Option.{unwrap_or}
use Rattle.fdr_record.specs.declared.event.Event.{Event}
use Rattle.fdr_file.specs.declared.trace.Block.{Block}
use Rattle.runtime_log.specs.declared.blocks.LogBlock.{LogBlock as Placed}
use Rattle.runtime_log.specs.declared.taken.LeftOut.{LeftOut}
use Rattle.runtime_log.specs.declared.version.LogVersion.{LogVersion}
use Rattle.runtime_log.specs.Logs.{LogBlock, log_block_in}
use Rattle.runtime_log.specs.Taken.{first_ones, is_among_contents, undoubled}

-- the bytes of a block, without the record of 16 bytes that stands before them
abbrev pub content_at : List ℕ → Placed → List ℕ
content_at bytes placed =
    let begin = placed.begin + 16 in take (placed.end - begin) (drop begin bytes)

-- a block lies within the log
pub record LiesWithin (bytes : List ℕ) (placed : Placed) : Type 0 where
  pub head : placed.begin + 16 ≤ placed.end
  pub whole : placed.end ≤ length bytes

-- the counter of the first event, if there is one
abbrev pub counter_first : List Event → Option ℕ
counter_first [] = None
counter_first (event ∷ events) = Some event.tsc

-- what is known of a block without its events is what it says
pub record Shows (placed : Placed) (block : Block) : Type 0 where
  pub thread : placed.thread ≡ block.thread
  pub pid : placed.pid ≡ block.pid
  pub wall : placed.wall ≡ block.wall
  pub first : placed.first ≡ counter_first block.events

-- the block of a log that is at these places of its bytes
pub record IsAt (bytes : List ℕ) (version : LogVersion) (placed : Placed) (b : LogBlock) : Type 0 where
  pub said : log_block_in version (b.place, drop b.place bytes) ≡ Ok b
  pub within : LiesWithin bytes placed
  pub place : placed.begin ≡ b.place
  pub content : content_at bytes placed ≡ b.content
  pub shows : Shows placed b.block

-- so are these, one for one
abbrev pub AreAt : List ℕ → LogVersion → List Placed → List LogBlock → Type 0
AreAt bytes version [] [] = ⊤
AreAt bytes version (placed ∷ places) (b ∷ blocks) = IsAt bytes version placed b × AreAt bytes version places blocks
AreAt bytes version _ _ = ⊥

-- blocks in the order of the file, from a place on, and up to another one
abbrev pub AreInFileOrder : ℕ → ℕ → List LogBlock → Type 0
AreInFileOrder from to [] = from ≤ to
AreInFileOrder from to (b ∷ blocks) = (from ≤ b.place) × AreInFileOrder (1 + b.place) to blocks

-- where a block stands in the order of time
abbrev pub time_key : Placed → List ℕ
time_key placed =
    placed.thread ∷ placed.wall.secs ∷ placed.wall.micros ∷ unwrap_or placed.first 0 ∷ placed.begin ∷ []

-- how many of the blocks of a log aren't taken
pub record AreLeftOut (blocks : List LogBlock) (left : LeftOut) : Type 0 where
  pub doubled : left.doubled ≡ length blocks - length (undoubled blocks)
  pub empty : left.empty ≡ count_by (λ b. length b.block.events == 0) (undoubled blocks)

-- Of the first blocks of a log, those were kept whose bytes aren't those of a block before them. The bytes of all of them
-- were seen.
pub record KeepsFirst (bytes : List ℕ) (version : LogVersion) (said : List LogBlock) (count : ℕ) (kept : List Placed) (seen : List (List ℕ)) : Type 0 where
  pub done : List LogBlock
  pub before : List (List ℕ)
  pub at : AreAt bytes version kept done
  pub parts : undoubled said ≡ done ++ first_ones before (drop count said)
  pub among : (content : List ℕ) → is_among_contents seen content ≡ is_among_contents before content
