-- The events of a block that was read, by its places.
use Rattle.std.proofs.Common.{◌≡◌, ℕ, ◌+◌, ◌-◌, ◌*◌, ◌^◌, ◌<◌, ◌≤◌, List, length, get_or, drop, Result, Ok, sym, ap, subst, ◌∙◌, arith}
use Rattle.std.specs.Prelude.{All}
use Rattle.std.proofs.lemmas.List.{length-drop, length-take}
use Rattle.std.proofs.lemmas.List.Elements.{All-drop, All-from_get_or, All-take}
use Rattle.fdr_record.specs.Recordable.{IsRecordable}
use Rattle.fdr_file.specs.declared.fault.TraceFault.{TraceFault}
use Rattle.fdr_file.specs.declared.stage.Stage.{Stage}
use Rattle.runtime_log.specs.declared.blocks.LogBlock.{LogBlock as Placed}
use Rattle.runtime_log.specs.declared.version.LogVersion.{LogVersion}
use Rattle.runtime_log.specs.declared.walk.BlockWalk.{BlockWalk}
use Rattle.runtime_log.specs.Logs.{LogBlock, block_content, block_opened, block_size_rows, content_rows, cut_length, log_block_in, log_places, whole_content}
use Rattle.runtime_log.specs.OwnEvents.{log_record_length}
use Rattle.runtime_log.specs.private.Choices.{IsAt}
use Rattle.runtime_log.specs.private.Walks.{IsOpened, events_told, walk_events}
use Rattle.runtime_log.proofs.CutRecords.{whole_long}
use Rattle.runtime_log.proofs.RecordFits.{AreBytes}
use Rattle.runtime_log.proofs.RecordableLogs.{events_fit, fit_recordable, starts_fit}
use Rattle.runtime_log.proofs.RecordWalk.{events_few, events_said, starts_few}
use Rattle.runtime_log.proofs.WholeLogs.{block_parts}

pub are_bytes : (bytes : List ℕ) → ((k : ℕ) → get_or bytes k 0 < 2 ^ 8) → AreBytes bytes
are_bytes bytes below = All-from_get_or (λ b. b < 256) bytes 0 (λ k within. below k)

-- the events of a walk before the first record of a block
opened_events : (version : LogVersion) (at size : ℕ) (bytes : List ℕ) (walk : BlockWalk) → IsOpened version at size bytes walk
    → walk_events walk ≡ events_told version (block_opened at (length (whole_content version (block_content size bytes)))).stage (log_places version (at + 16) (whole_content version (block_content size bytes)))
opened_events version at size bytes walk o =
    ap (λ (v : LogVersion). events_told v walk.stage (log_places v walk.at walk.rest.now)) o.version_is
    ∙ ap (λ (s : Stage). events_told version s (log_places version walk.at walk.rest.now)) o.stage
    ∙ ap (λ (k : ℕ). events_told version (block_opened at (length (whole_content version (block_content size bytes)))).stage (log_places version k walk.rest.now)) o.at_is
    ∙ ap (λ (xs : List ℕ). events_told version (block_opened at (length (whole_content version (block_content size bytes)))).stage (log_places version (at + 16) xs)) o.rest

same_size : (n m : ℕ) → ◌≡◌ {A = Result ℕ TraceFault} (Ok n) (Ok m) → n ≡ m
same_size n m e = cc

pub recorder_given : (version : LogVersion) (bytes : List ℕ) (placed : Placed) (b : LogBlock) (size : ℕ) (walk : BlockWalk) → IsAt bytes version placed b
    → block_size_rows version (placed.begin, drop placed.begin bytes) ≡ Ok size → IsOpened version placed.begin size (drop placed.begin bytes) walk → walk_events walk ≡ b.block.events
recorder_given version bytes placed b size walk is sized o =
    let rest = drop placed.begin bytes in
    let said : log_block_in version (placed.begin, rest) ≡ Ok b = ap (λ (k : ℕ). log_block_in version (k, drop k bytes)) is.place ∙ is.said in
    let p = block_parts version placed.begin rest b said in
    let same : p.size ≡ size = same_size p.size size (sym p.sized ∙ sized) in
    let reads : content_rows version placed.begin size rest ≡ Ok p.so = ap (λ (n : ℕ). content_rows version placed.begin n rest) (sym same) ∙ p.reads in
    let whole = whole_content version (block_content size rest) in
    let so = block_opened placed.begin (length whole) in
    opened_events version placed.begin size rest walk o
    ∙ sym (events_said version so (log_places version (placed.begin + 16) whole) p.so reads)
    ∙ ap (λ (x : LogBlock). x.block.events) (sym p.is)

pub recorder_fit : (version : LogVersion) (at size : ℕ) (bytes : List ℕ) (walk : BlockWalk) → IsOpened version at size bytes walk → AreBytes bytes → All IsRecordable (walk_events walk)
recorder_fit version at size bytes walk o all =
    let content : AreBytes (block_content size bytes) = All-take (λ b. b < 256) size (drop 16 bytes) (All-drop (λ b. b < 256) 16 bytes all) in
    let whole = whole_content version (block_content size bytes) in
    let fits : AreBytes whole = All-take (λ b. b < 256) (length (block_content size bytes) - cut_length version (block_content size bytes)) (block_content size bytes) content in
    let places = log_places version (at + 16) whole in
    subst (All IsRecordable) (sym (opened_events version at size bytes walk o))
    (fit_recordable (events_told version (block_opened at (length whole)).stage places)
    (events_fit version (block_opened at (length whole)).stage places (starts_fit (log_record_length version) 0 (at + 16) whole fits) tt))

pub recorder_few : (version : LogVersion) (at size : ℕ) (bytes : List ℕ) (walk : BlockWalk) → IsOpened version at size bytes walk → length (walk_events walk) ≤ 2 * length bytes
recorder_few version at size bytes walk o =
    let content = block_content size bytes in
    let whole = whole_content version content in
    let places = log_places version (at + 16) whole in
    omega (
      arith,
      ap length (opened_events version at size bytes walk o),
      events_few version (block_opened at (length whole)).stage places,
      starts_few (log_record_length version) 0 (at + 16) whole,
      whole_long version content,
      length-take size (drop 16 bytes),
      length-drop 16 bytes,
    )
