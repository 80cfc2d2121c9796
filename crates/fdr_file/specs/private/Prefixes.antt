-- Where the reading of bytes stands, and the longest prefix so far that reads as a trace.
use Rattle.std.specs.Prelude.{◌≡◌, ◌≤◌, ◌<◌, ℕ, ◌+◌, List, ◌++◌, drop, length, take}
use Rattle.fdr_file.specs.declared.stage.Stage.{Stage}
use Rattle.fdr_file.specs.declared.stage.Stage.TheVariants.{Due, Within, Faulty}
use Rattle.fdr_file.specs.declared.trace.Block.{Block}
use Rattle.fdr_file.specs.declared.version.Version.{Version}
use Rattle.fdr_file.specs.Prefixes.{ReadsAsTrace}
use Rattle.fdr_file.specs.Scanning.{scanned, scanned_on, stage_judged}
use Rattle.fdr_file.specs.Traces.{record_in, record_length}

-- the stage after the record at a place, and the place after the record
abbrev pub passed_at : Version → Stage → List ℕ → ℕ → Stage × ℕ
passed_at version stage bytes at =
    let left = drop at bytes in
    ((stage_judged version stage at (record_length left) (record_in left)).0, at + record_length left)

-- the end of the last block so far that is whole, after a record
abbrev pub end_after : Stage → ℕ → ℕ → ℕ
end_after Due next end = next
end_after (Within span inside) next end = end
end_after (Faulty span fault) next end = end

-- The reading stands at a place, whatever comes there. Of the prefixes up to this place, the longest that reads as a trace
-- ends at `end`.
pub record ReadsTo (version : Version) (bytes : List ℕ) (stage : Stage) (at end : ℕ) : Type 0 where
  pub within : at ≤ length bytes
  pub blocks : List Block
  pub on : (rest : List ℕ) → scanned (take at bytes ++ rest) ≡ scanned_on version (record { stage = stage; blocks = blocks }) at rest
  pub before : end ≤ at
  pub reads : ReadsAsTrace (take end bytes)
  pub longest : (more : ℕ) → end < more → more ≤ at → ReadsAsTrace (take more bytes) → ⊥
