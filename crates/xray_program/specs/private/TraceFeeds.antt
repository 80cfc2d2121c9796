-- What a scan of a trace and its taker were fed.
use Rattle.std.specs.Prelude.{ℕ, List}
use Rattle.fdr_file.specs.declared.trace.Block.{Block}
use Rattle.fdr_file.specs.Scanning.{blocks_given}
use Rattle.fdr_file.specs.Streams.{Scans}
use Rattle.xray_program.specs.declared.trace_feed.TraceFeed.{TraceFeed}

-- the scan was fed these bytes, and the taker took the blocks that they give
pub record IsTraceFed {K : Type 0} (Took : K → List Block → Type 0) (feed : TraceFeed K) (bytes : List ℕ) : Type 0 where
  pub scans : Scans feed.scan bytes
  pub took : Took feed.taker (blocks_given bytes)
