-- A scan of a stream: the bytes that it was fed, however they were cut into pieces.
use Rattle.std.specs.Prelude.{◌≡◌, ◌<◌, ⊤, ℕ, ◌+◌, List, [], ◌∷◌, ◌++◌, length, Ok, Err}
use Rattle.fdr_file.specs.declared.fault.TraceFault.{TraceFault}
use Rattle.fdr_file.specs.declared.header.Header.{Header}
use Rattle.fdr_file.specs.declared.scan.Head.{Head}
use Rattle.fdr_file.specs.declared.scan.Head.TheVariants as heads
use Rattle.fdr_file.specs.declared.scan.TraceScan.{TraceScan}
use Rattle.fdr_file.specs.declared.stage.Inside.{Inside}
use Rattle.fdr_file.specs.declared.stage.Inside.TheVariants as insides
use Rattle.fdr_file.specs.declared.stage.Stage.{Stage}
use Rattle.fdr_file.specs.declared.stage.Stage.TheVariants.{Due, Within, Faulty}
use Rattle.fdr_file.specs.declared.trace.Block.{Block}
use Rattle.fdr_file.specs.declared.version.Version.{Version}
use Rattle.fdr_file.specs.Scanning.{blocks_given, header_on, scanned, scanned_on}
use Rattle.fdr_file.specs.Traces.{record_length}

-- there is a last block, to which the next event belongs
pub record HasLast (blocks : List Block) : Type 0 where
  pub front : List Block
  pub last : Block
  pub is : blocks ≡ front ++ last ∷ []

-- a block whose preamble was read is the last one
abbrev pub IsBegun : Inside → List Block → Type 0
IsBegun insides.Opened blocks = ⊤
IsBegun (insides.Thread thread) blocks = ⊤
IsBegun (insides.Wall thread wall) blocks = ⊤
IsBegun (insides.Events base) blocks = HasLast blocks

-- the same, wherever the reading stands
abbrev pub IsOpen : Stage → List Block → Type 0
IsOpen Due blocks = ⊤
IsOpen (Within span inside) blocks = IsBegun inside blocks
IsOpen (Faulty span fault) blocks = ⊤

-- The header was read. Whatever bytes come next, the stream reads on from where the scan stands. That is the place of the
-- next record. The scan keeps the bytes of this record that came before a cut.
pub record ReadsOn (version : Version) (header : Header) (scan : TraceScan) (stream : List ℕ) (blocks : List Block) : Type 0 where
  pub place : length stream ≡ scan.at + length scan.prefix
  pub cut : 0 < length scan.prefix → length scan.prefix < record_length scan.prefix
  pub opened : (rest : List ℕ) → header_on (stream ++ rest) ≡ Ok (version, header)
  pub on : (rest : List ℕ) → scanned (stream ++ rest) ≡ scanned_on version (record { stage = scan.stage; blocks = blocks }) scan.at (scan.prefix ++ rest)
  pub begun : IsOpen scan.stage blocks

-- nothing but a part of the header has come, and the scan keeps it
pub record ReadsHeader (scan : TraceScan) (stream : List ℕ) : Type 0 where
  pub stage : scan.stage ≡ Due
  pub part : scan.prefix ≡ stream
  pub few : length stream < 32

-- the header has this fault, whatever bytes come next
pub record ReadsNothing (fault : TraceFault) (stream : List ℕ) : Type 0 where
  pub refused : (rest : List ℕ) → header_on (stream ++ rest) ≡ Err fault

-- what the scan stands for, by what is known of the header
abbrev pub ScansBy : Head → TraceScan → List ℕ → Type 0
ScansBy heads.Due scan stream = ReadsHeader scan stream
ScansBy (heads.Read version header) scan stream = ReadsOn version header scan stream (blocks_given stream)
ScansBy (heads.Refused fault) scan stream = ReadsNothing fault stream

-- The scan was fed these bytes, in pieces of any sizes.
abbrev pub Scans : TraceScan → List ℕ → Type 0
Scans scan stream = ScansBy scan.head scan stream
