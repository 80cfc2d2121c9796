-- What a trace file is: a header, and blocks, one after the other.
use Rattle.std.specs.Prelude.{◌≡◌, ◌<◌, ◌^◌, ◌/◌, ◌%◌, ◌==◌, ◌||◌, ⊤, ℕ, Bool, false, not, List, [], ◌∷◌, ◌++◌, Some, length, map, IsTrue}
use Rattle.std.specs.List.{AllByRecursion}
use Rattle.byteorder.specs.Endian.{little_bytes}
use Rattle.fdr_record.specs.declared.rec.Rec.{Rec}
use Rattle.fdr_record.specs.declared.rec.Rec.TheVariants.{NewBuffer, WallTime, Pid, Extents}
use Rattle.fdr_record.specs.Records.{FieldsFit, Spells}
use Rattle.fdr_file.specs.declared.header.Header.{Header}
use Rattle.fdr_file.specs.declared.version.Version.{Version}
use Rattle.fdr_file.specs.declared.trace.Block.{Block}
use Rattle.fdr_file.specs.declared.trace.Trace.{Trace}
use Rattle.fdr_file.specs.Traces.{PreambleItem, TheProcess, TheThread, TheWallTime, block_of, is_arg, names_cpu, needs_cpu, preamble_of, takes_arg, version_of}

-- The bytes are a header with these fields, of this version and of the type of the Flight Data Recorder mode. The flags
-- above the second, and the last 8 bytes, may have any values.
pub record IsHeader (version : Version) (bytes : List ℕ) (header : Header) : Type 0 where
  pub flags : ℕ
  pub reserved : List ℕ
  pub spelled : bytes ≡ little_bytes 2 header.version ++ (little_bytes 2 1 ++ (little_bytes 4 flags ++ (little_bytes 8 header.frequency
      ++ (little_bytes 8 header.size ++ reserved))))
  pub accepted : version_of header.version ≡ Some version
  pub constant : header.constant ≡ (flags % 2 == 1)
  pub nonstop : header.nonstop ≡ (flags / 2 % 2 == 1)
  pub flags_fit : flags < 2 ^ 32
  pub frequency_fits : header.frequency < 2 ^ 64
  pub size_fits : header.size < 2 ^ 64
  pub whole : length reserved ≡ 8

-- the bytes are spellings of these records, one after the other
abbrev pub AreSpelled : List Rec → List ℕ → Type 0
AreSpelled [] bytes = bytes ≡ []
AreSpelled (r ∷ records) bytes =
    (front : List ℕ) × (following : List ℕ) × (bytes ≡ front ++ following) × FieldsFit r × Spells front r × AreSpelled records following

-- records that may follow a preamble: CPUs, counters, functions and arguments, the first of which names a CPU
abbrev pub IsInner : Rec → Type 0
IsInner r = IsTrue (names_cpu r || needs_cpu r)

abbrev pub BeginWithCpu : List Rec → Type 0
BeginWithCpu [] = ⊤
BeginWithCpu (r ∷ records) = IsTrue (names_cpu r)

-- An argument stands only directly behind an entry that logs one, or behind another argument. The record before these
-- takes an argument or doesn't.
abbrev pub ArgsFollow : Bool → List Rec → Type 0
ArgsFollow takes [] = ⊤
ArgsFollow takes (r ∷ records) = IsTrue (not (is_arg r) || takes) × ArgsFollow (takes_arg r) records

-- the record that names this of a block
abbrev pub naming : Block → PreambleItem → Rec
naming block TheThread = NewBuffer block.thread
naming block TheWallTime = WallTime block.wall
naming block TheProcess = Pid block.pid

-- the records of a block: the preamble, and these
abbrev pub block_records : Version → Block → List Rec → List Rec
block_records version block records = map (naming block) (preamble_of version) ++ records

-- The bytes are a block: extents, and as many bytes as they name. These spell a preamble and records, which say the
-- block: its events, and 0 for what no record names.
pub record IsBlock (version : Version) (bytes : List ℕ) (block : Block) : Type 0 where
  pub extents : List ℕ
  pub body : List ℕ
  pub parts : bytes ≡ extents ++ body
  pub named : Spells extents (Extents (length body))
  pub few : length body < 2 ^ 64
  pub records : List Rec
  pub spelled : AreSpelled (block_records version block records) body
  pub inner : AllByRecursion IsInner records
  pub based : BeginWithCpu records
  pub args : ArgsFollow false records
  pub told : block ≡ block_of (block_records version block records)

-- the bytes are these blocks, one after the other
abbrev pub AreBlocks : Version → List Block → List ℕ → Type 0
AreBlocks version [] bytes = bytes ≡ []
AreBlocks version (block ∷ blocks) bytes =
    (front : List ℕ) × (following : List ℕ) × (bytes ≡ front ++ following) × IsBlock version front block × AreBlocks version blocks following

-- The bytes of a file are this trace: a header, and blocks of its version.
pub record IsTrace (bytes : List ℕ) (trace : Trace) : Type 0 where
  pub version : Version
  pub front : List ℕ
  pub following : List ℕ
  pub parts : bytes ≡ front ++ following
  pub header : IsHeader version front trace.header
  pub blocks : AreBlocks version trace.blocks following
