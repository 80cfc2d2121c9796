-- The header of a log, as it is read.
use Rattle.std.specs.Prelude.{ℕ, ◌==◌, not, List, length, nat_lt, Result, Ok, Err}
use Rattle.xray_io.specs.Rows.{First, NeedsPart}
use Rattle.fdr_file.specs.declared.fault.TraceFault.{TraceFault}
use Rattle.fdr_file.specs.declared.fault.TraceFault.TheVariants.{Short, Version, Form}
use Rattle.fdr_file.specs.declared.header.Header.{Header}
use Rattle.fdr_file.specs.Traces.{type_in, version_in}
use Rattle.runtime_log.specs.declared.blocks.Mode.{Mode}
use Rattle.runtime_log.specs.declared.blocks.Mode.TheVariants.{Recorder, Basic}
use Rattle.runtime_log.specs.Logs.{imported_header, recorder_header}
use Rattle.runtime_log.specs.Versions.{basic_version_of, is_version, log_version_of}

-- the mode of a log, or the refusal of its header
abbrev pub mode_of : List ℕ → Result Mode TraceFault
mode_of bytes =
    First (nat_lt (length bytes) 32) (Err (Short 0))
    (First (not (is_version (version_in bytes))) (Err (Version (version_in bytes)))
    (First (type_in bytes == 1) (NeedsPart (log_version_of (version_in bytes)) (Err (Version (version_in bytes))) λ version. Ok (Recorder version))
    (First (not (type_in bytes == 0)) (Err (Form (type_in bytes)))
    (NeedsPart (basic_version_of (version_in bytes)) (Err (Version (version_in bytes))) λ version. Ok (Basic version)))))

-- the header of its trace
abbrev pub header_for : Mode → List ℕ → Header
header_for (Recorder version) bytes = recorder_header bytes
header_for (Basic version) bytes = imported_header bytes
