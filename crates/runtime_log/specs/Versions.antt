-- The versions of logs that LLVM's runtime writes.
use Rattle.std.specs.Prelude.{ℕ, ◌==◌, ◌||◌, Bool, Option, Some, None, is_some, if◌then◌else◌}
use Rattle.fdr_file.specs.declared.version.Version.{Version}
use Rattle.fdr_file.specs.declared.version.Version.TheVariants as traces
use Rattle.runtime_log.specs.declared.version.BasicVersion.{BasicVersion}
use Rattle.runtime_log.specs.declared.version.BasicVersion.TheVariants.{Early, Third}
use Rattle.runtime_log.specs.declared.version.LogVersion.{LogVersion}
use Rattle.runtime_log.specs.declared.version.LogVersion.TheVariants.{Two, Three, Four, Five}

-- the version with this number of logs of the Flight Data Recorder mode, if it is read
abbrev pub log_version_of : ℕ → Option LogVersion
log_version_of number =
    if number == 2 then Some Two else if number == 3 then Some Three else if number == 4 then Some Four
    else if number == 5 then Some Five else None

-- the version of traces whose blocks begin as those of this version do: in version 2 no record names a process
abbrev pub trace_version : LogVersion → Version
trace_version Two = traces.Two
trace_version Three = traces.Three
trace_version Four = traces.Three
trace_version Five = traces.Three

-- The version with this number of basic logs. In versions 1 and 2 no record names a process.
abbrev pub basic_version_of : ℕ → Option BasicVersion
basic_version_of number =
    if number == 1 then Some Early else if number == 2 then Some Early else if number == 3 then Some Third else None

-- logs of some mode have the version with this number
abbrev pub is_version : ℕ → Bool
is_version number = is_some (log_version_of number) || is_some (basic_version_of number)
