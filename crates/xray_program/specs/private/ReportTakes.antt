-- What the inputs of a report say of what they read as.
use Rattle.std.specs.Prelude.{◌≡◌}
use Rattle.map_names.specs.Naming.{Naming}
use Rattle.xray_program.specs.private.NamesTaken.{named_by}
use Rattle.xray_program.specs.declared.report_inputs.ReportInputs.{ReportInputs}

-- the log says what is known of the log that it reads as, and the names are these
abbrev pub AreOfReport : {V X : Type 0} → (means : V → X → Type 0) → ReportInputs V → X × Naming → Type 0
AreOfReport means inputs read = means inputs.log read.0 × (named_by inputs.names ≡ read.1)
