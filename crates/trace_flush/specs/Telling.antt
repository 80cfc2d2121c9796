-- What the text of an audit determines.
use Rattle.std.specs.Prelude.{◌<◌, ◌^◌, ℕ, List, [], ◌∷◌, All, length}
use Rattle.machine_step.specs.declared.setup.Setup.{Setup}
use Rattle.traced_run.specs.Runs.{ThreadRun}
use Rattle.trace_flush.specs.Audit.{ThreadAudit}
use Rattle.trace_flush.specs.Lines.{audits_of}

-- the numbers of a thread have at most 64 bits, and so does the number of its marks
pub record HasNumbers (said : ThreadAudit) : Type 0 where
  pub number : said.thread < 2 ^ 64
  pub passings : said.passings < 2 ^ 64
  pub recorded : said.recorded < 2 ^ 64
  pub segments : said.segments < 2 ^ 64
  pub first : said.first < 2 ^ 64
  pub marks : length said.marks < 2 ^ 64

-- the numbers of a setup, as they are printed
abbrev pub setup_numbers : Setup → List ℕ
setup_numbers setup =
    setup.threads ∷ setup.size ∷ setup.max ∷ setup.limits.fuel ∷ setup.limits.passings ∷ setup.limits.tick ∷ setup.limits.tsc ∷ setup.limits.cpus
    ∷ setup.limits.migrate ∷ setup.pid ∷ setup.wall.secs ∷ setup.wall.micros ∷ setup.frequency ∷ []

-- they have at most 64 bits
abbrev pub HasSetupNumbers : Setup → Type 0
HasSetupNumbers setup = All (λ n. n < 2 ^ 64) (setup_numbers setup)

-- so do those that the audit of a run has
pub record HasRunNumbers (setup : Setup) (runs : List ThreadRun) : Type 0 where
  pub setup_has : HasSetupNumbers setup
  pub threads_have : All HasNumbers (audits_of setup runs)
