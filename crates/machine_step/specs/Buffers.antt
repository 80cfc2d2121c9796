-- The buffers that a setup asks for.
use Rattle.std.specs.Prelude.{◌-◌, ℕ}
use Rattle.machine_step.specs.declared.setup.Setup.{Setup}

-- how many buffers there are besides one for each thread
abbrev pub spare_of : Setup → ℕ
spare_of setup = setup.max - setup.threads
