-- When buffers are begun.
use Rattle.std.specs.Prelude.{◌<◌, ◌^◌}
use Rattle.xray_io.specs.declared.wall.Wall.{Wall}

-- a wall time: its microseconds make no second
pub record IsTime (wall : Wall) : Type 0 where
  pub secs : wall.secs < 2 ^ 64
  pub micros : wall.micros < 1000000
