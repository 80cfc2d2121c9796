-- What a script's fields say, and what is true of them.
use Rattle.patch_script.specs.declared.script.Script.TheInside.{Inside}
use Rattle.patch_script.specs.private.Placing.{ArePlaced, lines_in}
use Rattle.patch_script.specs.Plans.{Plan, IsRead}
use Rattle.patch_script.specs.Refusals.{commands_of}
use Rattle.patch_script.specs.private.Standing.{AreHolds}

-- the script that the fields say
abbrev pub plan_in : Inside → Plan
plan_in a = record { program = a.placed.image.value; threads = a.placed.threads; lines = lines_in a.placed }

-- some text says the script, its commands are in their places, and the holds are theirs
pub record IsSound (a : Inside) : Type 0 where
  pub read : IsRead (plan_in a)
  pub placed : ArePlaced a.placed
  pub holds : AreHolds (commands_of (lines_in a.placed)) a.holds
