-- What an image's fields say, and what is true of them.
use Rattle.std.specs.Prelude.{◌≡◌, ℕ, List, map}
use Rattle.std.specs.String.{string_bytes}
use Rattle.xray_image.specs.declared.image.Image.TheInside.{Inside}
use Rattle.xray_image.specs.declared.image.Function.{Function as Named}
use Rattle.xray_image.specs.Container.{Function}
use Rattle.xray_image.specs.Program.{Program, IsAccepted, addresses}
use Rattle.xray_image.specs.Ids.{sledded_functions}
use Rattle.xray_image.specs.private.Numbering.{AreNumbersOf}
use Rattle.xray_image.specs.private.Index.{IsIndexOf}
use Rattle.xray_image.specs.private.UnitTable.{units_in, IsSoundTable}
use Rattle.xray_image.specs.private.Views.{trampolines_of}

abbrev pub named_function : Named → Function
named_function f = record { start = f.start; name = string_bytes f.name }

-- the program that the fields say
abbrev pub program_in : Inside → Program
program_in a = record {
  base = a.base;
  entry = a.entry;
  code = a.units.code.items;
  functions = map named_function a.functions.items;
  units = units_in a.units;
  sleds = a.sleds.items;
  trampolines = trampolines_of a.trampolines;
}

-- some accepted file holds the program; the tables are those of its units; the ids name its functions with sleds
pub record IsSound (a : Inside) : Type 0 where
  pub bytes : List ℕ
  pub accepted : IsAccepted bytes (program_in a)
  pub index : IsIndexOf (addresses (units_in a.units)) a.index
  pub table : a.units.base ≡ a.base
  pub sound : IsSoundTable a.units
  pub ids : AreNumbersOf (map (λ f. f.start) (program_in a).functions) (sledded_functions (program_in a)) a.ids.items
