-- The kinds of sleds as numbers.
use Rattle.std.specs.Prelude.{ℕ}
use Rattle.xray_image.specs.declared.sled.SledKind.{SledKind}
use Rattle.xray_image.specs.declared.sled.SledKind.TheVariants.{Entry, Exit, Tail, Args}

-- the number of a kind in the entries of the sled map
abbrev pub kind_number : SledKind → ℕ
kind_number Entry = 0
kind_number Exit = 1
kind_number Tail = 2
kind_number Args = 3
