use Rattle.std.proofs.Common.{◌<◌, ℕ, List, map}
use Rattle.xray_image.specs.declared.unit.Unit.{Unit}
use Rattle.xray_image.specs.private.Index.{IsIndexOf}
use Rattle.xray_image.specs.Program.{addresses}
use Rattle.xray_image.specs.Table.{FunctionIsFit}
use Rattle.xray_image.specs.private.Views.{function_of}
use Rattle.xray_image.proofs.FunctionRows.{IsPast}
use Rattle.xray_image.proofs.functions.check_functions.Given as goal

abbrev pub invariant-loop-number : goal.invariant-loop-number
invariant-loop-number l =
    ((units : List Unit) → IsIndexOf (addresses units) l.index → (j : ℕ) → j < l.number → FunctionIsFit l.base units (map function_of l.functions) j)
    × IsPast (map function_of l.functions) l.number l.last (map (λ k. k.now) l.names.keys)
