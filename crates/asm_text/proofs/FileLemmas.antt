-- The bytes of functions, line by line.
use Rattle.std.proofs.Common.{◌≡◌, ℕ, List, [], ◌∷◌, ◌++◌, Option, Some, None, refl, ap, ◌∙◌}
use Rattle.std.specs.List.{flat_map, cons_option}
use Rattle.xray_image.specs.Container.{Function}
use Rattle.asm_text.specs.Layout.{Placed, function_in, functions}
use Rattle.asm_text.specs.Writing.{function_bytes}
use Rattle.asm_text.specs.private.Files.{bytes_of_function, function_line_bytes}

function_first : (o : Option Function) (fs : List Function) → flat_map function_bytes (cons_option o fs) ≡ bytes_of_function o ++ flat_map function_bytes fs
function_first None fs = refl
function_first (Some f) fs = refl

pub functions_by_lines : (base : ℕ) (lines : List Placed) → flat_map function_bytes (functions base lines) ≡ flat_map (function_line_bytes base) lines
functions_by_lines base [] = refl
functions_by_lines base (p ∷ following) =
    function_first (function_in base p p.statement) (functions base following) ∙ ap (λ bytes. function_line_bytes base p ++ bytes) (functions_by_lines base following)
