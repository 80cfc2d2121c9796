-- The text of a stack report.
use Rattle.std.specs.Prelude.{◌++◌, ℕ, List, [], ◌∷◌, codes, decimal}
use Rattle.std.specs.List.{flat_map}
use Rattle.map_names.specs.Naming.{Naming}
use Rattle.xray_io.specs.Piece.{right_aligned}
use Rattle.function_names.specs.Name.{name_text}
use Rattle.function_names.specs.declared.form.NameForm.TheVariants.{Frame}
use Rattle.stack_rebuild.specs.declared.stack_text.StackForm.{StackForm}
use Rattle.stack_rebuild.specs.declared.stack_text.StackForm.TheVariants.{Human, Flame}
use Rattle.stack_rebuild.specs.Stacks.{PathRow}

-- the names of a path's functions, joined by semicolons
abbrev pub path_text : Naming → List ℕ → List ℕ
path_text names [] = []
path_text names (func ∷ inner) = name_text Frame names func ++ flat_map (λ f. codes ";" ++ name_text Frame names f) inner

-- the text before a row's path: for readers, three columns of ten places, with a longer number whole
abbrev pub columns_text : StackForm → PathRow → List ℕ
columns_text Human row =
    right_aligned row.count 10 ++ codes " " ++ right_aligned row.sum 10 ++ codes " " ++ right_aligned row.own 10 ++ codes " "
columns_text Flame row = []

-- the text after it: in the form for flame graphs, the time in its calls without other functions
abbrev pub weight_text : StackForm → PathRow → List ℕ
weight_text Human row = codes "\n"
weight_text Flame row = codes " " ++ decimal row.own ++ codes "\n"

-- the line of a row
abbrev pub path_row_text : StackForm → Naming → PathRow → List ℕ
path_row_text form names row = columns_text form row ++ path_text names row.path ++ weight_text form row

-- the head line, which flame graphs don't have
abbrev pub stack_head : StackForm → List ℕ
stack_head Human = codes "     count        sum       self stack\n"
stack_head Flame = []

-- the head line, and a line for each row
abbrev pub stack_text : StackForm → Naming → List PathRow → List ℕ
stack_text form names rows = stack_head form ++ flat_map (path_row_text form names) rows
