-- Bytes of names that are written as themselves, for the contracts of private functions.
use Rattle.std.specs.Prelude.{ℕ, Bool, true, not, ◌==◌}
use Rattle.function_names.specs.declared.form.NameForm.{NameForm}
use Rattle.function_names.specs.declared.form.NameForm.TheVariants.{Plain, Field, Frame, Quoted}

-- the byte is written as itself in a name of this form
abbrev pub is_itself : NameForm → ℕ → Bool
is_itself Plain b = true
is_itself Field b = not (b == 34)
is_itself Frame b = not (b == 59)
is_itself Quoted b = not (b == 39)
