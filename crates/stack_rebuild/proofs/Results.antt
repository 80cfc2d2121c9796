-- What follows from two clauses for a success.
use Rattle.std.specs.Prelude.{OnOk}
use Rattle.std.specs.declared.result.Result.{Result}
use Rattle.std.specs.declared.result.Result.TheVariants.{Ok, Err}

pub on_ok_both : {T E P Q R : Type 0} (r : Result T E) → OnOk r P → OnOk r Q → (P → Q → R) → OnOk r R
on_ok_both (Ok x) p q follows = follows p q
on_ok_both (Err e) p q follows = tt
