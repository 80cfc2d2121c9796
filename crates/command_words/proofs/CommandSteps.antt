-- A command of clap that is made of rows, one argument after the other.
use Rattle.std.proofs.Common.{◌≡◌, ◌∙◌, ◌<◌, ◌≤◌, ◌+◌, ℕ, List, ap, drop, fold, get_or, length, map, sym}
use Rattle.std.proofs.lemmas.List.{at_drop_all, at_drop_more}
use Rattle.clap.specs.Simple.{App, with_rule}
use Rattle.clap.specs.Walk.{Rule}

-- the argument of the next row, before those of the rows after it
pub one_added : {X : Type 0} (rule : X → Rule) (rows : List X) (i : ℕ) (d : X) (app new whole : App) → i < length rows
    → new ≡ with_rule app (rule (get_or rows i d)) → fold with_rule app (map rule (drop i rows)) ≡ whole
    → fold with_rule new (map rule (drop (i + 1) rows)) ≡ whole
one_added rule rows i d app new whole within is before =
    ap (λ a. fold with_rule a (map rule (drop (i + 1) rows))) is ∙ sym (at_drop_more (λ rest. fold with_rule app (map rule rest)) rows i d within) ∙ before

-- after the last row the command is whole
pub all_added : {X : Type 0} (rule : X → Rule) (rows : List X) (i : ℕ) (app whole : App) → length rows ≤ i
    → fold with_rule app (map rule (drop i rows)) ≡ whole → app ≡ whole
all_added rule rows i app whole beyond before = sym (at_drop_all (λ rest. fold with_rule app (map rule rest)) rows i beyond) ∙ before
