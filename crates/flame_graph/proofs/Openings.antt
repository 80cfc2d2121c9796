-- What is kept of frames, once one of them is kept anew.
use Rattle.std.proofs.Common.{◌≡◌, ◌≢◌, ◌∙◌, ◌<◌, ℕ, length, ap, get_or-set_other, set}
use Rattle.std.proofs.lemmas.Grind.{get_or-set_at}
use Rattle.flame_graph.specs.declared.frame.Openings.{Openings}
use Rattle.flame_graph.specs.private.Walking.{Opening, opening_at}

abbrev pub with_opening : Openings → (outer left first : ℕ) → Openings
with_opening openings outer left first = record { lefts = set openings.lefts outer left; firsts = set openings.firsts outer first }

abbrev an_opening : ℕ → ℕ → Opening
an_opening left first = record { left = left; first = first }

same_both : (a b c d : ℕ) → a ≡ c → b ≡ d → an_opening a b ≡ an_opening c d
same_both a b c d lefts firsts = ap (λ (left : ℕ). an_opening left b) lefts ∙ ap (λ (first : ℕ). an_opening c first) firsts

pub set_others : (openings : Openings) (outer n left first : ℕ) → n ≢ outer → opening_at (with_opening openings outer left first) n ≡ opening_at openings n
set_others openings outer n left first other =
    same_both _ _ _ _ (get_or-set_other openings.lefts outer n left 0 other) (get_or-set_other openings.firsts outer n first 0 other)

pub set_there : (openings : Openings) (outer n left first : ℕ) → n ≡ outer → outer < length openings.lefts → outer < length openings.firsts
    → opening_at (with_opening openings outer left first) n ≡ record { left = left; first = first }
set_there openings outer n left first same few all =
    same_both _ _ _ _ (get_or-set_at openings.lefts outer n left 0 same few) (get_or-set_at openings.firsts outer n first 0 same all)
