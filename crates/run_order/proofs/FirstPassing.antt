-- The places of the loads of a thread, as those of its first passing and of the later ones.
use Rattle.std.proofs.Common.{◌≡◌, ℕ, ◌+◌, List, ◌∷◌, ◌++◌, Option, Some}
use Rattle.std.specs.Prelude.{option_map}
use Rattle.xray_image.specs.Program.{Program}
use Rattle.handler_word.specs.declared.mark.Mark.{Mark}
use Rattle.machine_step.specs.Loads.{is_held_at}
use Rattle.audit_check.specs.Places.{found_by, passing_searches, load_places_from}
use Rattle.audit_check.proofs.SearchResults.{was_made, went_on}

module _ (program : Program) (threads : ℕ) (code : ℕ → ℕ → ℕ) (bound : ℕ → ℕ) (thread : ℕ) (hold : Option ℕ) (number from sled : ℕ) (mark : Mark)
    (sleds : List ℕ) (marks : List Mark) (places : List ℕ) where
  -- the first passing finds what it looks for, and so do the later ones
  pub record GoOn : Type 0 where
    pub found : ℕ × List ℕ
    pub found_is : found_by (bound number) from (passing_searches program threads code thread (is_held_at hold number) sled mark) ≡ Some found
    pub later : List ℕ
    pub later_are : load_places_from program threads code bound thread hold (number + 1) found.0 sleds marks ≡ Some later
    pub makes : found.1 ++ later ≡ places

  pub go_on : load_places_from program threads code bound thread hold number from (sled ∷ sleds) (mark ∷ marks) ≡ Some places → GoOn
  go_on e =
      let went = went_on
      (λ (found : ℕ × List ℕ). option_map (λ (later : List ℕ). found.1 ++ later) (load_places_from program threads code bound thread hold (number + 1) found.0 sleds marks))
      (found_by (bound number) from (passing_searches program threads code thread (is_held_at hold number) sled mark)) places e in
      let made = was_made (λ (later : List ℕ). went.value.1 ++ later) (load_places_from program threads code bound thread hold (number + 1) went.value.0 sleds marks) places
      went.gives in
      record { found = went.value; found_is = went.given_is; later = made.value; later_are = made.given_is; makes = made.makes }
