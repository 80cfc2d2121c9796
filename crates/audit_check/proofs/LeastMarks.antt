-- The least place at which the marks of passings may end, passing by passing.
use Rattle.std.proofs.Common.{◌≡◌, ℕ, ◌+◌, ◌<◌, ◌≤◌, List, [], ◌∷◌, ◌++◌, length, Option, Some, None, sym, ap, subst, ◌∙◌, arith, length-append}
use Rattle.std.specs.Prelude.{All}
use Rattle.std.proofs.lemmas.List.Elements.{All-append, All-cons, All-nil}
use Rattle.xray_image.specs.Program.{Program}
use Rattle.handler_word.specs.declared.mark.Mark.{Mark}
use Rattle.machine_step.specs.Follows.{MarksFollow}
use Rattle.machine_step.specs.Loads.{is_held_at}
use Rattle.audit_check.specs.private.Turns.{IsLeast}
use Rattle.audit_check.specs.private.Ways.{Tree, Passes, Reaches, passing_tree, trees_of}
use Rattle.audit_check.proofs.FollowWays.{marks_pass}
use Rattle.audit_check.proofs.OwnRelease.{trees_own}
use Rattle.audit_check.proofs.TreeLoads.{as_many, trees-append}
use Rattle.audit_check.proofs.WayParts.{as_long, passes_last, passes_more, reaches_earlier}
use Rattle.audit_check.proofs.WaysFollow.{passed_marks}

module _ (program : Program) (threads : ℕ) (code : ℕ → ℕ → ℕ) (start : ℕ) (bound : ℕ → ℕ) (thread : ℕ) (hold : Option ℕ)
    (some : 0 < thread) (within : thread ≤ threads) where
  abbrev Exist : List ℕ → Type 0
  Exist sleds = All (λ sled. sled < length program.sleds) sleds

  abbrev Follow : List ℕ → List Mark → ℕ → Type 0
  Follow sleds marks place = MarksFollow program threads code start bound thread hold sleds marks place

  -- the next passing, after these, is of this sled
  abbrev Next : List ℕ → ℕ → Mark → ℕ → ℕ → Type 0
  Next sleds sled mark from end =
      Reaches code (bound (length sleds)) mark (passing_tree program threads thread (is_held_at hold (length sleds)) sled) from end

  exist_more : (sleds : List ℕ) (sled : ℕ) → Exist sleds → sled < length program.sleds → Exist (sleds ++ sled ∷ [])
  exist_more sleds sled all low =
      All-append (λ k. k < length program.sleds) sleds (sled ∷ []) all
      (All-cons (λ k. k < length program.sleds) sled [] low (All-nil (λ k. k < length program.sleds)))

  to_way : (sleds : List ℕ) (marks : List Mark) (place : ℕ) → Exist sleds → Follow sleds marks place
      → Passes code bound 0 (trees_of program threads thread hold 0 sleds) marks start place
  to_way sleds marks place all follow =
      marks_pass program threads code start bound thread hold sleds (trees_own program threads thread some within hold 0 sleds all) marks place follow

  of_way : (sleds : List ℕ) (marks : List Mark) (place : ℕ) → Exist sleds
      → Passes code bound 0 (trees_of program threads thread hold 0 sleds) marks start place → Follow sleds marks place
  of_way sleds marks place all way =
      passed_marks program threads code start bound thread hold sleds (trees_own program threads thread some within hold 0 sleds all) marks place way

  -- no passing was made
  pub least_at_first : IsLeast (Follow [] []) (Some start)
  least_at_first =
      let low : start ≤ start = omega arith in
      let none : Exist [] = All-nil (λ k. k < length program.sleds) in
      (of_way [] [] start none low, λ place follow. to_way [] [] place none follow)

  -- one more passing
  pub join : (sleds : List ℕ) (marks : List Mark) (sled : ℕ) (mark : Mark) (at end : ℕ) → Exist sleds → sled < length program.sleds
      → Follow sleds marks at → Next sleds sled mark at end → Follow (sleds ++ sled ∷ []) (marks ++ mark ∷ []) end
  join sleds marks sled mark at end all low follow next =
      let trees = trees_of program threads thread hold 0 sleds in
      let tree = passing_tree program threads thread (is_held_at hold (length sleds)) sled in
      let count : length sleds ≡ 0 + length trees = omega (arith, as_many program threads thread hold 0 sleds) in
      let last : Reaches code (bound (0 + length trees)) mark tree at end = subst (λ n. Reaches code (bound n) mark tree at end) count next in
      let way = passes_more code bound 0 trees marks tree mark start at end (to_way sleds marks at all follow) last in
      let number : length sleds ≡ 0 + length sleds = omega arith in
      let same : trees ++ tree ∷ [] ≡ trees_of program threads thread hold 0 (sleds ++ sled ∷ []) =
      ap (λ n. trees ++ passing_tree program threads thread (is_held_at hold n) sled ∷ []) number
      ∙ sym (trees-append program threads thread hold 0 sleds sled) in
      of_way (sleds ++ sled ∷ []) (marks ++ mark ∷ []) end (exist_more sleds sled all low)
      (subst (λ (ts : List Tree). Passes code bound 0 ts (marks ++ mark ∷ []) start end) same way)

  pub split : (sleds : List ℕ) (marks : List Mark) (sled : ℕ) (mark : Mark) (end : ℕ) → Exist sleds → sled < length program.sleds
      → Follow (sleds ++ sled ∷ []) (marks ++ mark ∷ []) end → (at : ℕ) × Follow sleds marks at × Next sleds sled mark at end
  split sleds marks sled mark end all low follow =
      let trees = trees_of program threads thread hold 0 sleds in
      let tree = passing_tree program threads thread (is_held_at hold (length sleds)) sled in
      let number : 0 + length sleds ≡ length sleds = omega arith in
      let same : trees_of program threads thread hold 0 (sleds ++ sled ∷ []) ≡ trees ++ tree ∷ [] =
      trees-append program threads thread hold 0 sleds sled
      ∙ ap (λ n. trees ++ passing_tree program threads thread (is_held_at hold n) sled ∷ []) number in
      let whole = subst (λ (ts : List Tree). Passes code bound 0 ts (marks ++ mark ∷ []) start end) same
      (to_way (sleds ++ sled ∷ []) (marks ++ mark ∷ []) end (exist_more sleds sled all low) follow) in
      let long = as_long code bound 0 (trees ++ tree ∷ []) (marks ++ mark ∷ []) start end whole in
      let equal : length marks ≡ length trees =
      omega (arith, long, length-append marks (mark ∷ []), length-append trees (tree ∷ [])) in
      let parts = passes_last code bound 0 trees marks tree mark start end equal whole in
      let count : 0 + length trees ≡ length sleds = omega (arith, as_many program threads thread hold 0 sleds) in
      (parts.0, of_way sleds marks parts.0 all parts.1, subst (λ n. Reaches code (bound n) mark tree parts.0 end) count parts.2)

  pub least_after : (sleds : List ℕ) (marks : List Mark) (sled : ℕ) (mark : Mark) (place : ℕ) (end : Option ℕ) → Exist sleds
      → sled < length program.sleds → IsLeast (Follow sleds marks) (Some place) → IsLeast (Next sleds sled mark place) end
      → IsLeast (Follow (sleds ++ sled ∷ []) (marks ++ mark ∷ [])) end
  least_after sleds marks sled mark place None all low (here, least) never = λ end follow.
      let parts = split sleds marks sled mark end all low follow in
      never end (reaches_earlier code (bound (length sleds)) mark (passing_tree program threads thread (is_held_at hold (length sleds)) sled)
      place parts.0 end (least parts.0 parts.1) parts.2)
  least_after sleds marks sled mark place (Some end) all low (here, least) (next, first) = (
    join sleds marks sled mark place end all low here next,
    λ other follow.
        let parts = split sleds marks sled mark other all low follow in
        first other (reaches_earlier code (bound (length sleds)) mark (passing_tree program threads thread (is_held_at hold (length sleds)) sled)
        place parts.0 other (least parts.0 parts.1) parts.2),
  )

  pub never_after : (sleds : List ℕ) (marks : List Mark) (sled : ℕ) (mark : Mark) → Exist sleds → sled < length program.sleds
      → IsLeast (Follow sleds marks) None → IsLeast (Follow (sleds ++ sled ∷ []) (marks ++ mark ∷ [])) None
  never_after sleds marks sled mark all low never = λ end follow.
      let parts = split sleds marks sled mark end all low follow in never parts.0 parts.1
