-- Ways begin earlier and end later. The last passing of a way goes on from the others.
use Rattle.std.proofs.Common.{◌≡◌, ℕ, suc, ◌+◌, ◌≤◌, List, [], ◌∷◌, ◌++◌, length, ap, subst, refl, arith}
use Rattle.handler_word.specs.declared.mark.Mark.{Mark}
use Rattle.audit_check.specs.private.Ways.{Tree, Leaf, Node, Held, Reaches, Passes}

module _ (code : ℕ → ℕ → ℕ) where
  pub reaches_earlier : (bound : ℕ) (mark : Mark) (tree : Tree) (early place end : ℕ) → early ≤ place
      → Reaches code bound mark tree place end → Reaches code bound mark tree early end
  reaches_earlier bound mark (Leaf m) early place end before (is, low) = (is, omega arith)
  reaches_earlier bound mark (Node word recording next) early place end before (at, low, high, rest) = (at, omega arith, high, rest)
  reaches_earlier bound mark (Held word next) early place end before (at, low, high, free, rest) = (at, omega arith, high, free, rest)

  pub reaches_later : (bound : ℕ) (mark : Mark) (tree : Tree) (place end late : ℕ) → end ≤ late
      → Reaches code bound mark tree place end → Reaches code bound mark tree place late
  reaches_later bound mark (Leaf m) place end late after (is, low) = (is, omega arith)
  reaches_later bound mark (Node word recording next) place end late after (at, low, high, rest) =
      (at, low, high, reaches_later bound mark (next (code at word)) at end late after rest)
  reaches_later bound mark (Held word next) place end late after (at, low, high, free, rest) =
      (at, low, high, free, reaches_later bound mark next at end late after rest)

  pub passes_earlier : (bound : ℕ → ℕ) (number : ℕ) (trees : List Tree) (marks : List Mark) (early place end : ℕ) → early ≤ place
      → Passes code bound number trees marks place end → Passes code bound number trees marks early end
  passes_earlier bound number [] [] early place end before way = omega arith
  passes_earlier bound number [] (mark ∷ marks) early place end before way = way
  passes_earlier bound number (tree ∷ trees) [] early place end before way = way
  passes_earlier bound number (tree ∷ trees) (mark ∷ marks) early place end before (at, way, rest) =
      (at, reaches_earlier (bound number) mark tree early place at before way, rest)

  -- a way has a mark for each passing
  pub as_long : (bound : ℕ → ℕ) (number : ℕ) (trees : List Tree) (marks : List Mark) (place end : ℕ)
      → Passes code bound number trees marks place end → length marks ≡ length trees
  as_long bound number [] [] place end way = refl
  as_long bound number [] (mark ∷ marks) place end way = absurd way
  as_long bound number (tree ∷ trees) [] place end way = absurd way
  as_long bound number (tree ∷ trees) (mark ∷ marks) place end (at, way, rest) = ap suc (as_long bound (number + 1) trees marks at end rest)

  -- ---- one more passing

  pub passes_more : (bound : ℕ → ℕ) (number : ℕ) (trees : List Tree) (marks : List Mark) (tree : Tree) (mark : Mark) (place at end : ℕ)
      → Passes code bound number trees marks place at → Reaches code (bound (number + length trees)) mark tree at end
      → Passes code bound number (trees ++ tree ∷ []) (marks ++ mark ∷ []) place end
  passes_more bound number [] [] tree mark place at end way last =
      let same : number + 0 ≡ number = omega arith in
      let here : Reaches code (bound number) mark tree at end = subst (λ n. Reaches code (bound n) mark tree at end) same last in
      let low : end ≤ end = omega arith in
      (end, reaches_earlier (bound number) mark tree place at end way here, low)
  passes_more bound number [] (m ∷ marks) tree mark place at end way last = absurd way
  passes_more bound number (t ∷ trees) [] tree mark place at end way last = absurd way
  passes_more bound number (t ∷ trees) (m ∷ marks) tree mark place at end (there, way, rest) last =
      let same : number + length (t ∷ trees) ≡ number + 1 + length trees = omega arith in
      let here : Reaches code (bound (number + 1 + length trees)) mark tree at end = subst (λ n. Reaches code (bound n) mark tree at end) same last in
      (there, way, passes_more bound (number + 1) trees marks tree mark there at end rest here)

  pub passes_last : (bound : ℕ → ℕ) (number : ℕ) (trees : List Tree) (marks : List Mark) (tree : Tree) (mark : Mark) (place end : ℕ)
      → length marks ≡ length trees → Passes code bound number (trees ++ tree ∷ []) (marks ++ mark ∷ []) place end
      → (at : ℕ) × Passes code bound number trees marks place at × Reaches code (bound (number + length trees)) mark tree at end
  passes_last bound number [] [] tree mark place end same (at, way, rest) =
      let none : number ≡ number + 0 = omega arith in
      let low : place ≤ place = omega arith in
      (place, low, subst (λ n. Reaches code (bound n) mark tree place end) none (reaches_later (bound number) mark tree place at end rest way))
  passes_last bound number [] (m ∷ marks) tree mark place end same way = absurd (omega (arith, same))
  passes_last bound number (t ∷ trees) [] tree mark place end same way = absurd (omega (arith, same))
  passes_last bound number (t ∷ trees) (m ∷ marks) tree mark place end same (there, way, rest) =
      let long : length marks ≡ length trees = omega (arith, same) in
      let last = passes_last bound (number + 1) trees marks tree mark there end long rest in
      let count : number + 1 + length trees ≡ number + length (t ∷ trees) = omega arith in
      (last.0, (there, way, last.1), subst (λ n. Reaches code (bound n) mark tree last.0 end) count last.2)
