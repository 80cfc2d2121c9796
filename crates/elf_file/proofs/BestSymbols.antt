-- The best of symbols, with one more behind them.
use Rattle.std.proofs.Common.{◌≡◌, ◌==◌, ℕ, Bool, true, false, List, [], ◌∷◌, ◌++◌, Option, Some, None, refl, sym, ap, subst, ◌∙◌, arith, if◌then◌else◌}
use Rattle.std.specs.List.{filter}
use Rattle.std.specs.Option.{option_map_or}
use Rattle.std.proofs.lemmas.List.Elements.{filter-append}
use Rattle.std.proofs.lemmas.List.{append-nil}
use Rattle.std.proofs.lemmas.Grind.{common_steps}
use Rattle.elf_file.specs.declared.symbol.Symbol.{Symbol}
use Rattle.elf_file.specs.Symbols.{best, best_at, is_better}

-- of the best so far and one more
abbrev pub or_better : Option Symbol → Symbol → Symbol
or_better None later = later
or_better (Some known) later = if is_better later known then later else known

-- of two symbols, the first unless the other is better
abbrev pub chosen : Symbol → Symbol → Symbol
chosen one other = if is_better other one then other else one

-- what a choice gives, by the test that it makes
chosen_by : (one other : Symbol) (t : Bool) → is_better other one ≡ t → chosen one other ≡ (if t then other else one)
chosen_by one other t is = ap (λ b. if b then other else one) is

-- three symbols: who is better than whom
better_chain : (x y z : Symbol) → is_better y x ≡ true → is_better z y ≡ true → is_better z x ≡ true
better_chain x y z p q = grind (arith, common_steps)

worse_chain : (x y z : Symbol) → is_better y x ≡ false → is_better z y ≡ false → is_better z x ≡ false
worse_chain x y z p q = grind (arith, common_steps)

-- the choice of three symbols may begin with the last two or with the first two
choose_three : (x y z : Symbol) → chosen x (chosen y z) ≡ chosen (chosen x y) z
choose_three x y z = cases (is_better y x) (is_better z y) refl refl
  where
    cases : (p q : Bool) → is_better y x ≡ p → is_better z y ≡ q → chosen x (chosen y z) ≡ chosen (chosen x y) z
    cases true true p q =
        ap (chosen x) (chosen_by y z true q) ∙ chosen_by x z true (better_chain x y z p q)
        ∙ sym (ap (λ s. chosen s z) (chosen_by x y true p) ∙ chosen_by y z true q)
    cases true false p q =
        ap (chosen x) (chosen_by y z false q) ∙ chosen_by x y true p
        ∙ sym (ap (λ s. chosen s z) (chosen_by x y true p) ∙ chosen_by y z false q)
    cases false true p q =
        ap (chosen x) (chosen_by y z true q) ∙ sym (ap (λ s. chosen s z) (chosen_by x y false p))
    cases false false p q =
        ap (chosen x) (chosen_by y z false q) ∙ chosen_by x y false p
        ∙ sym (ap (λ s. chosen s z) (chosen_by x y false p) ∙ chosen_by x z false (worse_chain x y z p q))

pub best_more : (symbols : List Symbol) (symbol : Symbol) → best (symbols ++ symbol ∷ []) ≡ Some (or_better (best symbols) symbol)
best_more [] symbol = refl
best_more (x ∷ symbols) symbol =
    ap (λ o. Some (option_map_or (chosen x) o x)) (best_more symbols symbol) ∙ ap Some (joined (best symbols))
  where
    joined : (known : Option Symbol)
        → option_map_or (chosen x) (Some (or_better known symbol)) x ≡ or_better (Some (option_map_or (chosen x) known x)) symbol
    joined None = refl
    joined (Some y) = choose_three x y symbol

-- the symbols at an address, with one behind those that were
at_more : (symbols : List Symbol) (symbol : Symbol) (address : ℕ) (here : Bool) → (symbol.address == address) ≡ here
    → best_at (symbols ++ symbol ∷ []) address ≡ (if here then Some (or_better (best_at symbols address) symbol) else best_at symbols address)
at_more symbols symbol address true here =
    ap best (filter-append (λ (s : Symbol). s.address == address) symbols (symbol ∷ [])
    ∙ ap (λ b. filter (λ (s : Symbol). s.address == address) symbols ++ (if b then symbol ∷ [] else [])) here)
    ∙ best_more (filter (λ (s : Symbol). s.address == address) symbols) symbol
at_more symbols symbol address false here =
    ap best (filter-append (λ (s : Symbol). s.address == address) symbols (symbol ∷ [])
    ∙ ap (λ b. filter (λ (s : Symbol). s.address == address) symbols ++ (if b then symbol ∷ [] else [])) here
    ∙ append-nil (filter (λ (s : Symbol). s.address == address) symbols))

-- the best at an address, with a symbol behind those that were
pub best_at_more : (symbols : List Symbol) (symbol : Symbol) (address : ℕ)
    → best_at (symbols ++ symbol ∷ []) address ≡ (if symbol.address == address then Some (or_better (best_at symbols address) symbol) else best_at symbols address)
best_at_more symbols symbol address = at_more symbols symbol address (symbol.address == address) refl

-- ---- a symbol is taken, or isn't

-- a symbol that isn't better than the one for its address changes nothing
pub best_kept : (symbols : List Symbol) (symbol known : Symbol) (address : ℕ) → best_at symbols symbol.address ≡ Some known
    → is_better symbol known ≡ false → best_at symbols address ≡ best_at (symbols ++ symbol ∷ []) address
best_kept symbols symbol known address has worse = by_test (symbol.address == address) refl
  where
    by_test : (here : Bool) → (symbol.address == address) ≡ here → best_at symbols address ≡ best_at (symbols ++ symbol ∷ []) address
    by_test true here =
        let same : symbol.address ≡ address = grind (arith, common_steps) in
        let had : best_at symbols address ≡ Some known = subst (λ (a : ℕ). best_at symbols a ≡ Some known) same has in
        had ∙ sym (at_more symbols symbol address true here
        ∙ ap (λ o. Some (or_better o symbol)) had ∙ ap (λ b. Some (if b then symbol else known)) worse)
    by_test false here = sym (at_more symbols symbol address false here)

-- a symbol that is better than the one for its address, or the first for it, is the best there
pub best_put : (symbols : List Symbol) (symbol : Symbol) (address : ℕ) → or_better (best_at symbols symbol.address) symbol ≡ symbol
    → (if symbol.address == address then Some symbol else best_at symbols address) ≡ best_at (symbols ++ symbol ∷ []) address
best_put symbols symbol address put = by_test (symbol.address == address) refl
  where
    by_test : (here : Bool) → (symbol.address == address) ≡ here
        → (if symbol.address == address then Some symbol else best_at symbols address) ≡ best_at (symbols ++ symbol ∷ []) address
    by_test true here =
        let same : symbol.address ≡ address = grind (arith, common_steps) in
        let put' : or_better (best_at symbols address) symbol ≡ symbol = subst (λ (a : ℕ). or_better (best_at symbols a) symbol ≡ symbol) same put in
        ap (λ b. if b then Some symbol else best_at symbols address) here ∙ sym (at_more symbols symbol address true here ∙ ap Some put')
    by_test false here =
        ap (λ b. if b then Some symbol else best_at symbols address) here ∙ sym (at_more symbols symbol address false here)

-- it is put if it is better than a known one
pub put_better : (symbol known : Symbol) (o : Option Symbol) → o ≡ Some known → is_better symbol known ≡ true → or_better o symbol ≡ symbol
put_better symbol known o is better = ap (λ k. or_better k symbol) is ∙ ap (λ b. if b then symbol else known) better

-- it is put if none is known
pub put_first : (symbol : Symbol) (o : Option Symbol) → o ≡ None → or_better o symbol ≡ symbol
put_first symbol o is = ap (λ k. or_better k symbol) is
