-- A text makes no more code and no more sleds than were counted for it.
use Rattle.std.proofs.Common.{◌≡◌, ℕ, ◌+◌, ◌%◌, ◌≤◌, Bool, true, false, List, [], ◌∷◌, refl, arith}
use Rattle.std.specs.Prelude.{sum_by}
use Rattle.std.specs.List.{flat_map}
use Rattle.std.proofs.lemmas.List.Sums.{sum_by-append}
use Rattle.xray_image.specs.Units.{JumpSled, ReturnSled}
use Rattle.asm_text.specs.declared.statement.Choice.TheVariants.{ByLength, Always, Args, Never}
use Rattle.asm_text.specs.declared.statement.Branch.TheVariants as branches
use Rattle.asm_text.specs.Statements.{Plain, Go, TailJump, Return, Statement, Base, Entry, Func, Label, Does}
use Rattle.asm_text.specs.Layout.{StatementLines, UnitDraft, LineOwner, by_threshold, unless_never, owner_of, no_owner, parts_of_line, parts_at, placed_from, all_parts, width, widths, sleds_of_part, sled_shift}
use Rattle.asm_text.proofs.WidthLemmas.{widths_aligned, sleds_aligned, widths_aligned_branch, sleds_aligned_branch}

-- no more bytes up to the end, and no more sleds
abbrev pub NoMore : ℕ → List UnitDraft → ℕ → List UnitDraft → Type 0
NoMore p xs q ys = (p + widths xs ≤ q + widths ys) × (sum_by sleds_of_part xs ≤ sum_by sleds_of_part ys)

round_up : (p q : ℕ) → p ≤ q → p + p % 2 ≤ q + q % 2
round_up p q h = omega arith

-- one line
line_no_more : (traced counted : Bool) (p q : ℕ) (s : Statement) → p ≤ q → (traced ≡ true → counted ≡ true) → NoMore p (parts_of_line traced p s) q (parts_of_line counted q s)
line_no_more traced counted p q (Base address) h i = (omega arith, omega arith)
line_no_more traced counted p q (Entry name) h i = (omega arith, omega arith)
line_no_more true true p q (Func name choice) h i =
    (omega (arith, round_up p q h, widths_aligned p (JumpSled sled_shift), widths_aligned q (JumpSled sled_shift)), omega (arith, sleds_aligned p (JumpSled sled_shift), sleds_aligned q (JumpSled sled_shift)))
line_no_more true false p q (Func name choice) h i = absurd (cc (i refl))
line_no_more false true p q (Func name choice) h i =
    (omega (arith, widths_aligned q (JumpSled sled_shift)), omega (arith, sleds_aligned q (JumpSled sled_shift)))
line_no_more false false p q (Func name choice) h i = (omega arith, omega arith)
line_no_more traced counted p q (Label name) h i = (omega arith, omega arith)
line_no_more true true p q (Does (Plain instr)) h i = (omega arith, omega arith)
line_no_more true true p q (Does (Go branch name)) h i = (omega arith, omega arith)
line_no_more true true p q (Does (TailJump name)) h i = (
  omega (arith, round_up p q h, widths_aligned_branch p (JumpSled sled_shift) branches.Jmp name, widths_aligned_branch q (JumpSled sled_shift) branches.Jmp name),
  omega (arith, sleds_aligned_branch p (JumpSled sled_shift) branches.Jmp name, sleds_aligned_branch q (JumpSled sled_shift) branches.Jmp name),
)
line_no_more true true p q (Does Return) h i =
    (omega (arith, round_up p q h, widths_aligned p (ReturnSled sled_shift), widths_aligned q (ReturnSled sled_shift)), omega (arith, sleds_aligned p (ReturnSled sled_shift), sleds_aligned q (ReturnSled sled_shift)))
line_no_more true false p q (Does operation) h i = absurd (cc (i refl))
line_no_more false true p q (Does (Plain instr)) h i = (omega arith, omega arith)
line_no_more false true p q (Does (Go branch name)) h i = (omega arith, omega arith)
line_no_more false true p q (Does (TailJump name)) h i =
    (omega (arith, widths_aligned_branch q (JumpSled sled_shift) branches.Jmp name), omega (arith, sleds_aligned_branch q (JumpSled sled_shift) branches.Jmp name))
line_no_more false true p q (Does Return) h i =
    (omega (arith, widths_aligned q (ReturnSled sled_shift)), omega (arith, sleds_aligned q (ReturnSled sled_shift)))
line_no_more false false p q (Does operation) h i = (omega arith, omega arith)

-- what is instrumented is counted so
counted_too : (threshold p q : ℕ) (o c : LineOwner) (s : Statement) (xs ys : StatementLines) → (o.traced ≡ true → c.traced ≡ true)
    → (owner_of (by_threshold threshold) p o s xs).traced ≡ true → (owner_of unless_never q c s ys).traced ≡ true
counted_too threshold p q o c (Base address) xs ys i h = i h
counted_too threshold p q o c (Entry name) xs ys i h = i h
counted_too threshold p q o c (Func name ByLength) xs ys i h = refl
counted_too threshold p q o c (Func name Always) xs ys i h = refl
counted_too threshold p q o c (Func name Args) xs ys i h = refl
counted_too threshold p q o c (Func name Never) xs ys i h = h
counted_too threshold p q o c (Label name) xs ys i h = i h
counted_too threshold p q o c (Does operation) xs ys i h = i h

lines_no_more : (threshold p q : ℕ) (o c : LineOwner) (lines : StatementLines) → p ≤ q → (o.traced ≡ true → c.traced ≡ true)
    → NoMore p (flat_map parts_at (placed_from (by_threshold threshold) p o lines)) q (flat_map parts_at (placed_from unless_never q c lines))
lines_no_more threshold p q o c [] h i = (omega arith, omega arith)
lines_no_more threshold p q o c (line ∷ following) h i =
    let here = owner_of (by_threshold threshold) p o line.1 following in
    let counted = owner_of unless_never q c line.1 following in
    let traced : here.traced ≡ true → counted.traced ≡ true = counted_too threshold p q o c line.1 following following i in
    let one = line_no_more here.traced counted.traced p q line.1 h traced in
    let xs = parts_of_line here.traced p line.1 in
    let ys = parts_of_line counted.traced q line.1 in
    let left = placed_from (by_threshold threshold) (p + widths xs) here following in
    let left_counted = placed_from unless_never (q + widths ys) counted following in
    let more = lines_no_more threshold (p + widths xs) (q + widths ys) here counted following one.0 traced in (
      omega (arith, more.0, sum_by-append width xs (flat_map parts_at left), sum_by-append width ys (flat_map parts_at left_counted)),
      omega (arith, one.1, more.1, sum_by-append sleds_of_part xs (flat_map parts_at left), sum_by-append sleds_of_part ys (flat_map parts_at left_counted)),
    )

-- all lines
pub no_more : (threshold : ℕ) (lines : StatementLines) → NoMore 0 (all_parts (by_threshold threshold) lines) 0 (all_parts unless_never lines)
no_more threshold lines = lines_no_more threshold 0 0 no_owner no_owner lines (omega arith) (λ h. h)
