-- A text that is written of words says what is written in its lines.
use Rattle.std.proofs.Common.{◌≡◌, ℕ, ◌+◌, ◌*◌, ◌%◌, ◌<◌, ◌≤◌, Bool, true, false, cond, not, List, [], ◌∷◌, ◌++◌, length, map, Some, refl, sym, ap, ◌∙◌, arith, append_assoc, append-nil}
use Rattle.std.specs.Prelude.{Result, Ok, Err, count_by, nat_lt, sum_by}
use Rattle.std.specs.List.{AllZip, enumerate_from, flat_map, list_all}
use Rattle.std.specs.Int.{w32, to_le_bytes}
use Rattle.std.specs.Str.Lines.{lines}
use Rattle.std.proofs.lemmas.Bool.{and_from, le-ltb}
use Rattle.std.proofs.lemmas.List.{length-append}
use Rattle.std.proofs.lemmas.List.FromFn.{length-enumerate_from}
use Rattle.std.proofs.lemmas.List.Sums.{count_by-le-length, sum_by-append}
use Rattle.xray_io.specs.Rows.{◌>>=◌}
use Rattle.text_lines.specs.Words.{words_of}
use Rattle.text_lines.specs.Written.{are_written_words, written_line, written_text, WrittenTextsRead as WordsRead}
use Rattle.subset_decode.specs.declared.instr.Instr.{Instr}
use Rattle.subset_decode.specs.declared.instr.Instr.TheVariants as instrs
use Rattle.subset_decode.specs.Encoding.{spelling, opcode_of}
use Rattle.xray_image.specs.Units.{JumpSled, ReturnSled}
use Rattle.asm_text.specs.declared.fault.AsmFault.{AsmFault}
use Rattle.asm_text.specs.declared.fault.AsmFault.TheVariants as faults
use Rattle.asm_text.specs.declared.statement.Branch.{Branch}
use Rattle.asm_text.specs.declared.statement.Branch.TheVariants as branches
use Rattle.asm_text.specs.Statements.{Plain, Go, TailJump, Return, Statement, Base, Entry, Func, Label, Does}
use Rattle.asm_text.specs.Language.{statement_of}
use Rattle.asm_text.specs.Layout.{StatementLines, LineOwner, Choosing, owner_of, no_owner, is_function, parts_of_line, parts_at, placed_from, all_parts, width, widths, sleds_of_part, sled_shift, unless_never, branch_width}
use Rattle.asm_text.specs.Refusals.{is_statement_misplaced, names_reserved, is_out_of_range, repeats, exceeds_limits, statement_judged, statement_spoken, with_words, statement_with_line, read_statements, resolved, text_ended}
use Rattle.asm_text.specs.WrittenTexts.{Says, MayFollow, IsOrderly, WrittenTextsRead}
use Rattle.asm_text.proofs.WidthLemmas.{widths_aligned, sleds_aligned, widths_aligned_branch, sleds_aligned_branch}

-- ---- few lines exceed no limit

opcode_short : (low : Bool) (a b : ℕ) → length (cond low (a ∷ []) (0x41 ∷ b ∷ [])) ≤ 2
opcode_short true a b = omega arith
opcode_short false a b = omega arith

spelling_short : (instr : Instr) → length (spelling instr) ≤ 6
spelling_short (instrs.Mov dst imm) =
    omega (arith, length-append (opcode_of 0xB8 dst) (to_le_bytes w32 imm), opcode_short (nat_lt dst 8) (0xB8 + dst % 8) (0xB8 + dst % 8))
spelling_short (instrs.Add dst src) = omega arith
spelling_short (instrs.Sub dst src) = omega arith
spelling_short (instrs.Push reg) = omega (arith, opcode_short (nat_lt reg 8) (0x50 + reg % 8) (0x50 + reg % 8))
spelling_short (instrs.Pop reg) = omega (arith, opcode_short (nat_lt reg 8) (0x58 + reg % 8) (0x58 + reg % 8))
spelling_short (instrs.Call rel) = omega arith
spelling_short (instrs.Jmp rel) = omega arith
spelling_short (instrs.Jnz rel) = omega arith
spelling_short instrs.Ret = omega arith
spelling_short (instrs.Out port) = omega arith

branch_short : (branch : Branch) → branch_width branch ≤ 6
branch_short branches.Call = omega arith
branch_short branches.Jmp = omega arith
branch_short branches.Jnz = omega arith

-- a line has at most 18 bytes and one sled
line_short : (traced : Bool) (place : ℕ) (s : Statement) → (widths (parts_of_line traced place s) ≤ 18) × (sum_by sleds_of_part (parts_of_line traced place s) ≤ 1)
line_short traced place (Base address) = (omega arith, omega arith)
line_short traced place (Entry name) = (omega arith, omega arith)
line_short true place (Func name choice) = (omega (arith, widths_aligned place (JumpSled sled_shift)), omega (arith, sleds_aligned place (JumpSled sled_shift)))
line_short false place (Func name choice) = (omega arith, omega arith)
line_short traced place (Label name) = (omega arith, omega arith)
line_short true place (Does (Plain instr)) = (omega (arith, spelling_short instr), omega arith)
line_short true place (Does (Go branch name)) = (omega (arith, branch_short branch), omega arith)
line_short true place (Does (TailJump name)) =
    (omega (arith, widths_aligned_branch place (JumpSled sled_shift) branches.Jmp name), omega (arith, sleds_aligned_branch place (JumpSled sled_shift) branches.Jmp name))
line_short true place (Does Return) = (omega (arith, widths_aligned place (ReturnSled sled_shift)), omega (arith, sleds_aligned place (ReturnSled sled_shift)))
line_short false place (Does (Plain instr)) = (omega (arith, spelling_short instr), omega arith)
line_short false place (Does (Go branch name)) = (omega (arith, branch_short branch), omega arith)
line_short false place (Does (TailJump name)) = (omega arith, omega arith)
line_short false place (Does Return) = (omega arith, omega arith)

lines_short : (chosen : Choosing) (place : ℕ) (owner : LineOwner) (said : StatementLines)
    → (widths (flat_map parts_at (placed_from chosen place owner said)) ≤ 18 * length said) × (sum_by sleds_of_part (flat_map parts_at (placed_from chosen place owner said)) ≤ length said)
lines_short chosen place owner [] = (omega arith, omega arith)
lines_short chosen place owner (line ∷ following) =
    let here = owner_of chosen place owner line.1 following in
    let xs = parts_of_line here.traced place line.1 in
    let ys = flat_map parts_at (placed_from chosen (place + widths xs) here following) in
    let one = line_short here.traced place line.1 in
    let more = lines_short chosen (place + widths xs) here following in
    (omega (arith, one.0, more.0, sum_by-append width xs ys), omega (arith, one.1, more.1, sum_by-append sleds_of_part xs ys))

few_fit : (said : StatementLines) → length said ≤ 1024 → exceeds_limits said ≡ false
few_fit said few =
    let short = lines_short unless_never 0 no_owner said in
    rw (
      le-ltb 1024 (count_by (λ (line : ℕ × Statement). is_function line.1) said) (omega (arith, few, count_by-le-length (λ (line : ℕ × Statement). is_function line.1) said)),
      le-ltb 1048576 (widths (all_parts unless_never said)) (omega (arith, few, short.0)),
      le-ltb 4096 (sum_by sleds_of_part (all_parts unless_never said)) (omega (arith, few, short.1)),
    ) refl

-- ---- a line

five_false : {A : Type 0} (a b c d e : Bool) (p q r s t : AsmFault) (y : A) → a ≡ false → b ≡ false → c ≡ false → d ≡ false → e ≡ false
    → ◌≡◌ {A = Result A AsmFault} (cond a (Err p) (cond b (Err q) (cond c (Err r) (cond d (Err s) (cond e (Err t) (Ok y)))))) (Ok y)
five_false a b c d e p q r s t y ha hb hc hd he = rw (ha, hb, hc, hd, he) refl

judged_follows : (before : StatementLines) (number : ℕ) (s : Statement) → MayFollow before s → length before < 1024 → statement_judged before number s ≡ Ok (before ++ (number, s) ∷ [])
judged_follows before number s h few =
    let longer = before ++ (number, s) ∷ [] in
    let fits : exceeds_limits longer ≡ false = few_fit longer (omega (arith, few, length-append before ((number, s) ∷ []))) in
    five_false (is_statement_misplaced before s) (names_reserved s) (is_out_of_range s) (repeats before s) (exceeds_limits longer)
    (faults.Syntax number) (faults.Register number) (faults.Range number) (faults.Repeat number) (faults.Limit number) longer
    h.place h.registers h.range h.name fits

words_said : (before : StatementLines) (number : ℕ) (words : List (List ℕ)) (s : Statement) → statement_of words ≡ Some s → with_words before number words ≡ statement_judged before number s
words_said before number [] s e = absurd cc
words_said before number (word ∷ words) s e = ap (statement_spoken before number) e

-- the words of statements are written
pub all_written : (all : List (List (List ℕ))) (statements : List Statement) → AllZip Says all statements → list_all are_written_words all ≡ true
all_written [] [] says = refl
all_written [] (s ∷ statements) says = absurd says
all_written (words ∷ all) [] says = absurd says
all_written (words ∷ all) (s ∷ statements) says =
    and_from (are_written_words words) (list_all are_written_words all) says.0.written (all_written all statements says.1)

module _ (texts : WordsRead) where
  line_read : (before : StatementLines) (number : ℕ) (words : List (List ℕ)) (s : Statement) → Says words s → MayFollow before s → length before < 1024
      → statement_with_line before (number, written_line words) ≡ Ok (before ++ (number, s) ∷ [])
  line_read before number words s says h few =
      let line = written_line words in
      ap (λ t. cond (not t) (Err (faults.Syntax number)) (with_words before number (words_of line))) (texts.clean words says.written)
      ∙ ap (with_words before number) (texts.words words says.written)
      ∙ words_said before number words s says.said ∙ judged_follows before number s h few

  -- ---- all lines

  lines_read : (said before : StatementLines) (number : ℕ) (all : List (List (List ℕ))) (statements : List Statement) → AllZip Says all statements
      → IsOrderly said → length said ≤ 1024 → said ≡ before ++ enumerate_from number statements
      → read_statements before (enumerate_from number (map written_line all)) ≡ Ok said
  lines_read said before number [] [] says orderly few is = ap Ok (sym (is ∙ append-nil before))
  lines_read said before number [] (s ∷ statements) says orderly few is = absurd says
  lines_read said before number (words ∷ all) [] says orderly few is = absurd says
  lines_read said before number (words ∷ all) (s ∷ statements) says orderly few is =
      let following = enumerate_from (number + 1) statements in
      let room : length before < 1024 = omega (arith, few, ap length is, length-append before ((number, s) ∷ following)) in
      let left = enumerate_from (number + 1) (map written_line all) in
      ap (λ r. r >>= λ ls. read_statements ls left) (line_read before number words s says.0 (orderly.follows before (number, s) following is) room)
      ∙ lines_read said (before ++ (number, s) ∷ []) (number + 1) all statements says.1 orderly few (is ∙ sym (append_assoc before ((number, s) ∷ []) following))

-- ---- the end

all_resolved : (said before following : StatementLines) → IsOrderly said → said ≡ before ++ following → resolved said following ≡ Ok said
all_resolved said before [] orderly is = refl
all_resolved said before (line ∷ following) orderly is =
    ap (λ t. cond t (Err (faults.Label line.0)) (resolved said following)) (orderly.resolved before line following is)
    ∙ all_resolved said (before ++ line ∷ []) following orderly (is ∙ sym (append_assoc before (line ∷ []) following))

end_read : (number : ℕ) (said : StatementLines) → IsOrderly said → text_ended number said ≡ Ok said
end_read number said orderly =
    ap (λ t. cond t (Err (faults.Syntax number)) (resolved said said)) orderly.ends ∙ all_resolved said [] said orderly refl

pub text_read : WordsRead → WrittenTextsRead
text_read texts all statements says orderly few =
    let said = enumerate_from 1 statements in
    let text = written_text all in
    let cut : lines text ≡ map written_line all = texts.lines all (all_written all statements says) in
    let read : read_statements [] (enumerate_from 1 (lines text)) ≡ Ok said =
    ap (λ ls. read_statements [] (enumerate_from 1 ls)) cut
    ∙ lines_read texts said [] 1 all statements says orderly (omega (arith, few, length-enumerate_from 1 statements)) refl in
    ap (λ r. r >>= λ ls. text_ended (length (lines text) + 1) ls) read ∙ end_read (length (lines text) + 1) said orderly
