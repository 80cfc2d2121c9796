-- The text of a schedule that isn't long.
use Rattle.std.proofs.Common.{◌≡◌, ℕ, ◌+◌, ◌*◌, ◌≤◌, false, List, [], ◌∷◌, ◌++◌, sym, ap, subst, arith, length, length-append}
use Rattle.std.specs.Prelude.{All, codes, decimal}
use Rattle.std.specs.List.{flat_map}
use Rattle.std.proofs.lemmas.Bool.Decides.{nat_tests}
use Rattle.std.proofs.lemmas.Fmt.{length-decimal-le}
use Rattle.std.proofs.lemmas.List.Elements.{All-head, All-tail}
use Rattle.step_sim.specs.declared.turns.Turns.{Turns}
use Rattle.step_sim.specs.declared.turns.Turns.TheVariants.{Thread, Patcher}
use Rattle.step_sim.specs.Schedules.{AreTurnsOf}
use Rattle.step_sim.specs.WrittenSchedules.{HasWords, schedule_text}
use Rattle.run_order.specs.Orders.{is_long}
use Rattle.run_order.specs.private.Texts.{line_text}
use Rattle.run_order.proofs.LineTexts.{lines_text}

-- a number of 32 bits has ten digits at most, and one below a hundred has two
short_count : (n : ℕ) → n ≤ 4294967295 → length (decimal n) ≤ 10
short_count n h = length-decimal-le 10 n (omega arith) (omega (arith, h)) (omega (arith, h))

short_thread : (n : ℕ) → n ≤ 16 → length (decimal n) ≤ 2
short_thread n h = length-decimal-le 2 n (omega arith) (omega (arith, h)) (omega (arith, h))

thread_size : (a b : List ℕ) → length (codes "t " ++ a ++ codes " " ++ b ++ 10 ∷ []) ≡ length a + length b + 4
thread_size a b = simp length-append (omega arith)

patcher_size : (a : List ℕ) → length (codes "p " ++ a ++ 10 ∷ []) ≡ length a + 3
patcher_size a = simp length-append (omega arith)

line_short : (threads : ℕ) (turns : Turns) → threads ≤ 16 → AreTurnsOf threads turns → HasWords turns → length (line_text turns) ≤ 16
line_short threads (Thread thread count) few are words =
    let own = short_thread thread (omega (arith, few, are.1)) in
    let loads = short_count count words in
    let small : length (decimal thread) + length (decimal count) + 4 ≤ 16 = omega (arith, own, loads) in
    subst (λ n. n ≤ 16) (sym (thread_size (decimal thread) (decimal count))) small
line_short threads (Patcher count) few are words =
    let steps = short_count count words in
    let small : length (decimal count) + 3 ≤ 16 = omega (arith, steps) in
    subst (λ n. n ≤ 16) (sym (patcher_size (decimal count))) small

lines_short : (threads : ℕ) (lines : List Turns) → threads ≤ 16 → All (AreTurnsOf threads) lines → All HasWords lines
    → length (flat_map line_text lines) ≤ 16 * length lines
lines_short threads [] few are words = omega arith
lines_short threads (line ∷ lines) few are words =
    let rest = lines_short threads lines few (All-tail (AreTurnsOf threads) line lines are) (All-tail HasWords line lines words) in
    omega (
      arith,
      length-append (line_text line) (flat_map line_text lines),
      line_short threads line few (All-head (AreTurnsOf threads) line lines are) (All-head HasWords line lines words),
      rest,
    )

pub few_lines : (schedule : List Turns) → is_long schedule ≡ false → length schedule ≤ 1048576
few_lines schedule e = grind (arith, nat_tests)

-- it has no more bytes than a schedule may have
pub text_short : (threads : ℕ) (schedule : List Turns) → threads ≤ 16 → All (AreTurnsOf threads) schedule → All HasWords schedule
    → is_long schedule ≡ false → length (schedule_text schedule) ≤ 16777216
text_short threads schedule few are words short =
    let all = lines_short threads schedule few are words in
    omega (arith, ap length (lines_text schedule), all, few_lines schedule short)
