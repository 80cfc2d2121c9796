-- The parts of a row: what is read of it is what it prints.
use Rattle.std.proofs.Common.{◌≡◌, ◌≢◌, ◌<◌, ◌^◌, ◌==◌, ◌&&◌, ℕ, Bool, true, false, List, [], ◌∷◌, ◌++◌, length, take, drop, Option, Some, None, MatchOption, Bor, refl, sym, ap, ◌∙◌, arith, take-append-drop, take_at, drop_at, eq-eqb, eqb-true, lt-ltb}
use Rattle.std.specs.Prelude.{codes, decimal, if◌then◌else◌, nat_lt}
use Rattle.std.specs.Str.{bytes_eq}
use Rattle.std.proofs.lemmas.Option.{same_Some}
use Rattle.std.proofs.lemmas.Slice.Eq.{bytes_eq-Decides}
use Rattle.text_lines.specs.Numbers.{numeral}
use Rattle.text_lines.specs.Written.{WrittenNumbersRead}
use Rattle.handler_word.specs.declared.mark.Mark.{Mark}
use Rattle.handler_word.specs.declared.mark.Mark.TheVariants.{Skipped, NoHandler, NotLogging, Recorded, RecordedArg}
use Rattle.handler_word.specs.Runs.{mark_byte, run_text}
use Rattle.machine_step.specs.declared.end.End.{End}
use Rattle.machine_step.specs.declared.end.End.TheVariants.{BadTarget, Fuel, OutputFull, Passings, Returned, StackEmpty, StackFull}
use Rattle.machine_step.specs.Texts.{end_text}
use Rattle.audit_check.specs.private.Parts.{BeginsNoDigit}
use Rattle.audit_check.specs.private.Taking.{◌>>=◌, Gives, after, digit_count, end_in, field_in, guessed_end, mark_in, mark_named, number_in, printed, run_in, short_in}
use Rattle.audit_check.proofs.Digits.{decimal_are, digits_end}

-- ---- steps that may have no value

pub bound : {A B : Type 0} (o : Option A) (f : A → Option B) (y : B) → (o >>= f) ≡ Some y → (x : A) × (o ≡ Some x) × (f x ≡ Some y)
bound None f y e = absurd cc
bound (Some x) f y e = (x, refl, e)

pub met : {X : Type 0} (t : Bool) (o : Option X) (y : X) → (if t then o else None) ≡ Some y → (t ≡ true) × (o ≡ Some y)
met true o y e = (refl, e)
met false o y e = absurd cc

pub chosen : {X : Type 0} (t : Bool) (x y : X) → t ≡ true → (if t then x else y) ≡ x
chosen true x y e = refl
chosen false x y e = absurd cc

pub into : {A B : Type 0} (o : Option A) (f : A → Option B) (x : A) → o ≡ Some x → (o >>= f) ≡ f x
into {A} {B} o f x e = ap (λ (p : Option A). p >>= f) e

-- equal answers have equal values and the same rest
pub first_same : {X Y : Type 0} (p q : X × Y) → Some p ≡ Some q → p.0 ≡ q.0
first_same {X} {Y} p q e = ap (λ (z : X × Y). z.0) (same_Some p q e)

pub rest_same : {X Y : Type 0} (p q : X × Y) → Some p ≡ Some q → p.1 ≡ q.1
rest_same {X} {Y} p q e = ap (λ (z : X × Y). z.1) (same_Some p q e)

-- ---- words

pub after_found : (word row rest : List ℕ) → after word row ≡ Some rest → row ≡ word ++ rest
unfolding after
after_found [] row rest e = same_Some row rest e
after_found (byte ∷ word) [] rest e = absurd cc
after_found (byte ∷ word) (next ∷ row) rest e =
    let m = met (byte == next) (after word row) rest e in
    let tail : row ≡ word ++ rest = after_found word row rest m.1 in
    let same : byte ≡ next = eqb-true byte next m.0 in
    cc

pub after_only : (word rest : List ℕ) → after word (word ++ rest) ≡ Some rest
unfolding after
after_only [] rest = refl
after_only (byte ∷ word) rest = chosen (byte == byte) (after word (word ++ rest)) None (eq-eqb byte byte refl) ∙ after_only word rest

after_none : (word row : List ℕ) → ((rest : List ℕ) → row ≢ word ++ rest) → after word row ≡ None
after_none word row none = by (after word row) refl
  where
    by : (o : Option (List ℕ)) → after word row ≡ o → after word row ≡ None
    by None is = is
    by (Some rest) is = absurd (none rest (after_found word row rest is))

pub after_given : (word row : List ℕ) (r : Option (Bor (List ℕ))) → MatchOption r ((rest : List ℕ) → row ≢ word ++ rest) (λ x. row ≡ word ++ x.now)
    → Gives (λ x. x.now) r (after word row)
after_given word row None none = after_none word row none
after_given word row (Some x) is = ap (after word) is ∙ after_only word x.now

-- ---- numbers

printed_found : (word : List ℕ) (n : ℕ) → printed word ≡ Some n → word ≡ decimal n
unfolding printed
printed_found word n e =
    let a = bound (numeral 10 word) (λ (number : ℕ). if bytes_eq (decimal number) word then Some number else None) n e in
    let m = met (bytes_eq (decimal a.0) word) (Some a.0) n a.2 in
    sym ((bytes_eq-Decides (decimal a.0) word).0 m.0) ∙ ap decimal (same_Some a.0 n m.1)

pub number_found : (row : List ℕ) (n : ℕ) (rest : List ℕ) → number_in row ≡ Some (n, rest) → row ≡ decimal n ++ rest
unfolding number_in
number_found row n rest e =
    let count : ℕ = digit_count row in
    let a = bound {B = ℕ × List ℕ} (printed (take count row)) (λ (number : ℕ). Some (number, drop count row)) (n, rest) e in
    let word : take count row ≡ decimal a.0 = printed_found (take count row) a.0 a.1 in
    let number : a.0 ≡ n = first_same {X = ℕ} {Y = List ℕ} (a.0, drop count row) (n, rest) a.2 in
    let left : drop count row ≡ rest = rest_same {X = ℕ} {Y = List ℕ} (a.0, drop count row) (n, rest) a.2 in
    sym (take-append-drop count row)
    ∙ (ap (λ (w : List ℕ). w ++ drop count row) (word ∙ ap decimal number) ∙ ap (λ (l : List ℕ). decimal n ++ l) left)

pub field_found : (name row : List ℕ) (n : ℕ) (rest : List ℕ) → field_in name row ≡ Some (n, rest) → row ≡ name ++ (decimal n ++ rest)
unfolding field_in
field_found name row n rest e =
    let a = bound (after name row) number_in (n, rest) e in
    after_found name row a.0 a.1 ∙ ap (λ (l : List ℕ). name ++ l) (number_found a.0 n rest a.2)

pub short_found : (name row : List ℕ) (n : ℕ) (rest : List ℕ) → short_in name row ≡ Some (n, rest) → row ≡ name ++ (decimal n ++ rest)
unfolding short_in
short_found name row n rest e =
    let a = bound (field_in name row) (λ (field : ℕ × List ℕ). if nat_lt field.0 (2 ^ 32) then Some field else None) (n, rest) e in
    let m = met (nat_lt a.0.0 (2 ^ 32)) (Some a.0) (n, rest) a.2 in
    field_found name row n rest (a.1 ∙ m.1)

-- ---- ends

named_end : (end : End) (rest : List ℕ) → guessed_end (end_text end ++ rest) ≡ Some end
named_end Returned rest = refl
named_end Fuel rest = refl
named_end Passings rest = refl
named_end OutputFull rest = refl
named_end StackFull rest =
    ap (λ (long : Bool). Some (if long && true then StackFull else StackEmpty))
    (lt-ltb 6 (length (codes "stack-full" ++ rest)) (omega arith))
named_end StackEmpty rest =
    ap (λ (long : Bool). Some (if long && false then StackFull else StackEmpty))
    (lt-ltb 6 (length (codes "stack-empty" ++ rest)) (omega arith))
named_end BadTarget rest = refl

-- the rest after the name of an end
abbrev end_after : End → List ℕ → Option (End × List ℕ)
end_after end row = after (end_text end) row >>= λ rest. Some (end, rest)

pub end_found : (row : List ℕ) (end : End) (rest : List ℕ) → end_in row ≡ Some (end, rest) → row ≡ end_text end ++ rest
unfolding end_in
end_found row end rest e =
    let a = bound {B = End × List ℕ} (guessed_end row) (λ (guess : End). end_after guess row) (end, rest) e in
    let b = bound {B = End × List ℕ} (after (end_text a.0) row) (λ (left : List ℕ). Some (a.0, left)) (end, rest) a.2 in
    let same : a.0 ≡ end = first_same {X = End} {Y = List ℕ} (a.0, b.0) (end, rest) b.2 in
    let left : b.0 ≡ rest = rest_same {X = End} {Y = List ℕ} (a.0, b.0) (end, rest) b.2 in
    after_found (end_text a.0) row b.0 b.1
    ∙ (ap (λ (x : End). end_text x ++ b.0) same ∙ ap (λ (l : List ℕ). end_text end ++ l) left)

pub end_only : (end : End) (rest : List ℕ) → end_in (end_text end ++ rest) ≡ Some (end, rest)
unfolding end_in
end_only end rest =
    into {B = End × List ℕ} (guessed_end (end_text end ++ rest)) (λ (guess : End). end_after guess (end_text end ++ rest)) end (named_end end rest)
    ∙ into {B = End × List ℕ} (after (end_text end) (end_text end ++ rest)) (λ (left : List ℕ). Some (end, left)) rest (after_only (end_text end) rest)

-- ---- marks

named_mark : (mark : Mark) → mark_named (mark_byte mark) ≡ Some mark
named_mark Skipped = refl
named_mark NoHandler = refl
named_mark NotLogging = refl
named_mark Recorded = refl
named_mark RecordedArg = refl

mark_of_byte : (byte : ℕ) (mark : Mark) → mark_named byte ≡ Some mark → byte ≡ mark_byte mark
mark_of_byte byte mark e = one (byte == 46) refl e
  where
    five : (t : Bool) → byte == 97 ≡ t → (if t then Some RecordedArg else None) ≡ Some mark → byte ≡ mark_byte mark
    five true is found = eqb-true byte 97 is ∙ ap mark_byte (same_Some RecordedArg mark found)
    five false is found = absurd cc

    four : (t : Bool) → byte == 43 ≡ t → (if t then Some Recorded else if byte == 97 then Some RecordedArg else None) ≡ Some mark → byte ≡ mark_byte mark
    four true is found = eqb-true byte 43 is ∙ ap mark_byte (same_Some Recorded mark found)
    four false is found = five (byte == 97) refl found

    three : (t : Bool) → byte == 102 ≡ t
        → (if t then Some NotLogging else if byte == 43 then Some Recorded else if byte == 97 then Some RecordedArg else None) ≡ Some mark
        → byte ≡ mark_byte mark
    three true is found = eqb-true byte 102 is ∙ ap mark_byte (same_Some NotLogging mark found)
    three false is found = four (byte == 43) refl found

    two : (t : Bool) → byte == 110 ≡ t
        → (if t then Some NoHandler else if byte == 102 then Some NotLogging else if byte == 43 then Some Recorded
        else if byte == 97 then Some RecordedArg else None) ≡ Some mark → byte ≡ mark_byte mark
    two true is found = eqb-true byte 110 is ∙ ap mark_byte (same_Some NoHandler mark found)
    two false is found = three (byte == 102) refl found

    one : (t : Bool) → byte == 46 ≡ t
        → (if t then Some Skipped else if byte == 110 then Some NoHandler else if byte == 102 then Some NotLogging
        else if byte == 43 then Some Recorded else if byte == 97 then Some RecordedArg else None) ≡ Some mark → byte ≡ mark_byte mark
    one true is found = eqb-true byte 46 is ∙ ap mark_byte (same_Some Skipped mark found)
    one false is found = two (byte == 110) refl found

mark_found : (row : List ℕ) (mark : Mark) (rest : List ℕ) → mark_in row ≡ Some (mark, rest) → row ≡ mark_byte mark ∷ rest
unfolding mark_in
mark_found [] mark rest e = absurd cc
mark_found (byte ∷ row) mark rest e =
    let a = bound {B = Mark × List ℕ} (mark_named byte) (λ (m : Mark). Some (m, row)) (mark, rest) e in
    let same : a.0 ≡ mark = first_same {X = Mark} {Y = List ℕ} (a.0, row) (mark, rest) a.2 in
    let left : row ≡ rest = rest_same {X = Mark} {Y = List ℕ} (a.0, row) (mark, rest) a.2 in
    ap (λ (b : ℕ). b ∷ row) (mark_of_byte byte a.0 a.1 ∙ ap mark_byte same) ∙ ap (λ (l : List ℕ). mark_byte mark ∷ l) left

mark_only : (mark : Mark) (rest : List ℕ) → mark_in (mark_byte mark ∷ rest) ≡ Some (mark, rest)
unfolding mark_in
mark_only mark rest = into {B = Mark × List ℕ} (mark_named (mark_byte mark)) (λ (m : Mark). Some (m, rest)) mark (named_mark mark)

-- the count after a mark
abbrev count_after : Mark × List ℕ → Option ((Mark × ℕ) × List ℕ)
count_after m = short_in [] m.1 >>= λ n. Some ((m.0, n.0), n.1)

pub run_found : (row : List ℕ) (mark : Mark) (count : ℕ) (rest : List ℕ) → run_in row ≡ Some ((mark, count), rest) → row ≡ run_text (mark, count) ++ rest
unfolding run_in
run_found row mark count rest e =
    let a = bound {B = (Mark × ℕ) × List ℕ} (mark_in row) count_after ((mark, count), rest) e in
    let m : Mark × List ℕ = a.0 in
    let b = bound {B = (Mark × ℕ) × List ℕ} (short_in [] m.1) (λ (n : ℕ × List ℕ). Some ((m.0, n.0), n.1)) ((mark, count), rest) a.2 in
    let n : ℕ × List ℕ = b.0 in
    let front : row ≡ mark_byte m.0 ∷ m.1 = mark_found row m.0 m.1 a.1 in
    let number : m.1 ≡ decimal n.0 ++ n.1 = short_found [] m.1 n.0 n.1 b.1 in
    let run : ◌≡◌ {A = Mark × ℕ} (m.0, n.0) (mark, count) = first_same {X = Mark × ℕ} {Y = List ℕ} ((m.0, n.0), n.1) ((mark, count), rest) b.2 in
    let left : n.1 ≡ rest = rest_same {X = Mark × ℕ} {Y = List ℕ} ((m.0, n.0), n.1) ((mark, count), rest) b.2 in
    front
    ∙ (ap (λ (l : List ℕ). mark_byte m.0 ∷ l) number
    ∙ (ap (λ (r : Mark × ℕ). run_text r ++ n.1) run ∙ ap (λ (l : List ℕ). run_text (mark, count) ++ l) left))

-- ---- numbers that are printed are read

abbrev answer : ℕ → List ℕ → Option (ℕ × List ℕ)
answer n rest = Some (n, rest)

module _ (reads : WrittenNumbersRead) where
  printed_only : (n : ℕ) → n < 2 ^ 64 → printed (decimal n) ≡ Some n
  unfolding printed
  printed_only n small =
      into (numeral 10 (decimal n)) (λ (number : ℕ). if bytes_eq (decimal number) (decimal n) then Some number else None) n (reads.long n (omega arith))
      ∙ chosen (bytes_eq (decimal n) (decimal n)) (Some n) None ((bytes_eq-Decides (decimal n) (decimal n)).1 refl)

  pub number_only : (n : ℕ) (rest : List ℕ) → n < 2 ^ 64 → BeginsNoDigit rest → number_in (decimal n ++ rest) ≡ Some (n, rest)
  unfolding number_in
  number_only n rest small none =
      let row : List ℕ = decimal n ++ rest in
      let count : digit_count row ≡ length (decimal n) = digits_end (decimal n) rest (decimal_are n) none in
      let word : take (digit_count row) row ≡ decimal n = ap (λ k. take k row) count ∙ take_at (decimal n) rest (length (decimal n)) refl in
      let left : drop (digit_count row) row ≡ rest = ap (λ k. drop k row) count ∙ drop_at (decimal n) rest (length (decimal n)) refl in
      into {B = ℕ × List ℕ} (printed (take (digit_count row) row)) (λ (number : ℕ). Some (number, drop (digit_count row) row)) n
      (ap printed word ∙ printed_only n small)
      ∙ ap (λ (l : List ℕ). answer n l) left

  pub field_only : (name : List ℕ) (n : ℕ) (rest : List ℕ) → n < 2 ^ 64 → BeginsNoDigit rest → field_in name (name ++ (decimal n ++ rest)) ≡ Some (n, rest)
  unfolding field_in
  field_only name n rest small none =
      into (after name (name ++ (decimal n ++ rest))) number_in (decimal n ++ rest) (after_only name (decimal n ++ rest)) ∙ number_only n rest small none

  pub short_only : (name : List ℕ) (n : ℕ) (rest : List ℕ) → n < 2 ^ 32 → BeginsNoDigit rest → short_in name (name ++ (decimal n ++ rest)) ≡ Some (n, rest)
  unfolding short_in
  short_only name n rest small none =
      into (field_in name (name ++ (decimal n ++ rest))) (λ (field : ℕ × List ℕ). if nat_lt field.0 (2 ^ 32) then Some field else None) (n, rest)
      (field_only name n rest (omega arith) none)
      ∙ chosen (nat_lt n (2 ^ 32)) (answer n rest) None (lt-ltb n (2 ^ 32) small)

  pub run_only : (mark : Mark) (count : ℕ) (rest : List ℕ) → count < 2 ^ 32 → BeginsNoDigit rest
      → run_in (run_text (mark, count) ++ rest) ≡ Some ((mark, count), rest)
  unfolding run_in
  run_only mark count rest small none =
      into {B = (Mark × ℕ) × List ℕ} (mark_in (mark_byte mark ∷ (decimal count ++ rest))) count_after (mark, decimal count ++ rest)
      (mark_only mark (decimal count ++ rest))
      ∙ into {B = (Mark × ℕ) × List ℕ} (short_in [] (decimal count ++ rest)) (λ (n : ℕ × List ℕ). Some ((mark, n.0), n.1)) (count, rest)
      (short_only [] count rest small none)
