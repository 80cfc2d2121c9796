-- Whole rows: what is read of a row is what it prints.
use Rattle.std.proofs.Common.{◌≡◌, ◌<◌, ◌≤◌, ◌^◌, ◌==◌, ◌&&◌, ℕ, Bool, true, false, List, ◌++◌, take, drop, Option, Some, None, refl, sym, ap, subst, ◌∙◌, arith, eq-eqb, eqb-true, leb-true, lt-ltb, ltb-true}
use Rattle.std.specs.Prelude.{codes, decimal, if◌then◌else◌, nat_le, nat_lt}
use Rattle.std.specs.Str.{bytes_eq}
use Rattle.std.specs.Str.Parse.{digits_value}
use Rattle.std.proofs.lemmas.Option.{same_Some}
use Rattle.std.proofs.lemmas.Slice.Eq.{bytes_eq-Decides}
use Rattle.text_lines.specs.Numbers.{is_numeral, numeral}
use Rattle.text_lines.specs.Written.{WrittenNumbersRead}
use Rattle.machine_step.specs.declared.limits.Limits.{Limits}
use Rattle.machine_step.specs.declared.setup.Setup.{Setup}
use Rattle.machine_step.specs.Setups.{AreLimits, IsSetup}
use Rattle.machine_step.specs.Texts.{end_text, line_feed}
use Rattle.trace_flush.specs.Audit.{limits_text, recycled_line}
use Rattle.audit_check.specs.declared.setup.Buffers.{Buffers}
use Rattle.audit_check.specs.declared.setup.Stamps.{Stamps}
use Rattle.audit_check.specs.declared.thread_rows.Counts.{Counts}
use Rattle.audit_check.specs.private.Lines.{counts_row}
use Rattle.audit_check.specs.private.Parts.{AreBuffers, AreStamps, BeginsNoDigit, HasShortCounts, buffers_part, counts_part, setup_row, stamps_part}
use Rattle.audit_check.specs.private.Taking.{after, buffers_in, counts_in, cpus_in, digit_count, end_in, field_in, limits_in, number_in, printed, recycled_in, said_in, setup_by, setup_in, short_in, stamps_in}
use Rattle.audit_check.proofs.Fields.{buffers_parts, counts_parts, limits_parts, recycled_parts, said_parts, setup_parts, stamps_parts}
use Rattle.audit_check.proofs.ReadParts.{after_found, after_only, bound, chosen, end_found, end_only, field_found, field_only, first_same, into, met, rest_same, short_found, short_only}

-- ---- what is read is as small as its type

right_of : (a b : Bool) → a && b ≡ true → b ≡ true
right_of true b e = e
right_of false b e = absurd cc

number_small : (row : List ℕ) (n : ℕ) (rest : List ℕ) → number_in row ≡ Some (n, rest) → n < 2 ^ 64
unfolding number_in printed
number_small row n rest e =
    let word : List ℕ = take (digit_count row) row in
    let value : ℕ = digits_value 10 word in
    let a = bound {B = ℕ × List ℕ} (printed word) (λ (number : ℕ). Some (number, drop (digit_count row) row)) (n, rest) e in
    let number : a.0 ≡ n = first_same {X = ℕ} {Y = List ℕ} (a.0, drop (digit_count row) row) (n, rest) a.2 in
    let b = bound (numeral 10 word) (λ (number : ℕ). if bytes_eq (decimal number) word then Some number else None) a.0 a.1 in
    let same : b.0 ≡ a.0 = same_Some b.0 a.0 (met (bytes_eq (decimal b.0) word) (Some b.0) a.0 b.2).1 in
    let fits = met (is_numeral 10 word && nat_le value 18446744073709551615) (Some value) b.0 b.1 in
    let low : value ≤ 18446744073709551615 = leb-true value 18446744073709551615 (right_of (is_numeral 10 word) (nat_le value 18446744073709551615) fits.0) in
    let is : value ≡ b.0 = same_Some value b.0 fits.1 in
    omega arith

pub field_small : (name row : List ℕ) (n : ℕ) (rest : List ℕ) → field_in name row ≡ Some (n, rest) → n < 2 ^ 64
unfolding field_in
field_small name row n rest e = let a = bound (after name row) number_in (n, rest) e in number_small a.0 n rest a.2

pub short_small : (name row : List ℕ) (n : ℕ) (rest : List ℕ) → short_in name row ≡ Some (n, rest) → n < 2 ^ 32
unfolding short_in
short_small name row n rest e =
    let a = bound (field_in name row) (λ (field : ℕ × List ℕ). if nat_lt field.0 (2 ^ 32) then Some field else None) (n, rest) e in
    let m = met (nat_lt a.0.0 (2 ^ 32)) (Some a.0) (n, rest) a.2 in
    let low : a.0.0 < 2 ^ 32 = ltb-true a.0.0 (2 ^ 32) m.0 in
    let same : a.0.0 ≡ n = first_same {X = ℕ} {Y = List ℕ} a.0 (n, rest) m.1 in
    omega arith

-- ---- rows of equal values

-- a row that begins with the text of a value begins with that of an equal one
with_same : {X : Type 0} (text : X → List ℕ) (row : List ℕ) (x y : X) (r s : List ℕ) → row ≡ text x ++ r → x ≡ y → r ≡ s → row ≡ text y ++ s
with_same {X} text row x y r s is same left = is ∙ (ap (λ (z : X). text z ++ r) same ∙ ap (λ (l : List ℕ). text y ++ l) left)

-- ---- the setup

buffers_chain : (threads size max : ℕ) (r0 r1 r2 r3 : List ℕ) → r0 ≡ codes "threads=" ++ (decimal threads ++ r1)
    → r1 ≡ codes " buffer-size=" ++ (decimal size ++ r2) → r2 ≡ codes " buffer-max=" ++ (decimal max ++ r3) → r0 ≡ buffers_part threads size max ++ r3
buffers_chain threads size max r0 r1 r2 r3 e0 e1 e2 = rw (e0, e1, e2) (sym (buffers_parts threads size max r3))

pub buffers_found : (row : List ℕ) (b : Buffers) (rest : List ℕ) → buffers_in row ≡ Some (b, rest) → row ≡ buffers_part b.threads b.size b.max ++ rest
unfolding buffers_in
buffers_found row b rest e =
    let t = bound {B = Buffers × List ℕ} (short_in (codes "threads=") row) _ (b, rest) e in
    let s = bound {B = Buffers × List ℕ} (short_in (codes " buffer-size=") t.0.1) _ (b, rest) t.2 in
    let m = bound {B = Buffers × List ℕ} (short_in (codes " buffer-max=") s.0.1) _ (b, rest) s.2 in
    let made : Buffers = record { threads = t.0.0; size = s.0.0; max = m.0.0 } in
    let same : made ≡ b = first_same {X = Buffers} {Y = List ℕ} (made, m.0.1) (b, rest) m.2 in
    let left : m.0.1 ≡ rest = rest_same {X = Buffers} {Y = List ℕ} (made, m.0.1) (b, rest) m.2 in
    with_same (λ (x : Buffers). buffers_part x.threads x.size x.max) row made b m.0.1 rest
    (buffers_chain t.0.0 s.0.0 m.0.0 row t.0.1 s.0.1 m.0.1 (short_found (codes "threads=") row t.0.0 t.0.1 t.1)
    (short_found (codes " buffer-size=") t.0.1 s.0.0 s.0.1 s.1) (short_found (codes " buffer-max=") s.0.1 m.0.0 m.0.1 m.1))
    same left

cpus_found : (row : List ℕ) (n : ℕ) (rest : List ℕ) → cpus_in row ≡ Some (n, rest) → row ≡ codes " cpus=" ++ (decimal n ++ rest)
unfolding cpus_in
cpus_found row n rest e =
    let a = bound (short_in (codes " cpus=") row) (λ (cpus : ℕ × List ℕ). if nat_lt cpus.0 (2 ^ 16) then Some cpus else None) (n, rest) e in
    let m = met (nat_lt a.0.0 (2 ^ 16)) (Some a.0) (n, rest) a.2 in
    short_found (codes " cpus=") row n rest (a.1 ∙ m.1)

limits_chain : (l : Limits) (r0 r1 r2 r3 r4 r5 r6 : List ℕ) → r0 ≡ codes " fuel=" ++ (decimal l.fuel ++ r1) → r1 ≡ codes " passings=" ++ (decimal l.passings ++ r2)
    → r2 ≡ codes " tick=" ++ (decimal l.tick ++ r3) → r3 ≡ codes " tsc=" ++ (decimal l.tsc ++ r4) → r4 ≡ codes " cpus=" ++ (decimal l.cpus ++ r5)
    → r5 ≡ codes " migrate=" ++ (decimal l.migrate ++ r6) → r0 ≡ limits_text l ++ r6
limits_chain l r0 r1 r2 r3 r4 r5 r6 e0 e1 e2 e3 e4 e5 = rw (e0, e1, e2, e3, e4, e5) (sym (limits_parts l r6))

pub limits_found : (row : List ℕ) (l : Limits) (rest : List ℕ) → limits_in row ≡ Some (l, rest) → row ≡ limits_text l ++ rest
unfolding limits_in
limits_found row l rest e =
    let f = bound {B = Limits × List ℕ} (field_in (codes " fuel=") row) _ (l, rest) e in
    let p = bound {B = Limits × List ℕ} (short_in (codes " passings=") f.0.1) _ (l, rest) f.2 in
    let t = bound {B = Limits × List ℕ} (field_in (codes " tick=") p.0.1) _ (l, rest) p.2 in
    let s = bound {B = Limits × List ℕ} (field_in (codes " tsc=") t.0.1) _ (l, rest) t.2 in
    let c = bound {B = Limits × List ℕ} (cpus_in s.0.1) _ (l, rest) s.2 in
    let m = bound {B = Limits × List ℕ} (short_in (codes " migrate=") c.0.1) _ (l, rest) c.2 in
    let made : Limits = record { fuel = f.0.0; passings = p.0.0; tick = t.0.0; tsc = s.0.0; cpus = c.0.0; migrate = m.0.0 } in
    let same : made ≡ l = first_same {X = Limits} {Y = List ℕ} (made, m.0.1) (l, rest) m.2 in
    let left : m.0.1 ≡ rest = rest_same {X = Limits} {Y = List ℕ} (made, m.0.1) (l, rest) m.2 in
    with_same limits_text row made l m.0.1 rest
    (limits_chain made row f.0.1 p.0.1 t.0.1 s.0.1 c.0.1 m.0.1 (field_found (codes " fuel=") row f.0.0 f.0.1 f.1)
    (short_found (codes " passings=") f.0.1 p.0.0 p.0.1 p.1) (field_found (codes " tick=") p.0.1 t.0.0 t.0.1 t.1)
    (field_found (codes " tsc=") t.0.1 s.0.0 s.0.1 s.1) (cpus_found s.0.1 c.0.0 c.0.1 c.1) (short_found (codes " migrate=") c.0.1 m.0.0 m.0.1 m.1))
    same left

stamps_chain : (s : Stamps) (r0 r1 r2 r3 r4 : List ℕ) → r0 ≡ codes " pid=" ++ (decimal s.pid ++ r1) → r1 ≡ codes " wall=" ++ (decimal s.wall.secs ++ r2)
    → r2 ≡ codes "." ++ (decimal s.wall.micros ++ r3) → r3 ≡ codes " frequency=" ++ (decimal s.frequency ++ r4)
    → r0 ≡ stamps_part s.pid s.wall s.frequency ++ r4
stamps_chain s r0 r1 r2 r3 r4 e0 e1 e2 e3 = rw (e0, e1, e2, e3) (sym (stamps_parts s.pid s.wall s.frequency r4))

pub stamps_found : (row : List ℕ) (s : Stamps) (rest : List ℕ) → stamps_in row ≡ Some (s, rest) → row ≡ stamps_part s.pid s.wall s.frequency ++ rest
unfolding stamps_in
stamps_found row s rest e =
    let p = bound {B = Stamps × List ℕ} (short_in (codes " pid=") row) _ (s, rest) e in
    let w = bound {B = Stamps × List ℕ} (field_in (codes " wall=") p.0.1) _ (s, rest) p.2 in
    let m = bound {B = Stamps × List ℕ} (short_in (codes ".") w.0.1) _ (s, rest) w.2 in
    let f = bound {B = Stamps × List ℕ} (field_in (codes " frequency=") m.0.1) _ (s, rest) m.2 in
    let made : Stamps = record { pid = p.0.0; wall = record { secs = w.0.0; micros = m.0.0 }; frequency = f.0.0 } in
    let same : made ≡ s = first_same {X = Stamps} {Y = List ℕ} (made, f.0.1) (s, rest) f.2 in
    let left : f.0.1 ≡ rest = rest_same {X = Stamps} {Y = List ℕ} (made, f.0.1) (s, rest) f.2 in
    with_same (λ (x : Stamps). stamps_part x.pid x.wall x.frequency) row made s f.0.1 rest
    (stamps_chain made row p.0.1 w.0.1 m.0.1 f.0.1 (short_found (codes " pid=") row p.0.0 p.0.1 p.1) (field_found (codes " wall=") p.0.1 w.0.0 w.0.1 w.1)
    (short_found (codes ".") w.0.1 m.0.0 m.0.1 m.1) (field_found (codes " frequency=") m.0.1 f.0.0 f.0.1 f.1))
    same left

setup_chain : (b : Buffers) (l : Limits) (s : Stamps) (r0 r1 r2 r3 : List ℕ) → r0 ≡ buffers_part b.threads b.size b.max ++ r1 → r1 ≡ limits_text l ++ r2
    → r2 ≡ stamps_part s.pid s.wall s.frequency ++ r3 → r3 ≡ line_feed → r0 ≡ setup_row (setup_by b l s)
setup_chain b l s r0 r1 r2 r3 e0 e1 e2 e3 =
    e0
    ∙ (ap (λ (r : List ℕ). buffers_part b.threads b.size b.max ++ r)
    (e1 ∙ ap (λ (r : List ℕ). limits_text l ++ r) (e2 ∙ ap (λ (r : List ℕ). stamps_part s.pid s.wall s.frequency ++ r) e3))
    ∙ sym (setup_parts (setup_by b l s)))

pub setup_found : (row : List ℕ) (s : Setup) → setup_in row ≡ Some s → row ≡ setup_row s
unfolding setup_in
setup_found row s e =
    let b = bound {B = Setup} (buffers_in row) _ s e in
    let l = bound {B = Setup} (limits_in b.0.1) _ s b.2 in
    let t = bound {B = Setup} (stamps_in l.0.1) _ s l.2 in
    let m = met (bytes_eq t.0.1 line_feed) (Some (setup_by b.0.0 l.0.0 t.0.0)) s t.2 in
    setup_chain b.0.0 l.0.0 t.0.0 row b.0.1 l.0.1 t.0.1 (buffers_found row b.0.0 b.0.1 b.1) (limits_found b.0.1 l.0.0 l.0.1 l.1)
    (stamps_found l.0.1 t.0.0 t.0.1 t.1) ((bytes_eq-Decides t.0.1 line_feed).0 m.0)
    ∙ ap setup_row (same_Some (setup_by b.0.0 l.0.0 t.0.0) s m.1)

-- a setup of a run, from its parts
pub setup_is : (s : Setup) → AreBuffers s → AreLimits s.limits → AreStamps s → s.wall.secs < 2 ^ 64 → s.frequency < 2 ^ 64 → IsSetup s
setup_is s buffers limits stamps secs frequency = record {
  some_thread = buffers.some_thread;
  few_threads = buffers.few_threads;
  least = buffers.least;
  most = buffers.most;
  enough = buffers.enough;
  few_buffers = buffers.few_buffers;
  room = buffers.room;
  limits_are = limits;
  pid = stamps.pid;
  wall_is = record { secs = secs; micros = stamps.micros };
  frequency = frequency;
}

pub buffers_are : (s : Setup) → IsSetup s → AreBuffers s
buffers_are s is = record {
  some_thread = is.some_thread;
  few_threads = is.few_threads;
  least = is.least;
  most = is.most;
  enough = is.enough;
  few_buffers = is.few_buffers;
  room = is.room;
}

pub stamps_are : (s : Setup) → IsSetup s → AreStamps s
stamps_are s is = record { pid = is.pid; micros = is.wall_is.micros }

-- ---- a thread, and the end

said_chain : (c : Counts) (r0 r1 r2 r3 r4 r5 r6 : List ℕ) → r0 ≡ codes " " ++ r1 → r1 ≡ end_text c.end ++ r2
    → r2 ≡ codes " passings " ++ (decimal c.passings ++ r3) → r3 ≡ codes " recorded " ++ (decimal c.recorded ++ r4)
    → r4 ≡ codes " segments " ++ (decimal c.segments ++ r5) → r5 ≡ codes " first " ++ (decimal c.first ++ r6) → r0 ≡ counts_part c ++ r6
said_chain c r0 r1 r2 r3 r4 r5 r6 e0 e1 e2 e3 e4 e5 = rw (e0, e1, e2, e3, e4, e5) (sym (said_parts c r6))

-- what is read of a thread, and that its counts have 32 bits
record IsSaid (row : List ℕ) (c : Counts) (rest : List ℕ) : Type 0 where
  text : row ≡ counts_part c ++ rest
  short : HasShortCounts c

said_found : (row : List ℕ) (c : Counts) (rest : List ℕ) → said_in row ≡ Some (c, rest) → IsSaid row c rest
unfolding said_in
said_found row c rest e =
    let b = bound {B = Counts × List ℕ} (after (codes " ") row) _ (c, rest) e in
    let n = bound {B = Counts × List ℕ} (end_in b.0) _ (c, rest) b.2 in
    let p = bound {B = Counts × List ℕ} (short_in (codes " passings ") n.0.1) _ (c, rest) n.2 in
    let r = bound {B = Counts × List ℕ} (short_in (codes " recorded ") p.0.1) _ (c, rest) p.2 in
    let s = bound {B = Counts × List ℕ} (short_in (codes " segments ") r.0.1) _ (c, rest) r.2 in
    let f = bound {B = Counts × List ℕ} (short_in (codes " first ") s.0.1) _ (c, rest) s.2 in
    let made : Counts = record { end = n.0.0; passings = p.0.0; recorded = r.0.0; segments = s.0.0; first = f.0.0 } in
    let same : made ≡ c = first_same {X = Counts} {Y = List ℕ} (made, f.0.1) (c, rest) f.2 in
    let left : f.0.1 ≡ rest = rest_same {X = Counts} {Y = List ℕ} (made, f.0.1) (c, rest) f.2 in
    let has : IsSaid row made f.0.1 = record {
      text = said_chain made row b.0 n.0.1 p.0.1 r.0.1 s.0.1 f.0.1 (after_found (codes " ") row b.0 b.1) (end_found b.0 n.0.0 n.0.1 n.1)
          (short_found (codes " passings ") n.0.1 p.0.0 p.0.1 p.1) (short_found (codes " recorded ") p.0.1 r.0.0 r.0.1 r.1)
          (short_found (codes " segments ") r.0.1 s.0.0 s.0.1 s.1) (short_found (codes " first ") s.0.1 f.0.0 f.0.1 f.1);
      short = record {
        passings = short_small (codes " passings ") n.0.1 p.0.0 p.0.1 p.1;
        recorded = short_small (codes " recorded ") p.0.1 r.0.0 r.0.1 r.1;
        segments = short_small (codes " segments ") r.0.1 s.0.0 s.0.1 s.1;
        first = short_small (codes " first ") s.0.1 f.0.0 f.0.1 f.1;
      };
    } in
    subst (λ (x : Counts). IsSaid row x rest) same (subst (λ (l : List ℕ). IsSaid row made l) left has)

-- what the first row of a thread says, by its text
pub record SaysCounts (thread : ℕ) (row : List ℕ) (c : Counts) : Type 0 where
  pub text : row ≡ counts_row thread c
  pub short : HasShortCounts c

counts_chain : (thread number : ℕ) (c : Counts) (r0 r1 r2 : List ℕ) → r0 ≡ codes "thread " ++ (decimal number ++ r1) → number ≡ thread
    → r1 ≡ counts_part c ++ r2 → r2 ≡ line_feed → r0 ≡ counts_row thread c
counts_chain thread number c r0 r1 r2 e0 same e1 e2 = rw (e0, same, e1, e2) (sym (counts_parts thread c))

pub counts_found : (thread : ℕ) (row : List ℕ) (c : Counts) → counts_in thread row ≡ Some c → SaysCounts thread row c
unfolding counts_in
counts_found thread row c e =
    let n = bound {B = Counts} (short_in (codes "thread ") row) _ c e in
    let m = met (n.0.0 == thread) _ c n.2 in
    let s = bound {B = Counts} (said_in n.0.1) _ c m.1 in
    let f = met (bytes_eq s.0.1 line_feed) (Some s.0.0) c s.2 in
    let said = said_found n.0.1 s.0.0 s.0.1 s.1 in
    let has : SaysCounts thread row s.0.0 = record {
      text = counts_chain thread n.0.0 s.0.0 row n.0.1 s.0.1 (short_found (codes "thread ") row n.0.0 n.0.1 n.1) (eqb-true n.0.0 thread m.0)
          said.text ((bytes_eq-Decides s.0.1 line_feed).0 f.0);
      short = said.short;
    } in
    subst (λ (x : Counts). SaysCounts thread row x) (same_Some s.0.0 c f.1) has

pub recycled_found : (row : List ℕ) (n : ℕ) → recycled_in row ≡ Some n → (row ≡ recycled_line n) × (n < 2 ^ 64)
unfolding recycled_in
recycled_found row n e =
    let a = bound {B = ℕ} (field_in (codes "recycled ") row) _ n e in
    let m = met (bytes_eq a.0.1 line_feed) (Some a.0.0) n a.2 in
    let same : a.0.0 ≡ n = same_Some a.0.0 n m.1 in
    let text : row ≡ codes "recycled " ++ (decimal a.0.0 ++ a.0.1) = field_found (codes "recycled ") row a.0.0 a.0.1 a.1 in
    let feed : a.0.1 ≡ line_feed = (bytes_eq-Decides a.0.1 line_feed).0 m.0 in (
      text
          ∙ (ap (λ (l : List ℕ). codes "recycled " ++ (decimal a.0.0 ++ l)) feed
          ∙ (ap (λ (k : ℕ). codes "recycled " ++ (decimal k ++ line_feed)) same ∙ sym (recycled_parts n))),
      subst (λ (k : ℕ). k < 2 ^ 64) same (field_small (codes "recycled ") row a.0.0 a.0.1 a.1),
    )

-- ---- what the parts of a row give

pub buffers_by : (row r1 r2 r3 : List ℕ) (b : Buffers) → short_in (codes "threads=") row ≡ Some (b.threads, r1)
    → short_in (codes " buffer-size=") r1 ≡ Some (b.size, r2) → short_in (codes " buffer-max=") r2 ≡ Some (b.max, r3) → buffers_in row ≡ Some (b, r3)
unfolding buffers_in
buffers_by row r1 r2 r3 b e0 e1 e2 =
    into {B = Buffers × List ℕ} (short_in (codes "threads=") row) _ (b.threads, r1) e0
    ∙ (into {B = Buffers × List ℕ} (short_in (codes " buffer-size=") r1) _ (b.size, r2) e1
    ∙ into {B = Buffers × List ℕ} (short_in (codes " buffer-max=") r2) _ (b.max, r3) e2)

limits_by : (row r1 r2 r3 r4 r5 r6 : List ℕ) (l : Limits) → field_in (codes " fuel=") row ≡ Some (l.fuel, r1)
    → short_in (codes " passings=") r1 ≡ Some (l.passings, r2) → field_in (codes " tick=") r2 ≡ Some (l.tick, r3)
    → field_in (codes " tsc=") r3 ≡ Some (l.tsc, r4) → cpus_in r4 ≡ Some (l.cpus, r5) → short_in (codes " migrate=") r5 ≡ Some (l.migrate, r6)
    → limits_in row ≡ Some (l, r6)
unfolding limits_in
limits_by row r1 r2 r3 r4 r5 r6 l e0 e1 e2 e3 e4 e5 =
    into {B = Limits × List ℕ} (field_in (codes " fuel=") row) _ (l.fuel, r1) e0
    ∙ (into {B = Limits × List ℕ} (short_in (codes " passings=") r1) _ (l.passings, r2) e1
    ∙ (into {B = Limits × List ℕ} (field_in (codes " tick=") r2) _ (l.tick, r3) e2
    ∙ (into {B = Limits × List ℕ} (field_in (codes " tsc=") r3) _ (l.tsc, r4) e3
    ∙ (into {B = Limits × List ℕ} (cpus_in r4) _ (l.cpus, r5) e4
    ∙ into {B = Limits × List ℕ} (short_in (codes " migrate=") r5) _ (l.migrate, r6) e5))))

stamps_by : (row r1 r2 r3 r4 : List ℕ) (s : Stamps) → short_in (codes " pid=") row ≡ Some (s.pid, r1)
    → field_in (codes " wall=") r1 ≡ Some (s.wall.secs, r2) → short_in (codes ".") r2 ≡ Some (s.wall.micros, r3)
    → field_in (codes " frequency=") r3 ≡ Some (s.frequency, r4) → stamps_in row ≡ Some (s, r4)
unfolding stamps_in
stamps_by row r1 r2 r3 r4 s e0 e1 e2 e3 =
    into {B = Stamps × List ℕ} (short_in (codes " pid=") row) _ (s.pid, r1) e0
    ∙ (into {B = Stamps × List ℕ} (field_in (codes " wall=") r1) _ (s.wall.secs, r2) e1
    ∙ (into {B = Stamps × List ℕ} (short_in (codes ".") r2) _ (s.wall.micros, r3) e2
    ∙ into {B = Stamps × List ℕ} (field_in (codes " frequency=") r3) _ (s.frequency, r4) e3))

setup_by_parts : (row r1 r2 : List ℕ) (b : Buffers) (l : Limits) (s : Stamps) → buffers_in row ≡ Some (b, r1) → limits_in r1 ≡ Some (l, r2)
    → stamps_in r2 ≡ Some (s, line_feed) → setup_in row ≡ Some (setup_by b l s)
unfolding setup_in
setup_by_parts row r1 r2 b l s e0 e1 e2 =
    into {B = Setup} (buffers_in row) _ (b, r1) e0
    ∙ (into {B = Setup} (limits_in r1) _ (l, r2) e1 ∙ into {B = Setup} (stamps_in r2) _ (s, line_feed) e2)

said_by_parts : (row r1 r2 r3 r4 r5 r6 : List ℕ) (c : Counts) → after (codes " ") row ≡ Some r1 → end_in r1 ≡ Some (c.end, r2)
    → short_in (codes " passings ") r2 ≡ Some (c.passings, r3) → short_in (codes " recorded ") r3 ≡ Some (c.recorded, r4)
    → short_in (codes " segments ") r4 ≡ Some (c.segments, r5) → short_in (codes " first ") r5 ≡ Some (c.first, r6) → said_in row ≡ Some (c, r6)
unfolding said_in
said_by_parts row r1 r2 r3 r4 r5 r6 c e0 e1 e2 e3 e4 e5 =
    into {B = Counts × List ℕ} (after (codes " ") row) _ r1 e0
    ∙ (into {B = Counts × List ℕ} (end_in r1) _ (c.end, r2) e1
    ∙ (into {B = Counts × List ℕ} (short_in (codes " passings ") r2) _ (c.passings, r3) e2
    ∙ (into {B = Counts × List ℕ} (short_in (codes " recorded ") r3) _ (c.recorded, r4) e3
    ∙ (into {B = Counts × List ℕ} (short_in (codes " segments ") r4) _ (c.segments, r5) e4
    ∙ into {B = Counts × List ℕ} (short_in (codes " first ") r5) _ (c.first, r6) e5))))

-- ---- rows that are printed are read

module _ (reads : WrittenNumbersRead) where
  buffers_only : (b : Buffers) (rest : List ℕ) → b.threads < 2 ^ 32 → b.size < 2 ^ 32 → b.max < 2 ^ 32 → BeginsNoDigit rest
      → buffers_in (buffers_part b.threads b.size b.max ++ rest) ≡ Some (b, rest)
  buffers_only b rest threads size max none =
      let r2 : List ℕ = codes " buffer-max=" ++ (decimal b.max ++ rest) in
      let r1 : List ℕ = codes " buffer-size=" ++ (decimal b.size ++ r2) in
      subst (λ (row : List ℕ). buffers_in row ≡ Some (b, rest)) (sym (buffers_parts b.threads b.size b.max rest))
      (buffers_by (codes "threads=" ++ (decimal b.threads ++ r1)) r1 r2 rest b (short_only reads (codes "threads=") b.threads r1 threads refl)
      (short_only reads (codes " buffer-size=") b.size r2 size refl) (short_only reads (codes " buffer-max=") b.max rest max none))

  cpus_only : (n : ℕ) (rest : List ℕ) → n ≤ 65535 → BeginsNoDigit rest → cpus_in (codes " cpus=" ++ (decimal n ++ rest)) ≡ Some (n, rest)
  unfolding cpus_in
  cpus_only n rest low none =
      into (short_in (codes " cpus=") (codes " cpus=" ++ (decimal n ++ rest))) (λ (cpus : ℕ × List ℕ). if nat_lt cpus.0 (2 ^ 16) then Some cpus else None) (n, rest)
      (short_only reads (codes " cpus=") n rest (omega arith) none)
      ∙ chosen {X = Option (ℕ × List ℕ)} (nat_lt n (2 ^ 16)) (Some (n, rest)) None (lt-ltb n (2 ^ 16) (omega arith))

  limits_only : (l : Limits) (rest : List ℕ) → AreLimits l → BeginsNoDigit rest → limits_in (limits_text l ++ rest) ≡ Some (l, rest)
  limits_only l rest are none =
      let r5 : List ℕ = codes " migrate=" ++ (decimal l.migrate ++ rest) in
      let r4 : List ℕ = codes " cpus=" ++ (decimal l.cpus ++ r5) in
      let r3 : List ℕ = codes " tsc=" ++ (decimal l.tsc ++ r4) in
      let r2 : List ℕ = codes " tick=" ++ (decimal l.tick ++ r3) in
      let r1 : List ℕ = codes " passings=" ++ (decimal l.passings ++ r2) in
      subst (λ (row : List ℕ). limits_in row ≡ Some (l, rest)) (sym (limits_parts l rest))
      (limits_by (codes " fuel=" ++ (decimal l.fuel ++ r1)) r1 r2 r3 r4 r5 rest l
      (field_only reads (codes " fuel=") l.fuel r1 (let low = are.fuel in omega arith) refl)
      (short_only reads (codes " passings=") l.passings r2 (let low = are.passings in omega arith) refl)
      (field_only reads (codes " tick=") l.tick r3 are.tick refl) (field_only reads (codes " tsc=") l.tsc r4 are.tsc refl)
      (cpus_only l.cpus r5 are.few_cpus refl)
      (short_only reads (codes " migrate=") l.migrate rest (let low = are.short_stay in omega arith) none))

  stamps_only : (s : Stamps) (rest : List ℕ) → s.pid < 2 ^ 32 → s.wall.secs < 2 ^ 64 → s.wall.micros < 2 ^ 32 → s.frequency < 2 ^ 64 → BeginsNoDigit rest
      → stamps_in (stamps_part s.pid s.wall s.frequency ++ rest) ≡ Some (s, rest)
  stamps_only s rest pid secs micros frequency none =
      let r3 : List ℕ = codes " frequency=" ++ (decimal s.frequency ++ rest) in
      let r2 : List ℕ = codes "." ++ (decimal s.wall.micros ++ r3) in
      let r1 : List ℕ = codes " wall=" ++ (decimal s.wall.secs ++ r2) in
      subst (λ (row : List ℕ). stamps_in row ≡ Some (s, rest)) (sym (stamps_parts s.pid s.wall s.frequency rest))
      (stamps_by (codes " pid=" ++ (decimal s.pid ++ r1)) r1 r2 r3 rest s (short_only reads (codes " pid=") s.pid r1 pid refl)
      (field_only reads (codes " wall=") s.wall.secs r2 secs refl) (short_only reads (codes ".") s.wall.micros r3 micros refl)
      (field_only reads (codes " frequency=") s.frequency rest frequency none))

  pub setup_only : (s : Setup) → IsSetup s → setup_in (setup_row s) ≡ Some s
  setup_only s is =
      let buffers : Buffers = record { threads = s.threads; size = s.size; max = s.max } in
      let stamps : Stamps = record { pid = s.pid; wall = s.wall; frequency = s.frequency } in
      let r2 : List ℕ = stamps_part s.pid s.wall s.frequency ++ line_feed in
      let r1 : List ℕ = limits_text s.limits ++ r2 in
      subst (λ (row : List ℕ). setup_in row ≡ Some s) (sym (setup_parts s))
      (setup_by_parts (buffers_part s.threads s.size s.max ++ r1) r1 r2 buffers s.limits stamps
      (buffers_only buffers r1 (let low = is.few_threads in omega arith) (let low = is.most in omega arith) (let low = is.few_buffers in omega arith) refl)
      (limits_only s.limits r2 is.limits_are refl)
      (stamps_only stamps line_feed (let low = is.pid in omega arith) is.wall_is.secs (let low = is.wall_is.micros in omega arith) is.frequency refl))

  said_only : (c : Counts) (rest : List ℕ) → HasShortCounts c → BeginsNoDigit rest → said_in (counts_part c ++ rest) ≡ Some (c, rest)
  said_only c rest has none =
      let r5 : List ℕ = codes " first " ++ (decimal c.first ++ rest) in
      let r4 : List ℕ = codes " segments " ++ (decimal c.segments ++ r5) in
      let r3 : List ℕ = codes " recorded " ++ (decimal c.recorded ++ r4) in
      let r2 : List ℕ = codes " passings " ++ (decimal c.passings ++ r3) in
      let r1 : List ℕ = end_text c.end ++ r2 in
      subst (λ (row : List ℕ). said_in row ≡ Some (c, rest)) (sym (said_parts c rest))
      (said_by_parts (codes " " ++ r1) r1 r2 r3 r4 r5 rest c (after_only (codes " ") r1) (end_only c.end r2)
      (short_only reads (codes " passings ") c.passings r3 has.passings refl) (short_only reads (codes " recorded ") c.recorded r4 has.recorded refl)
      (short_only reads (codes " segments ") c.segments r5 has.segments refl) (short_only reads (codes " first ") c.first rest has.first none))

  pub counts_only : (thread : ℕ) (c : Counts) → thread < 2 ^ 32 → HasShortCounts c → counts_in thread (counts_row thread c) ≡ Some c
  unfolding counts_in
  counts_only thread c small has =
      let r1 : List ℕ = counts_part c ++ line_feed in
      let r0 : List ℕ = codes "thread " ++ (decimal thread ++ r1) in
      ap (counts_in thread) (counts_parts thread c)
      ∙ (into {B = Counts} (short_in (codes "thread ") r0) _ (thread, r1) (short_only reads (codes "thread ") thread r1 small refl)
      ∙ (chosen (thread == thread) _ None (eq-eqb thread thread refl)
      ∙ into {B = Counts} (said_in r1) _ (c, line_feed) (said_only c line_feed has refl)))

  pub recycled_only : (n : ℕ) → n < 2 ^ 64 → recycled_in (recycled_line n) ≡ Some n
  unfolding recycled_in
  recycled_only n small =
      ap recycled_in (recycled_parts n)
      ∙ into {B = ℕ} (field_in (codes "recycled ") (codes "recycled " ++ (decimal n ++ line_feed))) _ (n, line_feed)
      (field_only reads (codes "recycled ") n line_feed small refl)

  -- the row of a setup tells the setup
  pub setup_tells : (s t : Setup) → IsSetup s → IsSetup t → setup_row s ≡ setup_row t → s ≡ t
  setup_tells s t is is' same = same_Some s t (sym (setup_only s is) ∙ (ap setup_in same ∙ setup_only t is'))
