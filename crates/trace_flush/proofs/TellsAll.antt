-- The text of an audit determines its run.
use Rattle.std.proofs.Common.{◌≡◌, ◌<◌, ◌≤◌, ◌^◌, ℕ, suc, Bool, true, false, cond, List, [], ◌∷◌, ◌++◌, get_or, nat_lt, refl, sym, ap, ◌∙◌, arith, append_assoc}
use Rattle.std.specs.Prelude.{All, codes, decimal, ◌==◌}
use Rattle.std.specs.List.{flat_map}
use Rattle.std.proofs.lemmas.Bool.{ltb-true}
use Rattle.std.proofs.lemmas.Fmt.{decimal_injective}
use Rattle.xray_io.specs.declared.wall.Wall.{Wall}
use Rattle.handler_word.specs.declared.mark.Mark.{Mark}
use Rattle.handler_word.specs.Runs.{runs_text}
use Rattle.machine_step.specs.declared.end.End.{End}
use Rattle.machine_step.specs.declared.end.End.TheVariants as ends
use Rattle.machine_step.specs.declared.limits.Limits.{Limits}
use Rattle.machine_step.specs.declared.setup.Setup.{Setup}
use Rattle.machine_step.specs.Texts.{end_text, marks_line, line_feed}
use Rattle.trace_flush.specs.Audit.{ThreadAudit, audit_text, buffers_text, limits_text, stamps_text, setup_lines, thread_line, thread_lines, recycled_line}
use Rattle.trace_flush.specs.Telling.{HasNumbers, HasSetupNumbers, setup_numbers}
use Rattle.trace_flush.proofs.Digits.{IsAbove, split_at, number_split, following}
use Rattle.trace_flush.proofs.TellsMarks.{marks_tell}

-- ---- ends

-- the end by its name's first letter; those that begin alike, by their seventh
end_named : List ℕ → End
end_named name =
    cond (get_or name 0 0 == 114) ends.Returned (cond (get_or name 0 0 == 102) ends.Fuel (cond (get_or name 0 0 == 112) ends.Passings
    (cond (get_or name 0 0 == 111) ends.OutputFull (cond (get_or name 0 0 == 98) ends.BadTarget
    (cond (get_or name 6 0 == 102) ends.StackFull ends.StackEmpty)))))

end_named-end_text : (end : End) → end_named (end_text end) ≡ end
unfolding end_named
end_named-end_text ends.Returned = refl
end_named-end_text ends.Fuel = refl
end_named-end_text ends.Passings = refl
end_named-end_text ends.OutputFull = refl
end_named-end_text ends.StackFull = refl
end_named-end_text ends.StackEmpty = refl
end_named-end_text ends.BadTarget = refl

-- no name has a space in it
is_above : ℕ → List ℕ → Bool
is_above low [] = true
is_above low (x ∷ xs) = cond (nat_lt low x) (is_above low xs) false

above_tested : (low : ℕ) (xs : List ℕ) → is_above low xs ≡ true → IsAbove low xs
unfolding is_above
above_tested low [] passes = tt
above_tested low (x ∷ xs) passes = by_test (nat_lt low x) refl (above_tested low xs) passes
  where
    by_test : (test : Bool) → nat_lt low x ≡ test → (is_above low xs ≡ true → IsAbove low xs) → cond test (is_above low xs) false ≡ true
        → (low < x) × IsAbove low xs
    by_test true is rest passed = (ltb-true low x is, rest passed)
    by_test false is rest passed = absurd cc

end_above : (end : End) → IsAbove 32 (end_text end)
unfolding is_above
end_above ends.Returned = above_tested 32 (codes "returned") refl
end_above ends.Fuel = above_tested 32 (codes "fuel") refl
end_above ends.Passings = above_tested 32 (codes "passings") refl
end_above ends.OutputFull = above_tested 32 (codes "output-full") refl
end_above ends.StackFull = above_tested 32 (codes "stack-full") refl
end_above ends.StackEmpty = above_tested 32 (codes "stack-empty") refl
end_above ends.BadTarget = above_tested 32 (codes "bad-target") refl

end_split : (end other : End) (r s : List ℕ) → end_text end ++ 32 ∷ r ≡ end_text other ++ 32 ∷ s → (end ≡ other) × (r ≡ s)
end_split end other r s same =
    let split = split_at 32 (end_text end) (end_text other) 32 32 r s (end_above end) (end_above other) (omega arith) (omega arith) same in
    let rest = split.1 in
    (sym (end_named-end_text end) ∙ (ap end_named split.0 ∙ end_named-end_text other), cc)

-- ---- a number of 64 bits

number_tells : (m n c d : ℕ) (r s : List ℕ) → m < 2 ^ 64 → n < 2 ^ 64 → c ≤ 47 → d ≤ 47 → decimal m ++ c ∷ r ≡ decimal n ++ d ∷ s
    → (m ≡ n) × (r ≡ s)
number_tells m n c d r s small small' low low' same =
    let split = number_split m n c d r s low low' same in
    let rest = split.1 in
    (decimal_injective m n small small' split.0, cc)

-- ---- a thread's lines

-- a thread's lines and what follows them, each part before the next
abbrev line_before : ThreadAudit → List ℕ → List ℕ
line_before said rest =
    codes "thread " ++ (decimal said.thread ++ (codes " " ++ (end_text said.end ++ (codes " passings " ++ (decimal said.passings
    ++ (codes " recorded " ++ (decimal said.recorded ++ (codes " segments " ++ (decimal said.segments ++ (codes " first " ++ (decimal said.first
    ++ 10 ∷ rest)))))))))))

abbrev lines_before : ThreadAudit → List ℕ → List ℕ
lines_before said rest = line_before said (codes "marks " ++ (runs_text said.marks ++ 10 ∷ rest))

line_is : (said : ThreadAudit) (rest : List ℕ) → thread_line said ++ rest ≡ line_before said rest
line_is said rest = simp append_assoc

lines_are : (said : ThreadAudit) (rest : List ℕ) → thread_lines said ++ rest ≡ lines_before said rest
lines_are said rest =
    append_assoc (thread_line said) (marks_line said.marks) rest
    ∙ (line_is said (marks_line said.marks ++ rest)
    ∙ ap (line_before said) (append_assoc (codes "marks " ++ runs_text said.marks) line_feed rest ∙ append_assoc (codes "marks ") (runs_text said.marks) (10 ∷ rest)))

-- what is said of threads with the same numbers, ends and marks is the same
made : ℕ → End → ℕ → ℕ → ℕ → ℕ → List Mark → ThreadAudit
made thread end passings recorded segments first marks =
    record { thread = thread; end = end; passings = passings; recorded = recorded; segments = segments; first = first; marks = marks }

is_made_of : (said : ThreadAudit) → said ≡ made said.thread said.end said.passings said.recorded said.segments said.first said.marks
unfolding made
is_made_of said = refl

pub one_audit : (said other : ThreadAudit) → said.thread ≡ other.thread → said.end ≡ other.end → said.passings ≡ other.passings
    → said.recorded ≡ other.recorded → said.segments ≡ other.segments → said.first ≡ other.first → said.marks ≡ other.marks → said ≡ other
one_audit said other threads ends_same passings recorded segments firsts marks = cc (is_made_of said, is_made_of other)

-- the lines of a thread determine what is said of it
thread_tells : (said other : ThreadAudit) (r s : List ℕ) → HasNumbers said → HasNumbers other
    → lines_before said r ≡ lines_before other s → (said ≡ other) × (r ≡ s)
thread_tells said other r s small small' same =
    let one = number_tells said.thread other.thread 32 32 _ _ small.number small'.number (omega arith) (omega arith) (following (codes "thread ") _ _ same) in
    let two = end_split said.end other.end _ _ one.1 in
    let three = number_tells said.passings other.passings 32 32 _ _ small.passings small'.passings (omega arith) (omega arith) (following (codes "passings ") _ _ two.1) in
    let four = number_tells said.recorded other.recorded 32 32 _ _ small.recorded small'.recorded (omega arith) (omega arith) (following (codes " recorded ") _ _ (next 32 _ _ three.1)) in
    let five = number_tells said.segments other.segments 32 32 _ _ small.segments small'.segments (omega arith) (omega arith) (following (codes " segments ") _ _ (next 32 _ _ four.1)) in
    let six = number_tells said.first other.first 10 10 _ _ small.first small'.first (omega arith) (omega arith) (following (codes " first ") _ _ (next 32 _ _ five.1)) in
    let seven = marks_tell said.marks other.marks r s small.marks small'.marks (following (codes "marks ") _ _ six.1) in
    (one_audit said other one.0 two.0 three.0 four.0 five.0 six.0 seven.0, seven.1)
  where
    next : (byte : ℕ) (xs ys : List ℕ) → xs ≡ ys → byte ∷ xs ≡ byte ∷ ys
    next byte xs ys alike = ap (λ (l : List ℕ). byte ∷ l) alike

-- ---- the lines of all threads

threads_tell : (threads others : List ThreadAudit) (r s : List ℕ) → All HasNumbers threads → All HasNumbers others
    → flat_map thread_lines threads ++ (codes "recycled " ++ r) ≡ flat_map thread_lines others ++ (codes "recycled " ++ s)
    → (threads ≡ others) × (r ≡ s)
threads_tell [] [] r s small small' same = (refl, following (codes "recycled ") r s same)
threads_tell [] (other ∷ others) r s small small' same = let first : ◌≡◌ {A = ℕ} 114 116 = cc in absurd (omega arith)
threads_tell (said ∷ threads) [] r s small small' same = let first : ◌≡◌ {A = ℕ} 116 114 = cc in absurd (omega arith)
threads_tell (said ∷ threads) (other ∷ others) r s small small' same =
    let rest = flat_map thread_lines threads ++ (codes "recycled " ++ r) in
    let rest' = flat_map thread_lines others ++ (codes "recycled " ++ s) in
    let parts : lines_before said rest ≡ lines_before other rest' =
    sym (lines_are said rest) ∙ (sym (append_assoc (thread_lines said) (flat_map thread_lines threads) (codes "recycled " ++ r))
    ∙ (same ∙ (append_assoc (thread_lines other) (flat_map thread_lines others) (codes "recycled " ++ s) ∙ lines_are other rest'))) in
    let first = thread_tells said other rest rest' (small 0 said (omega arith)) (small' 0 said (omega arith)) parts in
    let later = threads_tell threads others r s (λ k d within. small (suc k) d (omega arith)) (λ k d within. small' (suc k) d (omega arith)) first.1 in
    (ap (λ (t : ThreadAudit). t ∷ threads) first.0 ∙ ap (λ (ts : List ThreadAudit). other ∷ ts) later.0, later.1)

-- ---- the line of the setup

abbrev buffers_before : Setup → List ℕ → List ℕ
buffers_before setup rest =
    codes "xray-audit 1" ++ (10 ∷ (codes "threads=" ++ (decimal setup.threads ++ (codes " buffer-size=" ++ (decimal setup.size
    ++ (codes " buffer-max=" ++ (decimal setup.max ++ rest)))))))

abbrev limits_before : Limits → List ℕ → List ℕ
limits_before limits rest =
    codes " fuel=" ++ (decimal limits.fuel ++ (codes " passings=" ++ (decimal limits.passings ++ (codes " tick=" ++ (decimal limits.tick
    ++ (codes " tsc=" ++ (decimal limits.tsc ++ (codes " cpus=" ++ (decimal limits.cpus ++ (codes " migrate=" ++ (decimal limits.migrate ++ rest)))))))))))

abbrev stamps_before : Setup → List ℕ → List ℕ
stamps_before setup rest =
    codes " pid=" ++ (decimal setup.pid ++ (codes " wall=" ++ (decimal setup.wall.secs ++ (codes "." ++ (decimal setup.wall.micros
    ++ (codes " frequency=" ++ (decimal setup.frequency ++ 10 ∷ rest)))))))

abbrev setup_before : Setup → List ℕ → List ℕ
setup_before setup rest = buffers_before setup (limits_before setup.limits (stamps_before setup rest))

buffers_are : (setup : Setup) (rest : List ℕ) → buffers_text setup ++ rest ≡ buffers_before setup rest
buffers_are setup rest = simp append_assoc

limits_are : (limits : Limits) (rest : List ℕ) → limits_text limits ++ rest ≡ limits_before limits rest
limits_are limits rest = simp append_assoc

stamps_are : (setup : Setup) (rest : List ℕ) → stamps_text setup ++ rest ≡ stamps_before setup rest
stamps_are setup rest = simp append_assoc

setup_is : (setup : Setup) (rest : List ℕ) → setup_lines setup ++ rest ≡ setup_before setup rest
setup_is setup rest =
    let buffers = buffers_text setup in
    let limits = limits_text setup.limits in
    let stamps = stamps_text setup in
    append_assoc (buffers ++ limits) stamps rest ∙ (append_assoc buffers limits (stamps ++ rest) ∙ (buffers_are setup (limits ++ (stamps ++ rest))
    ∙ ap (buffers_before setup) (limits_are setup.limits (stamps ++ rest) ∙ ap (limits_before setup.limits) (stamps_are setup rest))))

-- what the setups of two equal texts have in common: the digits of their numbers
record IsToldAlike (setup setup' : Setup) : Type 0 where
  threads : decimal setup.threads ≡ decimal setup'.threads
  size : decimal setup.size ≡ decimal setup'.size
  max : decimal setup.max ≡ decimal setup'.max
  fuel : decimal setup.limits.fuel ≡ decimal setup'.limits.fuel
  passings : decimal setup.limits.passings ≡ decimal setup'.limits.passings
  tick : decimal setup.limits.tick ≡ decimal setup'.limits.tick
  tsc : decimal setup.limits.tsc ≡ decimal setup'.limits.tsc
  cpus : decimal setup.limits.cpus ≡ decimal setup'.limits.cpus
  migrate : decimal setup.limits.migrate ≡ decimal setup'.limits.migrate
  pid : decimal setup.pid ≡ decimal setup'.pid
  secs : decimal setup.wall.secs ≡ decimal setup'.wall.secs
  micros : decimal setup.wall.micros ≡ decimal setup'.wall.micros
  frequency : decimal setup.frequency ≡ decimal setup'.frequency

-- the same bytes, and then a number
field : (front : List ℕ) (m n c d : ℕ) (r s : List ℕ) → c ≤ 47 → d ≤ 47 → front ++ (decimal m ++ c ∷ r) ≡ front ++ (decimal n ++ d ∷ s)
    → (decimal m ≡ decimal n) × (c ∷ r ≡ d ∷ s)
field front m n c d r s low low' same = number_split m n c d r s low low' (following front _ _ same)

setup_tells : (setup setup' : Setup) (r s : List ℕ) → setup_before setup r ≡ setup_before setup' s → IsToldAlike setup setup' × (r ≡ s)
setup_tells setup setup' r s same =
    let one = field (codes "threads=") setup.threads setup'.threads 32 32 _ _ (omega arith) (omega arith) (following (codes "xray-audit 1" ++ 10 ∷ []) _ _ same) in
    let two = field (codes " buffer-size=") setup.size setup'.size 32 32 _ _ (omega arith) (omega arith) one.1 in
    let three = field (codes " buffer-max=") setup.max setup'.max 32 32 _ _ (omega arith) (omega arith) two.1 in
    let four = field (codes " fuel=") setup.limits.fuel setup'.limits.fuel 32 32 _ _ (omega arith) (omega arith) three.1 in
    let five = field (codes " passings=") setup.limits.passings setup'.limits.passings 32 32 _ _ (omega arith) (omega arith) four.1 in
    let six = field (codes " tick=") setup.limits.tick setup'.limits.tick 32 32 _ _ (omega arith) (omega arith) five.1 in
    let seven = field (codes " tsc=") setup.limits.tsc setup'.limits.tsc 32 32 _ _ (omega arith) (omega arith) six.1 in
    let eight = field (codes " cpus=") setup.limits.cpus setup'.limits.cpus 32 32 _ _ (omega arith) (omega arith) seven.1 in
    let nine = field (codes " migrate=") setup.limits.migrate setup'.limits.migrate 32 32 _ _ (omega arith) (omega arith) eight.1 in
    let ten = field (codes " pid=") setup.pid setup'.pid 32 32 _ _ (omega arith) (omega arith) nine.1 in
    let eleven = field (codes " wall=") setup.wall.secs setup'.wall.secs 46 46 _ _ (omega arith) (omega arith) ten.1 in
    let twelve = field (codes ".") setup.wall.micros setup'.wall.micros 32 32 _ _ (omega arith) (omega arith) eleven.1 in
    let last = field (codes " frequency=") setup.frequency setup'.frequency 10 10 r s (omega arith) (omega arith) twelve.1 in (
      record {
        threads = one.0;
        size = two.0;
        max = three.0;
        fuel = four.0;
        passings = five.0;
        tick = six.0;
        tsc = seven.0;
        cpus = eight.0;
        migrate = nine.0;
        pid = ten.0;
        secs = eleven.0;
        micros = twelve.0;
        frequency = last.0;
      },
      following (10 ∷ []) r s last.1,
    )

-- records of the same fields are the same
limits_of : ℕ → ℕ → ℕ → ℕ → ℕ → ℕ → Limits
limits_of fuel passings tick tsc cpus migrate = record { fuel = fuel; passings = passings; tick = tick; tsc = tsc; cpus = cpus; migrate = migrate }

is_limits_of : (l : Limits) → l ≡ limits_of l.fuel l.passings l.tick l.tsc l.cpus l.migrate
unfolding limits_of
is_limits_of l = refl

wall_of : ℕ → ℕ → Wall
wall_of secs micros = record { secs = secs; micros = micros }

is_wall_of : (w : Wall) → w ≡ wall_of w.secs w.micros
unfolding wall_of
is_wall_of w = refl

setup_of : ℕ → ℕ → ℕ → Limits → ℕ → Wall → ℕ → Setup
setup_of threads size max limits pid wall frequency =
    record { threads = threads; size = size; max = max; limits = limits; pid = pid; wall = wall; frequency = frequency }

is_setup_of : (s : Setup) → s ≡ setup_of s.threads s.size s.max s.limits s.pid s.wall s.frequency
unfolding setup_of
is_setup_of s = refl

-- setups whose numbers have the same digits are the same
one_setup : (setup setup' : Setup) → HasSetupNumbers setup → HasSetupNumbers setup' → IsToldAlike setup setup' → setup ≡ setup'
one_setup setup setup' small small' told =
    let equal : (k m n : ℕ) → k < 13 → get_or (setup_numbers setup) k 0 ≡ m → get_or (setup_numbers setup') k 0 ≡ n → decimal m ≡ decimal n → m ≡ n =
    (λ k m n within is is' alike. decimal_injective m n (omega (arith, small k 0 within, is)) (omega (arith, small' k 0 within, is')) alike) in
    let l = setup.limits in
    let l' = setup'.limits in
    let fuel : l.fuel ≡ l'.fuel = equal 3 _ _ (omega arith) refl refl told.fuel in
    let passings : l.passings ≡ l'.passings = equal 4 _ _ (omega arith) refl refl told.passings in
    let tick : l.tick ≡ l'.tick = equal 5 _ _ (omega arith) refl refl told.tick in
    let tsc : l.tsc ≡ l'.tsc = equal 6 _ _ (omega arith) refl refl told.tsc in
    let cpus : l.cpus ≡ l'.cpus = equal 7 _ _ (omega arith) refl refl told.cpus in
    let migrate : l.migrate ≡ l'.migrate = equal 8 _ _ (omega arith) refl refl told.migrate in
    let limits : l ≡ l' = cc (is_limits_of l, is_limits_of l') in
    let secs : setup.wall.secs ≡ setup'.wall.secs = equal 10 _ _ (omega arith) refl refl told.secs in
    let micros : setup.wall.micros ≡ setup'.wall.micros = equal 11 _ _ (omega arith) refl refl told.micros in
    let wall : setup.wall ≡ setup'.wall = cc (is_wall_of setup.wall, is_wall_of setup'.wall) in
    let threads : setup.threads ≡ setup'.threads = equal 0 _ _ (omega arith) refl refl told.threads in
    let size : setup.size ≡ setup'.size = equal 1 _ _ (omega arith) refl refl told.size in
    let max : setup.max ≡ setup'.max = equal 2 _ _ (omega arith) refl refl told.max in
    let pid : setup.pid ≡ setup'.pid = equal 9 _ _ (omega arith) refl refl told.pid in
    let frequency : setup.frequency ≡ setup'.frequency = equal 12 _ _ (omega arith) refl refl told.frequency in
    cc (is_setup_of setup, is_setup_of setup')

-- ---- the whole text

-- the text before its threads, and the text after them
parts_alike : (setup setup' : Setup) (threads others : List ThreadAudit) (recycled other : ℕ)
    → audit_text setup threads recycled ≡ audit_text setup' others other
    → setup_before setup (flat_map thread_lines threads ++ recycled_line recycled)
    ≡ setup_before setup' (flat_map thread_lines others ++ recycled_line other)
parts_alike setup setup' threads others recycled other same =
    let last = recycled_line recycled in
    let last' = recycled_line other in
    sym (setup_is setup (flat_map thread_lines threads ++ last)) ∙ (sym (append_assoc (setup_lines setup) (flat_map thread_lines threads) last)
    ∙ (same ∙ (append_assoc (setup_lines setup') (flat_map thread_lines others) last' ∙ setup_is setup' (flat_map thread_lines others ++ last'))))

pub audit_tells_threads : (setup setup' : Setup) (threads others : List ThreadAudit) (recycled other : ℕ) → All HasNumbers threads → All HasNumbers others
    → audit_text setup threads recycled ≡ audit_text setup' others other → threads ≡ others
audit_tells_threads setup setup' threads others recycled other small small' same =
    (threads_tell threads others _ _ small small' (setup_tells setup setup' _ _ (parts_alike setup setup' threads others recycled other same)).1).0

pub audit_tells_recycled : (setup setup' : Setup) (threads others : List ThreadAudit) (recycled other : ℕ) → All HasNumbers threads → All HasNumbers others
    → recycled < 2 ^ 64 → other < 2 ^ 64 → audit_text setup threads recycled ≡ audit_text setup' others other → recycled ≡ other
audit_tells_recycled setup setup' threads others recycled other small small' few few' same =
    let last = (threads_tell threads others _ _ small small' (setup_tells setup setup' _ _ (parts_alike setup setup' threads others recycled other same)).1).1 in
    (number_tells recycled other 10 10 [] [] few few' (omega arith) (omega arith) last).0

pub audit_tells_setup : (setup setup' : Setup) (threads others : List ThreadAudit) (recycled other : ℕ) → HasSetupNumbers setup → HasSetupNumbers setup'
    → audit_text setup threads recycled ≡ audit_text setup' others other → setup ≡ setup'
audit_tells_setup setup setup' threads others recycled other small small' same =
    one_setup setup setup' small small' (setup_tells setup setup' _ _ (parts_alike setup setup' threads others recycled other same)).0
