-- Each row of an audit is a line.
use Rattle.std.proofs.Common.{◌≡◌, ◌≢◌, ℕ, ◌==◌, Bool, true, false, not, List, [], ◌∷◌, ◌++◌, map, refl, ap, arith}
use Rattle.std.specs.Prelude.{codes, decimal, ◌&&◌}
use Rattle.std.specs.List.{flat_map, join_with_byte}
use Rattle.std.proofs.lemmas.Bool.{eq-eqb}
use Rattle.handler_word.specs.declared.mark.Mark.{Mark}
use Rattle.handler_word.specs.declared.mark.Mark.TheVariants.{Skipped, NoHandler, NotLogging, Recorded, RecordedArg}
use Rattle.handler_word.specs.Runs.{mark_byte, run_text, runs_of, runs_text}
use Rattle.machine_step.specs.declared.end.End.{End}
use Rattle.machine_step.specs.declared.end.End.TheVariants as ends
use Rattle.machine_step.specs.declared.limits.Limits.{Limits}
use Rattle.machine_step.specs.declared.setup.Setup.{Setup}
use Rattle.machine_step.specs.Texts.{end_text, line_feed, marks_line}
use Rattle.trace_flush.specs.Audit.{ThreadAudit, limits_text, recycled_line, thread_line}
use Rattle.audit_check.specs.private.Lines.{all_rows, first_rows, rows_of}
use Rattle.audit_check.specs.private.Parts.{buffers_part, format_row, setup_row, stamps_part}
use Rattle.audit_check.specs.Statements.{AuditStatement}
use Rattle.audit_check.proofs.Digits.{decimal_feeds}
use Rattle.audit_check.proofs.RowLines.{AreLines, HasNoFeed, IsLine, feeds-append, lines-append}

-- ---- bytes without line feeds

record NoFeed (bytes : List ℕ) : Type 0 where
  none : HasNoFeed bytes

no_feed : List ℕ → Bool
no_feed [] = true
no_feed (byte ∷ bytes) = not (byte == 10) && no_feed bytes

left_of : (a b : Bool) → a && b ≡ true → a ≡ true
left_of true b e = refl
left_of false b e = absurd cc

right_of : (a b : Bool) → a && b ≡ true → b ≡ true
right_of true b e = e
right_of false b e = absurd cc

unlike : (byte : ℕ) → not (byte == 10) ≡ true → byte ≢ 10
unlike byte e same = let passes : byte == 10 ≡ true = eq-eqb byte 10 same in let fails : not (byte == 10) ≡ false = ap not passes in absurd cc

tested : (bytes : List ℕ) → no_feed bytes ≡ true → HasNoFeed bytes
unfolding no_feed
tested [] e = tt
tested (byte ∷ bytes) e = (unlike byte (left_of (not (byte == 10)) (no_feed bytes) e), tested bytes (right_of (not (byte == 10)) (no_feed bytes) e))

word : (bytes : List ℕ) → no_feed bytes ≡ true → NoFeed bytes
word bytes e = record { none = tested bytes e }

num : (n : ℕ) → NoFeed (decimal n)
num n = record { none = decimal_feeds n }

more : {xs ys : List ℕ} → NoFeed xs → NoFeed ys → NoFeed (xs ++ ys)
more {xs} {ys} p q = record { none = feeds-append xs ys p.none q.none }

-- ---- lines

ended : {front : List ℕ} → NoFeed front → IsLine (front ++ line_feed)
ended {front} p = record { body = front; none = p.none; is = refl }

format_is : IsLine format_row
unfolding no_feed
format_is = record { body = codes "xray-audit 1"; none = tested (codes "xray-audit 1") refl; is = refl }

buffers_are : (threads size max : ℕ) → NoFeed (buffers_part threads size max)
unfolding no_feed
buffers_are threads size max =
    more (more (more (more (more (word (codes "threads=") refl) (num threads)) (word (codes " buffer-size=") refl)) (num size)) (word (codes " buffer-max=") refl)) (num max)

limits_are : (l : Limits) → NoFeed (limits_text l)
unfolding no_feed
limits_are l =
    more (more (more (more (more (more (more (more (more (more (more (word (codes " fuel=") refl) (num l.fuel)) (word (codes " passings=") refl)) (num l.passings))
    (word (codes " tick=") refl)) (num l.tick)) (word (codes " tsc=") refl)) (num l.tsc)) (word (codes " cpus=") refl)) (num l.cpus)) (word (codes " migrate=") refl)) (num l.migrate)

stamps_are : (s : Setup) → NoFeed (stamps_part s.pid s.wall s.frequency)
unfolding no_feed
stamps_are s =
    more (more (more (more (more (more (more (word (codes " pid=") refl) (num s.pid)) (word (codes " wall=") refl)) (num s.wall.secs)) (word (codes ".") refl)) (num s.wall.micros))
    (word (codes " frequency=") refl)) (num s.frequency)

setup_is : (s : Setup) → IsLine (setup_row s)
setup_is s = ended (more (more (buffers_are s.threads s.size s.max) (limits_are s.limits)) (stamps_are s))

end_is : (end : End) → NoFeed (end_text end)
unfolding no_feed
end_is ends.Returned = word (codes "returned") refl
end_is ends.Fuel = word (codes "fuel") refl
end_is ends.Passings = word (codes "passings") refl
end_is ends.OutputFull = word (codes "output-full") refl
end_is ends.StackFull = word (codes "stack-full") refl
end_is ends.StackEmpty = word (codes "stack-empty") refl
end_is ends.BadTarget = word (codes "bad-target") refl

thread_is : (said : ThreadAudit) → IsLine (thread_line said)
unfolding no_feed
thread_is said =
    ended (more (more (more (more (more (more (more (more (more (more (more (word (codes "thread ") refl) (num said.thread)) (word (codes " ") refl)) (end_is said.end))
    (word (codes " passings ") refl)) (num said.passings)) (word (codes " recorded ") refl)) (num said.recorded)) (word (codes " segments ") refl)) (num said.segments))
    (word (codes " first ") refl)) (num said.first))

symbol_is : (mark : Mark) → mark_byte mark ≢ 10
symbol_is Skipped e = omega (arith, e)
symbol_is NoHandler e = omega (arith, e)
symbol_is NotLogging e = omega (arith, e)
symbol_is Recorded e = omega (arith, e)
symbol_is RecordedArg e = omega (arith, e)

run_is : (run : Mark × ℕ) → HasNoFeed (run_text run)
run_is (mark, count) = (symbol_is mark, decimal_feeds count)

joined_is : (runs : List (Mark × ℕ)) → HasNoFeed (join_with_byte 32 (map run_text runs))
joined_is [] = tt
joined_is (run ∷ []) = run_is run
joined_is (run ∷ next ∷ runs) =
    feeds-append (run_text run) (32 ∷ join_with_byte 32 (map run_text (next ∷ runs))) (run_is run)
    ((λ (e : 32 ≡ 10). omega (arith, e)), joined_is (next ∷ runs))

runs_are : (marks : List Mark) → NoFeed (runs_text marks)
unfolding no_feed
runs_are [] = word (codes "-") refl
runs_are (mark ∷ marks) = record { none = joined_is (runs_of (mark ∷ marks)) }

marks_is : (marks : List Mark) → IsLine (marks_line marks)
unfolding no_feed
marks_is marks = ended (more (word (codes "marks ") refl) (runs_are marks))

recycled_is : (recycled : ℕ) → IsLine (recycled_line recycled)
unfolding no_feed
recycled_is recycled = ended (more (word (codes "recycled ") refl) (num recycled))

threads_are : (threads : List ThreadAudit) → AreLines (flat_map rows_of threads)
threads_are [] = tt
threads_are (said ∷ threads) = (thread_is said, (marks_is said.marks, threads_are threads))

-- ---- an audit

pub rows_are : (statement : AuditStatement) → AreLines (all_rows statement)
rows_are statement =
    lines-append (first_rows statement.setup statement.threads) (recycled_line statement.recycled ∷ [])
    (format_is, (setup_is statement.setup, threads_are statement.threads)) (recycled_is statement.recycled, tt)
