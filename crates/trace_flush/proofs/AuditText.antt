-- The lines of the audit, as they are put together.
use Rattle.std.proofs.Common.{◌≡◌, ◌<◌, ◌+◌, ℕ, zero, suc, Bor, Option, Some, List, [], ◌∷◌, ◌++◌, length, take, drop, get_or, refl, sym, ap, ◌∙◌, arith, append_assoc, add-one}
use Rattle.std.specs.Prelude.{codes, decimal, min}
use Rattle.std.specs.List.{flat_map}
use Rattle.std.specs.Iterator.{Yields}
use Rattle.std.specs.Iterator.Adapters.{zip_first, zip_second}
use Rattle.std.specs.Slice.Iter.{iter_rest}
use Rattle.std.specs.declared.iter.Zip.{Zip}
use Rattle.std.specs.declared.slice.Iter.{Iter}
use Rattle.std.proofs.lemmas.Fn.{fronts}
use Rattle.std.proofs.lemmas.Iterator.{zips}
use Rattle.std.proofs.lemmas.List.{append-nil, take-append-drop, take_all}
use Rattle.std.proofs.lemmas.Grind.{flat_map-append}
use Rattle.std.proofs.lemmas.Slice.Zip.{zip_turn}
use Rattle.handler_word.specs.declared.mark.Mark.{Mark}
use Rattle.machine_step.specs.declared.limits.Limits.{Limits}
use Rattle.machine_step.specs.declared.setup.Setup.{Setup}
use Rattle.machine_step.specs.Texts.{end_text, line_feed, marks_line}
use Rattle.machine_step.specs.Traced.{Traced}
use Rattle.trace_flush.specs.declared.line.AuditLine.{AuditLine}
use Rattle.trace_flush.specs.Audit.{ThreadAudit, thread_audit, thread_audits, buffers_text, limits_text, stamps_text}
use Rattle.trace_flush.specs.declared.audit.Detail.{Detail}
use Rattle.trace_flush.specs.declared.audit.Detail.TheVariants.{Audit, Summary}
use Rattle.trace_flush.specs.private.Parts.{rest_of, said_of, start_text}

-- the pieces of a part are its text

pub buffers_pieces : (setup : Setup) (threads size max : ℕ) → threads ≡ setup.threads → size ≡ setup.size → max ≡ setup.max
    → (codes "xray-audit 1" ++ 10 ∷ codes "threads=") ++ (decimal threads ++ (codes " buffer-size=" ++ (decimal size ++ (codes " buffer-max=" ++ (decimal max ++ [])))))
    ≡ buffers_text setup
buffers_pieces setup threads size max same_threads same_size same_max =
    rw (same_threads, same_size, same_max) (simp (append_assoc, append-nil))

pub limits_pieces : (limits : Limits) (fuel passings tick tsc cpus migrate : ℕ) → fuel ≡ limits.fuel → passings ≡ limits.passings
    → tick ≡ limits.tick → tsc ≡ limits.tsc → cpus ≡ limits.cpus → migrate ≡ limits.migrate
    → codes " fuel=" ++ (decimal fuel ++ (codes " passings=" ++ (decimal passings ++ (codes " tick=" ++ (decimal tick ++ (codes " tsc=" ++ (decimal tsc
    ++ (codes " cpus=" ++ (decimal cpus ++ (codes " migrate=" ++ (decimal migrate ++ [])))))))))))
    ≡ limits_text limits
limits_pieces limits fuel passings tick tsc cpus migrate same_fuel same_passings same_tick same_tsc same_cpus same_migrate =
    rw (same_fuel, same_passings, same_tick, same_tsc, same_cpus, same_migrate) (simp (append_assoc, append-nil))

pub stamps_pieces : (setup : Setup) (pid secs micros frequency : ℕ) → pid ≡ setup.pid → secs ≡ setup.wall.secs → micros ≡ setup.wall.micros
    → frequency ≡ setup.frequency
    → codes " pid=" ++ (decimal pid ++ (codes " wall=" ++ (decimal secs ++ (codes "." ++ (decimal micros ++ (codes " frequency=" ++ (decimal frequency ++ (line_feed ++ []))))))))
    ≡ stamps_text setup
stamps_pieces setup pid secs micros frequency same_pid same_secs same_micros same_frequency =
    rw (same_pid, same_secs, same_micros, same_frequency) (simp append_assoc)

pub start_pieces : (said : ThreadAudit) (thread : ℕ) (name : List ℕ) (passings recorded : ℕ)
    → thread ≡ said.thread → name ≡ end_text said.end → passings ≡ said.passings → recorded ≡ said.recorded
    → codes "thread " ++ (decimal thread ++ (codes " " ++ (name ++ (codes " passings " ++ (decimal passings ++ (codes " recorded " ++ (decimal recorded ++ [])))))))
    ≡ start_text said
start_pieces said thread name passings recorded same_thread same_name same_passings same_recorded =
    rw (same_thread, same_name, same_passings, same_recorded) (simp (append_assoc, append-nil))

-- texts that are put together in another order
joined : (start a b c d e rest : List ℕ) → start ++ (a ++ b ++ (c ++ d ++ e) ++ rest) ≡ start ++ a ++ b ++ c ++ d ++ e ++ rest
joined start a b c d e rest = simp append_assoc

-- what is said of a thread begins with its start
pub said_in_parts : (detail : Detail) (line : AuditLine) (marks : List Mark)
    → start_text (thread_audit line marks) ++ rest_of detail line marks ≡ said_of detail (thread_audit line marks)
said_in_parts Audit line marks =
    joined (start_text (thread_audit line marks)) (codes " segments ") (decimal line.segments) (codes " first ") (decimal line.first) line_feed (marks_line marks)
said_in_parts Summary line marks =
    let start = start_text (thread_audit line marks) in
    sym (append_assoc start (codes " first " ++ decimal line.first) line_feed)
    ∙ ap (λ (t : List ℕ). t ++ line_feed) (sym (append_assoc start (codes " first ") (decimal line.first)))

-- there are as many as lines
pub audits_count : (lines : List AuditLine) (threads : List Traced) → length lines ≡ length threads → length (thread_audits lines threads) ≡ length lines
audits_count [] threads same = refl
audits_count (line ∷ lines) [] same = absurd (omega (arith, same))
audits_count (line ∷ lines) (thread ∷ threads) same = ap suc (audits_count lines threads (omega (arith, same)))

-- the texts of thread_audits, one after another, if each has the text f: one more account
pub accounts_more : (f : ThreadAudit → List ℕ) (lines : List AuditLine) (threads : List Traced) (i : ℕ) (line : AuditLine) (thread : Traced)
    → i < length lines → i < length threads → ((d : AuditLine) → line ≡ get_or lines i d) → ((d : Traced) → thread ≡ get_or threads i d)
    → flat_map f (take i (thread_audits lines threads)) ++ f (thread_audit line thread.marks) ≡ flat_map f (take (i + 1) (thread_audits lines threads))
accounts_more f [] threads i line thread within also_within is_line is_thread = absurd (omega arith)
accounts_more f (first ∷ lines) [] i line thread within also_within is_line is_thread = absurd (omega arith)
accounts_more f (first ∷ lines) (head ∷ threads) zero line thread within also_within is_line is_thread =
    let same_line : line ≡ first = is_line first in
    let same_thread : thread ≡ head = is_thread head in
    rw (same_line, same_thread) (sym (append-nil (f (thread_audit first head.marks))))
accounts_more f (first ∷ lines) (head ∷ threads) (suc i) line thread within also_within is_line is_thread =
    let rest = accounts_more f lines threads i line thread (omega arith) (omega arith) is_line is_thread in
    let here = f (thread_audit first head.marks) in
    rw add-one (append_assoc here (flat_map f (take i (thread_audits lines threads))) (f (thread_audit line thread.marks))
    ∙ ap (λ text. here ++ text) (rest ∙ rw add-one refl))

-- so in a loop over lines and threads side by side, which has yielded xs and yields a pair
pub accounts_turn : (f : ThreadAudit → List ℕ) (lines : List AuditLine) (threads : List Traced) (begun now next : Zip (Iter AuditLine) (Iter Traced))
    (xs : List (Bor AuditLine × Bor Traced)) (given : Option (Bor AuditLine × Bor Traced)) (line : Bor AuditLine) (thread : Bor Traced)
    → iter_rest (zip_first begun) ≡ lines → iter_rest (zip_second begun) ≡ threads → Yields (zips fronts fronts) begun xs now
    → given ≡ Some (line, thread) → zips fronts fronts now given next
    → flat_map f (take (length xs) (thread_audits lines threads)) ++ f (thread_audit line.now thread.now.marks) ≡ flat_map f (take (length xs + 1) (thread_audits lines threads))
accounts_turn f lines threads begun now next xs given line thread first second yielded is steps =
    let turn = zip_turn lines threads xs begun now next given first second yielded (line, thread) is steps in
    accounts_more f lines threads (length xs) line.now thread.now turn.0 turn.1 turn.2 turn.3

-- the thread_audits before this one, and the rest
pub accounts_split : (f : ThreadAudit → List ℕ) (told : List ThreadAudit) (i : ℕ) → flat_map f (take i told) ++ flat_map f (drop i told) ≡ flat_map f told
accounts_split f told i = sym (flat_map-append f (take i told) (drop i told)) ∙ ap (flat_map f) (take-append-drop i told)

-- if there are as many thread_audits as lines, they are all of them
pub accounts_all : (f : ThreadAudit → List ℕ) (lines : List AuditLine) (threads : List Traced) (i : ℕ) → length lines ≡ length threads
    → i ≡ min (length lines) (length threads) → flat_map f (take i (thread_audits lines threads)) ≡ flat_map f (thread_audits lines threads)
accounts_all f lines threads i same all =
    ap (flat_map f) (take_all i (thread_audits lines threads)
    (omega (arith, audits_count lines threads same)))
