-- Any bytes read as a statement, or are refused at a line.
use Rattle.std.proofs.Common.{◌≡◌, ℕ, zero, suc, ◌+◌, ◌<◌, ◌≤◌, ◌^◌, List, [], ◌∷◌, ◌++◌, length, Option, Some, None, Ok, Err, Result, inl, inr, refl, sym, ap, subst, ◌∙◌, arith, append-nil, append_assoc, length-append}
use Rattle.std.specs.Prelude.{◌⊎◌, ◌*◌}
use Rattle.text_lines.specs.Written.{WrittenNumbersRead}
use Rattle.fdr_buffer.specs.declared.buffer.TheConstants.{LARGEST_SIZE, LEAST_SIZE, MOST_BUFFERS, TRACE_LIMIT}
use Rattle.sled_words.specs.declared.words.TheConstants.{MAX_THREADS}
use Rattle.handler_word.specs.declared.mark.Mark.{Mark}
use Rattle.handler_word.specs.declared.mark.Mark.TheVariants.{Skipped, NoHandler, NotLogging, Recorded, RecordedArg}
use Rattle.machine_step.specs.declared.limits.Limits.{Limits}
use Rattle.machine_step.specs.declared.setup.Setup.{Setup}
use Rattle.machine_step.specs.Setups.{AreLimits, IsSetup}
use Rattle.machine_step.specs.Texts.{marks_line}
use Rattle.trace_flush.specs.Audit.{ThreadAudit, recycled_line, thread_line}
use Rattle.audit_check.specs.declared.fault.AuditFault.{AuditFault}
use Rattle.audit_check.specs.declared.fault.AuditFault.TheVariants.{Form}
use Rattle.audit_check.specs.declared.thread_rows.Counts.{Counts}
use Rattle.audit_check.specs.private.Lines.{AreFirst, all_rows, counts_row, first_rows}
use Rattle.audit_check.specs.private.Parts.{HasShortCounts, format_row}
use Rattle.audit_check.specs.private.Taking.{counts_in, recycled_in, setup_in}
use Rattle.audit_check.specs.Reading.{IsRefused, ReadsAsAudit, whole_lines}
use Rattle.audit_check.specs.Statements.{MayState, AuditStatement, most_marks}
use Rattle.audit_check.proofs.KnownFacts.{Known, known_as, known_below, known_both, known_bytes, known_most}
use Rattle.audit_check.proofs.ReadRows.{SaysCounts, counts_found, recycled_found, setup_found, setup_only, setup_tells}
use Rattle.audit_check.proofs.ReadAudits.{all_may, none_first, rows_more, unread_counts, unread_recycled}
use Rattle.audit_check.proofs.Refusals.{IsCountsRow, IsRecycledRow, IsSetupRow, counted_rows, one_more, refused_counts, refused_end, refused_format, refused_marks, refused_recycled, refused_setup, said_of, text_by_rows}

-- ---- some marks

-- one of the marks
any_mark : (Q : Mark → Type 0) → ((mark : Mark) → Known (Q mark)) → Known ((mark : Mark) × Q mark)
any_mark Q known = by (known Skipped) (known NoHandler) (known NotLogging) (known Recorded) (known RecordedArg)
  where
    no : (Q Skipped → ⊥) → (Q NoHandler → ⊥) → (Q NotLogging → ⊥) → (Q Recorded → ⊥) → (Q RecordedArg → ⊥) → (mark : Mark) → Q mark → ⊥
    no a b c d e Skipped q = a q
    no a b c d e NoHandler q = b q
    no a b c d e NotLogging q = c q
    no a b c d e Recorded q = d q
    no a b c d e RecordedArg q = e q

    by : Known (Q Skipped) → Known (Q NoHandler) → Known (Q NotLogging) → Known (Q Recorded) → Known (Q RecordedArg) → Known ((mark : Mark) × Q mark)
    by (inl q) b c d e = inl (Skipped, q)
    by (inr a) (inl q) c d e = inl (NoHandler, q)
    by (inr a) (inr b) (inl q) d e = inl (NotLogging, q)
    by (inr a) (inr b) (inr c) (inl q) e = inl (Recorded, q)
    by (inr a) (inr b) (inr c) (inr d) (inl q) = inl (RecordedArg, q)
    by (inr a) (inr b) (inr c) (inr d) (inr e) = inr (λ some. no a b c d e some.0 some.1)

-- some marks of which this holds, at most so many
abbrev Few : ℕ → (List Mark → Type 0) → Type 0
Few most P = (marks : List Mark) × (length marks ≤ most) × P marks

few_none : (P : List Mark → Type 0) → (P [] → ⊥) → (marks : List Mark) → length marks ≤ 0 → P marks → ⊥
few_none P none [] low is = none is
few_none P none (mark ∷ marks) low is = absurd (omega arith)

few_some : (most : ℕ) (P : List Mark → Type 0) → (P [] → ⊥) → ((mark : Mark) × Few most (λ marks. P (mark ∷ marks)) → ⊥)
    → (marks : List Mark) → length marks ≤ suc most → P marks → ⊥
few_some most P none more [] low is = none is
few_some most P none more (mark ∷ marks) low is = more (mark, (marks, omega arith, is))

some_marks : (most : ℕ) (P : List Mark → Type 0) → ((marks : List Mark) → Known (P marks)) → Known (Few most P)
some_marks zero P known = elim (known []) [
  | inl is ↦ inl ([], omega arith, is)
  | inr none ↦ inr (λ few. few_none P none few.0 few.1 few.2)
]
some_marks (suc most) P known = elim (known []) [
  | inl is ↦ inl ([], omega arith, is)
  | inr none ↦ elim (any_mark (λ mark. Few most (λ marks. P (mark ∷ marks))) (λ mark. some_marks most (λ marks. P (mark ∷ marks)) (λ marks. known (mark ∷ marks)))) [
    | inl some ↦ inl (some.0 ∷ some.1.0, (let low = some.1.1 in omega arith), some.1.2)
    | inr more ↦ inr (λ few. few_some most P none more few.0 few.1 few.2)
  ]
]

known_marks : (most : ℕ) (row : List ℕ) → Known (Few most (λ marks. row ≡ marks_line marks))
known_marks most row = some_marks most (λ marks. row ≡ marks_line marks) (λ marks. known_bytes row (marks_line marks))

-- ---- each row

known_limits : (l : Limits) → Known (AreLimits l)
known_limits l =
    known_as
    (λ (fuel, (passings, (tick, (tsc, (some_cpu, (few_cpus, (some_stay, short_stay))))))). record {
      fuel = fuel;
      passings = passings;
      tick = tick;
      tsc = tsc;
      some_cpu = some_cpu;
      few_cpus = few_cpus;
      some_stay = some_stay;
      short_stay = short_stay;
    })
    (λ are. (are.fuel, (are.passings, (are.tick, (are.tsc, (are.some_cpu, (are.few_cpus, (are.some_stay, are.short_stay))))))))
    (known_both (known_most l.fuel 1000000000) (known_both (known_most l.passings 1048576) (known_both (known_below l.tick (2 ^ 64))
    (known_both (known_below l.tsc (2 ^ 64)) (known_both (known_most 1 l.cpus) (known_both (known_most l.cpus 65535)
    (known_both (known_most 1 l.migrate) (known_most l.migrate 1048576))))))))

known_setup : (s : Setup) → Known (IsSetup s)
known_setup s =
    known_as
    (λ (some_thread, (few_threads, (least, (most, (enough, (few_buffers, (room, (limits_are, (pid, (secs, (micros, frequency))))))))))). record {
      some_thread = some_thread;
      few_threads = few_threads;
      least = least;
      most = most;
      enough = enough;
      few_buffers = few_buffers;
      room = room;
      limits_are = limits_are;
      pid = pid;
      wall_is = record { secs = secs; micros = micros };
      frequency = frequency;
    })
    (λ is. (
      is.some_thread,
      (
        is.few_threads,
        (
          is.least,
          (
            is.most,
            (
              is.enough,
              (is.few_buffers, (is.room, (is.limits_are, (is.pid, (is.wall_is.secs, (is.wall_is.micros, is.frequency)))))),
            ),
          ),
        ),
      ),
    ))
    (known_both (known_most 1 s.threads) (known_both (known_most s.threads MAX_THREADS) (known_both (known_most LEAST_SIZE s.size)
    (known_both (known_most s.size LARGEST_SIZE) (known_both (known_most s.threads s.max) (known_both (known_most s.max MOST_BUFFERS)
    (known_both (known_most (s.max * (s.size + 16) + 32) TRACE_LIMIT) (known_both (known_limits s.limits) (known_both (known_below s.pid (2 ^ 31))
    (known_both (known_below s.wall.secs (2 ^ 64)) (known_both (known_below s.wall.micros 1000000) (known_below s.frequency (2 ^ 64)))))))))))))

module _ (reads : WrittenNumbersRead) where
  known_setup_row : (row : List ℕ) → Known (IsSetupRow row)
  known_setup_row row = by (setup_in row) refl
    where
      no_row : setup_in row ≡ None → IsSetupRow row → ⊥
      no_row none (s, is, text) = let both : None ≡ Some s = sym none ∙ (ap setup_in text ∙ setup_only reads s is) in cc

      other : (s : Setup) → setup_in row ≡ Some s → (IsSetup s → ⊥) → IsSetupRow row → ⊥
      other s found not (t, is, text) =
          let both : Some s ≡ Some t = sym found ∙ (ap setup_in text ∙ setup_only reads t is) in
          let same : s ≡ t = cc in not (subst IsSetup (sym same) is)

      by : (answer : Option Setup) → setup_in row ≡ answer → Known (IsSetupRow row)
      by None none = inr (no_row none)
      by (Some s) found = elim (known_setup s) [
        | inl is ↦ inl (s, is, setup_found row s found)
        | inr not ↦ inr (other s found not)
      ]

  abbrev CountsOrNot : ℕ → List ℕ → Type 0
  CountsOrNot thread row = ((counts : Counts) × SaysCounts thread row counts) ⊎ (IsCountsRow thread row → ⊥)

  known_counts : (thread : ℕ) (row : List ℕ) → thread < 2 ^ 32 → CountsOrNot thread row
  known_counts thread row small = by (counts_in thread row) refl
    where
      by : (answer : Option Counts) → counts_in thread row ≡ answer → CountsOrNot thread row
      by None none = inr (unread_counts reads thread row small (sym none))
      by (Some counts) found = inl (counts, counts_found thread row counts found)

  known_recycled : (row : List ℕ) → Known (IsRecycledRow row)
  known_recycled row = by (recycled_in row) refl
    where
      by : (answer : Option ℕ) → recycled_in row ≡ answer → Known (IsRecycledRow row)
      by None none = inr (unread_recycled reads row (sym none))
      by (Some n) found = let is = recycled_found row n found in inl (n, is.1, is.0)

  -- ---- row by row

  module _ (bytes : List ℕ) where
    abbrev pub Reading : Type 0
    Reading = (reading : Result AuditStatement AuditFault) × ReadsAsAudit bytes reading

    refuse : (line : ℕ) → IsRefused bytes line → Reading
    refuse line is = (Err (Form line), is)

    at_end : (s : AuditStatement) → MayState s → (rest : List (List ℕ)) → whole_lines bytes ≡ all_rows s ++ rest → Reading
    at_end s may [] lines = (Ok s, (may, text_by_rows bytes s (lines ∙ append-nil (all_rows s))))
    at_end s may (row ∷ more) lines =
        refuse (length (all_rows s) + 1) (refused_end (setup_tells reads) bytes s row more may lines)

    at_recycled : (setup : Setup) (threads : List ThreadAudit) → AreFirst setup threads → length threads ≡ setup.threads → (rest : List (List ℕ))
        → whole_lines bytes ≡ first_rows setup threads ++ rest → Reading
    at_recycled setup threads are all [] lines =
        refuse (length (first_rows setup threads) + 1) (refused_recycled (setup_tells reads) bytes setup threads [] are all lines tt)
    at_recycled setup threads are all (row ∷ more) lines = elim (known_recycled row) [
      | inl (n, small, is) ↦
          at_end (record { setup = setup; threads = threads; recycled = n }) (all_may setup threads n are all small) more
          (lines ∙ (ap (λ (r : List ℕ). first_rows setup threads ++ r ∷ more) is
          ∙ sym (append_assoc (first_rows setup threads) (recycled_line n ∷ []) more)))
      | inr other ↦
          refuse (length (first_rows setup threads) + 1) (refused_recycled (setup_tells reads) bytes setup threads (row ∷ more) are all lines other)
    ]

    -- what is read after one more thread
    abbrev Later : Setup → List ThreadAudit → Type 0
    Later setup threads =
        (said : ThreadAudit) → AreFirst setup (threads ++ said ∷ []) → (rest : List (List ℕ))
        → whole_lines bytes ≡ first_rows setup (threads ++ said ∷ []) ++ rest → Reading

    at_marks : (setup : Setup) (threads : List ThreadAudit) (counts : Counts) → AreFirst setup threads → length threads < setup.threads
        → HasShortCounts counts → Later setup threads → (rest : List (List ℕ))
        → whole_lines bytes ≡ counted_rows setup threads (length threads + 1) counts ++ rest → Reading
    at_marks setup threads counts are low short later [] lines =
        refuse (length (counted_rows setup threads (length threads + 1) counts) + 1)
        (refused_marks (setup_tells reads) bytes setup threads counts [] are low short lines tt)
    at_marks setup threads counts are low short later (row ∷ more) lines = elim (known_marks most_marks row) [
      | inl (marks, few, is) ↦
          let thread : ℕ = length threads + 1 in
          let said : ThreadAudit = said_of thread counts marks in
          let first : List (List ℕ) = first_rows setup threads in
          later said
          (one_more setup threads said are
          (record { passings = short.passings; recorded = short.recorded; segments = short.segments; first = short.first; marks = few }) refl) more
          (lines ∙ (ap (λ (r : List ℕ). (first ++ counts_row thread counts ∷ []) ++ r ∷ more) is
          ∙ (append_assoc first (counts_row thread counts ∷ []) (marks_line marks ∷ more)
          ∙ (sym (append_assoc first (thread_line said ∷ marks_line marks ∷ []) more)
          ∙ ap (λ (l : List (List ℕ)). l ++ more) (rows_more setup threads said)))))
      | inr other ↦
          refuse (length (counted_rows setup threads (length threads + 1) counts) + 1)
          (refused_marks (setup_tells reads) bytes setup threads counts (row ∷ more) are low short lines other)
    ]

    at_counts : (setup : Setup) (threads : List ThreadAudit) → AreFirst setup threads → length threads < setup.threads → Later setup threads
        → (rest : List (List ℕ)) → whole_lines bytes ≡ first_rows setup threads ++ rest → Reading
    at_counts setup threads are low later [] lines =
        refuse (length (first_rows setup threads) + 1) (refused_counts (setup_tells reads) bytes setup threads [] are low lines tt)
    at_counts setup threads are low later (row ∷ more) lines =
        elim (known_counts (length threads + 1) row (let few = are.setup_is.few_threads in omega (arith, low, few))) [
          | inl (counts, says) ↦
              at_marks setup threads counts are low says.short later more
              (lines ∙ (ap (λ (r : List ℕ). first_rows setup threads ++ r ∷ more) says.text
              ∙ sym (append_assoc (first_rows setup threads) (counts_row (length threads + 1) counts ∷ []) more)))
          | inr other ↦
              refuse (length (first_rows setup threads) + 1) (refused_counts (setup_tells reads) bytes setup threads (row ∷ more) are low lines other)
        ]

    -- so many threads are left
    at_threads : (left : ℕ) (setup : Setup) (threads : List ThreadAudit) → AreFirst setup threads → length threads + left ≡ setup.threads
        → (rest : List (List ℕ)) → whole_lines bytes ≡ first_rows setup threads ++ rest → Reading
    at_threads zero setup threads are count rest lines = at_recycled setup threads are (omega (arith, count)) rest lines
    at_threads (suc left) setup threads are count rest lines =
        at_counts setup threads are (omega (arith, count))
        (λ said are' rest' lines'. at_threads left setup (threads ++ said ∷ []) are' (omega (arith, count, length-append threads (said ∷ []))) rest' lines')
        rest lines

    at_setup : (rest : List (List ℕ)) → whole_lines bytes ≡ format_row ∷ rest → Reading
    at_setup [] lines = refuse 2 (refused_setup bytes [] lines tt)
    at_setup (row ∷ more) lines = elim (known_setup_row row) [
      | inl (setup, is, text) ↦
          at_threads setup.threads setup [] (none_first setup is) (omega arith) more (lines ∙ ap (λ (r : List ℕ). format_row ∷ r ∷ more) text)
      | inr other ↦ refuse 2 (refused_setup bytes (row ∷ more) lines other)
    ]

    at_format : (lines : List (List ℕ)) → whole_lines bytes ≡ lines → Reading
    at_format [] lines = refuse 1 (refused_format bytes [] lines tt)
    at_format (row ∷ more) lines = elim (known_bytes row format_row) [
      | inl is ↦ at_setup more (lines ∙ ap (λ (r : List ℕ). r ∷ more) is)
      | inr other ↦ refuse 1 (refused_format bytes (row ∷ more) lines other)
    ]

    pub some_reading : Reading
    some_reading = at_format (whole_lines bytes) refl
