-- An audit that is read row by row, and is refused at a row.
use Rattle.std.proofs.Common.{◌≡◌, ◌≢◌, ℕ, ◌+◌, ◌<◌, ◌≤◌, ◌^◌, List, [], ◌∷◌, ◌++◌, length, Some, None, refl, sym, ap, subst, ◌∙◌, arith, inl, inr, append-nil, append_assoc, length-append}
use Rattle.std.specs.Prelude.{◌⊎◌, Err}
use Rattle.std.specs.List.{flat_map}
use Rattle.std.proofs.lemmas.Grind.{flat_map-append}
use Rattle.std.proofs.lemmas.List.Elements.{All-nil}
use Rattle.std.proofs.lemmas.Option.{none-some}
use Rattle.text_lines.specs.Written.{WrittenNumbersRead}
use Rattle.handler_word.specs.declared.mark.Mark.{Mark}
use Rattle.machine_step.specs.declared.setup.Setup.{Setup}
use Rattle.machine_step.specs.Setups.{IsSetup}
use Rattle.machine_step.specs.Texts.{marks_line}
use Rattle.trace_flush.specs.Audit.{ThreadAudit, thread_line}
use Rattle.audit_check.specs.declared.fault.AuditFault.{AuditFault}
use Rattle.audit_check.specs.declared.fault.AuditFault.TheVariants.{Form, NoMemory}
use Rattle.audit_check.specs.declared.reading.Rows.{Rows}
use Rattle.audit_check.specs.declared.thread_rows.Counts.{Counts}
use Rattle.audit_check.specs.private.Lines.{AreFirst, HasTaken, Refuses, all_rows, counts_of, counts_row, first_rows, rows_of}
use Rattle.audit_check.specs.private.Parts.{HasShortCounts, format_row, setup_row}
use Rattle.audit_check.specs.private.Taking.{counts_in, recycled_in}
use Rattle.audit_check.specs.Reading.{IsRefused, ReadsAsAudit, whole_lines}
use Rattle.audit_check.specs.Statements.{HasCounts, MayState, AuditStatement, most_marks, text_of}
use Rattle.audit_check.proofs.Refusals.{IsCountsRow, IsFormatRow, IsMarksRow, IsRecycledRow, IsSetupRow, TellsSetup, Unlike, counted_rows, one_more, refused_counts, refused_end, refused_format, refused_marks, refused_recycled, refused_setup, said_of, text_by_rows}
use Rattle.audit_check.proofs.ReadRows.{counts_only, recycled_only}
use Rattle.audit_check.proofs.RowLines.{joined_lines}

-- ---- rows that are taken

pub took : (bytes : List ℕ) (old new : Rows) (taken : List (List ℕ)) (row : List ℕ) → HasTaken bytes old taken
    → whole_lines old.left.now ≡ row ∷ whole_lines new.left.now → new.number ≡ old.number + 1 → HasTaken bytes new (taken ++ row ∷ [])
took bytes old new taken row has next number = record {
  left = has.left ∙ (ap (λ (l : List (List ℕ)). taken ++ l) next ∙ sym (append_assoc taken (row ∷ []) (whole_lines new.left.now)));
  number = let count = has.number in omega (arith, number, count, length-append taken (row ∷ []));
}

-- the lines of what is left, if nothing is left
no_rows : (bytes : List ℕ) (rows : Rows) (taken : List (List ℕ)) → HasTaken bytes rows taken → rows.left.now ≡ [] → whole_lines bytes ≡ taken ++ []
no_rows bytes rows taken has empty = has.left ∙ ap (λ (l : List ℕ). taken ++ whole_lines l) empty

-- the lines of what was left, with the row that was taken
with_row : (bytes : List ℕ) (rows : Rows) (taken : List (List ℕ)) (row : List ℕ) → HasTaken bytes rows (taken ++ row ∷ [])
    → whole_lines bytes ≡ taken ++ row ∷ whole_lines rows.left.now
with_row bytes rows taken row has = has.left ∙ append_assoc taken (row ∷ []) (whole_lines rows.left.now)

at_line : (bytes : List ℕ) (line number : ℕ) → line ≡ number → IsRefused bytes line → IsRefused bytes number
at_line bytes line number same refused = subst (IsRefused bytes) same refused

-- ---- refusals, by what is left. A row is missing, or it is another one.

module _ (bytes : List ℕ) (rows : Rows) (taken : List (List ℕ)) (IsRow : List ℕ → Type 0)
    (refused : (rest : List (List ℕ)) → whole_lines bytes ≡ taken ++ rest → Unlike IsRow rest → IsRefused bytes (length taken + 1)) where
  pub missing : HasTaken bytes rows taken → rows.left.now ≡ [] → IsRefused bytes (rows.number + 1)
  missing has empty =
      at_line bytes (length taken + 1) (rows.number + 1) (let count = has.number in omega (arith, count))
      (refused [] (no_rows bytes rows taken has empty) tt)

  pub another : (row : List ℕ) → HasTaken bytes rows (taken ++ row ∷ []) → (IsRow row → ⊥) → IsRefused bytes rows.number
  another row has other =
      at_line bytes (length taken + 1) rows.number (let count = has.number in omega (arith, count, length-append taken (row ∷ [])))
      (refused (row ∷ whole_lines rows.left.now) (with_row bytes rows taken row has) other)

  pub row_missing : (fault : AuditFault) → HasTaken bytes rows taken → (fault ≡ Form (rows.number + 1)) × (rows.left.now ≡ []) → Refuses bytes fault
  row_missing fault has none = subst (Refuses bytes) (sym none.0) (missing has none.1)

  pub row_another : (fault : AuditFault) (row : List ℕ) → fault ≡ Form rows.number → HasTaken bytes rows (taken ++ row ∷ []) → (IsRow row → ⊥) → Refuses bytes fault
  row_another fault row is has other = subst (Refuses bytes) (sym is) (another row has other)

-- ---- each row

pub format_refused : (bytes : List ℕ) (rest : List (List ℕ)) → whole_lines bytes ≡ [] ++ rest → Unlike IsFormatRow rest → IsRefused bytes 1
format_refused bytes rest lines other = refused_format bytes rest lines other

pub setup_refused : (bytes : List ℕ) (rest : List (List ℕ)) → whole_lines bytes ≡ (format_row ∷ []) ++ rest → Unlike IsSetupRow rest
    → IsRefused bytes (length (format_row ∷ []) + 1)
setup_refused bytes rest lines other = refused_setup bytes rest lines other

pub counts_refused : TellsSetup → (bytes : List ℕ) (setup : Setup) (threads : List ThreadAudit) → AreFirst setup threads → (thread : ℕ) → thread ≡ length threads + 1
    → thread ≤ setup.threads → (rest : List (List ℕ)) → whole_lines bytes ≡ first_rows setup threads ++ rest → Unlike (IsCountsRow thread) rest
    → IsRefused bytes (length (first_rows setup threads) + 1)
counts_refused tells bytes setup threads are thread number within rest lines other =
    refused_counts tells bytes setup threads rest are (omega (arith, number, within)) lines (subst (λ n. Unlike (IsCountsRow n) rest) number other)

pub marks_refused : TellsSetup → (bytes : List ℕ) (setup : Setup) (threads : List ThreadAudit) → AreFirst setup threads → (thread : ℕ) → thread ≡ length threads + 1
    → thread ≤ setup.threads → (counts : Counts) → HasShortCounts counts → (rest : List (List ℕ))
    → whole_lines bytes ≡ counted_rows setup threads thread counts ++ rest → Unlike IsMarksRow rest
    → IsRefused bytes (length (counted_rows setup threads thread counts) + 1)
marks_refused tells bytes setup threads are thread number within counts short rest lines other =
    subst (λ n. IsRefused bytes (length (counted_rows setup threads n counts) + 1)) (sym number)
    (refused_marks tells bytes setup threads counts rest are (omega (arith, number, within)) short
    (subst (λ n. whole_lines bytes ≡ counted_rows setup threads n counts ++ rest) number lines) other)

pub recycled_refused : TellsSetup → (bytes : List ℕ) (setup : Setup) (threads : List ThreadAudit) → AreFirst setup threads → length threads ≡ setup.threads
    → (rest : List (List ℕ)) → whole_lines bytes ≡ first_rows setup threads ++ rest → Unlike IsRecycledRow rest
    → IsRefused bytes (length (first_rows setup threads) + 1)
recycled_refused tells bytes setup threads are all rest lines other = refused_recycled tells bytes setup threads rest are all lines other

-- a row that isn't read isn't such a row
pub unread_setup : (row : List ℕ) → ((setup : Setup) → IsSetup setup → row ≡ setup_row setup → None ≡ Some setup) → IsSetupRow row → ⊥
unread_setup row only (setup, is, text) = none-some _ (only setup is text)

pub unread_counts : (reads : WrittenNumbersRead) (thread : ℕ) (row : List ℕ) → thread < 2 ^ 32 → None ≡ counts_in thread row → IsCountsRow thread row → ⊥
unread_counts reads thread row small none (said, has, number, is) =
    let text : row ≡ counts_row thread (counts_of said) = subst (λ n. row ≡ counts_row n (counts_of said)) number is in
    none-some _ (none ∙ (ap (counts_in thread) text ∙ counts_only reads thread (counts_of said) small
    (record { passings = has.passings; recorded = has.recorded; segments = has.segments; first = has.first })))

pub unread_marks : (row : List ℕ) → ((all : List Mark) → length all ≤ most_marks → row ≡ marks_line all → ⊥) → IsMarksRow row → ⊥
unread_marks row only (all, few, is) = only all few is

pub unread_recycled : (reads : WrittenNumbersRead) (row : List ℕ) → None ≡ recycled_in row → IsRecycledRow row → ⊥
unread_recycled reads row none (recycled, small, is) = none-some _ (none ∙ (ap recycled_in is ∙ recycled_only reads recycled small))

-- ---- one more thread

pub rows_more : (setup : Setup) (threads : List ThreadAudit) (said : ThreadAudit)
    → first_rows setup threads ++ thread_line said ∷ marks_line said.marks ∷ [] ≡ first_rows setup (threads ++ said ∷ [])
rows_more setup threads said =
    ap (λ (l : List (List ℕ)). format_row ∷ setup_row setup ∷ l)
    (sym (flat_map-append rows_of threads (said ∷ [])))

pub entry_taken : (bytes : List ℕ) (setup : Setup) (threads : List ThreadAudit) (thread : ℕ) (counts : Counts) (marks : List Mark) (rows : Rows)
    → HasTaken bytes rows (first_rows setup threads ++ counts_row thread counts ∷ marks_line marks ∷ []) → AreFirst setup threads
    → HasShortCounts counts → length marks ≤ most_marks → thread ≡ length threads + 1
    → HasTaken bytes rows (first_rows setup (threads ++ said_of thread counts marks ∷ [])) × AreFirst setup (threads ++ said_of thread counts marks ∷ [])
entry_taken bytes setup threads thread counts marks rows has are short few number = (
  subst (HasTaken bytes rows) (rows_more setup threads (said_of thread counts marks)) has,
  one_more setup threads (said_of thread counts marks) are
      (record { passings = short.passings; recorded = short.recorded; segments = short.segments; first = short.first; marks = few }) number,
)

-- no threads yet
pub none_first : (setup : Setup) → IsSetup setup → AreFirst setup []
none_first setup is = record { setup_is = is; numbered = λ i said found. absurd cc; counts = All-nil HasCounts }

-- all of them
pub all_may : (setup : Setup) (threads : List ThreadAudit) (recycled : ℕ) → AreFirst setup threads → length threads ≡ setup.threads → recycled < 2 ^ 64
    → MayState (record { setup = setup; threads = threads; recycled = recycled })
all_may setup threads recycled are count small = record {
  names = record { setup_is = are.setup_is; count = count; numbered = are.numbered };
  counts = are.counts;
  recycled = small;
}

-- ---- the end

pub whole_text : (bytes : List ℕ) (statement : AuditStatement) (rows : Rows) → HasTaken bytes rows (all_rows statement) → rows.left.now ≡ [] → bytes ≡ text_of statement
whole_text bytes statement rows has empty =
    text_by_rows bytes statement (no_rows bytes rows (all_rows statement) has empty ∙ append-nil (all_rows statement))

pub end_refused : TellsSetup → (bytes : List ℕ) (statement : AuditStatement) (rows : Rows) → MayState statement → HasTaken bytes rows (all_rows statement) → rows.left.now ≢ []
    → IsRefused bytes (rows.number + 1)
end_refused tells bytes statement rows may has some =
    at_line bytes (length (all_rows statement) + 1) (rows.number + 1) (let count = has.number in omega (arith, count)) (by (whole_lines rows.left.now) refl)
  where
    by : (lines : List (List ℕ)) → whole_lines rows.left.now ≡ lines → IsRefused bytes (length (all_rows statement) + 1)
    by [] none = absurd (some (sym (joined_lines rows.left.now) ∙ ap (flat_map (λ line. line)) none))
    by (row ∷ more) is = refused_end tells bytes statement row more may (has.left ∙ ap (λ (l : List (List ℕ)). all_rows statement ++ l) is)

-- bytes that are refused read as that, unless memory ran out
pub refused_reads : (bytes : List ℕ) (fault : AuditFault) → Refuses bytes fault → (fault ≡ NoMemory) ⊎ ReadsAsAudit bytes (Err fault)
refused_reads bytes (Form line) refused = inr refused
refused_reads bytes NoMemory refused = inl refl
