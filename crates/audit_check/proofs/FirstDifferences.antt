-- The first thread of which a row doesn't agree, and the verdict.
use Rattle.std.proofs.Common.{◌≡◌, ℕ, ◌+◌, Bool, true, false, List, Option, Some, None, refl, subst, arith, inl, inr}
use Rattle.std.specs.Prelude.{◌↔◌, IsTrue}
use Rattle.std.proofs.lemmas.Bool.{cases_lt}
use Rattle.xray_image.specs.Program.{Program}
use Rattle.patch_script.specs.declared.command.PatchCommand.{PatchCommand}
use Rattle.traced_run.specs.Runs.{ThreadRun}
use Rattle.audit_check.specs.private.Walks.{IsFirst, first_of, verdict_by}
use Rattle.audit_check.specs.Statements.{AuditStatement}
use Rattle.audit_check.specs.Verdicts.{AllAgree, CountsRow, EndsRow, FirstToDiffer, IsVerdict, MarksRow, RecycledRow, TraceRow}

module _ (Row : ℕ → Type 0) where
  pub fewer : (threads : ℕ) → AllAgree (threads + 1) Row → AllAgree threads Row
  fewer threads all number some low = all number some (omega arith)

  pub last : (threads : ℕ) → AllAgree (threads + 1) Row → Row (threads + 1)
  last threads all = all (threads + 1) (omega arith) (omega arith)

  pub more : (threads : ℕ) → AllAgree threads Row → Row (threads + 1) → AllAgree (threads + 1) Row
  more threads all row number some low = elim (cases_lt threads number) [
    | inl past ↦ let same : threads + 1 ≡ number = omega arith in subst Row same row
    | inr before ↦ all number some before
  ]

  pub none_yet : IsFirst 0 Row None
  none_yet number some low = absurd (omega arith)

  -- one more thread
  pub first_next : (threads : ℕ) (before : Option ℕ) (agrees : Bool) → IsFirst threads Row before → IsTrue agrees ↔ Row (threads + 1)
      → IsFirst (threads + 1) Row (first_of before (threads + 1) agrees)
  first_next threads None true all decides = more threads all (decides.0 refl)
  first_next threads None false all decides = record {
    some = omega arith;
    within = omega arith;
    differs = λ row. let q : false ≡ true = decides.1 row in absurd cc;
    earlier = λ other some low. all other some (omega arith);
  }
  first_next threads (Some thread) true first decides = later thread first
    where
      later : (thread : ℕ) → FirstToDiffer threads Row thread → FirstToDiffer (threads + 1) Row thread
      later thread first = record {
        some = first.some;
        within = let low = first.within in omega arith;
        differs = first.differs;
        earlier = first.earlier;
      }
  first_next threads (Some thread) false first decides = record {
    some = first.some;
    within = let low = first.within in omega arith;
    differs = first.differs;
    earlier = first.earlier;
  }

-- the verdict, by the first threads
module _ (program : Program) (script : List PatchCommand) (statement : AuditStatement) (trace : List ℕ) (runs : List ThreadRun) where
  abbrev threads : ℕ
  threads = statement.setup.threads

  abbrev AllEnds : Type 0
  AllEnds = AllAgree threads (EndsRow program script statement trace runs)

  abbrev AllMarks : Type 0
  AllMarks = AllAgree threads (MarksRow program script statement trace runs)

  pub verdict_is : (ends marks counts : Option ℕ) (recycled same : Bool) → IsFirst threads (EndsRow program script statement trace runs) ends
      → (AllEnds → IsFirst threads (MarksRow program script statement trace runs) marks)
      → (AllEnds → AllMarks → IsFirst threads (CountsRow program script statement trace runs) counts)
      → IsTrue recycled ↔ RecycledRow program script statement trace runs
      → (AllEnds → AllMarks → IsTrue same ↔ TraceRow program script statement trace runs)
      → IsVerdict program script statement trace runs (verdict_by ends marks counts recycled same)
  verdict_is (Some thread) marks counts recycled same ends by_marks by_counts by_recycled by_trace = ends
  verdict_is None (Some thread) counts recycled same ends by_marks by_counts by_recycled by_trace = (ends, by_marks ends)
  verdict_is None None (Some thread) recycled same ends by_marks by_counts by_recycled by_trace =
      let marks = by_marks ends in (ends, marks, by_counts ends marks)
  verdict_is None None None false same ends by_marks by_counts by_recycled by_trace =
      let marks = by_marks ends in
      (ends, marks, by_counts ends marks, λ row. let q : false ≡ true = by_recycled.1 row in absurd cc)
  verdict_is None None None true false ends by_marks by_counts by_recycled by_trace =
      let marks = by_marks ends in
      (ends, marks, by_counts ends marks, by_recycled.0 refl, λ row. let q : false ≡ true = (by_trace ends marks).1 row in absurd cc)
  verdict_is None None None true true ends by_marks by_counts by_recycled by_trace =
      let marks = by_marks ends in (ends, marks, by_counts ends marks, by_recycled.0 refl, (by_trace ends marks).0 refl)
