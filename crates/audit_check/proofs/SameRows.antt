-- The rows of the first threads, one thread after the other.
use Rattle.std.proofs.Common.{◌≡◌, ℕ, zero, suc, ◌+◌, ◌-◌, Bool, List, [], ◌∷◌, ◌++◌, length, map, take, Option, Some, None, sym, ap, subst, ◌∙◌, add-one, arith, append-nil, append_assoc}
use Rattle.std.specs.Prelude.{◌↔◌, IsTrue, slice_get}
use Rattle.std.specs.List.{enumerate_from, flat_map}
use Rattle.std.proofs.lemmas.Grind.{flat_map-append}
use Rattle.std.proofs.lemmas.List.FromFn.{length-enumerate_from}
use Rattle.std.proofs.lemmas.Option.{same_Some}
use Rattle.xray_image.specs.Program.{Program}
use Rattle.fdr_buffer.specs.Filled.{Filled}
use Rattle.fdr_file.specs.Files.{block_bytes, header_bytes}
use Rattle.patch_script.specs.declared.command.PatchCommand.{PatchCommand}
use Rattle.machine_step.specs.declared.setup.Setup.{Setup}
use Rattle.traced_run.specs.Kept.{segments_of, thread_buffers}
use Rattle.traced_run.specs.Runs.{ThreadRun}
use Rattle.trace_flush.specs.Audit.{ThreadAudit}
use Rattle.trace_flush.specs.Flush.{run_header, trace_bytes}
use Rattle.audit_check.specs.declared.blocks.TraceLeft.{TraceLeft}
use Rattle.audit_check.specs.declared.judging.Agreement.{Agreement}
use Rattle.audit_check.specs.declared.judging.FirstThreads.{FirstThreads}
use Rattle.audit_check.specs.private.Blocks.{HasCompared, kept_bytes}
use Rattle.audit_check.specs.private.Walks.{IsFirst, IsFound, Way, first_of}
use Rattle.audit_check.specs.Rows.{CountsAgree, EndsAgree, MarksAgree}
use Rattle.audit_check.specs.Statements.{AuditStatement}
use Rattle.audit_check.specs.Verdicts.{AllAgree, AtThread, CountsRow, EndsRow, MarksRow}
use Rattle.audit_check.proofs.FirstDifferences.{fewer, first_next, last, none_yet}
use Rattle.audit_check.proofs.WalkedThread.{take_all}

-- ---- lists

pub same_at : {X Y Z : Type 0} (f : X → Z) (g : Y → Z) (xs : List X) (ys : List Y) → map f xs ≡ map g ys → (i : ℕ) (x : X) (y : Y)
    → slice_get xs i ≡ Some x → slice_get ys i ≡ Some y → f x ≡ g y
same_at f g [] ys same i x y at at' = absurd cc
same_at f g (x ∷ xs) [] same i x' y at at' = absurd cc
same_at f g (x ∷ xs) (y ∷ ys) same zero x' y' at at' = let is : x ≡ x' = cc in let is' : y ≡ y' = cc in cc
same_at f g (x ∷ xs) (y ∷ ys) same (suc i) x' y' at at' = let rest : map f xs ≡ map g ys = cc in same_at f g xs ys rest i x' y' at at'

take_next : (n i : ℕ) (runs : List ThreadRun) (run : ThreadRun) → slice_get runs i ≡ Some run
    → take (suc i) (enumerate_from n runs) ≡ take i (enumerate_from n runs) ++ (n + i, run) ∷ []
take_next n i [] run at = absurd cc
take_next n zero (first ∷ runs) run at =
    let here : n ≡ n + 0 = omega arith in
    ap (λ (r : ThreadRun). (n, r) ∷ []) (same_Some first run at) ∙ ap (λ m. (m, run) ∷ []) here
take_next n (suc i) (first ∷ runs) run at =
    let number : n + 1 + i ≡ n + suc i = omega arith in
    ap (λ l. (n, first) ∷ l) (take_next (n + 1) i runs run at ∙ ap (λ m. take i (enumerate_from (n + 1) runs) ++ (m, run) ∷ []) number)

-- the bytes of the segments of the first threads
abbrev pub first_bytes : Setup → List ThreadRun → ℕ → List ℕ
first_bytes setup runs threads =
    header_bytes (run_header setup) ++ flat_map block_bytes (flat_map (thread_buffers setup) (take threads (enumerate_from 1 runs)))

bytes_next : (setup : Setup) (runs : List ThreadRun) (i : ℕ) (run : ThreadRun) → slice_get runs i ≡ Some run
    → first_bytes setup runs i ++ kept_bytes setup run.lost (1 + i) (segments_of setup.size run) ≡ first_bytes setup runs (i + 1)
bytes_next setup runs i run at =
    let before = take i (enumerate_from 1 runs) in
    let header = header_bytes (run_header setup) in
    let buffers : flat_map (thread_buffers setup) (take (i + 1) (enumerate_from 1 runs))
    ≡ flat_map (thread_buffers setup) before ++ thread_buffers setup (1 + i, run) =
    ap (λ m. flat_map (thread_buffers setup) (take m (enumerate_from 1 runs))) (add-one i) ∙ ap (flat_map (thread_buffers setup)) (take_next 1 i runs run at)
    ∙ (flat_map-append (thread_buffers setup) before ((1 + i, run) ∷ [])
    ∙ ap (λ (l : List Filled). flat_map (thread_buffers setup) before ++ l) (append-nil (thread_buffers setup (1 + i, run)))) in
    append_assoc header (flat_map block_bytes (flat_map (thread_buffers setup) before)) (flat_map block_bytes (thread_buffers setup (1 + i, run)))
    ∙ ap (λ (l : List ℕ). header ++ l)
    (sym (ap (flat_map block_bytes) buffers ∙ flat_map-append block_bytes (flat_map (thread_buffers setup) before) (thread_buffers setup (1 + i, run))))

-- ---- the first threads

module _ (program : Program) (script : List PatchCommand) (statement : AuditStatement) (trace : List ℕ) (runs : List ThreadRun) where
  abbrev pub Ends : ℕ → Type 0
  Ends number = EndsRow program script statement trace runs number

  abbrev pub Marks : ℕ → Type 0
  Marks number = MarksRow program script statement trace runs number

  abbrev pub Counts : ℕ → Type 0
  Counts number = CountsRow program script statement trace runs number

  -- the first threads were judged
  pub record Judged (threads : ℕ) (first : FirstThreads) (t : TraceLeft) : Type 0 where
    pub ends : IsFirst threads Ends first.ends
    pub marks : AllAgree threads Ends → IsFirst threads Marks first.marks
    pub counts : AllAgree threads Ends → AllAgree threads Marks → IsFirst threads Counts first.counts
    pub compared : AllAgree threads Ends → AllAgree threads Marks → HasCompared trace (first_bytes statement.setup runs threads) t

  -- what agrees of a thread is its row
  pub row_of : (Agree : ThreadAudit → ThreadRun → Type 0) (i : ℕ) (said : ThreadAudit) (run : ThreadRun) → slice_get statement.threads i ≡ Some said
      → slice_get runs i ≡ Some run → Agree said run → AtThread statement runs Agree (i + 1)
  row_of Agree i said run at at' agree said' run' there there' =
      let place : i + 1 - 1 ≡ i = omega arith in
      let same : said ≡ said' = same_Some said said' (sym at ∙ (sym (ap (slice_get statement.threads) place) ∙ there)) in
      let same' : run ≡ run' = same_Some run run' (sym at' ∙ (sym (ap (slice_get runs) place) ∙ there')) in
      subst (λ (r : ThreadRun). Agree said' r) same' (subst (λ (s : ThreadAudit). Agree s run) same agree)

  pub of_row : (Agree : ThreadAudit → ThreadRun → Type 0) (i : ℕ) (said : ThreadAudit) (run : ThreadRun) → slice_get statement.threads i ≡ Some said
      → slice_get runs i ≡ Some run → AtThread statement runs Agree (i + 1) → Agree said run
  of_row Agree i said run at at' row =
      let place : i + 1 - 1 ≡ i = omega arith in
      row said run (ap (slice_get statement.threads) place ∙ at) (ap (slice_get runs) place ∙ at')

  pub decides_row : (Agree : ThreadAudit → ThreadRun → Type 0) (b : Bool) (i : ℕ) (said : ThreadAudit) (run : ThreadRun)
      → slice_get statement.threads i ≡ Some said → slice_get runs i ≡ Some run → IsTrue b ↔ Agree said run → IsTrue b ↔ AtThread statement runs Agree (i + 1)
  decides_row Agree b i said run at at' decides =
      ((λ is. row_of Agree i said run at at' (decides.0 is)), λ row. decides.1 (of_row Agree i said run at at' row))

  abbrev pub way_of : ℕ → ThreadAudit → Way
  way_of i said = record {
    program = program;
    script = script;
    setup = statement.setup;
    thread = i + 1;
    lost = said.first;
    marks = said.marks;
    trace = trace;
    before = first_bytes statement.setup runs i;
  }

  pub judged_none : (first : FirstThreads) (t : TraceLeft) → first.ends ≡ None → first.marks ≡ None → first.counts ≡ None
      → HasCompared trace (header_bytes (run_header statement.setup)) t → Judged 0 first t
  judged_none first t ends marks counts compared = record {
    ends = subst (λ (o : Option ℕ). IsFirst 0 Ends o) (sym ends) (none_yet Ends);
    marks = λ _. subst (λ (o : Option ℕ). IsFirst 0 Marks o) (sym marks) (none_yet Marks);
    counts = λ _ _. subst (λ (o : Option ℕ). IsFirst 0 Counts o) (sym counts) (none_yet Counts);
    compared = λ _ _. subst (λ (l : List ℕ). HasCompared trace l t) (sym (append-nil (header_bytes (run_header statement.setup)))) compared;
  }

  -- one more thread
  pub judged_next : (i : ℕ) (said : ThreadAudit) (run : ThreadRun) (agreement : Agreement) (old new : FirstThreads) (t t' : TraceLeft)
      → slice_get statement.threads i ≡ Some said → slice_get runs i ≡ Some run → run.lost ≡ said.first
      → IsFound (way_of i said) said run agreement t t'
      → new.ends ≡ first_of old.ends (i + 1) agreement.ends → new.marks ≡ first_of old.marks (i + 1) agreement.marks
      → new.counts ≡ first_of old.counts (i + 1) agreement.counts → Judged i old t → Judged (i + 1) new t'
  judged_next i said run agreement old new t t' at at' lost found ends marks counts before = record {
    ends = subst (λ (o : Option ℕ). IsFirst (i + 1) Ends o) (sym ends)
        (first_next Ends i old.ends agreement.ends before.ends (decides_row EndsAgree agreement.ends i said run at at' found.ends));
    marks = λ all.
        let end = of_row EndsAgree i said run at at' (last Ends i all) in
        subst (λ (o : Option ℕ). IsFirst (i + 1) Marks o) (sym marks)
        (first_next Marks i old.marks agreement.marks (before.marks (fewer Ends i all))
        (decides_row (MarksAgree program statement.setup.threads script (i + 1)) agreement.marks i said run at at' (found.marks end)));
    counts = λ all all'.
        let end = of_row EndsAgree i said run at at' (last Ends i all) in
        let mark = of_row (MarksAgree program statement.setup.threads script (i + 1)) i said run at at' (last Marks i all') in
        subst (λ (o : Option ℕ). IsFirst (i + 1) Counts o) (sym counts)
        (first_next Counts i old.counts agreement.counts (before.counts (fewer Ends i all) (fewer Marks i all'))
        (decides_row (CountsAgree statement.setup.size) agreement.counts i said run at at' (found.counts end mark)));
    compared = λ all all'.
        let end = of_row EndsAgree i said run at at' (last Ends i all) in
        let mark = of_row (MarksAgree program statement.setup.threads script (i + 1)) i said run at at' (last Marks i all') in
        let number : i + 1 ≡ 1 + i = omega arith in
        subst (λ (l : List ℕ). HasCompared trace l t')
        (ap (λ n. first_bytes statement.setup runs i ++ kept_bytes statement.setup n (i + 1) (segments_of statement.setup.size run)) (sym lost)
        ∙ (ap (λ n. first_bytes statement.setup runs i ++ kept_bytes statement.setup run.lost n (segments_of statement.setup.size run)) number
        ∙ bytes_next statement.setup runs i run at'))
        (found.compared end mark (before.compared (fewer Ends i all) (fewer Marks i all')));
  }

  -- all threads
  pub all_bytes : (threads : ℕ) → length runs ≡ threads → first_bytes statement.setup runs threads ≡ trace_bytes statement.setup runs
  all_bytes threads count =
      ap (λ (l : List (ℕ × ThreadRun)). header_bytes (run_header statement.setup) ++ flat_map block_bytes (flat_map (thread_buffers statement.setup) l))
      (ap (λ n. take n (enumerate_from 1 runs)) (sym (length-enumerate_from 1 runs ∙ count)) ∙ take_all (enumerate_from 1 runs))
