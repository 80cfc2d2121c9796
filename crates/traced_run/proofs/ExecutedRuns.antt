-- With whole passings, executing the code comes to the end of the plain run.
use Rattle.std.proofs.Common.{◌≡◌, ℕ, zero, suc, ◌+◌, ◌/◌, ◌%◌, ◌==◌, Bool, true, false, List, [], ◌∷◌, ◌++◌, length, Option, Some, None, refl, sym, ap, subst, ◌∙◌, inl, inr, arith, add-zero, zero-add, suc-add, get_or, length-append, eqb-true, eq-eqb}
use Rattle.std.specs.Prelude.{Contains, FitsSigned, ℤ, pos, ◌-ℤ◌, find, if◌then◌else◌, option_and_then, slice_get}
use Rattle.std.specs.Int.{w32}
use Rattle.std.specs.Option.{option_map, option_map_or}
use Rattle.std.proofs.lemmas.Bool.{ne_eqb}
use Rattle.std.proofs.lemmas.List.{set-set}
use Rattle.std.proofs.lemmas.Option.{slice_get-get_or, slice_get-map, slice_get_within}
use Rattle.subset_decode.specs.declared.instr.Instr.TheVariants.{Mov, Call, Jmp}
use Rattle.subset_decode.specs.Encoding.{spelling}
use Rattle.xray_image.specs.declared.sled.Sled.{Sled}
use Rattle.xray_image.specs.declared.sled.SledKind.{SledKind}
use Rattle.xray_image.specs.declared.sled.SledKind.TheVariants.{Entry, Exit, Tail, Args}
use Rattle.xray_image.specs.declared.unit.Unit.{Unit}
use Rattle.xray_image.specs.declared.unit.What.{What}
use Rattle.xray_image.specs.declared.unit.What.TheVariants as whats
use Rattle.xray_image.specs.Program.{IsAccepted, Program, trampoline_of}
use Rattle.sled_words.specs.Allowed.{IsUnpatchedHead}
use Rattle.sled_words.specs.declared.part.Part.TheVariants.{Head, Id, Opcode, Offset}
use Rattle.sled_words.specs.Parts.{displacement, jump_head, patched_head, patched_opcode}
use Rattle.machine_step.specs.declared.end.End.{End}
use Rattle.machine_step.specs.declared.end.End.TheVariants as ends
use Rattle.machine_step.specs.declared.limits.Limits.{Limits}
use Rattle.handler_word.specs.declared.mark.Mark.{Mark}
use Rattle.machine_step.specs.Loads.{AreWanted, Load, Marked, Reading, Wants, from_start, is_held_at, marks_from}
use Rattle.machine_step.specs.PlainStep.{Ends, Goes, Next, Passing, PlainRun, PlainStep, RunsTo, State, UnitStep, after_passing, fuelled, opening, passing_at, returns}
use Rattle.machine_step.specs.Traced.{sleds_passed}
use Rattle.machine_step.specs.Whole.{FoundPatched, HaveOneValue, HaveOneValueEach, IsWhole, Loaded, loads_by_passing}
use Rattle.machine_step.proofs.PlainWays.{run_count}
use Rattle.machine_step.proofs.OneEnd.{Passes as PassesOrEnds}
use Rattle.machine_step.proofs.OneUnit.{accepted_units}
use Rattle.traced_run.specs.Decoded.{DecodesWhole}
use Rattle.traced_run.specs.Runs.{ThreadRun}
use Rattle.traced_run.specs.Executed.{Executes, bytes_fetched, code_step, executed, loaded_bytes, past, sled_step, unit_step, with_r10}
use Rattle.traced_run.proofs.AcceptedCode.{names_registers, reaches_trampoline, stands_at_unit}
use Rattle.traced_run.proofs.ButR10.{but_r10, does_but, fuelled_but, returns_but}
use Rattle.traced_run.proofs.SledBytes.{call_bytes, jump_away_bytes, jump_bytes, return_bytes}
use Rattle.traced_run.proofs.SledSteps.{Found, all_fetched, call_step, found_first, head_fetched, jump_step, leave_step, none_found, rest_fetched, return_step}

-- ---- a sled

-- a step with the loads of a passing, from a state to what the plain run does, with some r10
record Passes (program : Program) (limits : Limits) (k : ℕ) (sled : Sled) (own : List Load) (s : State) (next : Next) : Type 0 where
  r10 : ℕ
  step : sled_step program.trampolines limits sled s (bytes_fetched k own) ≡ Some (but_r10 r10 next)

-- a return of a thread with another r10
return_but : (limits : Limits) (r : ℕ) (s : State)
    → fuelled limits (with_r10 r s) (returns (with_r10 r s) s.stack) ≡ but_r10 r (fuelled limits s (returns s s.stack))
return_but limits r s =
    ap (λ next. fuelled limits (with_r10 r s) next) (returns_but r s s.stack) ∙ fuelled_but limits r s (returns s s.stack)

module _ (bytes : List ℕ) (program : Program) (a : IsAccepted bytes program) (limits : Limits) (k : ℕ) (sled : Sled) (own : List Load)
    (one : HaveOneValue own k) where
  -- a jump over the sled
  jumps : (r : ℕ) (s : State) (head : ℕ) → Loaded own k Head head → head ≡ jump_head
      → sled_step program.trampolines limits sled (with_r10 r s) (bytes_fetched k own) ≡ Some (Goes (past 11 (with_r10 r s)))
  jumps r s head loaded is =
      ap (sled_step program.trampolines limits sled (with_r10 r s))
      (head_fetched k own head one loaded ∙ ap (λ (front : List ℕ). front ++ rest_fetched k own) (ap (loaded_bytes Head) is ∙ jump_bytes))
      ∙ jump_step program.trampolines limits sled (with_r10 r s) (rest_fetched k own)

  unpatched_passes : (kind : SledKind) → (r : ℕ) (s : State) (head : ℕ) → Loaded own k Head head → IsUnpatchedHead kind head
      → Passes program limits k sled own (with_r10 r s) (after_passing limits s kind)
  unpatched_passes Entry r s head loaded is = record { r10 = r; step = jumps r s head loaded is }
  unpatched_passes Tail r s head loaded is = record { r10 = r; step = jumps r s head loaded is }
  unpatched_passes Args r s head loaded is = record { r10 = r; step = jumps r s head loaded is }
  unpatched_passes Exit r s head loaded is = record {
    r10 = r;
    step =
        ap (sled_step program.trampolines limits sled (with_r10 r s))
        (head_fetched k own head one loaded ∙ ap (λ (front : List ℕ). front ++ rest_fetched k own) (return_bytes head is.1))
        ∙ (return_step program.trampolines limits sled (with_r10 r s) (head / 256 % 256 ∷ rest_fetched k own) ∙ ap Some (return_but limits r s));
  }

  -- r10 is written again
  again : (r id : ℕ) (s : State) → with_r10 id (with_r10 r s) ≡ with_r10 id s
  again r id s = ap (λ (registers : List ℕ). let t : State = record s { registers = registers } in t) (set-set s.registers 10 r id)

  -- the distance from the end of a sled at an address to its trampoline
  abbrev distance_from : ℕ → ℤ
  distance_from address = pos (trampoline_of program.trampolines sled.kind) -ℤ pos (address + 11)

  abbrev patched_bytes : ℕ → List ℕ
  patched_bytes opcode =
      loaded_bytes Head patched_head ++ loaded_bytes Id sled.id ++ loaded_bytes Opcode opcode
      ++ loaded_bytes Offset (displacement (sled.address + 11) (trampoline_of program.trampolines sled.kind))

  patched_fetched : FoundPatched program k sled own → bytes_fetched k own ≡ patched_bytes (patched_opcode sled.kind)
  patched_fetched found =
      all_fetched k own patched_head sled.id (patched_opcode sled.kind) _ one found.head found.id found.opcode found.offset

  module _ (r : ℕ) (s : State) (at : s.address ≡ sled.address) (among : slice_get program.sleds k ≡ Some sled) where
    near : FitsSigned w32 (distance_from sled.address)
    near = reaches_trampoline bytes program a k sled among

    called : patched_opcode sled.kind ≡ 0xE8 → FoundPatched program k sled own
        → sled_step program.trampolines limits sled (with_r10 r s) (bytes_fetched k own) ≡ Some (Goes (with_r10 sled.id (past 11 s)))
    called opcode found =
        let its = patched_fetched found ∙ ap patched_bytes opcode
        ∙ call_bytes sled.id (sled.address + 11) (trampoline_of program.trampolines sled.kind) near
        ∙ ap (λ address. spelling (Mov 10 sled.id) ++ spelling (Call (distance_from address))) (sym at) in
        ap (sled_step program.trampolines limits sled (with_r10 r s)) its
        ∙ (call_step program.trampolines limits sled (with_r10 r s) ∙ ap (λ (t : State). Some (Goes (past 11 t))) (again r sled.id s))

    patched_passes : (kind : SledKind) → sled.kind ≡ kind → FoundPatched program k sled own
        → Passes program limits k sled own (with_r10 r s) (after_passing limits s kind)
    patched_passes Entry is found = record { r10 = sled.id; step = called (ap patched_opcode is) found }
    patched_passes Tail is found = record { r10 = sled.id; step = called (ap patched_opcode is) found }
    patched_passes Args is found = record { r10 = sled.id; step = called (ap patched_opcode is) found }
    patched_passes Exit is found = record {
      r10 = sled.id;
      step =
          let its = patched_fetched found ∙ ap patched_bytes (ap patched_opcode is)
          ∙ jump_away_bytes sled.id (sled.address + 11) (trampoline_of program.trampolines sled.kind) near
          ∙ ap (λ address. spelling (Mov 10 sled.id) ++ spelling (Jmp (distance_from address))) (sym at) in
          ap (sled_step program.trampolines limits sled (with_r10 r s)) its
          ∙ (leave_step program.trampolines limits sled (with_r10 r s)
          ∙ ap Some (ap (λ (t : State). fuelled limits t (returns t s.stack)) (again r sled.id s) ∙ return_but limits sled.id s));
    }

    sled_passes : IsWhole program k sled own → Passes program limits k sled own (with_r10 r s) (after_passing limits s sled.kind)
    sled_passes (inl (head, is, loaded)) = unpatched_passes sled.kind r s head loaded is
    sled_passes (inr found) = patched_passes sled.kind refl found

-- ---- a unit, and a step

-- each of these passings, numbered from a number on, has loads with which it decodes its sled whole, and which have one
-- value for each of its parts
abbrev HasOwn : Program → List (List Load) → ℕ → List Passing → Type 0
HasOwn program loads number passed =
    (m : ℕ) (p : Passing) → slice_get passed m ≡ Some p
    → (own : List Load) × (slice_get loads (number + m) ≡ Some own)
    × ((sled : Sled) → slice_get program.sleds p.sled ≡ Some sled → IsWhole program p.sled sled own × HaveOneValue own p.sled)

-- places in two lists, one after the other
first_at : {X : Type 0} (xs ys : List X) (i : ℕ) (x : X) → slice_get xs i ≡ Some x → slice_get (xs ++ ys) i ≡ Some x
first_at [] ys i x at = absurd cc
first_at (first ∷ xs) ys zero x at = at
first_at (first ∷ xs) ys (suc i) x at = first_at xs ys i x at

later_at : {X : Type 0} (xs ys : List X) (i : ℕ) → slice_get (xs ++ ys) (length xs + i) ≡ slice_get ys i
later_at [] ys i = ap (slice_get ys) (zero-add i)
later_at (first ∷ xs) ys i = ap (slice_get (first ∷ (xs ++ ys))) (suc-add (length xs) i) ∙ later_at xs ys i

-- the end of an execution, and one step before it
ends_at : (program : Program) (limits : Limits) (loads : List (List Load)) (n : ℕ) (s last : State) (end : End)
    → code_step program limits loads s ≡ Some (Ends end last) → executed program limits loads (suc n) s ≡ Some (end, last)
ends_at program limits loads n s last end e = rw e refl

goes_on : (program : Program) (limits : Limits) (loads : List (List Load)) (n : ℕ) (s mid : State)
    → code_step program limits loads s ≡ Some (Goes mid) → executed program limits loads (suc n) s ≡ executed program limits loads n mid
goes_on program limits loads n s mid e = rw e refl

module _ (bytes : List ℕ) (program : Program) (a : IsAccepted bytes program) (limits : Limits) (thread : ℕ) (loads : List (List Load)) where
  unit_executes : (r : ℕ) (s : State) (u : Unit) (what : What) (made : List Passing) (next : Next) → Contains program.units u → u.address ≡ s.address
      → u.what ≡ what → HasOwn program loads s.passings made → UnitStep program limits thread s what made next
      → (r' : ℕ) × (unit_step program limits loads (with_r10 r s) what ≡ Some (but_r10 r' next))
  unit_executes r s u (whats.Plain instr) made next among at is owns (none, e) =
      (r, ap Some (sym (ap (but_r10 r) e ∙ (sym (fuelled_but limits r s _) ∙ ap (fuelled limits (with_r10 r s)) (sym (does_but r s _ instr (names_registers bytes program a u instr among is)))))))
  unit_executes r s u (whats.Sled k) made next among at is owns step = by_left (s.passings == limits.passings) step
    where
      passing : Sled → List Load → Option Next
      passing sled own = sled_step program.trampolines limits sled (record (with_r10 r s) { passings = s.passings + 1 }) (bytes_fetched k own)

      by_left : (left : Bool) → PassesOrEnds program limits thread s k left made next
          → (r' : ℕ) × ((if left then Some (Ends ends.Passings (with_r10 r s))
          else option_and_then (λ sled. option_and_then (passing sled) (slice_get loads s.passings)) (slice_get program.sleds k)) ≡ Some (but_r10 r' next))
      by_left true (none, e) = (r, ap (λ (n : Next). Some (but_r10 r n)) (sym e))
      by_left false (sled, found, one, e) =
          let its = owns 0 (passing_at limits thread s k sled) (ap (λ ps. slice_get ps 0) one) in
          let after : State = record s { passings = s.passings + 1 } in
          let address = sym at ∙ sym (stands_at_unit bytes program a u k sled among is found) in
          let good = its.2 sled found in
          let passes = sled_passes bytes program a limits k sled its.0 good.1 r after address found good.0 in
          let own_at : slice_get loads s.passings ≡ Some its.0 = sym (ap (slice_get loads) (add-zero s.passings)) ∙ its.1 in (
            passes.r10,
            ap (λ (o : Option Sled). option_and_then (λ sled. option_and_then (passing sled) (slice_get loads s.passings)) o) found
                ∙ (ap (λ (o : Option (List Load)). option_and_then (passing sled) o) own_at
                ∙ (passes.step ∙ ap (λ (n : Next). Some (but_r10 passes.r10 n)) (sym e))),
          )
  unit_executes r s u whats.Pad made next among at is owns (none, e) = (r, ap (λ (n : Next). Some (but_r10 r n)) (sym e))

  step_executes : (r : ℕ) (s : State) (made : List Passing) (next : Next) → HasOwn program loads s.passings made
      → PlainStep program limits thread s made next → (r' : ℕ) × (code_step program limits loads (with_r10 r s) ≡ Some (but_r10 r' next))
  step_executes r s made next owns (inl (far, none, e)) =
      let is_here : Unit → Bool = λ u. u.address == s.address in
      let nowhere : find is_here program.units ≡ None = none_found is_here program.units (λ u among. ne_eqb u.address s.address (far u among)) in (
        r,
        ap (λ (o : Option Unit). option_map_or (λ u. unit_step program limits loads (with_r10 r s) u.what) o (Some (Ends ends.BadTarget (with_r10 r s)))) nowhere
            ∙ ap (λ (n : Next). Some (but_r10 r n)) (sym e),
      )
  step_executes r s made next owns (inr (u, among, at, step)) =
      let executed = unit_executes r s u u.what made next among at refl owns step in
      let is_here : Unit → Bool = λ u. u.address == s.address in
      let found : Found is_here program.units = found_first is_here program.units u among (eq-eqb u.address s.address at) in
      let same : found.0 ≡ u =
      (accepted_units bytes program a).same found.0 u found.2 among (eqb-true found.0.address s.address found.3 ∙ sym at) in (
        executed.0,
        ap (λ (o : Option Unit). option_map_or (λ u. unit_step program limits loads (with_r10 r s) u.what) o (Some (Ends ends.BadTarget (with_r10 r s))))
            (found.1 ∙ ap Some same)
            ∙ executed.1,
      )

  run_executes : (n r : ℕ) (s : State) (passed : List Passing) (end : End) (last : State) → HasOwn program loads s.passings passed
      → RunsTo program limits thread n s passed end last
      → (r' : ℕ) × (executed program limits loads (suc n) (with_r10 r s) ≡ Some (end, with_r10 r' last))
  run_executes zero r s passed end last owns step =
      let stepped = step_executes r s passed (Ends end last) owns step in
      (stepped.0, ends_at program limits loads 0 (with_r10 r s) (with_r10 stepped.0 last) end stepped.1)
  run_executes (suc n) r s passed end last owns (made, later, mid, step, rest, joined) =
      let both : HasOwn program loads s.passings (made ++ later) = subst (HasOwn program loads s.passings) joined owns in
      let own : HasOwn program loads s.passings made = λ m p at. both m p (first_at made later m p at) in
      let stepped = step_executes r s made (Goes mid) own step in
      let count : mid.passings ≡ s.passings + length made =
      omega (
        arith,
        run_count program limits thread (suc n) s last passed end (made, later, mid, step, rest, joined),
        run_count program limits thread n mid last later end rest,
        ap length joined ∙ length-append made later,
      ) in
      let afterwards : HasOwn program loads mid.passings later = λ m p at.
      let its = both (length made + m) p (later_at made later m ∙ at) in
      let number : s.passings + (length made + m) ≡ mid.passings + m = omega arith in
      (its.0, sym (ap (slice_get loads) number) ∙ its.1, its.2) in
      let others = run_executes n stepped.0 mid later end last afterwards rest in
      (others.0, goes_on program limits loads (suc n) (with_r10 r s) (with_r10 stepped.0 mid) stepped.1 ∙ others.1)

-- ---- a whole run

-- each passing that has its mark has loads of its own
none_cut : (program : Program) (threads thread : ℕ) (hold : Option ℕ) (number k : ℕ) (sleds : List ℕ) (loads : List Load) (word : ℕ) (recording : Mark)
    → from_start program threads thread (is_held_at hold number) k loads ≡ Wants word recording
    → length (loads_by_passing program threads thread hold number (k ∷ sleds) loads) ≡ length (marks_from program threads thread hold number (k ∷ sleds) loads)
none_cut program threads thread hold number k sleds loads word recording e = rw e refl

one_cut : (program : Program) (threads thread : ℕ) (hold : Option ℕ) (number k : ℕ) (sleds : List ℕ) (loads : List Load) (mark : Mark) (more : List Load)
    → from_start program threads thread (is_held_at hold number) k loads ≡ Marked mark more
    → length (loads_by_passing program threads thread hold (number + 1) sleds more) ≡ length (marks_from program threads thread hold (number + 1) sleds more)
    → length (loads_by_passing program threads thread hold number (k ∷ sleds) loads) ≡ length (marks_from program threads thread hold number (k ∷ sleds) loads)
one_cut program threads thread hold number k sleds loads mark more e later = rw e (ap suc later)

as_many : (program : Program) (threads thread : ℕ) (hold : Option ℕ) (number : ℕ) (sleds : List ℕ) (loads : List Load)
    → length (loads_by_passing program threads thread hold number sleds loads) ≡ length (marks_from program threads thread hold number sleds loads)
as_many program threads thread hold number [] loads = refl
as_many program threads thread hold number (k ∷ sleds) loads =
    by_reading (λ more. as_many program threads thread hold (number + 1) sleds more) (from_start program threads thread (is_held_at hold number) k loads) refl
  where
    by_reading : ((more : List Load) → length (loads_by_passing program threads thread hold (number + 1) sleds more) ≡ length (marks_from program threads thread hold (number + 1) sleds more))
        → (r : Reading) → from_start program threads thread (is_held_at hold number) k loads ≡ r
        → length (loads_by_passing program threads thread hold number (k ∷ sleds) loads) ≡ length (marks_from program threads thread hold number (k ∷ sleds) loads)
    by_reading later (Wants word recording) e = none_cut program threads thread hold number k sleds loads word recording e
    by_reading later (Marked mark more) e = one_cut program threads thread hold number k sleds loads mark more e (later more)

-- wanted loads have one value for each part in each passing
abbrev pub WantedHaveOne : Type 0
WantedHaveOne = (program : Program) (threads thread : ℕ) (hold : Option ℕ) (sleds : List ℕ) (loads : List Load)
    → AreWanted program threads thread hold sleds loads → HaveOneValueEach program threads thread hold sleds loads

pub whole_executes : WantedHaveOne → (bytes : List ℕ) (program : Program) (limits : Limits) (threads number : ℕ) (hold : Option ℕ) (run : ThreadRun) (loads : List Load)
    → IsAccepted bytes program → PlainRun program limits number run.passed run.end run.last → DecodesWhole program threads number hold run loads
    → Executes program limits threads number hold run loads
whole_executes ones bytes program limits threads number hold run loads a (n, plain) decodes =
    let cuts = loads_by_passing program threads number hold 0 (sleds_passed run.passed) loads in
    let long : length cuts ≡ length run.passed =
    as_many program threads number hold 0 (sleds_passed run.passed) loads ∙ (sym (ap length decodes.marks) ∙ decodes.each) in
    let owns : HasOwn program cuts 0 run.passed = λ m p at.
    let within = slice_get_within run.passed m p at in
    let own : slice_get cuts m ≡ Some (get_or cuts m []) = slice_get-get_or cuts m [] (omega (arith, long, within)) in
    let sled_at : slice_get (sleds_passed run.passed) m ≡ Some p.sled =
    slice_get-map (λ (p : Passing). p.sled) run.passed m ∙ ap (option_map (λ (p : Passing). p.sled)) at in
    let one = ones program threads number hold (sleds_passed run.passed) loads decodes.wanted m p.sled (get_or cuts m []) sled_at in (
      get_or cuts m [],
      ap (slice_get cuts) (zero-add m) ∙ own,
      λ sled found. (
        decodes.whole m p.sled sled (get_or cuts m []) sled_at found own,
        one (slice_get_within program.sleds p.sled sled found) own,
      ),
    ) in
    let executed = run_executes bytes program a limits number cuts n 0 (opening program number) run.passed run.end run.last owns plain in
    record { steps = suc n; r10 = executed.0; ends = executed.1 }
