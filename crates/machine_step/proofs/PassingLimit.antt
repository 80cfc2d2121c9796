-- A plain run makes no more passings than its limit.
use Rattle.std.proofs.Common.{◌≡◌, ℕ, zero, suc, ◌+◌, ◌≤◌, ◌==◌, Bool, true, false, List, [], ◌++◌, length, refl, ap, ◌∙◌, arith, inl, inr, append-nil, length-append}
use Rattle.std.proofs.lemmas.Bool.{eqb-false}
use Rattle.xray_image.specs.declared.unit.What.{What}
use Rattle.xray_image.specs.declared.unit.What.TheVariants as whats
use Rattle.xray_image.specs.Program.{Program}
use Rattle.machine_step.specs.declared.end.End.{End}
use Rattle.machine_step.specs.declared.limits.Limits.{Limits}
use Rattle.machine_step.specs.PlainStep.{Ends, Goes, Next, Passing, PlainRun, PlainStep, RunsTo, State, UnitStep, opening}
use Rattle.machine_step.proofs.PlainWays.{way_count}
use Rattle.machine_step.proofs.OneEnd.{Passes}

sled_within : (program : Program) (limits : Limits) (thread k : ℕ) (s : State) (spent : Bool) (made : List Passing) (next : Next)
    → s.passings == limits.passings ≡ spent → Passes program limits thread s k spent made next → s.passings ≤ limits.passings
    → s.passings + length made ≤ limits.passings
sled_within program limits thread k s true made next is (none, ended) low = let count : length made ≡ 0 = ap length none in omega arith
sled_within program limits thread k s false made next is (sled, found, one, goes) low =
    let count : length made ≡ 1 = ap length one in
    let other = eqb-false s.passings limits.passings is in omega arith

unit_within : (program : Program) (limits : Limits) (thread : ℕ) (s : State) (what : What) (made : List Passing) (next : Next)
    → UnitStep program limits thread s what made next → s.passings ≤ limits.passings → s.passings + length made ≤ limits.passings
unit_within program limits thread s (whats.Plain instr) made next (none, is) low = let count : length made ≡ 0 = ap length none in omega arith
unit_within program limits thread s (whats.Sled k) made next step low =
    sled_within program limits thread k s (s.passings == limits.passings) made next refl step low
unit_within program limits thread s whats.Pad made next (none, is) low = let count : length made ≡ 0 = ap length none in omega arith

step_within : (program : Program) (limits : Limits) (thread : ℕ) (s : State) (made : List Passing) (next : Next)
    → PlainStep program limits thread s made next → s.passings ≤ limits.passings → s.passings + length made ≤ limits.passings
step_within program limits thread s made next (inl (far, none, is)) low = let count : length made ≡ 0 = ap length none in omega arith
step_within program limits thread s made next (inr (u, among, at, step)) low = unit_within program limits thread s u.what made next step low

-- one step is a way
one_way : (program : Program) (limits : Limits) (thread : ℕ) (s t : State) (made : List Passing) → PlainStep program limits thread s made (Goes t)
    → t.passings ≡ s.passings + length made
one_way program limits thread s t made step =
    let none : made ≡ made ++ [] = simp append-nil in
    way_count program limits thread 1 s t made (made, [], t, step, (refl, refl), none)

run_within : (program : Program) (limits : Limits) (thread n : ℕ) (s last : State) (passed : List Passing) (end : End)
    → RunsTo program limits thread n s passed end last → s.passings ≤ limits.passings → s.passings + length passed ≤ limits.passings
run_within program limits thread zero s last passed end step low = step_within program limits thread s passed (Ends end last) step low
run_within program limits thread (suc n) s last passed end (first, later, mid, step, rest, joined) low =
    let count : length passed ≡ length first + length later = ap length joined ∙ length-append first later in
    let here = step_within program limits thread s first (Goes mid) step low in
    let at = one_way program limits thread s mid first step in
    let there = run_within program limits thread n mid last later end rest (omega arith) in omega arith

pub limited : (program : Program) (limits : Limits) (thread : ℕ) (passed : List Passing) (end : End) (last : State)
    → PlainRun program limits thread passed end last → length passed ≤ limits.passings
limited program limits thread passed end last (n, run) =
    let within = run_within program limits thread n (opening program thread) last passed end run (omega arith) in omega arith
