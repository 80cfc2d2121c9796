use Rattle.std.proofs.Common.{◌≡◌, ◌≤◌, ◌+◌, ℕ, ap, arith, length, min, refl, subst, sym}
use Rattle.patch_script.specs.Micros.{start_of, total_of}
use Rattle.patch_script.specs.Refusals.{commands_of}
use Rattle.patch_script.specs.StoredWords.{AreCodeAt}
use Rattle.xray_image.specs.Program.{Program}
use Rattle.step_sim.specs.private.Standing.{IsPatcherAt}
use Rattle.step_sim.proofs.Bounds.{length-initial_words}
use Rattle.step_sim.proofs.patcher.Patcher.new.Goals as goal

pub returns-clause-at : goal.returns-clause-at
returns-clause-at c =
    let program = c.args.image.now in
    let script = commands_of c.args.script.now.lines in
    let threads = c.args.threads in
    let start : c.start.result ≡ start_of program threads script =
    subst (λ (p : Program). c.start.result ≡ start_of p threads script) c.requires.program
    (subst (λ (n : ℕ). c.start.result ≡ start_of c.args.script.now.program n script) c.requires.same_threads c.start.ensures.start) in
    let within : c.start.result ≤ total_of program threads script =
    subst (λ (p : Program). c.start.result ≤ total_of p threads script) c.requires.program
    (subst (λ (n : ℕ). c.start.result ≤ total_of c.args.script.now.program n script) c.requires.same_threads c.start.ensures.within) in
    let begun = c.make_steps.ensures.at program threads script 0 (record {
      program_is = c.requires.program;
      threads_are = c.requires.same_threads;
      script_is = refl;
      place_is = refl;
      within = omega arith;
      words = subst (AreCodeAt program threads script 0) (sym c.in_ok-words.ensures) (c.stores_give_the_code.ensures.first program threads script);
    }) in
    let there : min (0 + c.start.result) (total_of program threads script) ≡ start_of program threads script = omega (arith, start, within) in
    subst (λ (n : ℕ). IsPatcherAt program threads script n c.make_steps.new.self) there begun

pub returns-clause-words : goal.returns-clause-words
returns-clause-words c =
    omega (arith, c.make_steps.ensures.words, c.in_ok-words.words.ok.0, ap length c.in_ok-words.ensures, length-initial_words c.args.image.now c.args.threads)
