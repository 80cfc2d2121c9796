use Rattle.std.proofs.Common.{◌∙◌, ap, subst, sym}
use Rattle.xray_image.specs.Program.{Program}
use Rattle.sled_words.specs.Words.{word_count}
use Rattle.patch_script.specs.Micros.{start_of}
use Rattle.patch_script.specs.Refusals.{commands_of}
use Rattle.step_sim.specs.private.Standing.{IsPatcherAt}
use Rattle.step_sim.proofs.ReplayStart.{at_start}
use Rattle.step_sim.proofs.Bounds.{no_holds}
use Rattle.step_sim.proofs.start.SimStart.new.Goals as goal

pub invariant_of-result : goal.invariant_of-result
invariant_of-result c =
    let script = commands_of c.args.script.now.lines in
    let same = c.image-image.ensures.program in
    at_start c.args.steps.now script _ (record {
      accepted = c.image-image.ensures.accepted;
      free = no_holds c.args.script.now.lines (sym c.waits.ensures ∙ c.in_default.is);
      patcher = subst (λ (program : Program). IsPatcherAt program c.args.setup.now.threads script (start_of program c.args.setup.now.threads script) c.in_ok-patcher.patcher)
          same c.in_ok-patcher.ensures.at;
      words = c.in_ok-patcher.ensures.words ∙ ap (λ (program : Program). word_count program c.args.setup.now.threads) same;
      count = c.in_ok-cpus.ensures.count;
      begun = c.in_ok-cpus.ensures.begun;
      pool = c.in_ok-pool.ensures;
      enough = c.requires.setup.enough;
      none_kept = c.in_ok-kept.ensures.empty;
      room = c.in_ok-kept.ensures.room;
      none_counted = c.in_ok-segments.ensures.empty;
      room_counted = c.in_ok-segments.ensures.room;
    })
