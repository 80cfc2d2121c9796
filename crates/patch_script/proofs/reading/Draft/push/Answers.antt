use Rattle.std.proofs.Common.{◌≡◌, ◌≤◌, ℕ, List, [], ◌∷◌, ◌++◌, sym, ap, subst, ◌∙◌}
use Rattle.std.proofs.lemmas.List.{map-append}
use Rattle.xray_image.specs.Ids.{id_count}
use Rattle.patch_script.specs.declared.command.PatchCommand.{PatchCommand}
use Rattle.patch_script.specs.private.Drafts.{lines_of}
use Rattle.patch_script.specs.private.Placing.{lines_in}
use Rattle.patch_script.specs.Refusals.{commands_of}
use Rattle.patch_script.specs.private.Standing.{IsStanding}
use Rattle.patch_script.proofs.CommandsSoFar.{standing_more}
use Rattle.patch_script.proofs.reading.Draft.push.Goals as goal

pub returns : goal.returns
returns c =
    let old = c.args.self.now in
    let script : commands_of (lines_in c.push.new.self) ≡ commands_of (lines_of old) ++ c.args.command ∷ [] =
    ap commands_of c.in_ok-push.ensures.lines ∙ map-append (λ (line : ℕ × PatchCommand). line.1) (lines_of old) ((c.args.line, c.args.command) ∷ []) in
    record {
      program = c.in_ok-push.ensures.image;
      threads = c.in_ok-push.ensures.threads;
      lines = c.in_ok-push.ensures.lines;
      sound = record {
        few_threads = subst (λ (n : ℕ). n ≤ 16) (sym c.in_ok-push.ensures.threads) c.requires.sound.few_threads;
        ids = c.requires.sound.ids ∙ ap id_count (sym c.in_ok-push.ensures.image);
        placed = c.in_ok-push.ensures.sound;
        standing = subst (λ (commands : List PatchCommand). IsStanding commands c.take.new.self) (sym script)
            (standing_more (commands_of (lines_of old)) c.args.command old.standing c.take.new.self c.requires.sound.standing c.take.ensures c.requires.admitted.hold c.requires.admitted.log);
      };
    }
