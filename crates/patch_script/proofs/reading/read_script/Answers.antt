use Rattle.std.proofs.Common.{◌≡◌, ℕ, [], true, false, sym, ap, ◌∙◌}
use Rattle.std.specs.Prelude.{Ok}
use Rattle.std.specs.List.{list_any}
use Rattle.text_lines.specs.Lines.{numbered_lines}
use Rattle.xray_image.specs.Program.{Program}
use Rattle.patch_script.specs.private.Drafts.{lines_of, program_of}
use Rattle.patch_script.specs.Refusals.{commands_of, has_go, holds_for_good, read_lines}
use Rattle.patch_script.proofs.TextEnd.{whole}
use Rattle.patch_script.proofs.reading.read_script.Goals as goal

pub of_draft-requires : goal.of_draft-requires
of_draft-requires c =
    let draft = c.in_ok-draft.draft in
    let got = c.in_ok-draft.ensures in
    let text = c.args.text.now in
    let go : has_go (commands_of (lines_of draft)) ≡ true = sym got.3.standing.going ∙ c.if-not-draft.false in
    let free : list_any (holds_for_good (commands_of (lines_of draft))) (commands_of (lines_of draft)) ≡ false =
    sym (c.holds_for_good.ensures (commands_of (lines_of draft)) got.3.standing) ∙ c.if-holds_for_good.false in
    let read : read_lines (program_of draft) draft.placed.threads [] (numbered_lines text) ≡ Ok (lines_of draft) =
    ap (λ (p : Program). read_lines p draft.placed.threads [] (numbered_lines text)) got.1
    ∙ ap (λ (t : ℕ). read_lines c.args.image.now t [] (numbered_lines text)) got.2 ∙ got.0 in
    record {
      sound = got.3;
      read = (text, whole (program_of draft) draft.placed.threads text (lines_of draft) read go free);
    }
