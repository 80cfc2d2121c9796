-- The verdict on a text, from what its lines say.
use Rattle.std.proofs.Common.{◌≡◌, ℕ, Bool, false, List, [], refl, sym, ap, subst, ◌∙◌}
use Rattle.std.specs.Prelude.{Ok, Err}
use Rattle.text_lines.specs.Lines.{numbered_lines}
use Rattle.asm_text.specs.declared.fault.AsmFault.{AsmFault}
use Rattle.asm_text.specs.Layout.{StatementLines, Placed, by_threshold, lines_placed, no_owner}
use Rattle.asm_text.specs.Refusals.{read_statements, ends_early, resolved}
use Rattle.asm_text.specs.Writing.{image_bytes}
use Rattle.asm_text.specs.Assembling.{assembled, statements_said, image_of}
use Rattle.asm_text.specs.private.Laying.{lines_of}
use Rattle.asm_text.specs.private.Files.{image_laid}
use Rattle.asm_text.proofs.PlacesInCode.{lines_of-placed}

-- the lines of a text that was laid out
pub said_lines : (threshold : ℕ) (said : StatementLines) (all : List Placed) → all ≡ lines_placed (by_threshold threshold) said → lines_of all ≡ said
said_lines threshold said all is = ap lines_of is ∙ lines_of-placed (by_threshold threshold) 0 no_owner said

module _ (text : List ℕ) (threshold : ℕ) (relative : Bool) (said : StatementLines) (all : List Placed) (is : all ≡ lines_placed (by_threshold threshold) said)
    (read : read_statements [] (numbered_lines text) ≡ Ok said) (whole : ends_early said ≡ false) where
  -- an unresolved line
  pub assembled_fault : (fault : AsmFault) → resolved (lines_of all) (lines_of all) ≡ Err fault → assembled text threshold relative ≡ Err fault
  assembled_fault fault e =
      let at : resolved said said ≡ Err fault = subst (λ ls. resolved ls ls ≡ Err fault) (said_lines threshold said all is) e in
      rw (read, whole, at) refl

  -- the image
  pub assembled_file : resolved (lines_of all) (lines_of all) ≡ Ok (lines_of all) → assembled text threshold relative ≡ Ok (image_bytes (image_laid relative all))
  assembled_file e =
      let at : resolved said said ≡ Ok said = subst (λ ls. resolved ls ls ≡ Ok ls) (said_lines threshold said all is) e in
      let image : image_laid relative all ≡ image_of threshold relative said = rw (said_lines threshold said all is, is) refl in
      let file : assembled text threshold relative ≡ Ok (image_bytes (image_of threshold relative said)) = rw (read, whole, at) refl in
      file ∙ ap (λ f. Ok (image_bytes f)) (sym image)

  -- what the text says, to its end
  pub said_whole : resolved (lines_of all) (lines_of all) ≡ Ok (lines_of all) → statements_said text ≡ Ok said
  said_whole e =
      let at : resolved said said ≡ Ok said = subst (λ ls. resolved ls ls ≡ Ok ls) (said_lines threshold said all is) e in
      rw (read, whole, at) refl
