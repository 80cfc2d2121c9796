use Rattle.std.proofs.Common.{◌≡◌, false, List, sym, ap, subst, inr, ◌∙◌, rules}
use Rattle.std.specs.Prelude.{Ok, Err}
use Rattle.std.proofs.lemmas.Result.{err_from_is_err_and}
use Rattle.asm_text.specs.declared.fault.AsmFault.{AsmFault}
use Rattle.asm_text.specs.declared.layout.Laid.{Laid}
use Rattle.asm_text.specs.Refusals.{ends_early, resolved}
use Rattle.asm_text.specs.private.FirstPass.{lines_in}
use Rattle.asm_text.specs.private.Laying.{placed_in, lines_of}
use Rattle.asm_text.specs.private.LaidTexts.{all_in}
use Rattle.asm_text.specs.Assembling.{assembled}
use Rattle.asm_text.specs.Writing.{image_bytes}
use Rattle.asm_text.specs.private.Files.{image_laid}
use Rattle.asm_text.proofs.TextVerdict.{assembled_fault, assembled_file, said_whole}
use Rattle.asm_text.proofs.ProgramLaw.{holds_program}
use Rattle.asm_text.proofs.assembling.assemble.Goals as goal
use Rattle.asm_text.proofs.assembling.assemble.Goals.{In_err-resolve, In_ok-write_file}

-- an unresolved line
fault_verdict : (c : In_err-resolve) (fault : AsmFault) → resolved (lines_of (placed_in c.deref.result.now)) (lines_of (placed_in c.deref.result.now)) ≡ Err fault
    → assembled c.args.text.now c.args.threshold c.args.relative ≡ Err fault
fault_verdict c fault refused =
    let said = lines_in c.in_ok-pass.pass.entries.items in
    let whole : ends_early said ≡ false = sym (c.end_early.ensures said c.in_ok-pass.ensures.reads.1.totals) ∙ c.if-end_early.false in
    let found : resolved (lines_of (all_in c.in_ok-laid.laid)) (lines_of (all_in c.in_ok-laid.laid)) ≡ Err fault =
    subst (λ (lines : List Laid). resolved (lines_of (placed_in lines)) (lines_of (placed_in lines)) ≡ Err fault) c.deref.ensures.value refused in
    assembled_fault c.args.text.now c.args.threshold c.args.relative said (all_in c.in_ok-laid.laid) c.in_ok-laid.ensures.lines c.in_ok-pass.ensures.reads.0 whole fault found

-- the image
file_verdict : (c : In_ok-write_file) → assembled c.args.text.now c.args.threshold c.args.relative ≡ Ok c.in_ok-write_file.field-0.items
file_verdict c =
    let said = lines_in c.in_ok-pass.pass.entries.items in
    let whole : ends_early said ≡ false = sym (c.end_early.ensures said c.in_ok-pass.ensures.reads.1.totals) ∙ c.if-end_early.false in
    let found : resolved (lines_of (all_in c.in_ok-laid.laid)) (lines_of (all_in c.in_ok-laid.laid)) ≡ Ok (lines_of (all_in c.in_ok-laid.laid)) = search rules in
    assembled_file c.args.text.now c.args.threshold c.args.relative said (all_in c.in_ok-laid.laid) c.in_ok-laid.ensures.lines c.in_ok-pass.ensures.reads.0 whole found
    ∙ ap (λ bytes. Ok bytes) (sym (c.in_ok-write_file.ensures ∙ ap (λ r. image_bytes (image_laid r (all_in c.in_ok-laid.laid))) c.new-2.ensures))

pub returns-in_err-resolve-clause-made : goal.returns-in_err-resolve-clause-made
returns-in_err-resolve-clause-made c =
    let p = err_from_is_err_and c.from_residual-in_err-resolve.result c.from_residual-in_err-resolve.ensures.1 in
    rw (p.1, p.2) (inr (sym (fault_verdict (goal.at.returns-in_err-resolve-clause-made c).In_err-resolve _ c.in_err-resolve.ensures)))

pub returns-clause-made : goal.returns-clause-made
returns-clause-made c = inr (sym (file_verdict (goal.at.returns-clause-made c).In_ok-write_file))

-- the program
pub returns-clause-accepted : goal.returns-clause-accepted
returns-clause-accepted c =
    let said = lines_in c.in_ok-pass.pass.entries.items in
    let whole : ends_early said ≡ false = sym (c.end_early.ensures said c.in_ok-pass.ensures.reads.1.totals) ∙ c.if-end_early.false in
    let found : resolved (lines_of (all_in c.in_ok-laid.laid)) (lines_of (all_in c.in_ok-laid.laid)) ≡ Ok (lines_of (all_in c.in_ok-laid.laid)) = search rules in
    holds_program c.args.text.now c.args.threshold c.args.relative said
    (said_whole c.args.text.now c.args.threshold c.args.relative said (all_in c.in_ok-laid.laid) c.in_ok-laid.ensures.lines c.in_ok-pass.ensures.reads.0 whole found)
    c.in_ok-write_file.field-0.items
    (file_verdict (goal.at.returns-clause-accepted c).In_ok-write_file)
