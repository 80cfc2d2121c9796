use Rattle.std.proofs.Common.{◌%◌, cond, eqb, ◌∷◌}
use Rattle.xray_image.specs.Units.{piece_bytes, JumpSled, ReturnSled}
use Rattle.asm_text.specs.declared.statement.Branch.TheVariants as branches
use Rattle.asm_text.specs.Layout.{piece_of, Jump}
use Rattle.asm_text.specs.private.LaidTexts.{all_in}
use Rattle.asm_text.proofs.CodeLemmas.{sled_alone, sled_then_branch, added_after}
use Rattle.asm_text.proofs.code.push_traced.Goals as goal

pub returns-in_ok-push_sled-in-TailJump : goal.returns-in_ok-push_sled-in-TailJump
returns-in_ok-push_sled-in-TailJump c =
    let sled = cond (eqb (c.args.place % 2) 0) (piece_bytes (JumpSled 0x200)) (0x90 ∷ piece_bytes (JumpSled 0x200)) in
    let branch = piece_bytes (piece_of (all_in c.args.text.now) c.args.following (Jump branches.Jmp c.in-TailJump.name.now)) in
    rw (c.in-TailJump.is, sled_then_branch (all_in c.args.text.now) c.args.following c.args.place (JumpSled 0x200) branches.Jmp c.in-TailJump.name.now)
    (added_after c.push_branch.result c.push_branch.new.out.items c.push_sled.new.out.items c.args.out.now.items sled branch c.in_ok-push_sled-in-TailJump.ensures c.push_branch.ensures)

pub returns-in-Return : goal.returns-in-Return
returns-in-Return c =
    rw (c.in-Return.is, sled_alone (all_in c.args.text.now) c.args.following c.args.place (ReturnSled 0x200)) c.push_sled-in-Return.ensures
