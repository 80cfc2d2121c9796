use Rattle.std.proofs.Common.{arith, sym, ◌≡◌, ◌+◌, length, drop, ltb, false}
use Rattle.std.proofs.lemmas.Bool.{le-ltb}
use Rattle.std.proofs.lemmas.List.{drop-drop}
use Rattle.std.proofs.lemmas.Grind.{common_steps}
use Rattle.std.specs.Prelude.{slice_index}
use Rattle.xray_image.proofs.parts.FunctionEntryCounted.read.Goals as goal

pub returns : goal.returns
returns c =
    let bytes = c.args.bytes.now in
    let n = slice_index bytes 8 in
    let long : ltb (length bytes) (9 + n) ≡ false = le-ltb _ _ (grind (arith, common_steps)) in
    let following : drop (9 + n) bytes ≡ drop n (drop 9 bytes) = sym (drop-drop n 9 bytes) in
    rw (long, following) (grind (arith, common_steps))
