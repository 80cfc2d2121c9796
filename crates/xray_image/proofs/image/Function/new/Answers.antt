use Rattle.std.proofs.Common.{ap}
use Rattle.std.proofs.lemmas.Str.{IsUtf8-from_ascii}
use Rattle.xray_image.proofs.NameText.{name_is_ascii}
use Rattle.xray_image.proofs.image.Function.new.Goals as goal

pub returns : goal.returns
returns c =
    let name = c.args.name.now in
    let same = c.in_ok-name.ensures.ok (IsUtf8-from_ascii name (name_is_ascii name c.requires)) in
    ap (λ n. record { start = c.args.start; name = n }) same
