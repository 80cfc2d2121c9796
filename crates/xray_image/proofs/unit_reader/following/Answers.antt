use Rattle.std.proofs.lemmas.Slice.Eq.{strip_prefix_is}
use Rattle.std.proofs.lemmas.Bool.Decides.{Decides-eqb}
use Rattle.xray_image.proofs.unit_reader.following.Goals as goal

pub returns : goal.returns
returns c = strip_prefix_is Decides-eqb _ _ c.strip_prefix.result c.strip_prefix.ensures.cases
