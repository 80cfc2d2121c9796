use Rattle.xray_image.proofs.ImageLists.{name_at}
use Rattle.xray_image.proofs.image.reading.named_functions.Goals as goal

pub new-requires : goal.new-requires
new-requires c = name_at c.args.entries.now c.loop-entry.entry-index c.loop-entry-test.true c.requires
