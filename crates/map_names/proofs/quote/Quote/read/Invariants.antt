use Rattle.std.proofs.Common.{◌≡◌, drop}
use Rattle.map_names.specs.Entries.{quoted_from, quoted_name}
use Rattle.map_names.proofs.Letters.{put}
use Rattle.map_names.proofs.quote.Quote.read.Given as goal

-- what was read so far, before what is still to read, is all that is read
abbrev pub invariant-letters : goal.invariant-letters
invariant-letters l = quoted_name l.self l.bytes ≡ put l.name.items (quoted_from l.self (drop l.byte-index l.bytes) l.belongs)
