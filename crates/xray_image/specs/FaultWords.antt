-- The words that a line on err gives for a file that isn't an image: the name of the refusal and its values, with a
-- blank between them.
use Rattle.std.specs.Prelude.{ℕ, List, ◌++◌, Option, Some, None, codes, decimal}
use Rattle.subset_decode.specs.declared.fault.DecodeFault.{DecodeFault}
use Rattle.subset_decode.specs.declared.fault.DecodeFault.TheVariants as decoding
use Rattle.xray_image.specs.declared.fault.ImageFault.{ImageFault}
use Rattle.xray_image.specs.declared.fault.ImageFault.TheVariants.{Short, Magic, Version, Limit, Trailing, Code, Sled, Names, MapOrder, Odd, Far, Target, NoMemory}
use Rattle.xray_image.specs.declared.fault.Which.{Which}
use Rattle.xray_image.specs.declared.fault.Which.TheVariants as fields

-- which field of the header
abbrev pub field_words : Which → List ℕ
field_words fields.Code = codes "Code"
field_words fields.Functions = codes "Functions"
field_words fields.Sleds = codes "Sleds"
field_words fields.Entry = codes "Entry"
field_words fields.Base = codes "Base"

-- why bytes are no instruction
abbrev pub decode_words : DecodeFault → List ℕ
decode_words decoding.Short = codes "Short"
decode_words (decoding.Unknown byte) = codes "Unknown " ++ decimal byte
decode_words (decoding.Register number) = codes "Register " ++ decimal number

-- the words; there are none if memory ran out, since nothing is refused then
abbrev pub image_words : ImageFault → Option (List ℕ)
image_words Short = Some (codes "Short")
image_words Magic = Some (codes "Magic")
image_words Version = Some (codes "Version")
image_words (Limit which) = Some (codes "Limit " ++ field_words which)
image_words Trailing = Some (codes "Trailing")
image_words (Code place fault) = Some (codes "Code " ++ decimal place ++ codes " " ++ decode_words fault)
image_words (Sled place) = Some (codes "Sled " ++ decimal place)
image_words (Names number) = Some (codes "Names " ++ decimal number)
image_words (MapOrder number) = Some (codes "MapOrder " ++ decimal number)
image_words (Odd number) = Some (codes "Odd " ++ decimal number)
image_words (Far number) = Some (codes "Far " ++ decimal number)
image_words (Target place) = Some (codes "Target " ++ decimal place)
image_words NoMemory = None
