-- The bytes of an image file.
use Rattle.std.specs.Prelude.{ℕ, ◌+◌, ◌-◌, ◌%◌, ◌^◌, ◌==◌, Bool, List, [], ◌∷◌, ◌++◌, length, codes, replicate, if◌then◌else◌}
use Rattle.std.specs.List.{flat_map}
use Rattle.byteorder.specs.Endian.{little_bytes}
use Rattle.xray_image.specs.Container.{Function, MapEntry, MapFields, map_distance}

-- an image: its base address, the number of its entry function, its code, its functions and its sled map
pub record File : Type 0 where
  pub base : ℕ
  pub entry : ℕ
  pub code : List ℕ
  pub functions : List Function
  pub entries : List MapEntry

-- the trampolines for entries, exits, tail jumps and arguments, at fixed distances from the base
abbrev pub trampolines_of : ℕ → List ℕ
trampolines_of base = (base + 0x200000) ∷ (base + 0x200010) ∷ (base + 0x200020) ∷ (base + 0x200030) ∷ []

-- the header of 64 bytes: the base address, the lengths of the code, the functions and the map, and the entry function
abbrev pub image_header : (base code functions entries entry : ℕ) → List ℕ
image_header base code functions entries entry =
    codes "XRIM" ++ little_bytes 4 1 ++ little_bytes 8 base ++ little_bytes 4 code ++ little_bytes 4 functions
    ++ little_bytes 4 entries ++ little_bytes 4 entry ++ flat_map (little_bytes 8) (trampolines_of base)

abbrev pub image_header_bytes : File → List ℕ
image_header_bytes f = image_header f.base (length f.code) (length f.functions) (length f.entries) f.entry

-- a function: its start, the length of its name, and the name
abbrev pub function_bytes : Function → List ℕ
function_bytes f = little_bytes 8 f.start ++ length f.name ∷ f.name

-- the version of a map's entries, by whether their addresses are relative
abbrev pub map_version : Bool → ℕ
map_version relative = if relative then 2 else 0

-- an entry in a version
abbrev pub in_version : ℕ → MapEntry → MapEntry
in_version version e = record { sled = e.sled; function = e.function; kind = e.kind; always = e.always; version = version }

-- The number in a field that is itself at an address, for the address that it says. In version 2 it is the distance
-- from the field, modulo 2^64. In all other versions it is the address that it says.
abbrev pub field_for : (version at address : ℕ) → ℕ
field_for version at address = if version == 2 then (address + (2 ^ 64 - at)) % 2 ^ 64 else address

-- the fields of an entry whose first byte is at an address
abbrev pub fields_for : ℕ → MapEntry → MapFields
fields_for at e = record {
  sled = field_for e.version at e.sled;
  function = field_for e.version (at + 8) e.function;
  kind = e.kind;
  always = e.always;
  version = e.version;
}

-- the same for entries of 32 bytes, one after the other
abbrev pub fields_from : ℕ → List MapEntry → List MapFields
fields_from at [] = []
fields_from at (e ∷ others) = fields_for at e ∷ fields_from (at + 32) others

-- a map entry of 32 bytes, with zeros as padding
abbrev pub entry_bytes : MapFields → List ℕ
entry_bytes e = little_bytes 8 e.sled ++ little_bytes 8 e.function ++ e.kind ∷ e.always ∷ e.version ∷ replicate 13 0

-- the sled map of an image with this base address
abbrev pub map_bytes : ℕ → List MapEntry → List ℕ
map_bytes base entries = flat_map entry_bytes (fields_from (base + map_distance) entries)

abbrev pub image_bytes : File → List ℕ
image_bytes f = image_header_bytes f ++ f.code ++ flat_map function_bytes f.functions ++ map_bytes f.base f.entries
