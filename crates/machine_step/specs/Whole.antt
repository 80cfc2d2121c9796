-- Which passings decode their sleds whole.
use Rattle.std.specs.Prelude.{◌<◌, ◌⊎◌, ℕ, List, length, map, Contains, Option, Some, slice_get, ◌≡◌}
use Rattle.xray_image.specs.declared.sled.Sled.{Sled}
use Rattle.xray_image.specs.Program.{Program}
use Rattle.sled_words.specs.declared.part.Part.{Part}
use Rattle.sled_words.specs.declared.part.Part.TheVariants.{Head, Id, Opcode, Offset}
use Rattle.sled_words.specs.Words.{word_of}
use Rattle.sled_words.specs.Parts.{patched}
use Rattle.sled_words.specs.Allowed.{IsUnpatchedHead}
use Rattle.machine_step.specs.Loads.{Load, walk_from}

-- a part of a sled was loaded with this value
abbrev pub Loaded : List Load → ℕ → Part → ℕ → Type 0
Loaded loads k part value = Contains loads (record { word = word_of k part; value = value })

-- the loads found the sled unpatched
abbrev pub FoundUnpatched : ℕ → Sled → List Load → Type 0
FoundUnpatched k sled loads = (head : ℕ) × IsUnpatchedHead sled.kind head × Loaded loads k Head head

-- the loads found all parts of the sled patched
pub record FoundPatched (program : Program) (k : ℕ) (sled : Sled) (loads : List Load) : Type 0 where
  pub head : Loaded loads k Head (patched program.trampolines sled Head)
  pub id : Loaded loads k Id (patched program.trampolines sled Id)
  pub opcode : Loaded loads k Opcode (patched program.trampolines sled Opcode)
  pub offset : Loaded loads k Offset (patched program.trampolines sled Offset)

-- A passing with these loads decodes the sled whole: it found the sled unpatched, or all of it patched. Any other
-- passing is torn.
abbrev pub IsWhole : Program → ℕ → Sled → List Load → Type 0
IsWhole program k sled loads = FoundUnpatched k sled loads ⊎ FoundPatched program k sled loads

-- The loads of each passing that has its mark. The thread has passings at the sleds of these numbers, numbered from a
-- number on.
abbrev pub loads_by_passing : Program → ℕ → ℕ → Option ℕ → ℕ → List ℕ → List Load → List (List Load)
loads_by_passing program threads thread hold number sleds loads = map (λ p. p.1) (walk_from program threads thread hold number sleds loads).made

-- each passing with a mark decodes its sled whole
abbrev pub AreWhole : Program → ℕ → ℕ → Option ℕ → List ℕ → List Load → Type 0
AreWhole program threads thread hold sleds loads =
    (n k : ℕ) (sled : Sled) (own : List Load) → slice_get sleds n ≡ Some k → slice_get program.sleds k ≡ Some sled
    → slice_get (loads_by_passing program threads thread hold 0 sleds loads) n ≡ Some own → IsWhole program k sled own

-- each part of the sled with this number was loaded with at most one value
abbrev pub HaveOneValue : List Load → ℕ → Type 0
HaveOneValue loads k = (part : Part) (v w : ℕ) → Loaded loads k part v → Loaded loads k part w → v ≡ w

-- in each passing with a mark, each part of its sled was loaded with at most one value, if the sled exists
abbrev pub HaveOneValueEach : Program → ℕ → ℕ → Option ℕ → List ℕ → List Load → Type 0
HaveOneValueEach program threads thread hold sleds loads =
    (n k : ℕ) (own : List Load) → slice_get sleds n ≡ Some k → k < length program.sleds
    → slice_get (loads_by_passing program threads thread hold 0 sleds loads) n ≡ Some own → HaveOneValue own k
