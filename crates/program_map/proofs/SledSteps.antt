-- The entries of a map and of an index, taken in turn.
use Rattle.std.proofs.Common.{◌≡◌, ◌+◌, ◌-◌, ◌<◌, ◌++◌, ◌∷◌, ◌*◌, [], ℕ, List, length, map, Some, None, Ok, Err, Bool, ap, sym, ◌∙◌}
use Rattle.std.specs.List.{range_with_len}
use Rattle.xray_io.specs.Rows.{InTurn, NeedsPart, ◌>>=◌}
use Rattle.elf_file.specs.declared.section.Section.{Section}
use Rattle.elf_file.specs.Addends.{Settings}
use Rattle.program_map.specs.declared.fault.ProgramFault.{ProgramFault}
use Rattle.program_map.specs.declared.fault.ProgramFault.TheVariants.{Index}
use Rattle.program_map.specs.declared.numbering.NumberedSled.{NumberedSled}
use Rattle.program_map.specs.declared.sled.MapSled.{MapSled}
use Rattle.program_map.specs.Numbering.{AddressSpan, entry_sleds, index_rows, is_absolute, span_by, with_id}
use Rattle.program_map.specs.Parts.{MapParts}
use Rattle.program_map.specs.Sleds.{map_entry_rows, map_entry_said}
use Rattle.program_map.proofs.Turns.{turn_next, turn_refused}

pub sled_next : (settings : Settings) (section : Section) (table : List ℕ) (before : List MapSled) (sled : MapSled) (i n : ℕ) → i < n
    → map_entry_said settings section table i ≡ Ok sled
    → InTurn (map_entry_rows settings section table) before (range_with_len i (n - i))
    ≡ InTurn (map_entry_rows settings section table) (before ++ sled ∷ []) (range_with_len (i + 1) (n - (i + 1)))
sled_next settings section table before sled i n lt said =
    turn_next (map_entry_rows settings section table) before (before ++ sled ∷ []) i n lt (ap (λ r. r >>= λ s. Ok (before ++ s ∷ [])) said)

pub sled_refused : (settings : Settings) (section : Section) (table : List ℕ) (before : List MapSled) (fault : ProgramFault) (i n : ℕ) → i < n
    → map_entry_said settings section table i ≡ Err fault
    → InTurn (map_entry_rows settings section table) before (range_with_len i (n - i)) ≡ Err fault
sled_refused settings section table before fault i n lt said =
    turn_refused (map_entry_rows settings section table) before fault i n lt (ap (λ r. r >>= λ s. Ok (before ++ s ∷ [])) said)

pub entry_next : (parts : MapParts) (index : Section) (table : List ℕ) (sleds : List MapSled) (before : List NumberedSled) (own : List MapSled) (i n : ℕ)
    → i < n → entry_sleds parts sleds (span_by (is_absolute parts index table) parts index table i) (length sleds - length before) ≡ Some own
    → InTurn (index_rows parts index table sleds) before (range_with_len i (n - i))
    ≡ InTurn (index_rows parts index table sleds) (before ++ map (with_id (i + 1)) own) (range_with_len (i + 1) (n - (i + 1)))
entry_next parts index table sleds before own i n lt said =
    turn_next (index_rows parts index table sleds) before (before ++ map (with_id (i + 1)) own) i n lt
    (ap (λ o. NeedsPart o (Err (Index (index.offset + 16 * i))) λ s. Ok (before ++ map (with_id (i + 1)) s)) said)

pub entry_refused : (parts : MapParts) (index : Section) (table : List ℕ) (sleds : List MapSled) (before : List NumberedSled) (i n : ℕ)
    → i < n → entry_sleds parts sleds (span_by (is_absolute parts index table) parts index table i) (length sleds - length before) ≡ None
    → InTurn (index_rows parts index table sleds) before (range_with_len i (n - i)) ≡ Err (Index (index.offset + 16 * i))
entry_refused parts index table sleds before i n lt said =
    turn_refused (index_rows parts index table sleds) before (Index (index.offset + 16 * i)) i n lt
    (ap (λ o. NeedsPart o (Err (Index (index.offset + 16 * i))) λ s. Ok (before ++ map (with_id (i + 1)) s)) said)

-- the sleds of an entry, by its span and by how many sleds there may be
pub entry_same : (parts : MapParts) (index : Section) (table : List ℕ) (sleds : List MapSled) (before : List NumberedSled) (i : ℕ)
    → (absolute : Bool) (span : AddressSpan) (count : ℕ) → span ≡ span_by absolute parts index table i → absolute ≡ is_absolute parts index table
    → count ≡ length before
    → entry_sleds parts sleds (span_by (is_absolute parts index table) parts index table i) (length sleds - length before)
    ≡ entry_sleds parts sleds span (length sleds - count)
entry_same parts index table sleds before i absolute span count p q r =
    ap (λ s. entry_sleds parts sleds s (length sleds - length before)) (sym (p ∙ ap (λ b. span_by b parts index table i) q))
    ∙ ap (λ n. entry_sleds parts sleds span (length sleds - n)) (sym r)
