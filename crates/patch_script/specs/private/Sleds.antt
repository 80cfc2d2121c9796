-- The sleds of commands, as the patcher stores them.
use Rattle.std.specs.Prelude.{◌≡◌, ◌<◌, ◌≤◌, ◌-◌, ℕ, List, [], length, take, drop, slice_index_or}
use Rattle.xray_image.specs.declared.sled.Sled.{Sled}
use Rattle.xray_image.specs.Program.{Program, Trampolines}
use Rattle.sled_words.specs.declared.part.Part.{Part}
use Rattle.sled_words.specs.declared.part.Part.TheVariants.{Head, Id, Opcode, Offset}
use Rattle.sled_words.specs.Parts.{patched, patched_head}
use Rattle.patch_script.specs.declared.command.PatchCommand.{PatchCommand}
use Rattle.patch_script.specs.declared.command.PatchCommand.TheVariants as commands
use Rattle.patch_script.specs.declared.sleds.SledRange.{SledRange}
use Rattle.patch_script.specs.declared.sleds.SledValues.{SledValues}
use Rattle.patch_script.specs.Micros.{Numbered, all_sleds, sleds_of}

-- what is kept of a sled
abbrev pub values_of : Trampolines → Sled → SledValues
values_of trampolines sled = record {
  id = sled.id;
  kind = sled.kind;
  opcode = patched trampolines sled Opcode;
  offset = patched trampolines sled Offset;
}

-- what patching stores in a part, from what is kept
abbrev pub value_in : SledValues → Part → ℕ
value_in sled Head = patched_head
value_in sled Id = sled.id
value_in sled Opcode = sled.opcode
value_in sled Offset = sled.offset

abbrev pub no_sleds : SledRange
no_sleds = record { start = 0; end = 0 }

-- the sleds before the range have lower ids, those in it have this one, and those after it have higher ones
pub record HasId (sleds : List SledValues) (id : ℕ) (range : SledRange) : Type 0 where
  pub ordered : range.start ≤ range.end
  pub within : range.end ≤ length sleds
  pub before : (k : ℕ) (d : SledValues) → k < range.start → (slice_index_or sleds k d).id < id
  pub inside : (k : ℕ) (d : SledValues) → range.start ≤ k → k < range.end → (slice_index_or sleds k d).id ≡ id
  pub following : (k : ℕ) (d : SledValues) → range.end ≤ k → k < length sleds → id < (slice_index_or sleds k d).id

-- the sleds that a command patches or unpatches
abbrev pub sleds_named : Program → PatchCommand → List Numbered
sleds_named program commands.Patch = all_sleds program
sleds_named program commands.Unpatch = all_sleds program
sleds_named program (commands.PatchFunction id) = sleds_of program id
sleds_named program (commands.UnpatchFunction id) = sleds_of program id
sleds_named program commands.SetHandler = []
sleds_named program commands.RemoveHandler = []
sleds_named program commands.SetArgHandler = []
sleds_named program commands.RemoveArgHandler = []
sleds_named program commands.Init = []
sleds_named program commands.Finalize = []
sleds_named program (commands.Hold thread passing) = []
sleds_named program commands.Go = []
sleds_named program (commands.Release thread) = []
sleds_named program (commands.Await thread count) = []

-- the sleds in a range
abbrev pub in_range : SledRange → List Numbered → List Numbered
in_range range sleds = take (range.end - range.start) (drop range.start sleds)

-- the range has the sleds of the command
pub record HasSleds (program : Program) (command : PatchCommand) (range : SledRange) : Type 0 where
  pub ordered : range.start ≤ range.end
  pub within : range.end ≤ length program.sleds
  pub sleds : sleds_named program command ≡ in_range range (all_sleds program)
