-- What the code at a place holds is what a passing may load.
use Rattle.std.proofs.Common.{◌≡◌, ◌≢◌, ℕ, ◌≤◌, List, Some, refl, sym, ap, subst, ◌∙◌, inl, inr, arith}
use Rattle.std.specs.Prelude.{slice_get, ◌⊎◌}
use Rattle.xray_image.specs.declared.sled.Sled.{Sled}
use Rattle.xray_image.specs.declared.sled.SledKind.{SledKind}
use Rattle.xray_image.specs.declared.sled.SledKind.TheVariants.{Entry, Exit, Tail, Args}
use Rattle.xray_image.specs.Program.{Program}
use Rattle.sled_words.specs.declared.part.Part.{Part}
use Rattle.sled_words.specs.declared.part.Part.TheVariants.{Head, Id, Opcode, Offset}
use Rattle.sled_words.specs.Allowed.{IsAllowed, IsAllowedPart, IsUnpatchedHead}
use Rattle.sled_words.specs.ChangingCode.{KeepsSleds}
use Rattle.sled_words.specs.Parts.{patched, patched_head}
use Rattle.sled_words.specs.Words.{word_of, handler_word}
use Rattle.patch_script.specs.declared.command.PatchCommand.{PatchCommand}
use Rattle.patch_script.specs.CodeAt.{code_at}
use Rattle.patch_script.specs.Patched.{HasPatchedHead}
use Rattle.patch_script.specs.Values.{IsCodeValue, IsHead}
use Rattle.patch_script.proofs.PatchedParts.{apart, code_values, part_patched}
use Rattle.patch_script.proofs.WordNumbers.{same_part, same_sled}

-- each head that a sled may have is one that a passing may load
head_allowed : (kind : SledKind) (head : ℕ) → IsHead kind head → (head ≡ patched_head) ⊎ IsUnpatchedHead kind head
head_allowed Entry head is = is
head_allowed Tail head is = is
head_allowed Args head is = is
head_allowed Exit head (inl e) = inl e
head_allowed Exit head (inr (inl e)) = inr (subst (IsUnpatchedHead Exit) (sym e) (omega arith, refl))
head_allowed Exit head (inr (inr e)) = inr (subst (IsUnpatchedHead Exit) (sym e) (omega arith, refl))

-- a value that a word may have is allowed; a part after a patched head has to be what patching stores
allowed_by : (program : Program) (threads thread word value : ℕ) → IsCodeValue program threads word value
    → ((k : ℕ) (sled : Sled) (part : Part) → slice_get program.sleds k ≡ Some sled → word ≡ word_of k part → part ≢ Head
    → value ≡ patched program.trampolines sled part)
    → IsAllowed program threads thread word value
allowed_by program threads thread word value is after_head = record {
  part = by_part;
  handler = is.handler;
  state = is.state;
  release = is.release thread;
  arg_handler = is.arg_handler;
}
  where
    by_part : (k : ℕ) (sled : Sled) (part : Part) → slice_get program.sleds k ≡ Some sled → word ≡ word_of k part
        → IsAllowedPart program.trampolines sled part value
    by_part k sled Head at same = head_allowed sled.kind value (is.part k sled Head at same)
    by_part k sled Id at same = after_head k sled Id at same (λ e. cc)
    by_part k sled Opcode at same = after_head k sled Opcode at same (λ e. cc)
    by_part k sled Offset at same = after_head k sled Offset at same (λ e. cc)

allowed_head : (program : Program) (threads : ℕ) (script : List PatchCommand) (thread place k : ℕ)
    → IsAllowed program threads thread (word_of k Head) (code_at program threads script place (word_of k Head))
allowed_head program threads script thread place k =
    allowed_by program threads thread (word_of k Head) _ (code_values program threads script place (word_of k Head))
    (λ j sled part at same other. absurd (other (sym (same_part k j Head part same))))

allowed_after_head : (program : Program) (threads : ℕ) (script : List PatchCommand) (thread p q k : ℕ) (part : Part) → p ≤ q → HasPatchedHead program threads script p k
    → part ≢ Head → IsAllowed program threads thread (word_of k part) (code_at program threads script q (word_of k part))
allowed_after_head program threads script thread p q k part le head other =
    allowed_by program threads thread (word_of k part) _ (code_values program threads script q (word_of k part))
    (λ j sled a at same following.
    let patched_j : HasPatchedHead program threads script p j =
    subst (HasPatchedHead program threads script p) (same_sled k j part a same) head in
    ap (code_at program threads script q) same ∙ part_patched program threads script p q j sled a at following le patched_j)

allowed_part : (program : Program) (threads : ℕ) (script : List PatchCommand) (thread p q k : ℕ) (part : Part) → p ≤ q → HasPatchedHead program threads script p k
    → IsAllowed program threads thread (word_of k part) (code_at program threads script q (word_of k part))
allowed_part program threads script thread p q k Head le head = allowed_head program threads script thread q k
allowed_part program threads script thread p q k Id le head = allowed_after_head program threads script thread p q k Id le head (λ e. cc)
allowed_part program threads script thread p q k Opcode le head = allowed_after_head program threads script thread p q k Opcode le head (λ e. cc)
allowed_part program threads script thread p q k Offset le head = allowed_after_head program threads script thread p q k Offset le head (λ e. cc)

allowed_others : (program : Program) (threads : ℕ) (script : List PatchCommand) (thread place word : ℕ) → handler_word program ≤ word
    → IsAllowed program threads thread word (code_at program threads script place word)
allowed_others program threads script thread place word past =
    allowed_by program threads thread word _ (code_values program threads script place word)
    (λ k sled part at same other. absurd (apart program k sled part word at past same))

pub keeps_sleds : (program : Program) (threads : ℕ) (script : List PatchCommand) (thread : ℕ) → KeepsSleds program threads thread (code_at program threads script)
keeps_sleds program threads script thread = record {
  head = allowed_head program threads script thread;
  part = allowed_part program threads script thread;
  other = allowed_others program threads script thread;
}
