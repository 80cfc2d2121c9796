-- What holds of the words at each place, for every script.
use Rattle.std.proofs.Common.{◌≡◌, ◌≢◌, ℕ, ◌≤◌, List, ◌∷◌, zero, suc, Option, Some, None, Bool, true, false, refl, sym, ap, subst, ◌∙◌, inl, inr, arith, take, drop, unwrap_or}
use Rattle.std.specs.Prelude.{◌==◌, if◌then◌else◌, slice_get, IfSome}
use Rattle.std.specs.List.{All}
use Rattle.std.proofs.lemmas.Bool.{cases_eq, eq-eqb, ne_eqb}
use Rattle.std.proofs.lemmas.Option.{same_Some, IfSome_then}
use Rattle.std.proofs.lemmas.List.Elements.{All-nil, All-cons, All-take, All-drop, All-weaker}
use Rattle.xray_image.specs.declared.sled.Sled.{Sled}
use Rattle.xray_image.specs.declared.sled.SledKind.{SledKind}
use Rattle.xray_image.specs.declared.sled.SledKind.TheVariants.{Entry, Exit, Tail, Args}
use Rattle.xray_image.specs.Program.{Program, Trampolines}
use Rattle.sled_words.specs.declared.part.Part.{Part}
use Rattle.sled_words.specs.declared.part.Part.TheVariants.{Head, Id, Opcode, Offset}
use Rattle.sled_words.specs.Words.{word_of, handler_word, state_word, release_word, arg_handler_word}
use Rattle.sled_words.specs.Parts.{unpatched_head, patched_head, patched, unpatched}
use Rattle.patch_script.specs.declared.command.PatchCommand.{PatchCommand}
use Rattle.patch_script.specs.declared.micro.Micro.{Micro}
use Rattle.patch_script.specs.declared.micro.Micro.TheVariants.{Store}
use Rattle.patch_script.specs.Micros.{head_left, patch_sled, micros}
use Rattle.patch_script.specs.CodeAt.{stored_in, initial_value, code_at}
use Rattle.patch_script.specs.Values.{IsHead, IsPartValue, IsCodeValue}
use Rattle.patch_script.specs.Patched.{HasPatchedHead, HasPatchedParts}
use Rattle.patch_script.proofs.WordValues.{following, after_has, held, code_at_held, held_later, held_has}
use Rattle.patch_script.proofs.WordNumbers.{same_sled, same_part, below_others, part_at_first, zero_at_first, by_word}
use Rattle.patch_script.proofs.PatchOrder.{IsLone, unpatching, handling, arg_handling, logging, releasing, awaiting, ArePatches, ended, lone, patch, script_patches}

-- ---- what a step stores

-- a value that is stored in a part of a sled: a head, or what patching stores
abbrev IsStored : Trampolines → Sled → Part → ℕ → Type 0
IsStored trampolines sled Head value = IsHead sled.kind value
IsStored trampolines sled part value = value ≡ patched trampolines sled part

-- each step is one on its own, or one of those that patch a sled
data IsStep (program : Program) : Micro → Type 0 where
  alone : (step : Micro) → IsLone program step → IsStep program step
  patching : (k : ℕ) (sled : Sled) (part : Part) → slice_get program.sleds k ≡ Some sled
      → IsStep program (Store (word_of k part) (patched program.trampolines sled part))

each_step : (program : Program) {steps : List Micro} → ArePatches program steps → All (IsStep program) steps
each_step program ended = All-nil (IsStep program)
each_step program (lone step rest is later) = All-cons (IsStep program) step rest (alone step is) (each_step program later)
each_step program (patch k sled rest at later) =
    let P : Micro → Type 0 = IsStep program in
    let store : Part → Micro = λ part. Store (word_of k part) (patched program.trampolines sled part) in
    let stored : (part : Part) → IsStep program (store part) = λ part. patching k sled part at in
    All-cons P (store Id) (store Opcode ∷ store Offset ∷ store Head ∷ rest) (stored Id)
    (All-cons P (store Opcode) (store Offset ∷ store Head ∷ rest) (stored Opcode)
    (All-cons P (store Offset) (store Head ∷ rest) (stored Offset)
    (All-cons P (store Head) rest (stored Head) (each_step program later))))

same_listed : (program : Program) (j k : ℕ) (s sled : Sled) → slice_get program.sleds j ≡ Some s
    → slice_get program.sleds k ≡ Some sled → j ≡ k → s ≡ sled
same_listed program j k s sled at_j at_k same = same_Some s sled (sym at_j ∙ ap (slice_get program.sleds) same ∙ at_k)

patched_is_head : (kind : SledKind) → IsHead kind patched_head
patched_is_head Entry = inl refl
patched_is_head Exit = inl refl
patched_is_head Tail = inl refl
patched_is_head Args = inl refl

left_is_head : (kind : SledKind) (was_patched : Bool) → IsHead kind (head_left kind was_patched)
left_is_head Entry was_patched = inr refl
left_is_head Tail was_patched = inr refl
left_is_head Args was_patched = inr refl
left_is_head Exit true = inr (inr refl)
left_is_head Exit false = inr (inl refl)

patched_is_stored : (trampolines : Trampolines) (sled : Sled) (part : Part) → IsStored trampolines sled part (patched trampolines sled part)
patched_is_stored trampolines sled Head = patched_is_head sled.kind
patched_is_stored trampolines sled Id = refl
patched_is_stored trampolines sled Opcode = refl
patched_is_stored trampolines sled Offset = refl

-- a word of a sled is none of those after the sleds
pub apart : (program : Program) (k : ℕ) (sled : Sled) (part : Part) (word : ℕ) → slice_get program.sleds k ≡ Some sled
    → handler_word program ≤ word → word ≡ word_of k part → ⊥
apart program k sled part word at past same = let below = below_others program k sled part at in omega arith

stored_in_part : (program : Program) (k : ℕ) (sled : Sled) (part : Part) → slice_get program.sleds k ≡ Some sled → (step : Micro)
    → IsStep program step → IfSome (stored_in (word_of k part) step) (IsStored program.trampolines sled part)
stored_in_part program k sled part at _ (alone _ (unpatching j s was_patched at_j)) =
    let P : ℕ → Type 0 = IsStored program.trampolines sled part in
    by_word P (word_of j Head) (word_of k part) (head_left s.kind was_patched) (λ same.
    let one : s ≡ sled = same_listed program j k s sled at_j at (same_sled j k Head part same) in
    let left : IsStored program.trampolines s Head (head_left s.kind was_patched) = left_is_head s.kind was_patched in
    subst (λ (x : Sled). IsStored program.trampolines x part (head_left s.kind was_patched)) one
    (subst (λ (x : Part). IsStored program.trampolines s x (head_left s.kind was_patched)) (same_part j k Head part same) left))
stored_in_part program k sled part at _ (alone _ (handling value le)) =
    by_word (IsStored program.trampolines sled part) (handler_word program) (word_of k part) value
    (λ same. absurd (apart program k sled part (handler_word program) at (omega arith) same))
stored_in_part program k sled part at _ (alone _ (arg_handling threads value le)) =
    by_word (IsStored program.trampolines sled part) (arg_handler_word program threads) (word_of k part) value
    (λ same. absurd (apart program k sled part (arg_handler_word program threads) at (omega arith) same))
stored_in_part program k sled part at _ (alone _ (logging value le)) =
    by_word (IsStored program.trampolines sled part) (state_word program) (word_of k part) value
    (λ same. absurd (apart program k sled part (state_word program) at (omega arith) same))
stored_in_part program k sled part at _ (alone _ (releasing thread)) =
    by_word (IsStored program.trampolines sled part) (release_word program thread) (word_of k part) 1
    (λ same. absurd (apart program k sled part (release_word program thread) at (omega arith) same))
stored_in_part program k sled part at _ (alone _ (awaiting thread count)) = tt
stored_in_part program k sled part at _ (patching j s other at_j) =
    by_word (IsStored program.trampolines sled part) (word_of j other) (word_of k part) (patched program.trampolines s other) (λ same.
    let one : s ≡ sled = same_listed program j k s sled at_j at (same_sled j k other part same) in
    subst (λ (x : Sled). IsStored program.trampolines x part (patched program.trampolines s other)) one
    (subst (λ (x : Part). IsStored program.trampolines s x (patched program.trampolines s other)) (same_part j k other part same)
    (patched_is_stored program.trampolines s other)))

-- ---- a patched head

-- after a head, what is stored is what patching stores
stored_after_head : (program : Program) (k : ℕ) (sled : Sled) (part : Part) → slice_get program.sleds k ≡ Some sled → part ≢ Head
    → (step : Micro) → IsStep program step → IfSome (stored_in (word_of k part) step) (λ v. v ≡ patched program.trampolines sled part)
stored_after_head program k sled Head at other step is = absurd (other refl)
stored_after_head program k sled Id at other step is = stored_in_part program k sled Id at step is
stored_after_head program k sled Opcode at other step is = stored_in_part program k sled Opcode at step is
stored_after_head program k sled Offset at other step is = stored_in_part program k sled Offset at step is

-- no unpatched head is the patched one
left_is_unpatched : (kind : SledKind) (was_patched : Bool) → head_left kind was_patched ≢ patched_head
left_is_unpatched Entry was_patched = omega arith
left_is_unpatched Tail was_patched = omega arith
left_is_unpatched Args was_patched = omega arith
left_is_unpatched Exit true = omega arith
left_is_unpatched Exit false = omega arith

-- a step on its own stores no patched head
lone_head : (program : Program) (k : ℕ) (sled : Sled) → slice_get program.sleds k ≡ Some sled → (step : Micro) → IsLone program step
    → IfSome (stored_in (word_of k Head) step) (λ v. v ≢ patched_head)
lone_head program k sled at _ (unpatching j s was_patched at_j) =
    by_word (λ v. v ≢ patched_head) (word_of j Head) (word_of k Head) (head_left s.kind was_patched) (λ same. left_is_unpatched s.kind was_patched)
lone_head program k sled at _ (handling value le) =
    by_word (λ v. v ≢ patched_head) (handler_word program) (word_of k Head) value (λ same. omega arith)
lone_head program k sled at _ (arg_handling threads value le) =
    by_word (λ v. v ≢ patched_head) (arg_handler_word program threads) (word_of k Head) value (λ same. omega arith)
lone_head program k sled at _ (logging value le) =
    by_word (λ v. v ≢ patched_head) (state_word program) (word_of k Head) value (λ same. omega arith)
lone_head program k sled at _ (releasing thread) =
    by_word (λ v. v ≢ patched_head) (release_word program thread) (word_of k Head) 1 (λ same. omega arith)
lone_head program k sled at _ (awaiting thread count) = tt

id_after : Id ≢ Head
id_after same = cc

opcode_after : Opcode ≢ Head
opcode_after same = cc

offset_after : Offset ≢ Head
offset_after same = cc

-- if a part is patched after a patched head, it still is after a step on its own
lone_keeps : (o : Option ℕ) (h v u goal : ℕ) → IfSome o (λ x. x ≢ patched_head) → (v ≡ goal → u ≡ goal)
    → (h ≡ patched_head → v ≡ goal) → unwrap_or o h ≡ patched_head → u ≡ goal
lone_keeps None h v u goal stored keeps before now = keeps (before now)
lone_keeps (Some x) h v u goal stored keeps before now = absurd (stored now)

stored_there : (word value before : ℕ) → unwrap_or (if word == word then Some value else None) before ≡ value
stored_there word value before = rw (eq-eqb word word refl) refl

stored_elsewhere : (w word value before : ℕ) → w ≢ word → unwrap_or (if w == word then Some value else None) before ≡ before
stored_elsewhere w word value before other = rw (ne_eqb w word other) refl

-- patching a sled leaves each part patched
patched_here : (program : Program) (k : ℕ) (sled : Sled) (part : Part) (v : ℕ)
    → held (word_of k part) (patch_sled program (k, sled)) v ≡ patched program.trampolines sled part
patched_here program k sled Head v = stored_there (word_of k Head) (patched program.trampolines sled Head) _
patched_here program k sled Offset v =
    stored_elsewhere (word_of k Head) (word_of k Offset) (patched program.trampolines sled Head) _ (omega arith)
    ∙ stored_there (word_of k Offset) (patched program.trampolines sled Offset) _
patched_here program k sled Opcode v =
    stored_elsewhere (word_of k Head) (word_of k Opcode) (patched program.trampolines sled Head) _ (omega arith)
    ∙ stored_elsewhere (word_of k Offset) (word_of k Opcode) (patched program.trampolines sled Offset) _ (omega arith)
    ∙ stored_there (word_of k Opcode) (patched program.trampolines sled Opcode) _
patched_here program k sled Id v =
    stored_elsewhere (word_of k Head) (word_of k Id) (patched program.trampolines sled Head) _ (omega arith)
    ∙ stored_elsewhere (word_of k Offset) (word_of k Id) (patched program.trampolines sled Offset) _ (omega arith)
    ∙ stored_elsewhere (word_of k Opcode) (word_of k Id) (patched program.trampolines sled Opcode) _ (omega arith)
    ∙ stored_there (word_of k Id) (patched program.trampolines sled Id) _

-- patching a sled leaves other sleds as they are
patched_elsewhere : (program : Program) (j k : ℕ) (s : Sled) (part : Part) (v : ℕ) → j ≢ k
    → held (word_of k part) (patch_sled program (j, s)) v ≡ v
patched_elsewhere program j k s part v other =
    let apart : (a : Part) → word_of j a ≢ word_of k part = λ a same. other (same_sled j k a part same) in
    stored_elsewhere (word_of j Head) (word_of k part) (patched program.trampolines s Head) _ (apart Head)
    ∙ stored_elsewhere (word_of j Offset) (word_of k part) (patched program.trampolines s Offset) _ (apart Offset)
    ∙ stored_elsewhere (word_of j Opcode) (word_of k part) (patched program.trampolines s Opcode) _ (apart Opcode)
    ∙ stored_elsewhere (word_of j Id) (word_of k part) (patched program.trampolines s Id) v (apart Id)

-- if a part is patched after a patched head, it still is after a sled is patched
patch_keeps : (program : Program) (j k : ℕ) (s sled : Sled) (part : Part) (h v : ℕ)
    → slice_get program.sleds j ≡ Some s → slice_get program.sleds k ≡ Some sled
    → (h ≡ patched_head → v ≡ patched program.trampolines sled part)
    → held (word_of k Head) (patch_sled program (j, s)) h ≡ patched_head
    → held (word_of k part) (patch_sled program (j, s)) v ≡ patched program.trampolines sled part
patch_keeps program j k s sled part h v at_j at before now =
    elim (cases_eq j k) [
      | inl same ↦
          let one : s ≡ sled = same_listed program j k s sled at_j at same in
          ap (λ i. held (word_of k part) (patch_sled program (i, s)) v) same
          ∙ patched_here program k s part v ∙ ap (λ x. patched program.trampolines x part) one
      | inr other ↦
          patched_elsewhere program j k s part v other
          ∙ before (sym (patched_elsewhere program j k s Head h other) ∙ now)
    ]

-- the store of a part other than the head
store_keeps : (program : Program) (j k : ℕ) (s sled : Sled) (a part : Part) (v : ℕ)
    → slice_get program.sleds j ≡ Some s → slice_get program.sleds k ≡ Some sled → part ≢ Head
    → v ≡ patched program.trampolines sled part
    → following (word_of k part) (Store (word_of j a) (patched program.trampolines s a)) v ≡ patched program.trampolines sled part
store_keeps program j k s sled a part v at_j at other before =
    let step : Micro = Store (word_of j a) (patched program.trampolines s a) in
    after_has (λ x. x ≡ patched program.trampolines sled part) (stored_in (word_of k part) step) v
    (stored_after_head program k sled part at other step (patching j s a at_j)) before

head_stays : (j k : ℕ) (a : Part) (value h : ℕ) → a ≢ Head → following (word_of k Head) (Store (word_of j a) value) h ≡ h
head_stays j k a value h other = stored_elsewhere (word_of j a) (word_of k Head) value h (λ same. other (same_part j k a Head same))

-- at each place, a part is patched if the head is
patched_together : (program : Program) (k : ℕ) (sled : Sled) (part : Part) → slice_get program.sleds k ≡ Some sled → part ≢ Head
    → {steps : List Micro} → ArePatches program steps → (p h v : ℕ) → (h ≡ patched_head → v ≡ patched program.trampolines sled part)
    → held (word_of k Head) (take p steps) h ≡ patched_head
    → held (word_of k part) (take p steps) v ≡ patched program.trampolines sled part
patched_together program k sled part at other ended zero h v before now = before now
patched_together program k sled part at other ended (suc p) h v before now = before now
patched_together program k sled part at other (lone step rest is later) zero h v before now = before now
patched_together program k sled part at other (lone step rest is later) (suc p) h v before now =
    let goal : ℕ = patched program.trampolines sled part in
    let keeps : v ≡ goal → following (word_of k part) step v ≡ goal = λ e.
    after_has (λ x. x ≡ goal) (stored_in (word_of k part) step) v (stored_after_head program k sled part at other step (alone step is)) e in
    patched_together program k sled part at other later p (following (word_of k Head) step h) (following (word_of k part) step v)
    (lone_keeps (stored_in (word_of k Head) step) h v (following (word_of k part) step v) goal (lone_head program k sled at step is) keeps before) now
patched_together program k sled part at other (patch j s rest at_j later) zero h v before now = before now
patched_together program k sled part at other (patch j s rest at_j later) (suc zero) h v before now =
    let value : Part → ℕ = patched program.trampolines s in
    let id : h ≡ patched_head = sym (head_stays j k Id (value Id) h id_after) ∙ now in
    store_keeps program j k s sled Id part v at_j at other (before id)
patched_together program k sled part at other (patch j s rest at_j later) (suc (suc zero)) h v before now =
    let value : Part → ℕ = patched program.trampolines s in
    let opcode = head_stays j k Opcode (value Opcode) _ opcode_after in
    let id = head_stays j k Id (value Id) h id_after in
    store_keeps program j k s sled Opcode part _ at_j at other
    (store_keeps program j k s sled Id part v at_j at other (before (sym (opcode ∙ id) ∙ now)))
patched_together program k sled part at other (patch j s rest at_j later) (suc (suc (suc zero))) h v before now =
    let value : Part → ℕ = patched program.trampolines s in
    let offset = head_stays j k Offset (value Offset) _ offset_after in
    let opcode = head_stays j k Opcode (value Opcode) _ opcode_after in
    let id = head_stays j k Id (value Id) h id_after in
    store_keeps program j k s sled Offset part _ at_j at other
    (store_keeps program j k s sled Opcode part _ at_j at other
    (store_keeps program j k s sled Id part v at_j at other (before (sym (offset ∙ opcode ∙ id) ∙ now))))
patched_together program k sled part at other (patch j s rest at_j later) (suc (suc (suc (suc p)))) h v before now =
    let block : List Micro = patch_sled program (j, s) in
    patched_together program k sled part at other later p (held (word_of k Head) block h) (held (word_of k part) block v)
    (patch_keeps program j k s sled part h v at_j at before) now

-- a head as the file has it isn't a patched one
first_head : (kind : SledKind) → unpatched_head kind ≢ patched_head
first_head Entry = omega arith
first_head Exit = omega arith
first_head Tail = omega arith
first_head Args = omega arith

-- once the head is patched at a place, each other part is patched there and at all later places
pub part_patched : (program : Program) (threads : ℕ) (script : List PatchCommand) (p q k : ℕ) (sled : Sled) (part : Part) → slice_get program.sleds k ≡ Some sled
    → part ≢ Head → p ≤ q → HasPatchedHead program threads script p k
    → code_at program threads script q (word_of k part) ≡ patched program.trampolines sled part
part_patched program threads script p q k sled part at other le head =
    let steps : List Micro = micros program threads script in
    let goal : ℕ = patched program.trampolines sled part in
    let word : ℕ = word_of k part in
    let first : ℕ → ℕ = initial_value program in
    let patches = script_patches program threads script in
    let unpatched_first : first (word_of k Head) ≢ patched_head =
    λ e. first_head sled.kind (sym (part_at_first program.sleds k sled Head at) ∙ e) in
    let at_p : held word (take p steps) (first word) ≡ goal =
    patched_together program k sled part at other patches p (first (word_of k Head)) (first word) (λ e. absurd (unpatched_first e))
    (sym (code_at_held program threads script p (word_of k Head)) ∙ head) in
    let each : All (λ step. IfSome (stored_in word step) (λ v. v ≡ goal)) steps =
    All-weaker (IsStep program) (λ step. IfSome (stored_in word step) (λ v. v ≡ goal))
    (stored_after_head program k sled part at other) steps (each_step program patches) in
    let stays : held word (drop p (take q steps)) (held word (take p steps) (first word)) ≡ goal =
    held_has (λ v. v ≡ goal) word (drop p (take q steps)) (held word (take p steps) (first word))
    (All-drop (λ step. IfSome (stored_in word step) (λ v. v ≡ goal)) p (take q steps)
    (All-take (λ step. IfSome (stored_in word step) (λ v. v ≡ goal)) q steps each)) at_p in
    code_at_held program threads script q word ∙ held_later word steps p q (first word) le ∙ stays

pub parts_patched : (program : Program) (threads : ℕ) (script : List PatchCommand) (p q k : ℕ) (sled : Sled) → slice_get program.sleds k ≡ Some sled
    → p ≤ q → HasPatchedHead program threads script p k → HasPatchedParts program threads script q k sled
parts_patched program threads script p q k sled at le head = record {
  id = part_patched program threads script p q k sled Id at id_after le head;
  opcode = part_patched program threads script p q k sled Opcode at opcode_after le head;
  offset = part_patched program threads script p q k sled Offset at offset_after le head;
}

-- ---- the values of words

stored_value : (trampolines : Trampolines) (sled : Sled) (part : Part) (value : ℕ) → IsStored trampolines sled part value
    → IsPartValue trampolines sled part value
stored_value trampolines sled Head value stored = stored
stored_value trampolines sled Id value stored = inr stored
stored_value trampolines sled Opcode value stored = inr stored
stored_value trampolines sled Offset value stored = inr stored

file_is_head : (kind : SledKind) → IsHead kind (unpatched_head kind)
file_is_head Entry = inr refl
file_is_head Tail = inr refl
file_is_head Args = inr refl
file_is_head Exit = inr (inl refl)

file_value : (trampolines : Trampolines) (sled : Sled) (part : Part) → IsPartValue trampolines sled part (unpatched sled part)
file_value trampolines sled Head = file_is_head sled.kind
file_value trampolines sled Id = inl refl
file_value trampolines sled Opcode = inl refl
file_value trampolines sled Offset = inl refl

-- a fact of a word that holds at first, and that each step keeps, holds at each place
at_each_place : (program : Program) (threads : ℕ) (script : List PatchCommand) (place word : ℕ) (P : ℕ → Type 0)
    → ((step : Micro) → IsStep program step → IfSome (stored_in word step) P) → P (initial_value program word)
    → P (code_at program threads script place word)
at_each_place program threads script place word P keeps first =
    let steps : List Micro = micros program threads script in
    let Q : Micro → Type 0 = λ step. IfSome (stored_in word step) P in
    let each : All Q steps = All-weaker (IsStep program) Q keeps steps (each_step program (script_patches program threads script)) in
    subst P (sym (code_at_held program threads script place word))
    (held_has P word (take place steps) (initial_value program word) (All-take Q place steps each) first)

part_has_value : (program : Program) (threads : ℕ) (script : List PatchCommand) (place k : ℕ) (sled : Sled) (part : Part) → slice_get program.sleds k ≡ Some sled
    → IsPartValue program.trampolines sled part (code_at program threads script place (word_of k part))
part_has_value program threads script place k sled part at =
    let P : ℕ → Type 0 = IsPartValue program.trampolines sled part in
    at_each_place program threads script place (word_of k part) P
    (λ step is. IfSome_then (stored_in (word_of k part) step) (stored_in_part program k sled part at step is) (stored_value program.trampolines sled part))
    (subst P (sym (part_at_first program.sleds k sled part at)) (file_value program.trampolines sled part))

-- ---- the words after those of the sleds

-- what is stored in a word after those of the sleds, by the steps that store there
stored_after_sleds : (program : Program) (word : ℕ) (P : ℕ → Type 0) → handler_word program ≤ word
    → ((value : ℕ) → value ≤ 1 → handler_word program ≡ word → P value)
    → ((threads value : ℕ) → value ≤ 1 → arg_handler_word program threads ≡ word → P value)
    → ((value : ℕ) → value ≤ 4 → state_word program ≡ word → P value)
    → ((thread : ℕ) → release_word program thread ≡ word → P 1)
    → (step : Micro) → IsStep program step → IfSome (stored_in word step) P
stored_after_sleds program word P past handler arg_handler state release _ (alone _ (unpatching j s was_patched at)) =
    by_word P (word_of j Head) word (head_left s.kind was_patched) (λ same. absurd (apart program j s Head word at past (sym same)))
stored_after_sleds program word P past handler arg_handler state release _ (alone _ (handling value le)) = by_word P (handler_word program) word value (handler value le)
stored_after_sleds program word P past handler arg_handler state release _ (alone _ (arg_handling threads value le)) =
    by_word P (arg_handler_word program threads) word value (arg_handler threads value le)
stored_after_sleds program word P past handler arg_handler state release _ (alone _ (logging value le)) = by_word P (state_word program) word value (state value le)
stored_after_sleds program word P past handler arg_handler state release _ (alone _ (releasing thread)) = by_word P (release_word program thread) word 1 (release thread)
stored_after_sleds program word P past handler arg_handler state release _ (alone _ (awaiting thread count)) = tt
stored_after_sleds program word P past handler arg_handler state release _ (patching j s part at) =
    by_word P (word_of j part) word (patched program.trampolines s part) (λ same. absurd (apart program j s part word at past (sym same)))

-- such a word is at most this much, if no step stores more in it
at_most : (program : Program) (threads : ℕ) (script : List PatchCommand) (place word limit : ℕ) → handler_word program ≤ word
    → ((value : ℕ) → value ≤ 1 → handler_word program ≡ word → value ≤ limit)
    → ((threads value : ℕ) → value ≤ 1 → arg_handler_word program threads ≡ word → value ≤ limit)
    → ((value : ℕ) → value ≤ 4 → state_word program ≡ word → value ≤ limit)
    → ((thread : ℕ) → release_word program thread ≡ word → 1 ≤ limit)
    → code_at program threads script place word ≤ limit
at_most program threads script place word limit past handler arg_handler state release =
    let first = zero_at_first program word (omega arith) in
    at_each_place program threads script place word (λ v. v ≤ limit)
    (stored_after_sleds program word (λ v. v ≤ limit) past handler arg_handler state release) (omega arith)

pub code_values : (program : Program) (threads : ℕ) (script : List PatchCommand) (place word : ℕ) → IsCodeValue program threads word (code_at program threads script place word)
code_values program threads script place word = record {
  part = λ k sled part at same.
      subst (λ (w : ℕ). IsPartValue program.trampolines sled part (code_at program threads script place w)) (sym same)
      (part_has_value program threads script place k sled part at);
  handler = λ same.
      at_most program threads script place word 1 (omega arith) (λ value le here. le) (λ n value le here. le) (λ value le here. omega arith) (λ thread here. omega arith);
  state = λ same.
      at_most program threads script place word 4 (omega arith) (λ value le here. omega arith) (λ n value le here. omega arith) (λ value le here. le) (λ thread here. omega arith);
  release = λ thread some same.
      at_most program threads script place word 1 (omega arith) (λ value le here. omega arith) (λ n value le here. le) (λ value le here. omega arith) (λ t here. omega arith);
  arg_handler = λ same.
      at_most program threads script place word 1 (omega arith) (λ value le here. le) (λ n value le here. le) (λ value le here. omega arith) (λ thread here. omega arith);
}
