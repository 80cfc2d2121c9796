use Rattle.std.proofs.Common.{◌≡◌, ◌==◌, ◌||◌, ℕ, ap, ◌∙◌, get_or}
use Rattle.std.specs.List.{list_any}
use Rattle.std.proofs.lemmas.List.{get_or-map}
use Rattle.std.proofs.lemmas.Option.{get_or_from_slice_get}
use Rattle.patch_script.specs.declared.micro.Micro.TheVariants.{Store}
use Rattle.patch_script.specs.declared.sleds.SledValues.{SledValues}
use Rattle.sled_words.specs.declared.part.Part.TheVariants.{Head}
use Rattle.sled_words.specs.Words.{word_of}
use Rattle.patch_script.specs.private.FirstPatches.{is_before, first_in}
use Rattle.patch_script.specs.Micros.{head_left}
use Rattle.patch_script.specs.private.Placing.{patched_before}
use Rattle.patch_script.specs.private.Sleds.{values_of}
use Rattle.patch_script.proofs.Places.{was_patched}
use Rattle.patch_script.proofs.placed.PlacedCommands.unpatch_step.Goals as goal

pub returns : goal.returns
returns c = λ described at.
    let placed = c.args.self.now in
    let program = placed.image.value in
    let values = c.index-values.result.now in
    let known : values ≡ values_of program.trampolines described =
    c.index-values.ensures ∙ ap (λ vs. get_or vs c.args.sled values) c.requires.sound.image.sleds
    ∙ get_or-map (values_of program.trampolines) program.sleds c.args.sled described values c.requires.sled
    ∙ ap (values_of program.trampolines) (get_or_from_slice_get program.sleds c.args.sled described described at) in
    let patched : c.patch_before-was_patched.result ≡ list_any (λ j. j == c.args.sled) (patched_before placed c.args.number) =
    c.patch_before-was_patched.ensures
    ∙ ap (λ (v : SledValues). is_before placed.first_patches.all c.args.number || (is_before (first_in placed.first_patches.by_id.items v.id) c.args.number)) known
    ∙ was_patched placed c.requires.sound c.args.number c.args.sled described at in
    let head : c.unpatched_head.result ≡ head_left described.kind (list_any (λ j. j == c.args.sled) (patched_before placed c.args.number)) =
    c.unpatched_head.ensures ∙ ap (λ (v : SledValues). head_left v.kind c.patch_before-was_patched.result) known ∙ ap (head_left described.kind) patched in
    ap (λ (w : ℕ). Store w c.unpatched_head.result) c.word_of.ensures ∙ ap (Store (word_of c.args.sled Head)) head
