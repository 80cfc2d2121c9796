use Rattle.std.proofs.Common.{◌<◌, length, arith, refl}
use Rattle.std.proofs.lemmas.Option.{slice_get_read}
use Rattle.sled_words.specs.declared.part.Part.TheVariants.{Head}
use Rattle.sled_words.specs.Words.{word_of}
use Rattle.patch_script.specs.CodeAt.{code_at}
use Rattle.patch_script.specs.Micros.{total_of}
use Rattle.audit_check.specs.private.Switches.{is_patched}
use Rattle.audit_check.proofs.follower.Follower.head.Goals as goal

pub returns-clause-place : goal.returns-clause-place
returns-clause-place c = λ program threads script judges low.
    let items = c.args.self.now.course.now.switches.heads.items in
    let within : c.args.sled < length items = omega (arith, c.requires.ready.heads, c.requires.sled) in
    c.first.ensures (λ place. is_patched (code_at program threads script place (word_of c.args.sled Head))) (total_of program threads script)
    (judges.course.switches.heads c.args.sled c.index.result.now
    (slice_get_read items (length items) c.args.sled c.index.result.now refl within c.index.ensures)) low
