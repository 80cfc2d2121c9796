use Rattle.std.proofs.Common.{◌≡◌, ◌+◌, ◌-◌, ◌<◌, length, arith, refl, subst}
use Rattle.std.proofs.lemmas.Option.{slice_get_read}
use Rattle.sled_words.specs.Words.{release_word}
use Rattle.patch_script.specs.CodeAt.{code_at}
use Rattle.patch_script.specs.Micros.{total_of}
use Rattle.audit_check.specs.private.Switches.{AreTurnsOf, is_set}
use Rattle.audit_check.proofs.follower.Follower.release.Goals as goal

pub returns-clause-place : goal.returns-clause-place
returns-clause-place c = λ program threads script judges low.
    let thread = c.args.self.now.thread in
    let items = c.args.self.now.course.now.switches.releases.items in
    let code = code_at program threads script in
    let turns = c.index-release.result.now in
    let total = total_of program threads script in
    let number : thread - 1 + 1 ≡ thread = omega (arith, c.requires.some) in
    let within : thread - 1 < length items = omega (arith, c.requires.some, c.requires.within) in
    let are : AreTurnsOf code total (release_word program thread) is_set turns =
    subst (λ n. AreTurnsOf code total (release_word program n) is_set turns) number
    (judges.course.switches.releases (thread - 1) turns (slice_get_read items (length items) (thread - 1) turns refl within c.index-release.ensures)) in
    c.first.ensures (λ place. is_set (code place (release_word program thread))) total are low
