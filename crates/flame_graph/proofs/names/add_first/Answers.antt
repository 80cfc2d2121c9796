use Rattle.std.proofs.Common.{◌∙◌, ◌++◌, ◌+◌, ◌-◌, ◌<◌, ℕ, List, [], ◌∷◌, Ok, length, take, arith, ap, refl, subst, sym}
use Rattle.std.proofs.lemmas.List.{length-append}
use Rattle.xray_io.specs.Text.{AddsText, adds_failed, adds_more, adds_nothing, adds_within}
use Rattle.flame_graph.specs.FlameText.{xml_character, xml_characters}
use Rattle.flame_graph.specs.private.Left.{characters_left}
use Rattle.flame_graph.proofs.NameCharacters.{first_texts, one_given, one_text}
use Rattle.flame_graph.proofs.names.add_first.Goals as goal

pub characters-init : goal.characters-init
characters-init g c = ([], sym c.new-characters.ensures, refl, adds_nothing g.met.S.Sink.along_none c.args.to.now)

pub characters-preserved : goal.characters-preserved
characters-preserved g c =
    let given = c.characters.invariant.0 in
    let x = c.in-Some.character.now in
    let P : List ℕ → Type 0 = λ t. AddsText g.S.Sink.written g.S.Sink.faults g.S.Sink.along c.args.to.now c.add_character.new.to t (Ok tt) in (
      given ++ x ∷ [],
      one_given _ given _ _ x c.characters.invariant.1 c.in-Some.ensures,
      length-append given (x ∷ []) ∙ ap (λ (n : ℕ). n + 1) c.characters.invariant.2,
      subst P (one_text xml_character given x) (adds_more g.met.S.Sink.along_both {answer = Ok tt} c.characters.invariant.3 c.in_ok-add_character-in-Some.ensures),
    )

pub returns-in_err-add_character-in-Some : goal.returns-in_err-add_character-in-Some
returns-in_err-add_character-in-Some g c =
    let given = c.characters.invariant.0 in
    let most = c.args.most in
    let few : length given < most = omega (arith, c.characters.invariant.2, c.characters-test.true) in
    let later = take (most - length given - 1) (characters_left c.next.new.self) in
    adds_failed (adds_within g.met.S.Sink.along_both (xml_characters later) c.characters.invariant.3 c.in_err-add_character-in-Some.ensures
    (first_texts xml_character _ given _ _ c.in-Some.character.now most c.characters.invariant.1 c.in-Some.ensures few)) c.from_residual.result c.from_residual.ensures.1
