use Rattle.std.proofs.Common.{◌≡◌, ◌∙◌, ℕ, List, [], ◌∷◌, Bool, true, false, cond, Option, Some, None, length, refl, rules, tests, arith}
use Rattle.std.specs.Prelude.{◌&&◌, filter, is_some}
use Rattle.std.specs.List.{cons_option}
use Rattle.std.specs.Option.{option_map}
use Rattle.std.proofs.lemmas.Iterator.{YieldsList-from_slice}
use Rattle.std.proofs.lemmas.Iterator.Consumers.{count_from_yields_List, YieldsList-from_filter}
use Rattle.xray_image.specs.Container.{MapEntry}
use Rattle.asm_text.specs.declared.layout.Laid.{Laid}
use Rattle.asm_text.specs.Layout.{map_entries, sled_kind}
use Rattle.asm_text.specs.private.Laying.{placed_in}
use Rattle.asm_text.specs.private.Views.{statement_said}
use Rattle.asm_text.proofs.write.count_sleds.Goals as goal

abbrev has_sled : Laid → Bool
has_sled line = line.owner.traced && is_some (sled_kind (statement_said line.statement))

-- a line counts exactly when it has an entry in the map
first : (traced : Bool) (kind : Option ℕ) (entry : ℕ → MapEntry) (l : Laid) (ls : List Laid) (es : List MapEntry) → length ls ≡ length es
    → length (cond (traced && is_some kind) (l ∷ ls) ls) ≡ length (cons_option (cond traced (option_map entry kind) None) es)
first false kind entry l ls es e = e
first true None entry l ls es e = e
first true (Some kind) entry l ls es e = omega (arith, e)

counted : (lines : List Laid) → length (filter has_sled lines) ≡ length (map_entries 0 (placed_in lines))
counted [] = refl
counted (l ∷ ls) = first l.owner.traced (sled_kind (statement_said l.statement)) _ l (filter has_sled ls) (map_entries 0 (placed_in ls)) (counted ls)

pub returns : goal.returns
returns c =
    count_from_yields_List c.filter.result _ c.count.ensures.ran
    (YieldsList-from_filter _ has_sled (YieldsList-from_slice c.args.lines.now cc) c.filter.ensures.closure (λ x b q k. search (rules, tests)))
    ∙ counted c.args.lines.now

pub overflow_cast-result : goal.overflow_cast-result
overflow_cast-result c =
    let count : c.count.result ≡ length (map_entries 0 (placed_in c.args.lines.now)) =
    count_from_yields_List c.filter.result _ c.count.ensures.ran
    (YieldsList-from_filter _ has_sled (YieldsList-from_slice c.args.lines.now cc) c.filter.ensures.closure (λ x b q k. search (rules, tests)))
    ∙ counted c.args.lines.now in
    omega (arith, count, c.requires)
