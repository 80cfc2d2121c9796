use Rattle.std.proofs.Common.{◌∙◌, ap, arith, length, sym}
use Rattle.std.specs.List.{flat_map}
use Rattle.std.proofs.lemmas.List.{drop_all}
use Rattle.map_names.specs.Naming.{no_names}
use Rattle.function_names.specs.Name.{callee_text}
use Rattle.function_names.proofs.name.put_callee_numbers.Goals as goal

pub putting-init : goal.putting-init
putting-init c =
    let ids = c.args.ids.now in record {
      within = omega arith;
      room = omega (arith, c.requires);
      end = omega arith;
      text = drop_all 192 c.args.words.now (omega (arith, c.told-words))
          ∙ sym (ap (flat_map (callee_text no_names)) (drop_all (length ids) ids (omega arith)));
    }
