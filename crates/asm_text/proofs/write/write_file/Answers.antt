use Rattle.std.proofs.Common.{◌≡◌, ◌++◌, ap, subst, ◌∙◌, length, map, arith}
use Rattle.std.specs.List.{flat_map}
use Rattle.std.proofs.lemmas.Grind.{common_steps}
use Rattle.xray_image.specs.Units.{piece_bytes}
use Rattle.asm_text.specs.Layout.{pieces, functions, map_entries}
use Rattle.asm_text.specs.Writing.{image_header, function_bytes, in_version, map_bytes, map_version}
use Rattle.asm_text.specs.private.LaidTexts.{all_in}
use Rattle.asm_text.specs.private.Files.{is_relative, IsHeaderOf}
use Rattle.asm_text.proofs.WriteLemmas.{file_parts, length-map_entries}
use Rattle.asm_text.proofs.write.write_file.Goals as goal

pub returns : goal.returns
returns c =
    let all = all_in c.args.text.now in
    let h = c.header_of-header.result in
    let code = c.push_code.new.out.items in
    let same : code ≡ flat_map piece_bytes (pieces all) = grind (arith, common_steps) in
    let lent : c.deref.result.now ≡ code = c.deref.ensures.value in
    let is : IsHeaderOf all (length code) h = subst (λ xs. IsHeaderOf all (length xs) h) lent c.header_of-header.ensures in
    let head : c.push_header.new.out.items ≡ image_header h.base h.code h.functions h.entries h.entry = grind (arith, common_steps) in
    let with_code : c.extend_from_slice.new.self.items ≡ c.push_header.new.out.items ++ code = grind (arith, common_steps) in
    let with_functions : c.push_functions.new.out.items ≡ c.extend_from_slice.new.self.items ++ flat_map function_bytes (functions h.base all) = grind (arith, common_steps) in
    let with_map : c.push_map.new.out.items ≡ c.push_functions.new.out.items ++ map_bytes h.base (map (in_version (map_version (is_relative c.args.version))) (map_entries h.base all)) = grind (arith, common_steps) in
    with_map ∙ ap (λ xs. xs ++ map_bytes h.base (map (in_version (map_version (is_relative c.args.version))) (map_entries h.base all)))
    (with_functions ∙ ap (λ xs. xs ++ flat_map function_bytes (functions h.base all)) (with_code ∙ ap (λ xs. xs ++ code) head))
    ∙ file_parts (is_relative c.args.version) all code h same is

pub push_map-requires-clause-few : goal.push_map-requires-clause-few
push_map-requires-clause-few c =
    let all = all_in c.args.text.now in
    let same : c.deref-4.result.now ≡ c.args.text.now.lines.items = c.deref-4.ensures.value in
    rw same (omega (arith, length-map_entries c.header_of-header.result.base all, c.requires.entries))
