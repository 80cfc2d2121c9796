use Rattle.std.proofs.Common.{◌≡◌, ◌-◌, suc, Some, refl, sym, ap, subst, ◌∙◌, arith}
use Rattle.xray_image.specs.Program.{Program}
use Rattle.xray_image.specs.Ids.{id_count, name_of}
use Rattle.xray_image.specs.private.ImageView.{program_in}
use Rattle.xray_image.proofs.FunctionNames.{accepted_ascend, id_within, number_within, name_read}
use Rattle.xray_image.proofs.image.Image.name_of.Goals as goal

pub index-number-requires : goal.index-number-requires
index-number-requires c =
    let program = program_in c.self.inside in
    let up = accepted_ascend c.self.invariant.bytes program c.self.invariant.accepted in
    let within = id_within program c.self.inside.functions.items c.self.inside.ids.items refl up c.self.invariant.ids c.args.id (omega (arith, c.if-id-eq0.false)) (omega (arith, c.id_count.ensures, ap id_count (sym c.self.view_is), c.if-id-id_count.false)) in
    omega (arith, within, c.self.inside.ids.ok.0, c.if-id-eq0.false)

pub index-requires : goal.index-requires
index-requires c =
    let program = program_in c.self.inside in
    let up = accepted_ascend c.self.invariant.bytes program c.self.invariant.accepted in
    let within = id_within program c.self.inside.functions.items c.self.inside.ids.items refl up c.self.invariant.ids c.args.id (omega (arith, c.if-id-eq0.false)) (omega (arith, c.id_count.ensures, ap id_count (sym c.self.view_is), c.if-id-id_count.false)) in
    omega (
      arith,
      c.self.inside.functions.ok.0,
      number_within program c.self.inside.functions.items c.self.inside.ids.items refl up c.self.invariant.ids (c.args.id - 1) c.index-number.result.now within c.index-number.ensures,
    )

pub returns-clause-name : goal.returns-clause-name
returns-clause-name c =
    let program = program_in c.self.inside in
    let up = accepted_ascend c.self.invariant.bytes program c.self.invariant.accepted in
    let within = id_within program c.self.inside.functions.items c.self.inside.ids.items refl up c.self.invariant.ids c.args.id (omega (arith, c.if-id-eq0.false)) (omega (arith, c.id_count.ensures, ap id_count (sym c.self.view_is), c.if-id-id_count.false)) in
    let read = name_read program c.self.inside.functions.items c.self.inside.ids.items refl up c.self.invariant.ids (c.args.id - 1) c.index-number.result.now within c.index-number.ensures c.index.result.now c.index.ensures in
    let next : suc (c.args.id - 1) ≡ c.args.id = omega (arith, c.if-id-eq0.false) in
    let name : name_of program c.args.id ≡ Some c.as_str.result.now = ap (name_of program) (sym next) ∙ read ∙ ap Some (sym c.as_str.ensures.value) in
    subst (λ (p : Program). Some c.as_str.result.now ≡ name_of p c.args.id) c.self.view_is (sym name)
