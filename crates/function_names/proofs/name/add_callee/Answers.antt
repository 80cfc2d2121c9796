use Rattle.xray_io.specs.Text.{adds_more, adds_stop, adds_failed}
use Rattle.function_names.specs.declared.form.NameForm.TheVariants.{Frame}
use Rattle.function_names.specs.Name.{name_text, naming}
use Rattle.function_names.proofs.name.add_callee.Goals as goal

pub returns-in_err-bytes : goal.returns-in_err-bytes
returns-in_err-bytes g c =
    adds_failed (adds_stop (name_text Frame (naming c.args.names) c.args.id) c.in_err-bytes.ensures.adds) c.from_residual.result c.from_residual.ensures.1

pub returns : goal.returns
returns g c = adds_more g.met.S.Sink.along_both c.in_ok-bytes.ensures.adds c.add_name.ensures
