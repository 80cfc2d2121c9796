use Rattle.std.proofs.Common.{◌++◌, ◌∙◌, sym, refl, append_assoc}
use Rattle.xray_io.specs.Text.{adds_more, adds_stop, adds_within, adds_failed}
use Rattle.function_names.specs.Name.{name_text, naming}
use Rattle.function_names.specs.declared.form.NameForm.TheVariants.{Quoted}
use Rattle.yaml_convert.specs.Yaml.{event_end, event_start}
use Rattle.yaml_convert.proofs.line.add_event.Goals as goal

pub returns-in_err-bytes : goal.returns-in_err-bytes
returns-in_err-bytes g c =
    let start = event_start c.args.event.now in
    let name = name_text Quoted (naming c.args.names) c.args.event.now.func in
    let end = event_end (record { thread = c.args.thread; pid = c.args.pid; event = c.args.event.now }) in
    let same = c.as_slice.ensures ∙ c.put_start.ensures in
    adds_failed (rw (sym (append_assoc start name end)) at (adds_stop (name ++ end) (rw same at c.in_err-bytes.ensures.adds)))
    c.from_residual.result c.from_residual.ensures.1

pub returns-in_err-add_name : goal.returns-in_err-add_name
returns-in_err-add_name g c =
    let same = c.as_slice.ensures ∙ c.put_start.ensures in
    adds_failed (adds_within g.met.S.Sink.along_both (event_end (record { thread = c.args.thread; pid = c.args.pid; event = c.args.event.now })) (rw same at c.in_ok-bytes.ensures.adds)
    c.in_err-add_name.ensures refl) c.from_residual-in_err-add_name.result c.from_residual-in_err-add_name.ensures.1

pub returns : goal.returns
returns g c =
    let same = c.as_slice.ensures ∙ c.put_start.ensures in
    adds_more g.met.S.Sink.along_both (adds_more g.met.S.Sink.along_both (rw same at c.in_ok-bytes.ensures.adds) c.in_ok-add_name.ensures) c.add_end.ensures
