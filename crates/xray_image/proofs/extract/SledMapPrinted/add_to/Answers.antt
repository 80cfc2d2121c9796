use Rattle.std.proofs.Common.{◌≡◌, ◌+◌, ◌++◌, ℕ, suc, List, Ok, take, drop, subst, sym, ap, ◌∙◌, arith, add-one, append_assoc}
use Rattle.std.specs.Prelude.{codes}
use Rattle.std.specs.List.{flat_map}
use Rattle.xray_io.specs.Text.{AddsText, adds_more, adds_stop, adds_within, adds_failed}
use Rattle.xray_image.specs.Extract.{sled_line}
use Rattle.xray_image.proofs.ExtractText.{lines_more, lines_split, lines_all}
use Rattle.xray_image.proofs.extract.SledMapPrinted.add_to.Goals as goal

pub returns-in_err-bytes : goal.returns-in_err-bytes
returns-in_err-bytes g c = record {
  adds =
      let rows = flat_map (sled_line c.args.self.now.0.now) c.args.self.now.0.now.sleds in
      let broken = rw (sym (append_assoc (codes "---\n") rows (codes "...\n"))) at (adds_stop (rows ++ codes "...\n") c.in_err-bytes.ensures.adds) in
      adds_failed broken c.from_residual.result c.from_residual.ensures.1;
}

pub returns-in_err-add_sled : goal.returns-in_err-add_sled
returns-in_err-add_sled g c = record {
  adds =
      let image = c.args.self.now.0.now in
      let line = sled_line image in
      let i = c.loop-number.number in
      let rest = flat_map line (drop (suc i) image.sleds) ++ codes "...\n" in
      let more = lines_more line image.sleds i c.sled-sled.result c.sled-sled.ensures in
      adds_failed (adds_within g.met.S.Sink.along_both rest c.loop-number.invariant c.in_err-add_sled.ensures
      (ap (λ (t : List ℕ). (codes "---\n" ++ t) ++ rest) more ∙ lines_split line image.sleds (codes "---\n") (codes "...\n") (suc i)))
      c.from_residual-in_err-add_sled.result c.from_residual-in_err-add_sled.ensures.1;
}

pub loop-number-preserved : goal.loop-number-preserved
loop-number-preserved g c =
    let image = c.args.self.now.0.now in
    let line = sled_line image in
    let i = c.loop-number.number in
    let more = lines_more line image.sleds i c.sled-sled.result c.sled-sled.ensures in
    let next : codes "---\n" ++ flat_map line (take (suc i) image.sleds) ≡ codes "---\n" ++ flat_map line (take (i + 1) image.sleds) =
    ap (λ n. codes "---\n" ++ flat_map line (take n image.sleds)) (sym (add-one i)) in
    subst (λ t. AddsText g.S.Sink.written g.S.Sink.faults g.S.Sink.along c.args.to.now c.add_sled.new.text t (Ok tt)) (ap (λ t. codes "---\n" ++ t) more ∙ next)
    (adds_more g.met.S.Sink.along_both c.loop-number.invariant c.in_ok-add_sled.ensures)

pub returns : goal.returns
returns g c = record {
  adds =
      let image = c.args.self.now.0.now in
      let line = sled_line image in
      let all = lines_all line image.sleds (codes "---\n") (codes "...\n") c.loop-number.number (omega (arith, c.sled_count-number-end.ensures.count)) in
      subst (λ t. AddsText g.S.Sink.written g.S.Sink.faults g.S.Sink.along c.args.to.now c.bytes-2.new.self t c.bytes-2.result) all
      (adds_more g.met.S.Sink.along_both c.loop-number.invariant c.bytes-2.ensures.adds);
}
