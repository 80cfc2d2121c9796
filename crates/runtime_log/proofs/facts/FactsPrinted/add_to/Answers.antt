use Rattle.std.proofs.Common.{List, ℕ, ◌++◌, Ok, Err, refl, subst}
use Rattle.xray_io.specs.Text.{AddsText, adds_failed, adds_more, adds_within}
use Rattle.runtime_log.specs.Facts.{counters_text, left_records_text}
use Rattle.runtime_log.proofs.facts.FactsPrinted.add_to.Goals as goal

pub returns-in_err-add_to-2 : goal.returns-in_err-add_to-2
returns-in_err-add_to-2 g c =
    let w = g.S.Sink.written in
    let f = g.S.Sink.faults in
    let a = g.S.Sink.along in
    let one = subst (λ (t : List ℕ). AddsText w f a c.args.to.now c.add_to.new.to t (Ok tt)) c.taken.ensures c.in_ok-add_to.ensures.adds in
    let two = subst (λ (t : List ℕ). AddsText w f a c.add_to.new.to c.add_to-2.new.to t (Err c.in_err-add_to-2.field-0.0)) c.left_out.ensures c.in_err-add_to-2.ensures.adds in
    record { adds = adds_failed (adds_within g.met.S.Sink.along_both (counters_text c.args.self.now ++ left_records_text c.args.self.now) one two refl) c.from_residual-in_err-add_to-2.result c.from_residual-in_err-add_to-2.ensures.1 }

pub returns : goal.returns
returns g c =
    let w = g.S.Sink.written in
    let f = g.S.Sink.faults in
    let a = g.S.Sink.along in
    let one = subst (λ (t : List ℕ). AddsText w f a c.args.to.now c.add_to.new.to t (Ok tt)) c.taken.ensures c.in_ok-add_to.ensures.adds in
    let two = subst (λ (t : List ℕ). AddsText w f a c.add_to.new.to c.add_to-2.new.to t (Ok tt)) c.left_out.ensures c.in_ok-add_to-2.ensures.adds in
    let three = subst (λ (t : List ℕ). AddsText w f a c.add_to-2.new.to c.add_to-3.new.to t c.add_to-3.result) c.numbers.ensures c.add_to-3.ensures.adds in
    record { adds = adds_more g.met.S.Sink.along_both (adds_more g.met.S.Sink.along_both one two) three }
