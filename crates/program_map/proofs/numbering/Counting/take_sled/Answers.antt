use Rattle.std.proofs.Common.{◌∙◌, ◌++◌, ◌∷◌, [], List, ap, sym}
use Rattle.program_map.specs.declared.numbering.Counting.{Counting}
use Rattle.program_map.specs.declared.numbering.NumberedSled.{NumberedSled}
use Rattle.program_map.specs.Numbering.{with_id}
use Rattle.program_map.proofs.Groups.{all_numbered_more, count_new, count_same, last_of_more, last_same}
use Rattle.program_map.proofs.numbering.Counting.take_sled.Goals as goal
use Rattle.program_map.proofs.numbering.Counting.take_sled.Goals.{then-not-is_last, else-not-is_last}

pub returns-clause-took : goal.returns-clause-took
returns-clause-took c sleds counted =
    elim c.if-not-is_last.branch [
      | then-not-is_last w ↦
          let count = ap (λ (s : Counting). s.functions) w.self-is ∙ count_new sleds c.args.sled c.args.self.now.functions c.args.self.now.last counted.functions counted.last
          (sym c.is_last.ensures ∙ w.if-not-is_last.true) in
          record {
            numbered =
                c.in_ok-push.ensures.items
                ∙ ap (λ (ns : List NumberedSled). ns ++ with_id c.if-not-is_last.self.functions c.args.sled ∷ []) (ap (λ (s : Counting). s.sleds.items) w.self-is ∙ counted.numbered)
                ∙ all_numbered_more sleds c.args.sled _ count;
            functions = count;
            last = ap (λ (s : Counting). s.last) w.self-is ∙ sym (last_of_more sleds c.args.sled);
          }
      | else-not-is_last w ↦
          let count = ap (λ (s : Counting). s.functions) w.self-is ∙ count_same sleds c.args.sled c.args.self.now.functions c.args.self.now.last counted.functions counted.last
          (sym c.is_last.ensures ∙ w.if-not-is_last.false) in
          record {
            numbered =
                c.in_ok-push.ensures.items
                ∙ ap (λ (ns : List NumberedSled). ns ++ with_id c.if-not-is_last.self.functions c.args.sled ∷ []) (ap (λ (s : Counting). s.sleds.items) w.self-is ∙ counted.numbered)
                ∙ all_numbered_more sleds c.args.sled _ count;
            functions = count;
            last =
                ap (λ (s : Counting). s.last) w.self-is ∙ last_same c.args.self.now.last c.args.sled.function (sym c.is_last.ensures ∙ w.if-not-is_last.false)
                ∙ sym (last_of_more sleds c.args.sled);
          }
    ]
