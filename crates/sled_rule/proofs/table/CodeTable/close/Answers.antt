use Rattle.std.proofs.Common.{◌≡◌, ℕ, ◌<◌, ◌≤◌, List, get_or, sym, ap, ◌∙◌, subst, arith}
use Rattle.patch_script.specs.Plans.{Plan}
use Rattle.sled_rule.specs.Plans.{IsCodeIn, code_in}
use Rattle.sled_rule.specs.Seats.{patch_view}
use Rattle.sled_rule.specs.Slots.{code_slot}
use Rattle.sled_rule.proofs.RuleAtStart.{all_words, code_within}
use Rattle.sled_rule.proofs.RuleAtEnd.{read_at, progress_read, last_code, last_given, last_idle, last_progress}
use Rattle.sled_rule.proofs.table.CodeTable.close.Goals as goal

pub copy_words-requires-clause-room : goal.copy_words-requires-clause-room
copy_words-requires-clause-room c =
    let table = c.args.self in
    (table.script, table.counted, table.all_threads, all_words table.script _ _ c.requires.room table.counted, c.close_with-closed.ensures.counts.0 ∙ table.sized)

pub returns-clause-code : goal.returns-clause-code
returns-clause-code c word inside =
    let table = c.args.self in let seat = c.args.seat in let p = patch_view seat in let room = c.requires.room in
    let f = c.close_with-closed.ensures.values.2 in
    let slot : ℕ = code_slot table.script word in
    let read : get_or f.0.words slot 0 ≡ get_or c.copy_words.new.into word 0 =
    ap (λ (l : List ℕ). get_or l slot 0) f.2 ∙ read_at _ slot _ (c.copy_words.ensures.code table.script word table.counted table.all_threads inside
    (omega (arith, room, code_within table.script.program table.script.threads word inside))) in
    let code : get_or f.0.words (code_slot table.table.shared.key word) 0 ≡ code_in table.table.shared.key p.place word =
    last_code _ f.0 f.1.0 _ _ p f.1.1 seat.is.0 word (subst (λ (z : Plan). IsCodeIn z word) (sym table.key) inside) in
    sym read ∙ (subst (λ (z : Plan). get_or f.0.words (code_slot z word) 0 ≡ code_in z p.place word) table.key code)

pub returns-clause-ended : goal.returns-clause-ended
returns-clause-ended c thread first given =
    let table = c.args.self in let seat = c.args.seat in let p = patch_view seat in let room = c.requires.room in
    let f = c.close_with-closed.ensures.values.2 in let key = table.table.shared.key in
    let few : p.given ≤ table.script.threads = subst (λ (z : Plan). p.given ≤ z.threads) table.key (last_given key f.0 f.1.0 _ _ p f.1.1 seat.is.0) in
    let all = table.all_threads in
    progress_read key table.script thread f.0.words _ c.copy_words.new.into table.key f.2
    (c.copy_words.ensures.progress table.script thread table.counted table.all_threads first (omega arith) (omega arith))
    ∙ last_progress key f.0 f.1.0 _ _ p f.1.1 seat.is.0 thread (c.requires.met thread first given)

pub returns-clause-idle : goal.returns-clause-idle
returns-clause-idle c thread above within =
    let table = c.args.self in let seat = c.args.seat in let p = patch_view seat in let room = c.requires.room in
    let f = c.close_with-closed.ensures.values.2 in let key = table.table.shared.key in let first : 0 < thread = omega arith in
    let all = table.all_threads in
    progress_read key table.script thread f.0.words _ c.copy_words.new.into table.key f.2
    (c.copy_words.ensures.progress table.script thread table.counted table.all_threads first (omega arith) (omega arith))
    ∙ last_idle key f.0 f.1.0 _ _ p f.1.1 seat.is.0 thread above (subst (λ (z : Plan). thread ≤ z.threads) (sym table.key) within)
