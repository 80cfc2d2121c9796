use Rattle.std.proofs.Common.{◌≡◌, [], ◌∷◌, ◌++◌, true, ap, subst, sym, ◌∙◌, refl}
use Rattle.fdr_buffer.specs.Filled.{Filled}
use Rattle.fdr_buffer.specs.Segments.{has_room}
use Rattle.step_sim.proofs.PoolLemmas.{first_notes, join_notes, put_begun, same_hand}
use Rattle.step_sim.proofs.pool.Pool.note.Goals as goal

pub returns-then-not-begun : goal.returns-then-not-begun
returns-then-not-begun c =
    let old = c.args.self.now in
    let hand : Filled = c.index_mut-hand.result.now in
    let same : hand ≡ c.index.result.now =
    same_hand old c.args.thread c.index.result.now hand c.requires.can c.index.ensures c.index_mut-hand.ensures.value in
    let put = put_begun c.begin.new.self c.put.new.self hand.size c.args.thread 0 old.wall old.pid c.args.event.now c.begin.ensures.begun c.put.ensures in
    first_notes old _ c.args.thread c.args.event.now hand c.put.new.self c.requires.can
    (ap (λ (b : Filled). b.begun) same ∙ sym c.begun.ensures ∙ c.if-not-begun.true)
    c.segments_hold_all.ensures.all c.index_mut-hand.ensures.value put refl refl refl refl refl refl

pub returns-then-fits : goal.returns-then-fits
returns-then-fits c =
    let old = c.args.self.now in
    let event = c.args.event.now in
    let hand : Filled = c.index_mut.result.now in
    let same : hand ≡ c.index.result.now =
    same_hand old c.args.thread c.index.result.now hand c.requires.can c.index.ensures c.index_mut.ensures.value in
    let same' : c.index-else-not-begun.result.now ≡ hand =
    same_hand old c.args.thread hand c.index-else-not-begun.result.now c.requires.can c.index_mut.ensures.value c.index-else-not-begun.ensures in
    let HasRoom : Filled → Type 0 = λ b. has_room b.size (b.events ++ event ∷ []) ≡ true in
    let room : HasRoom c.index-else-not-begun.result.now = sym c.fits.ensures ∙ c.if-fits.true in
    join_notes old _ c.args.thread event hand c.put-then-fits.new.self c.requires.can
    (ap (λ (b : Filled). b.begun) same ∙ sym c.begun.ensures ∙ c.if-not-begun.false) (subst HasRoom same' room)
    c.a_segment_grows.ensures.joined c.index_mut.ensures.value c.put-then-fits.ensures refl refl refl refl refl refl
