use Rattle.std.proofs.Common.{◌≡◌, ◌+◌, ◌<◌, ◌++◌, [], ◌∷◌, drop, length, take, ap, sym, ◌∙◌, arith, get_or}
use Rattle.std.proofs.lemmas.Option.{get_or_from_slice_get}
use Rattle.cs_cells.specs.{Areas.word_count, declared.footprint.Area.Area}
use Rattle.cs_cells.proofs.Laid.{area_within}
use Rattle.cs_rwset.specs.inner.Zoning.{zones_from}
use Rattle.cs_rwset.proofs.ZoneSteps.{words_more, zone_begins, zone_goes_on}
use Rattle.cs_rwset.proofs.zones.areas_of.Goals.{then-begins-place+in_ok-push, else-begins-place}
use Rattle.cs_rwset.proofs.zones.areas_of.Goals as goal

pub overflow_add-zone : goal.overflow_add-zone
overflow_add-zone c =
    let p = c.loop-place.place in
    let a = c.area-area.result in
    let first : a.first ≡ word_count (take p c.args.layout.now) =
    c.words.ensures.laid.follows p a c.area-area.ensures in
    let within = area_within c.args.layout.now p a c.words.ensures.laid c.area-area.ensures in
    let so_far = c.loop-place.invariant.1 in
    let all : c.words.result ≡ word_count c.args.layout.now = c.words.ensures.words in
    let most : c.words.result < 4294967296 = c.words.type_inv in
    omega (arith, first, within, so_far, all, most)

pub loop-place-preserved : goal.loop-place-preserved
loop-place-preserved c =
    let areas = c.args.layout.now in
    let begins = c.args.begins.now in
    let p = c.loop-place.place in
    let a = c.area-area.result in
    let zone = c.loop-place.zone in
    let done = c.loop-place.zones.items in
    let read : a ≡ get_or areas p a = sym (get_or_from_slice_get areas p a a c.area-area.ensures) in
    let low : p < length areas =
    (let t = c.loop-place-test.true in let e = c.len-place-end.ensures in omega (arith, t, e)) in
    let here : p < length begins = (let e = c.requires in omega (arith, low, e)) in
    let first : a.first ≡ word_count (take p areas) = c.words.ensures.laid.follows p a c.area-area.ensures in
    let words : a.first + a.length ≡ word_count (take (p + 1) areas) =
    words_more areas p a c.words.ensures.laid c.area-area.ensures in
    elim c.if-begins-place.branch [
      | then-begins-place+in_ok-push w ↦ (
        ap (λ l. l ++ zones_from c.if-begins-place.zone (drop (p + 1) areas) (drop (p + 1) begins))
            (ap (λ v. v.items) w.zones-is ∙ w.in_ok-push.ensures.items)
            ∙ ap (λ z. (done ++ zone ∷ []) ++ zones_from z (drop (p + 1) areas) (drop (p + 1) begins)) w.zone-is
            ∙ zone_begins areas begins p zone a done _ read low here w.if-begins-place.true c.loop-place.invariant.0,
        ap (λ (z : Area). z.first + z.length) w.zone-is ∙ words,
      )
      | else-begins-place w ↦ (
        ap (λ l. l ++ zones_from c.if-begins-place.zone (drop (p + 1) areas) (drop (p + 1) begins))
            (ap (λ v. v.items) w.zones-is)
            ∙ ap (λ z. done ++ zones_from z (drop (p + 1) areas) (drop (p + 1) begins)) w.zone-is
            ∙ zone_goes_on areas begins p zone a done _ read low here w.if-begins-place.false c.loop-place.invariant.0,
        ap (λ (z : Area). z.first + z.length) w.zone-is ∙ (let so_far = c.loop-place.invariant.1 in
            let e : zone.first + (zone.length + a.length) ≡ word_count (take (p + 1) areas) =
            omega (arith, so_far, first, words) in e),
      )
    ]
