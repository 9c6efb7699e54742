use Rattle.std.proofs.Common.{◌≡◌, ◌≤◌, ◌++◌, ℕ, List, arith, length, map, ap, refl, subst, sym, ◌∙◌}
use Rattle.std.proofs.lemmas.{List.length-map, Result.on_ok_weaker}
use Rattle.std.specs.List.{AllZip}
use Rattle.cs_base.specs.Limits.{most_notes}
use Rattle.cs_cells.specs.declared.footprint.Footprint.{Footprint}
use Rattle.cs_piece_meaning.specs.Moments.{Active, Composition}
use Rattle.cs_graph.specs.Graph.{Dependencies}
use Rattle.cs_rwset.specs.Footprints.{stock_of}
use Rattle.cs_piece.specs.Setups.{SetupData, composition_of}
use Rattle.cs_turns.specs.Turns.{IsFootOf, line_of, stock_in}
use Rattle.cs_voice.specs.VoiceData.{VoiceData}
use Rattle.cs_perform.proofs.{Standings.own_course, Turning.feet_of_notes, Turning.no_line}
use Rattle.cs_typed.specs.TypedTree as typed
use Rattle.cs_perform.proofs.turns.tell_turns.Goals as goal

pub follow-requires-clause-few : goal.follow-requires-clause-few
follow-requires-clause-few g c =
    let voices : List VoiceData = c.args.stand.now.voices.items in
    let feet : c.in_ok-feet.feet.items ≡ map (λ (v : VoiceData). v.foot) voices =
    c.in_ok-feet.ensures ∙ ap (map (λ (v : VoiceData). v.foot)) c.deref.ensures.value in
    let long : length c.in_ok-feet.feet.items ≡ length voices =
    ap length feet ∙ length-map voices (λ (v : VoiceData). v.foot) in
    let few : length voices ≤ most_notes = c.requires.1.stands.stand.few in
    omega (arith, long, few)

pub follow-requires-clause-course : goal.follow-requires-clause-course
follow-requires-clause-course g c = c.requires.1.turns

pub returns-then-not-has_line-clause-told : goal.returns-then-not-has_line-clause-told
returns-then-not-has_line-clause-told g c m at =
    no_line c.args.cycle c.args.turns.now.items _ (sym c.has_line.ensures ∙ c.if-not-has_line.true)

pub returns-clause-at : goal.returns-clause-at
returns-clause-at g c =
    on_ok_weaker c.add_turns.result
    (λ added m at. record {
      setup = at.setup;
      stands = at.stands;
      areas = at.areas;
      block = at.block;
      course = at.course;
      turns = own_course c.in_ok-feet.feet.items _ c.in_ok-follow.ensures.course;
      current = at.current;
    })
    c.add_turns.ensures.added

pub returns-clause-told : goal.returns-clause-told
returns-clause-told g c =
    let s : SetupData = c.args.setup.now in
    let piece : Composition = composition_of s in
    let stock : stock_of s.layout ≡ stock_in piece =
    ap stock_of c.facts.ensures.areas
    ∙ c.layouts_have_the_stock.ensures piece piece.head.ksmps (typed.orchestra s.orchestra).globals in
    let stage = c.args.stand.now.life.stage in
    let voices : List VoiceData = c.args.stand.now.voices.items in
    let feet : c.in_ok-feet.feet.items ≡ map (λ (v : VoiceData). v.foot) voices =
    c.in_ok-feet.ensures ∙ ap (map (λ (v : VoiceData). v.foot)) c.deref.ensures.value in
    let P : List Footprint → List Active → Type 0 =
    λ l active. AllZip (λ (a : Active) (f : Footprint). IsFootOf stage.layout.now stage.zones.now a.body f) active l in
    on_ok_weaker c.add_turns.result
    (λ added m at. added
    ∙ ap (λ (g : Dependencies). c.args.turns.now.items ++ line_of c.args.cycle g.levels) c.deref-2.ensures
    ∙ ap (λ (l : List ℕ). c.args.turns.now.items ++ line_of c.args.cycle l)
    (let is = at.stands.stand.stage_is in
    c.turns_are_levels.ensures piece stage.layout.now stage.zones.now m.active c.in_ok-feet.feet.items
    c.follow.new.self.graph.value.levels
    (record { are_zones = is.zones; areas_laid = is.laid; some_areas = is.some; some_zones = is.zones.some is.some })
    (ap stock_of (at.stands.layout ∙ ap (λ (t : SetupData). t.layout) at.setup) ∙ stock)
    (subst (λ (l : List Footprint). P l m.active) (sym feet)
    (feet_of_notes piece stage c.args.stand.now.life.made.items stage.layout.now stage.zones.now
    voices m.active refl refl at.stands.stand.play))
    c.in_ok-follow.ensures.course.notes c.in_ok-follow.ensures.course.levelled))
    c.add_turns.ensures.added
