use Rattle.std.proofs.Common.{◌≡◌, ◌+◌, ◌-◌, ◌∙◌, ℕ, List, Some, ap, sym, slice_get, arith}
use Rattle.std.proofs.lemmas.Option.{slice_get-get_or}
use Rattle.cs_board.specs.{Board.plan, inner.Sittings.deed, inner.Sittings.ran_out, Plans.places_written, Views.does}
use Rattle.cs_board.specs.Views.{next_phase}
use Rattle.cs_board.proofs.Turning.{does_again}
use Rattle.cs_board.proofs.board.Board.turn_all.Goals as goal

pub loop-area-init : goal.loop-area-init
loop-area-init g c = record {
  sitting = c.requires.sitting;
  me = ap (λ v. (v, c.args.sitting.now.me.1)) (does_again c.args.sitting.now.me.0 _ c.requires.doing);
}

pub turn_on-requires-clause-note : goal.turn_on-requires-clause-note
turn_on-requires-clause-note g c = ap (λ z. (deed z.0).note) c.loop-area.invariant.me

pub turn_on-requires-clause-doing : goal.turn_on-requires-clause-doing
turn_on-requires-clause-doing g c =
    ap (λ z. z.0.doing) c.loop-area.invariant.me ∙ sym (ap (λ z. Some (deed z.0)) c.loop-area.invariant.me)

pub turn_on-requires-clause-held : goal.turn_on-requires-clause-held
turn_on-requires-clause-held g c = ap (λ z. (deed z.0).held) c.loop-area.invariant.me

pub turn_on-requires-clause-begun : goal.turn_on-requires-clause-begun
turn_on-requires-clause-begun g c = omega (arith, ap (λ z. (deed z.0).phase) c.loop-area.invariant.me)

pub turn_on-requires-clause-next : goal.turn_on-requires-clause-next
turn_on-requires-clause-next g c =
    let M = g.J.Job.means in
    let k = plan c.args.self.now in
    let i : ℕ = c.loop-area.area-index in
    let me = c.loop-area.invariant.me in
    let at_ : (deed c.loop-area.sitting.me.0).phase - 1 ≡ i = omega (arith, ap (λ z. (deed z.0).phase) me) in
    let items : c.as_slice-area-items.result.now ≡ places_written M k c.args.note =
    c.as_slice-area-items.ensures ∙ ap (λ f. f.writes) c.footprint.ensures.foot ∙ c.requires.foot in
    ap (λ z. slice_get (places_written M k (deed z.0).note) ((deed c.loop-area.sitting.me.0).phase - 1)) me
    ∙ ap (slice_get (places_written M k c.args.note)) at_ ∙ ap (λ (l : List ℕ). slice_get l i) (sym items)
    ∙ slice_get-get_or c.as_slice-area-items.result.now i 0 c.loop-area-test.true

pub loop-area-preserved : goal.loop-area-preserved
loop-area-preserved g c =
    let i : ℕ = c.loop-area.area-index in
    let up : 1 + i + 1 ≡ 1 + (i + 1) = omega arith in
    record {
      sitting = c.turn_on.ensures.sitting;
      me = c.turn_on.ensures.me ∙ ap (λ z. (does z.0 (next_phase (deed z.0)), z.1)) c.loop-area.invariant.me
          ∙ ap (λ n. (
            does c.args.sitting.now.me.0 (ran_out g.J.Job.means (plan c.args.self.now) c.args.note n),
            c.args.sitting.now.me.1,
          )) up;
    }
