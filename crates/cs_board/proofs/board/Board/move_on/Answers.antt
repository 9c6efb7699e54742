use Rattle.std.proofs.Common.{◌≡◌, ◌+◌, ◌∙◌, ◌∷◌, ◌++◌, [], None, Some, true, ap, arith, refl, rules, subst, sym}
use Rattle.cs_board.specs.{Views.passed, Views.settled, inner.Sittings.Beside}
use Rattle.cs_board.specs.{inner.Sittings.stopped, Board.plan}
use Rattle.cs_board.proofs.Finishing.{beside_same, beside_moved}
use Rattle.cs_graph.specs.Graph.{Edge, NoneIn}
use Rattle.std.proofs.lemmas.Option.{slice_get_within}
use Rattle.cs_board.proofs.board.Board.move_on.Goals as goal

pub loop-next-init : goal.loop-next-init
loop-next-init g c = record {
  sitting = c.requires.sitting;
  carries = refl;
  edge = c.requires.edge;
  moving = c.requires.moving;
  closing = refl;
  beside = beside_same c.args.sitting.now.me.0;
}

pub watch_edge-requires-clause-moving : goal.watch_edge-requires-clause-moving
watch_edge-requires-clause-moving g c =
    let s = c.in-Some.ensures.some in
    record {
      from = c.loop-next.last + 1;
      moving = c.loop-next.invariant.moving;
      low = omega (arith, s.0);
      edge = (s.1.0, subst (λ es. Edge es c.in-Some.next s.1.0 c.args.note) c.graph.ensures.edges s.1.1);
      first = λ g r at_ low. omega (arith, s.0, low);
    }

pub loop-next-preserved : goal.loop-next-preserved
loop-next-preserved g c =
    let i = c.loop-next.invariant in
    let s = c.in-Some.ensures.some in
    let v = c.loop-next.sitting.me.0 in
    let me : c.watch_edge.new.sitting.me ≡ (passed v c.args.note c.in-Some.next, c.loop-next.sitting.me.1) =
    c.watch_edge.ensures.me
    ∙ ap (λ b. (stopped b v c.args.note c.in-Some.next, c.loop-next.sitting.me.1)) c.if-watch_edge.false in
    record {
      sitting = c.watch_edge.ensures.sitting;
      carries = ap (λ z. z.1) me ∙ i.carries;
      edge = (s.1.0, subst (λ es. Edge es c.in-Some.next s.1.0 c.args.note) c.graph.ensures.edges s.1.1);
      moving = ap (λ z. z.0.moving) me;
      closing = ap (λ z. z.0.closing) me ∙ i.closing;
      beside = subst (λ z. Beside c.args.sitting.now.me.0 z.0) (sym me)
          (beside_moved _ v (Some (record { note = c.args.note; from = c.in-Some.next + 1 })) v.owes i.beside);
    }

pub returns-then-watch_edge : goal.returns-then-watch_edge
returns-then-watch_edge g c =
    let i = c.loop-next.invariant in
    let v = c.loop-next.sitting.me.0 in
    let watches : c.watch_edge.result ≡ true = search rules in
    let me : c.watch_edge.new.sitting.me ≡ (settled v, c.loop-next.sitting.me.1) =
    c.watch_edge.ensures.me
    ∙ ap (λ b. (stopped b v c.args.note c.in-Some.next, c.loop-next.sitting.me.1)) watches in
    record {
      sitting = c.watch_edge.ensures.sitting;
      carries = ap (λ z. z.1) me ∙ i.carries;
      moving = ap (λ z. z.0.moving) me;
      closing = ap (λ z. z.0.closing) me ∙ i.closing;
      beside = subst (λ z. Beside c.args.sitting.now.me.0 z.0) (sym me) (beside_moved _ v None v.owes i.beside);
    }

pub returns : goal.returns
returns g c =
    let i = c.loop-next.invariant in
    let v = c.loop-next.sitting.me.0 in
    let me = c.open_note.ensures.me in
    record {
      sitting = c.open_note.ensures.sitting;
      carries = ap (λ z. z.1) me ∙ i.carries;
      moving = ap (λ z. z.0.moving) me;
      closing = ap (λ z. z.0.closing) me ∙ i.closing;
      beside = subst (λ z. Beside c.args.sitting.now.me.0 z.0) (sym me)
          (beside_moved _ v None (v.owes ++ c.args.note ∷ []) i.beside);
    }

pub next_in-requires : goal.next_in-requires
next_in-requires g c = let e = c.loop-next.invariant.edge in
    (e.0, subst (λ es. Edge es c.loop-next.last e.0 c.args.note) (sym c.graph.ensures.edges) e.1)

pub open_note-requires : goal.open_note-requires
open_note-requires g c =
    let i = c.loop-next.invariant in
    let from = c.loop-next.last + 1 in
    record {
      sitting = i.sitting;
      note = (i.sitting.whole.forward c.loop-next.last i.edge.0 c.args.note i.edge.1).1;
      moving = (from, i.moving, subst (λ z. NoneIn z c.args.note from) c.graph.ensures.edges c.in_default.ensures.none);
    }

pub loop-next-smaller : goal.loop-next-smaller
loop-next-smaller g c =
    let s = c.in-Some.ensures.some in
    let at_ = subst (λ es. Edge es c.in-Some.next s.1.0 c.args.note) c.graph.ensures.edges s.1.1 in
    omega (arith, s.0, slice_get_within (plan c.args.self.now).edges c.in-Some.next (s.1.0, c.args.note) at_)
