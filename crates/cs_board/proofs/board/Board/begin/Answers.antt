use Rattle.std.proofs.Common.{◌∷◌, [], length, refl, sym, ap, ◌∙◌, subst, arith}
use Rattle.cs_board.specs.{Built.IsBuilt, Resting.areas_in, Resting.known_in, Seen.plan_in, Seen.plan_seen}
use Rattle.cs_board.specs.{Plans.IsPlan, Views.plan_laid, Views.opening_view}
use Rattle.cs_board.proofs.Beginning.{first_seat}
use Rattle.cs_board.proofs.board.Board.begin.Goals as goal

-- the board's plan is the one that was laid out
sees : goal.returns-clause-plan
sees g c = ap plan_seen c.of-opening.ensures ∙ ap plan_in c.into_badge-badge.ensures.2
    ∙ ap (λ z. z.0.plan) c.begin_cycle-graph.ensures.me

pub invariant_of-board : goal.invariant_of-board
invariant_of-board g c =
    let id = c.args.table.shared.table_id in
    let G = c.args.graph.value in
    let k = plan_laid (areas_in c.args.seat) (known_in c.args.seat) G in
    let is = ap plan_seen c.of-opening.ensures ∙ ap plan_in c.into_badge-badge.ensures.2
    ∙ ap (λ z. z.0.plan) c.begin_cycle-graph.ensures.me in
    record {
      built = subst (λ z. IsBuilt (plan_seen c.of-opening.result.value) z c.len-notes.result c.args.areas c.args.cells
          id.words id.slots) (sym c.begin_cycle-graph.ensures.graph)
          (subst (λ z. IsBuilt z G c.len-notes.result c.args.areas c.args.cells id.words id.slots) (sym is)
          (subst (λ n. IsBuilt k G n c.args.areas c.args.cells id.words id.slots)
          (sym (c.len-notes.ensures.notes ∙ ap (λ z. length z.levels) c.deref.ensures)) c.requires.built));
    }

pub returns-clause-plan : goal.returns-clause-plan
returns-clause-plan = sees

pub returns-clause-seat : goal.returns-clause-seat
returns-clause-seat g c =
    let id = c.args.table.shared.table_id in
    let is = sees g c in
    (first_seat g.J.Job.means (plan_seen c.of-opening.result.value) id _ c.args.room
    (subst (IsPlan g.J.Job.means) (sym is) c.requires.whole)
    (c.into_badge-badge.ensures.0 ∙ c.begin_cycle-graph.ensures.table ∙ c.requires.sole.table)
    (c.into_badge-badge.ensures.2 ∙ ap (λ z. z.0 ∷ []) c.begin_cycle-graph.ensures.me
    ∙ ap (λ k. opening_view k ∷ []) (sym is)) refl c.requires.room.0 (omega
    (arith, ap (λ z. z.notes) is, c.requires.built.levels, c.requires.built.notes, c.requires.room.1))).0
