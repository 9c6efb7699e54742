use Rattle.std.proofs.Common.{◌≡◌, ◌∙◌, ◌+◌, ◌≤◌, true, false, length, ap, subst, refl, sym, arith}
use Rattle.cs_board.specs.Board.{plan, name, graph_of, IsSeatOf}
use Rattle.cs_cells.specs.Serial.{serial_cells, serial_jobs}
use Rattle.cs_desk.proofs.Cycling.{was_played}
use Rattle.cs_desk.specs.Desk.{cells}
use Rattle.cs_pool.proofs.{Given.nothing_more, Missed.learns}
use Rattle.cs_graph.specs.Cover.{HasCover}
use Rattle.cs_pool.specs.Pools.{tasks_given}
use Rattle.cs_pool.proofs.pool.Pool.cycle.Goals as goal

pub returns-clause-played : goal.returns-clause-played
returns-clause-played g c =
    let M = g.J.Job.means in
    let same = c.play-board.ensures.board in
    let over = c.open-board.ensures.plan in
    let rested = c.rest.ensures in
    let laws = c.serial_laws.ensures in
    let start = cells c.args.desk in
    was_played M c.args.desk c.args.jobs.items c.rest.result.0 c.rest.result.1
    (laws.footprints c.args.jobs.items start) (laws.areas c.args.jobs.items start) (laws.count c.args.jobs.items start)
    (rested.jobs ∙ ap (λ b. serial_jobs M (plan b).jobs (plan b).cells) same
    ∙ ap (λ k. serial_jobs M k.jobs k.cells) over) (rested.cells
    ∙ ap (λ b. serial_cells M (plan b).jobs (plan b).cells) same ∙ ap (λ k. serial_cells M k.jobs k.cells) over)
    (rested.areas ∙ ap (λ b. (plan b).areas) same ∙ ap (λ k. k.areas) over)
    (rested.room.0 ∙ ap (λ b. (name b).slots) same ∙ c.open-board.ensures.room.0)
    (rested.room.1 ∙ ap (λ b. (name b).words) same ∙ c.open-board.ensures.room.1)

pub returns-clause-learned : goal.returns-clause-learned
returns-clause-learned g c =
    let l = c.play-board.ensures.learned in record { served = l.served; helped = l.helped; missed = l.missed }

pub returns-then-others-eq0-clause-learned : goal.returns-then-others-eq0-clause-learned
returns-then-others-eq0-clause-learned g c =
    learns c.args.self.now _ false (λ h. absurd (let wrong : false ≡ true = h in cc)) (λ h. refl)
    c.learn.ensures.begun c.learn.ensures.missed

pub returns-then-others-eq0-clause-shared : goal.returns-then-others-eq0-clause-shared
returns-then-others-eq0-clause-shared g c =
    let w = c.wanted-others.ensures in
    record {
      chains = w.0;
      cover = subst (λ z. HasCover z.edges (length z.levels) w.0) c.deref.ensures w.1;
      parts = record { most = omega arith; all = λ h. nothing_more _ _ (sym w.2 ∙ c.if-others-eq0.true) };
      first = λ some. absurd (omega (arith, some, w.2, c.if-others-eq0.true));
      none = λ h. refl;
    }

pub open-board-requires : goal.open-board-requires
open-board-requires g c = c.requires

pub play-board-requires : goal.play-board-requires
play-board-requires g c = record {
  few = omega (arith, c.wanted-others.ensures.2);
  first = c.open-board.ensures.seat;
  opening = c.open-board.ensures.view;
}

pub rest-requires : goal.rest-requires
rest-requires g c =
    let done = c.play-board.ensures.done in
    let alone = c.play-board.ensures.alone in
    record {
      seat = subst (λ b. IsSeatOf g.J.Job.means (plan b) (name b) c.play-board.result.1)
          (sym c.play-board.ensures.board) done.of;
      idle = done.idle;
      owes = done.owes;
      alone = (alone.first, alone.out);
    }

pub returns-clause-graph : goal.returns-clause-graph
returns-clause-graph g c =
    c.rest.ensures.graph ∙ ap graph_of c.play-board.ensures.board ∙ c.open-board.ensures.graph

pub returns-clause-helpers : goal.returns-clause-helpers
returns-clause-helpers g c = c.play-board.ensures.helpers

pub returns-clause-shared : goal.returns-clause-shared
returns-clause-shared g c =
    let w = c.wanted-others.ensures in
    let p = c.play-board.ensures.parts in
    record {
      chains = w.0;
      cover = subst (λ z. HasCover z.edges (length z.levels) w.0) c.deref.ensures w.1;
      parts = record {
        most = subst (λ n. tasks_given c.play-board.new.self ≤ tasks_given c.args.self.now + n) w.2 p.most;
        all = λ h. p.all h ∙ ap (λ n. tasks_given c.args.self.now + n) w.2;
      };
      first = λ some. c.play-board.ensures.shared;
      none = λ none. absurd (omega (arith, none, w.2, c.if-others-eq0.false));
    }
