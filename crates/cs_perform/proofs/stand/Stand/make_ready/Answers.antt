use Rattle.std.proofs.Common.{◌∙◌, ap, length}
use Rattle.std.proofs.lemmas.Result.{on_ok_weaker}
use Rattle.cs_graph.specs.Graph.{Dependencies}
use Rattle.cs_row.specs.Kept.{cuts}
use Rattle.cs_perform.proofs.Readying.{room_for}
use Rattle.cs_perform.specs.inner.Stands.{IsInRows}
use Rattle.cs_perform.proofs.stand.Stand.make_ready.Goals as goal

pub returns-in_err-take_memory-clause-at : goal.returns-in_err-take_memory-clause-at
returns-in_err-take_memory-clause-at g c s m was =
    let is = c.cut_rows.ensures.at s m was in record {
      setup = is.setup;
      stands = is.stands;
      areas = is.areas;
      block = c.take_memory.ensures.same.block ∙ is.block;
      course = is.course;
      turns = is.turns;
      current = λ h. rw (c.take_memory.ensures.same.most, c.take_memory.ensures.same.lengths) (is.current h);
    }

pub returns-clause-at : goal.returns-clause-at
returns-clause-at g c s m was =
    let is = c.cut_rows.ensures.at s m was in record {
      setup = is.setup;
      stands = rw c.make_room.ensures.cells is.stands;
      areas = c.make_room.ensures.areas ∙ is.areas;
      block = c.take_memory.ensures.same.block ∙ is.block;
      course = is.course;
      turns = is.turns;
      current = λ h. rw (c.take_memory.ensures.same.most, c.take_memory.ensures.same.lengths) (is.current h);
    }

pub returns-clause-ready : goal.returns-clause-ready
returns-clause-ready g c =
    let is = c.cut_rows.ensures.at c.requires.at.0 c.requires.at.1 c.requires.at.2 in
    let rows : IsInRows c.cut_rows.new.self.voices.items c.take_memory.new.self.most (cuts c.take_memory.new.self)
    c.cut_rows.new.self.course.feet.items =
    rw (c.take_memory.ensures.same.most, c.take_memory.ensures.same.lengths) c.in_ok-cut_rows.ensures.rows in
    on_ok_weaker c.make_room.result
    (λ room. record {
      rows = rows;
      memory = c.in_ok-take_memory.ensures.memory;
      room = room_for _ _ _ _ c.cut_rows.new.self.voices.items _ _ c.cut_rows.new.self.course rows is.course
          (c.len-rows.ensures.notes ∙ ap (λ (k : Dependencies). length k.levels) c.deref.ensures)
          (c.edge_count-edges.ensures.count ∙ ap (λ (k : Dependencies). length k.edges) c.deref-2.ensures) room;
    })
    c.make_room.ensures.room
