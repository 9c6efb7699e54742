use Rattle.std.proofs.Common.{length, refl, sym, ◌∙◌, subst}
use Rattle.cs_board.specs.{Resting.IsLaying, Resting.areas_in, Resting.known_in, Plans.IsPlan, Views.plan_laid}
use Rattle.cs_desk.specs.inner.Resting.{plan_over}
use Rattle.cs_desk.proofs.{Laying.starts_laying, Opening.begin_laid, Opening.begin_plan, Opening.begin_built}
use Rattle.cs_desk.proofs.resting.RestingTable.begin.Goals as goal

pub lay_cycle-room-requires-clause-laying : goal.lay_cycle-room-requires-clause-laying
lay_cycle-room-requires-clause-laying g c =
    let s = c.args.self.seat in
    let id = c.args.self.table.shared.table_id in
    subst (λ z. IsLaying (plan_over (areas_in s) (known_in s) z c.args.jobs.items) (length c.args.jobs.items) 0
    (known_in s)) (sym c.deref.ensures)
    (starts_laying (areas_in s) (known_in s) c.args.graph.value c.args.jobs.items id.words id.slots
    c.args.self.rests.cleared c.requires.room.notes c.requires.room.words)

pub begin-requires-clause-whole : goal.begin-requires-clause-whole
begin-requires-clause-whole g c =
    let s = c.args.self.seat in
    let n = c.lay_cycle-room.new.seat in
    let h = c.args.self.rests.cleared in
    subst (IsPlan g.J.Job.means)
    (sym (begin_plan (areas_in s) (areas_in n) (known_in s) (known_in n) _ c.args.graph.value c.args.jobs.items
    c.deref.ensures c.lay_cycle-room.ensures.areas c.lay_cycle-room.ensures.laid h.long
    c.args.self.table.shared.table_id.words h.count))
    c.requires.whole

pub begin-requires-clause-laid : goal.begin-requires-clause-laid
begin-requires-clause-laid g c =
    let s = c.args.self.seat in
    let n = c.lay_cycle-room.new.seat in
    begin_laid (areas_in s) (areas_in n) (known_in s) (known_in n) _ c.args.graph.value c.args.jobs.items
    c.deref.ensures c.lay_cycle-room.ensures.areas c.lay_cycle-room.ensures.laid c.args.self.rests.cleared.long

pub begin-requires-clause-built : goal.begin-requires-clause-built
begin-requires-clause-built g c =
    let s = c.args.self.seat in
    let n = c.lay_cycle-room.new.seat in
    let h = c.args.self.rests.cleared in
    let G = c.args.graph.value in
    let id = c.args.self.table.shared.table_id in
    begin_built (areas_in s) (known_in s) id.words id.slots G c.args.jobs.items (plan_laid (areas_in n) (known_in n) G)
    (length G.levels) c.args.self.areas c.args.self.cells
    (begin_plan (areas_in s) (areas_in n) (known_in s) (known_in n) _ G c.args.jobs.items c.deref.ensures
    c.lay_cycle-room.ensures.areas c.lay_cycle-room.ensures.laid h.long id.words h.count)
    h.long c.requires.notes refl c.args.self.rests.areas c.args.self.rests.cells c.requires.room.notes
    c.requires.room.words

pub returns-clause-plan : goal.returns-clause-plan
returns-clause-plan g c =
    let s = c.args.self.seat in
    let n = c.lay_cycle-room.new.seat in
    let h = c.args.self.rests.cleared in
    c.begin.ensures.plan
    ∙ begin_plan (areas_in s) (areas_in n) (known_in s) (known_in n) _ c.args.graph.value c.args.jobs.items
    c.deref.ensures c.lay_cycle-room.ensures.areas c.lay_cycle-room.ensures.laid h.long
    c.args.self.table.shared.table_id.words h.count
