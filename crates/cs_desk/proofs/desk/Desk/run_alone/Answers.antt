use Rattle.std.proofs.Common.{◌≡◌, ◌∙◌, List, ap, get_or, length, subst, sym}
use Rattle.std.proofs.lemmas.List.{with_items_is}
use Rattle.std.specs.List.{All}
use Rattle.cs_board.specs.Resting.{areas_in}
use Rattle.cs_cells.specs.Serial.{serial_cells, serial_jobs}
use Rattle.cs_cells.proofs.SerialRun.{foot-serial_jobs, areas-serial_jobs, length-serial_cells, length-serial_jobs}
use Rattle.cs_desk.specs.{Cycles.WasPlayed, Desk.cells}
use Rattle.cs_desk.proofs.{Cycling.played_over, Cycling.was_played, Reached.allowed_over}
use Rattle.cs_desk.proofs.desk.Desk.run_alone.Goals as goal

pub run_in_order-requires-clause-allowed : goal.run_in_order-requires-clause-allowed
run_in_order-requires-clause-allowed g c k d low =
    let r = c.loosen.new.self.resting in
    let M = g.K.Job.means in
    let over = subst (All (λ i. M.areas i ≡ areas_in c.args.self.now.resting.seat)) (sym c.deref_mut.ensures.value)
    c.requires.over in
    allowed_over M (areas_in r.seat) (get_or c.deref_mut.result.now k d) r.rests.laid
    (over k d low ∙ sym c.loosen.ensures.areas)

pub returns : goal.returns
returns g c =
    let M = g.K.Job.means in
    let F = g.met.K.Job.frames in
    let l = c.loosen.ensures in
    let told = c.run_in_order.ensures in
    let js : List g.row.K.Denot = c.args.jobs.items in
    let start = cells c.loosen.new.self in
    let value = c.deref_mut.ensures.value in
    let jobs_are : c.run_in_order.new.jobs ≡ serial_jobs M js start =
    told.jobs ∙ ap (λ (ks : List g.row.K.Denot). serial_jobs M ks start) value in
    let cells_are = told.cells ∙ ap (λ (ks : List g.row.K.Denot). serial_cells M ks start) value in
    let long = ap length told.jobs ∙ length-serial_jobs M c.deref_mut.result.now start ∙ c.deref_mut.ensures.len in
    subst (λ (played : List g.row.K.Denot). WasPlayed M c.args.self.now js played c.run_in_order.new.bank)
    (sym (with_items_is c.args.jobs c.run_in_order.new.jobs long))
    (played_over M c.args.self.now c.loosen.new.self js c.run_in_order.new.jobs c.run_in_order.new.bank
    l.cells l.areas l.room.0 l.room.1
    (was_played M c.loosen.new.self js c.run_in_order.new.jobs c.run_in_order.new.bank
    (foot-serial_jobs M F js start) (areas-serial_jobs M F js start) (length-serial_cells M F js start)
    jobs_are cells_are (ap (λ s. s.areas) told.rest) (ap (λ s. s.table.slots) told.rest)
    (ap (λ s. s.table.words) told.rest)))
