use Rattle.std.proofs.Common.{ℕ, ◌≡◌, length, refl, sym, ◌∙◌, subst}
use Rattle.std.specs.List.{All}
use Rattle.std.proofs.lemmas.List.{length-map}
use Rattle.cs_desk.specs.{inner.Tables.plan_at, Desk.areas}
use Rattle.cs_board.specs.{Resting.areas_in, Resting.known_in, Views.cells_laid}
use Rattle.cs_desk.proofs.Opening.{is_plan}
use Rattle.cs_cells.specs.{Areas.IsFootprint, Cells.signed, Serial.AllValid}
use Rattle.cs_graph.specs.Graph.{LeadsForward, StandTogether}
use Rattle.cs_desk.proofs.desk.Desk.open.Goals as goal

pub begin-requires-clause-whole : goal.begin-requires-clause-whole
begin-requires-clause-whole g c =
    let M = g.J.Job.means in
    let t = c.settled-resting.result in
    let G = c.args.graph.value in
    let jobs = c.args.jobs.items in
    let same = sym c.settled-resting.ensures.areas in
    is_plan M (areas_in t.seat) G jobs (plan_at t G jobs) refl refl refl refl
    (length-map (cells_laid (areas_in t.seat) (known_in t.seat)) signed ∙ t.rests.cleared.long)
    (subst (LeadsForward G.edges) c.requires.notes
    (subst (λ z. LeadsForward z.edges (length z.levels)) c.deref-2.ensures c.edges.ensures.forward))
    (subst (λ z. (t : ℕ) → StandTogether z.edges t) c.deref-2.ensures c.edges.ensures.together)
    c.requires.fit
    (subst (λ a. All (λ j. M.areas j ≡ a) jobs) same c.requires.over)
    (subst (λ a. All (λ j. IsFootprint (length a) (M.foot j)) jobs) same c.requires.footprints)
    (subst (AllValid M) c.deref.ensures.value c.hear.ensures) t.rests.laid t.rests.few
