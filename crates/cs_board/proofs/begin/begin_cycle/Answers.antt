use Rattle.std.proofs.Common.{refl, ap, ◌∙◌}
use Rattle.cs_board.specs.{Resting.known_in, Resting.areas_in, Views.plan_laid, Views.opening_view}
use Rattle.cs_board.proofs.{Beginning.all_laid, Sole.sole_knows, Sole.sole_carries, Rests.begins_cycle}
use Rattle.cs_board.proofs.begin.begin_cycle.Goals as goal

pub compare_exchange_with-requires : goal.compare_exchange_with-requires
compare_exchange_with-requires g c =
    let id = c.args.table.now.shared.table_id in
    let s = c.args.seat.now in
    let k = plan_laid (areas_in s) (known_in s) c.args.graph.value in
    let h = c.requires.laid in (
      c.requires.sole.table,
      c.requires.words,
      begins_cycle g.J.Job.means id.slots s.id s.me c.requires.sole.live (known_in s) (sole_knows id s c.requires.sole)
          _ c.args.graph.value k h.parts.cells h.parts.spare h.left refl refl c.requires.whole h.cells h.sized.spare
          (all_laid k (known_in s) h) h.homes,
    )

pub returns-clause-me : goal.returns-clause-me
returns-clause-me g c =
    let id = c.args.table.now.shared.table_id in
    let s = c.args.seat.now in
    c.compare_exchange_with.ensures.2 (known_in s) _ c.args.graph.value (sole_knows id s c.requires.sole) refl refl
    ∙ ap (λ z. (opening_view (plan_laid (areas_in s) (known_in s) c.args.graph.value), z))
    (sole_carries id s c.requires.sole)
