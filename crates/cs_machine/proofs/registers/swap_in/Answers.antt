use Rattle.std.proofs.Common.{◌∙◌, ap, map, slice_set}
use Rattle.std.proofs.lemmas.List.{map-set}
use Rattle.cs_machine.proofs.registers.swap_in.Goals as goal

pub returns-clause-rows : goal.returns-clause-rows
returns-clause-rows c = map-set (λ row. row.items) c.args.rows.now.items c.args.place c.swap.new.x
    ∙ ap (λ row. slice_set (map (λ row. row.items) c.args.rows.now.items) c.args.place row.items) c.swap.ensures.x_after
