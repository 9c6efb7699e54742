use Rattle.std.proofs.Common.{arith, subst, sym, ◌∙◌, ap}
use Rattle.std.proofs.lemmas.{Grind.common_steps, Bool.both_ways}
use Rattle.std.specs.List.{list_any}
use Rattle.cs_cells.specs.{Areas.HasPlace, inner.Index.key}
use Rattle.cs_cells.proofs.Areas.{same, place_found, any_place}
use Rattle.cs_cells.proofs.layout.Layout.find.Goals as goal

pub returns-in-Some-get_index_of-clause-found : goal.returns-in-Some-get_index_of-clause-found
returns-in-Some-get_index_of-clause-found c = grind (arith, common_steps, place_found, same)

pub returns-in-None-clause-none : goal.returns-in-None-clause-none
returns-in-None-clause-none c place h =
    both_ways (list_any (same c.key_of.result) c.self.inside.keys.keys) (sym c.in-None.ensures.found)
    (ap (λ k. list_any (same k) c.self.inside.keys.keys) c.key_of.ensures
    ∙ ap (λ ks. list_any (same (key c.args.res)) ks) c.self.invariant.keys
    ∙ any_place c.self.inside.areas.items c.args.res place
    (subst (λ areas. HasPlace areas c.args.res place) (sym c.self.view_is) h))
