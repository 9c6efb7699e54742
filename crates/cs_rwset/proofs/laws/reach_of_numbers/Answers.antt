use Rattle.std.proofs.Common.{◌<◌, refl, subst}
use Rattle.cs_base.specs.declared.resource.Res.TheVariants as res
use Rattle.cs_cells.specs.Areas.{HasPlace}
use Rattle.cs_ir.specs.Resources.{zak_place}
use Rattle.cs_ir.specs.declared.op.Reach.TheVariants as reach
use Rattle.cs_rwset.specs.Footprints.{place_count}
use Rattle.cs_rwset.proofs.Covering.{literal_alone, literal_reaches, span_within, table_places, within_span, zak_places}
use Rattle.cs_rwset.proofs.laws.reach_of_numbers.Goals as goal

pub returns-clause-literal_table : goal.returns-clause-literal_table
returns-clause-literal_table c areas n place = (
  λ h. let t = (table_places areas (reach.Span n n) place).0 h in
      subst (λ k. HasPlace areas (res.Table k) place) (literal_alone n t.0 t.1) t.2,
  λ h. (table_places areas (reach.Span n n) place).1 (n, literal_reaches n, h),
)

pub returns-clause-computed_table : goal.returns-clause-computed_table
returns-clause-computed_table c areas place = (
  λ h. let t = (table_places areas reach.Any place).0 h in (t.0, t.2),
  λ h. (table_places areas reach.Any place).1 (h.0, refl, h.1),
)

pub returns-clause-no_table : goal.returns-clause-no_table
returns-clause-no_table c areas place h = let t = ((table_places areas reach.Nothing place).0 h).1 in cc

pub returns-clause-literal_place : goal.returns-clause-literal_place
returns-clause-literal_place c areas s n place = (
  λ h. let t = (zak_places areas s (reach.Span n n) place).0 h in
      subst (λ k. (k < place_count areas s) × HasPlace areas (zak_place s k) place) (literal_alone n t.0 t.2)
      (t.1, t.3),
  λ h. (zak_places areas s (reach.Span n n) place).1 (n, h.0, literal_reaches n, h.1),
)

pub returns-clause-literal_bounds : goal.returns-clause-literal_bounds
returns-clause-literal_bounds c areas s first last place = (
  λ h. let t = (zak_places areas s (reach.Span first last) place).0 h in
      let within = span_within first last t.0 t.2 in (t.0, within.0, within.1, t.1, t.3),
  λ h. (zak_places areas s (reach.Span first last) place).1 (h.0, h.3, within_span first last h.0 h.1 h.2, h.4),
)

pub returns-clause-computed_place : goal.returns-clause-computed_place
returns-clause-computed_place c areas s place = (
  λ h. let t = (zak_places areas s reach.Any place).0 h in (t.0, t.1, t.3),
  λ h. (zak_places areas s reach.Any place).1 (h.0, h.1, refl, h.2),
)

pub returns-clause-no_place : goal.returns-clause-no_place
returns-clause-no_place c areas s place h = let t = ((zak_places areas s reach.Nothing place).0 h).2 in cc
