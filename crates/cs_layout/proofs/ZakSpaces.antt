-- The zak places of a layout.
use Rattle.std.proofs.Common.{◌≡◌, ℕ, List, nat_lt, sym, ◌∙◌, ap}
use Rattle.std.specs.Option.{is_some}
use Rattle.cs_words.specs.declared.catalogue.Space.{Space}
use Rattle.cs_base.specs.declared.spaces.Spaces.{Spaces}
use Rattle.cs_ir.specs.Resources.{places_of, zak_place}
use Rattle.cs_typed.specs.TypedTree.{SharedNames}
use Rattle.cs_voice_meaning.specs.Placing.{area_of}
use Rattle.cs_machine.specs.Access.{spaces_of}
use Rattle.cs_layout.specs.{Layouts.areas_of, declared.areas.LiveTable.LiveTable}
use Rattle.cs_layout.proofs.{Complete.there, Counted.spaces_are}
use Rattle.cs_base.specs.declared.resource.Res.TheVariants as res
use Rattle.cs_words.specs.declared.catalogue.Space.TheVariants as space

-- each place of a space has an area, and no other place has one
pub are_spaces : (ksmps : ℕ) (names : SharedNames) (spaces : Spaces) (live : List LiveTable) (s : Space) (n : ℕ)
    → is_some (area_of (areas_of ksmps names spaces live) (zak_place s n))
    ≡ nat_lt n (places_of (spaces_of (areas_of ksmps names spaces live)) s)
are_spaces ksmps names spaces live space.Control n =
    there ksmps names spaces live (res.ZakK n)
    ∙ ap (λ p. nat_lt n (places_of p space.Control)) (sym (spaces_are ksmps names spaces live))
are_spaces ksmps names spaces live space.Audio n =
    there ksmps names spaces live (res.ZakA n)
    ∙ ap (λ p. nat_lt n (places_of p space.Audio)) (sym (spaces_are ksmps names spaces live))
