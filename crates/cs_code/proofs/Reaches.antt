-- The resources that an op may touch, by the known facts about its values.
use Rattle.std.proofs.Common.{◌≡◌, ◌∷◌, ℕ, ℤ, List, [], refl, sym}
use Rattle.cs_base.specs.{declared.resource.Rate.Rate, declared.spaces.Spaces.Spaces}
use Rattle.cs_ir.specs.Resources.{places_of}
use Rattle.cs_meaning.specs.Core.{table_reach, place_reach, span_reach, zak_reach}
use Rattle.cs_typed.specs.TypedTree.{Expression, number}
use Rattle.cs_words.specs.declared.catalogue.Shape.{Shape}
use Rattle.cs_code.specs.inner.Emitted.{known_of, known_at, table_known, place_known, span_known, zak_known}
use Rattle.cs_ir.specs.declared.op.Reach.TheVariants as reach
use Rattle.cs_words.specs.declared.catalogue.Shape.TheVariants as shape
use Rattle.cs_words.specs.declared.catalogue.Space.TheVariants as space
use Rattle.cs_code.specs.declared.reach.KnownArgument.TheVariants as known

pub table_by : (is : List Expression) → table_reach is ≡ table_known (known_at is 0)
table_by (number r v ∷ es) = refl
table_by es = refl

place_by : (places : ℕ) (e : Expression) → place_reach places e ≡ place_known places (known_of e)
place_by places (number r v) = refl
place_by places a = refl

-- a first bound that isn't a literal
any_by : (places : ℕ) (e : Expression) → span_known places known.Other (known_of e) ≡ reach.Any
any_by places (number r v) = refl
any_by places a = refl

literal_by : (places : ℕ) (r : Rate) (v : ℤ) (e : Expression)
    → span_reach places (number r v) e ≡ span_known places (known_of (number r v)) (known_of e)
literal_by places q w (number r v) = refl
literal_by places q w a = refl

span_by : (places : ℕ) (e x : Expression) → span_reach places e x ≡ span_known places (known_of e) (known_of x)
span_by places (number r v) x = literal_by places r v x
span_by places a x = sym (any_by places x)

pub zak_by_known : (spaces : Spaces) (sh : Shape) (xs : List Expression)
    → zak_reach spaces sh xs ≡ zak_known spaces sh (known_at xs 0) (known_at xs 1)
zak_by_known spaces (shape.ZakGet s) (x ∷ xs) = place_by (places_of spaces s) x
zak_by_known spaces (shape.ZakPut s) (v ∷ x ∷ xs) = place_by (places_of spaces s) x
zak_by_known spaces shape.ZakMix (v ∷ x ∷ xs) = place_by (places_of spaces space.Audio) x
zak_by_known spaces (shape.ZakClear s) (x ∷ y ∷ xs) = span_by (places_of spaces s) x y
zak_by_known spaces sh xs = refl
