-- The one seat of a board that rests knows everything on it, and carries nothing.
use Rattle.std.proofs.Common.{◌≡◌, List, [], ◌∷◌, length, true, false, Option, Some, None, refl, arith, is_some}
use Rattle.atomic_table.specs.{Seated.TableId, declared.shared.Seat.Seat}
use Rattle.cs_board.specs.Resting.{IsSole, still_in, known_in}
use Rattle.cs_board.specs.{declared.view.Berth.Berth, declared.view.Still.Still, declared.view.View.View}

abbrev Sits : Type 0 → Type 0
Sits J = Seat (Berth J) (View J)

some_known : {J : Type 0} (o : Option (Still J)) → is_some o ≡ true → o ≡ Some (still_in o)
some_known None e = absurd (let z : false ≡ true = e in cc)
some_known (Some w) e = refl

none_carried : {A : Type 0} (l : List A) → length l ≡ 0 → l ≡ []
none_carried [] e = refl
none_carried (x ∷ l) e = absurd (omega arith)

module _ {J : Type 0} where
  pub sole_knows : (id : TableId) (s : Sits J) → IsSole id s → s.me.0.rest ≡ Some (known_in s)
  sole_knows id s h = some_known s.me.0.rest h.knows

  pub sole_carries : (id : TableId) (s : Sits J) → IsSole id s → s.me.1 ≡ []
  sole_carries id s h = none_carried s.me.1 h.carries
