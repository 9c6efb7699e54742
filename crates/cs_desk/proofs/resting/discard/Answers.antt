use Rattle.std.proofs.Common.{◌≡◌, ◌++◌, ◌∷◌, ◌∙◌, [], List, ap, length, refl, replicate, sym}
use Rattle.cs_board.specs.declared.view.Berth.{Berth}
use Rattle.cs_board.specs.declared.view.Berth.TheVariants.{Vacant}
use Rattle.cs_desk.proofs.resting.discard.Goals as goal

-- the last of vacant slots, and those before it
last_vacant : {J : Type 0} (xs : List (Berth J)) (x : Berth J)
    → xs ++ x ∷ [] ≡ replicate (length (xs ++ x ∷ [])) Vacant
    → (x ≡ Vacant) × (xs ≡ replicate (length xs) Vacant)
last_vacant [] x e = let one : x ∷ [] ≡ Vacant ∷ [] = e in (cc, refl)
last_vacant (z ∷ xs) x e =
    let all : z ∷ (xs ++ x ∷ []) ≡ Vacant ∷ replicate (length (xs ++ x ∷ [])) Vacant = e in
    let first : z ≡ Vacant = cc in
    let w = last_vacant xs x (cc) in
    (w.0, ap (λ l. z ∷ l) w.1 ∙ ap (λ y. y ∷ replicate (length xs) Vacant) first)

pub loop-slot-preserved : goal.loop-slot-preserved
loop-slot-preserved g c =
    (last_vacant c.pop.new.self.items c.in-Some.slot (sym c.in-Some.ensures.items ∙ c.loop-slot.invariant
    ∙ ap (λ (l : List (Berth g.row.J.Denot)). replicate (length l) Vacant) c.in-Some.ensures.items)).1
