-- The edges of a note that is closed, one by one.
use Rattle.std.proofs.lemmas.Grind.{common_steps}
use Rattle.std.proofs.Common.{◌≡◌, ℕ, zero, suc, ◌-◌, ◌<◌, List, [], ◌∷◌, false, cond, Option, Some, None, refl, sym}
use Rattle.std.proofs.Common.{ap, ◌∙◌, subst, arith, ◌||◌, ne_eqb, IfNone, IfSome, MatchOption}
use Rattle.cs_board.specs.inner.Sittings.{Beside, ClosesAt}
use Rattle.cs_graph.specs.Graph.{IsNextOut, NoneOut, Edge}
use Rattle.cs_board.specs.{Plans.leads_out, Views.closing_from, declared.view.Plan.Plan, declared.view.Spot.Spot}
use Rattle.cs_board.specs.{Views.shut, declared.view.View.View}
use Rattle.cs_board.proofs.Spots.{leads_out_here}

-- the number of edges still to be closed
abbrev pub edges_left : ℕ → Option ℕ → ℕ
edges_left n None = 0
edges_left n (Some e) = n - e

pub match_of : {X : Type 0} (o : Option X) (P : Type 0) (Q : X → Type 0) → IfNone o P → IfSome o Q → MatchOption o P Q
match_of None P Q n s = n
match_of (Some x) P Q n s = s

leads_none : (es : List (ℕ × ℕ)) (p i : ℕ) → ((e t : ℕ) → Edge es e p t → e < i) → leads_out es p i ≡ false
leads_none [] p i h = refl
leads_none (x ∷ es) p zero h =
    ap (λ b. b || leads_out es p zero) (ne_eqb x.0 p (λ e. absurd (omega (arith, h 0 x.1 (ap (λ z. Some (z, x.1)) e)))))
    ∙ leads_none es p zero (λ e t at. absurd (omega (arith, h (suc e) t at)))
leads_none (x ∷ es) p (suc i) h = leads_none es p i (λ e t at. omega (arith, h (suc e) t at))

pub closing_none : (es : List (ℕ × ℕ)) (p i : ℕ) → NoneOut es p i → closing_from es p i ≡ None
closing_none es p i h = ap (λ b. cond b (Some (record { note = p; from = i })) None) (leads_none es p i h)

pub closing_some : {J : Type 0} (k : Plan J) (v : View J) (p i e : ℕ) → v.closing ≡ closing_from k.edges p i
    → IsNextOut k.edges p i e → ClosesAt k v p e
closing_some k v p i e c n = grind (arith, common_steps, leads_out_here)

module _ {J : Type 0} where
  pub beside_same : (v : View J) → Beside v v
  beside_same v = grind (arith, common_steps)

  pub beside_join : (u v w : View J) → Beside u v → Beside v w → Beside u w
  beside_join u v w a b = grind (arith, common_steps)

  pub beside_shut : (v w : View J) (e p t x : ℕ) → w ≡ shut v e p t x → Beside v w
  beside_shut v w e p t x is = subst (Beside v) (sym is) (record {
    doing = refl;
    tries = refl;
    found = refl;
    mine = refl;
    seat = record { first = refl; number = refl; out = refl; made = refl };
  })

  -- a note that is moved, or opened
  pub beside_moved : (u v : View J) (moving : Option Spot) (owes : List ℕ) → Beside u v
      → Beside u (record v { moving = moving; owes = owes })
  beside_moved u v moving owes b = record {
    doing = b.doing;
    tries = b.tries;
    found = b.found;
    mine = b.mine;
    seat = record { first = b.seat.first; number = b.seat.number; out = b.seat.out; made = b.seat.made };
  }

  pub closing_next : (k : Plan J) (v : View J) (edges : List (ℕ × ℕ)) (p i : ℕ) (o : Option ℕ) → k.edges ≡ edges
      → v.closing ≡ closing_from k.edges p i → IfNone o (NoneOut edges p i) → IfSome o (IsNextOut edges p i)
      → MatchOption o (v.closing ≡ None) (ClosesAt k v p)
  closing_next k v edges p i None same c n s = c ∙ closing_none k.edges p i (subst (λ z. NoneOut z p i) (sym same) n)
  closing_next k v edges p i (Some e) same c n s =
      closing_some k v p i e c (subst (λ z. IsNextOut z p i e) (sym same) s)
