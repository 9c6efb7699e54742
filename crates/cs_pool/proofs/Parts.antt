-- Parts are given to helpers one after another, and are taken back, the last one first.
use Rattle.std.proofs.lemmas.{Bool.cases_eq, List.get_or-set_other, List.get_or-set_same, List.length-set}
use Rattle.std.proofs.Common.{◌≡◌, ◌∙◌, ℕ, zero, suc, ◌+◌, ◌<◌, ◌≤◌, ◌||◌, Bool, true, false, List, [], ◌∷◌, length}
use Rattle.std.proofs.Common.{set, get_or, ⊎_elim, ap, sym, subst, refl, arith}
use Rattle.std.specs.Int.{from_bool}
use Rattle.cs_board.specs.{Board.view, Counts.total}
use Rattle.cs_board.specs.{declared.board.Board.Board, declared.board.BoardSeat.BoardSeat}
use Rattle.cs_cells.specs.Meaning.{Meaning}
use Rattle.cs_pool.specs.{Mailboxes.given, Mailboxes.served, Numbered.IsFirst, Pools.served_by, Working.IsDone}
use Rattle.cs_pool.specs.{declared.line.Line.Line, inner.Lines.IsAway, inner.Lines.IsIdle, inner.Lines.Lends}
use Rattle.cs_pool.specs.inner.Parts.{AreLent, AreOut}

-- element i of a list becomes y
pub total_moved : {A : Type 0} (f : A → ℕ) (xs : List A) (i : ℕ) (y d : A) → i < length xs
    → total f (set xs i y) + f (get_or xs i d) ≡ total f xs + f y
total_moved f [] i y d low = absurd (omega (arith, low))
total_moved f (x ∷ xs) zero y d low = omega arith
total_moved f (x ∷ xs) (suc i) y d low =
    let h : total f (set xs i y) + f (get_or xs i d) ≡ total f xs + f y =
    total_moved f xs i y d (omega (arith, low)) in omega (arith, h)

module _ {J : Type 0} (board : Board J) (from : ℕ) where
  -- Helper i, one of the first n or the next one, becomes y; after that the first m helpers have a seat.
  pub changed : (n m parts more i : ℕ) (before now : List (Line J)) (y d : Line J) → i < length now → i ≤ n
      → n ≤ i + 1 → i ≤ m → (i < m → IsAway board y (from + i)) → (m ≤ i → IsIdle y) → m ≤ i + 1
      → given y.end + parts ≡ given (get_or now i d).end + more → AreOut board from n parts before now
      → AreOut board from m more before (set now i y)
  changed n m parts more i before now y d low a b e away home f one h =
      let moved = total_moved (λ line. given line.end) now i y d low in record {
        away = λ j l here. ⊎_elim
            (λ is. subst (λ line. IsAway board line (from + j))
            (sym (ap (λ k. get_or (set now i y) k l) is ∙ get_or-set_same now i y l low))
            (subst (λ k. IsAway board y (from + k)) (sym is) (away (omega (arith, here, is)))))
            (λ other. subst (λ line. IsAway board line (from + j)) (sym (get_or-set_other now i j y l other))
            (h.away j l (omega (arith, here, other, a, f)))) (cases_eq j i);
        home = λ j l there short. ⊎_elim
            (λ is. subst (λ line. IsIdle line)
            (sym (ap (λ k. get_or (set now i y) k l) is ∙ get_or-set_same now i y l low))
            (home (omega (arith, there, is))))
            (λ other. subst (λ line. IsIdle line) (sym (get_or-set_other now i j y l other))
            (h.home j l (omega (arith, there, other, b, e)) (omega (arith, short, length-set now i y)))) (cases_eq j i);
        long = length-set now i y ∙ h.long;
        given = omega (arith, moved, one, h.given);
      }

module _ {J : Type 0} (M : Meaning J) (board : Board J) where
  -- the next helper becomes y, which was given one part or none
  pub one_lent : (n parts m : ℕ) (before now : List (Line J)) (y d : Line J) (first mid last : BoardSeat J)
      → n < length now → m ≡ n + parts → Lends M board parts (get_or now n d) y mid last
      → AreLent M board n before now first mid → AreLent M board m before (set now n y) first last
  one_lent n parts m before now y d first mid last low is l h =
      let moved = total_moved (λ line. served line.end) now n y d low in record {
        out = changed board _ n m n m n before now y d low (omega arith) (omega arith) (omega (arith, is))
            (λ some. subst (IsAway board y) h.made (l.away (omega (arith, is, some))))
            (λ none. l.home (omega (arith, is, none))) (omega (arith, is, l.few)) (omega (arith, is, l.given)) h.out;
        leads = l.leads;
        ready = l.ready;
        made = omega (arith, is, l.made, h.made);
        served = omega (arith, moved, l.served, h.served);
      }

  -- the seats of all helpers except the first n have come back, of `parts` that were given one; `any` says
  -- whether one of them had begun
  pub record AreTakenIn (from n parts : ℕ) (before now : List (Line J)) (first : BoardSeat J) (any : Bool)
      : Type 0 where
    pub out : AreOut board from n parts before now
    pub leads : IsFirst (from + n) (view first)
    pub done : IsDone M board first
    pub few : n ≤ length before
    pub begun : any ≡ true → served_by before < served_by now
    pub missed : any ≡ false → served_by now ≡ served_by before

-- the helpers had served p tasks at first and q so far, and r after one of them, which had served t, was
-- asked for its seat
pub more_served : (a b : Bool) (p q r t t' : ℕ) → r + t ≡ q + t' → t' ≡ t + from_bool b → (a ≡ true → p < q)
    → (a ≡ false → q ≡ p) → (a || b) ≡ true → p < r
more_served true true p q r t t' sum one more same is = let o : t' ≡ t + 1 = one in omega (arith, sum, o, more refl)
more_served true false p q r t t' sum one more same is = let o : t' ≡ t + 0 = one in omega (arith, sum, o, more refl)
more_served false true p q r t t' sum one more same is = let o : t' ≡ t + 1 = one in omega (arith, sum, o, same refl)
more_served false false p q r t t' sum one more same is = absurd (cc)

pub none_served : (a b : Bool) (p q r t t' : ℕ) → r + t ≡ q + t' → t' ≡ t + from_bool b → (a ≡ false → q ≡ p)
    → (a || b) ≡ false → r ≡ p
none_served true b p q r t t' sum one same is = absurd (cc)
none_served false true p q r t t' sum one same is = absurd (cc)
none_served false false p q r t t' sum one same is = let o : t' ≡ t + 0 = one in omega (arith, sum, o, same refl)
