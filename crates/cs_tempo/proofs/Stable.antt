-- The order of a section follows its rule: no turn comes after one that it precedes, and equal turns keep
-- their order.
use Rattle.std.proofs.Common.{◌≡◌, zero, suc, Bool, true, false, cond, List, [], ◌∷◌, filter, arith, refl, ap, sym, ◌∙◌}
use Rattle.std.proofs.Common.{if◌then◌else◌, AllPairs}
use Rattle.std.specs.{Cmp.IsTotalOrder, Ordering.is_lt, Ordering.is_eq, declared.cmp.Ordering.Ordering}
use Rattle.std.specs.declared.cmp.Ordering.TheVariants.{Less, Equal, Greater}
use Rattle.std.proofs.lemmas.Cmp.{nat_cmp_total, int_cmp_total, on_total, then_total}
use Rattle.std.proofs.lemmas.List.Elements.{All-from_recursion}
use Rattle.cs_base.proofs.Tests.{by_test}
use Rattle.cs_score.specs.declared.statement.ScoreStmt.{ScoreStmt}
use Rattle.cs_tempo.specs.Order.{has_turn, beat_of, p1_of, p3_of, order_of, put, in_order}
use Rattle.cs_tempo.specs.inner.Turns.{inserted, sorted}
use Rattle.cs_tempo.proofs.Sorting.{Rising, rising_sorted}

what_total : IsTotalOrder order_of
what_total =
    then_total (on_total beat_of nat_cmp_total)
    (then_total (on_total p1_of int_cmp_total) (on_total p3_of int_cmp_total))

abbrev by_order : ScoreStmt → ScoreStmt → Ordering
by_order s u = order_of s.what u.what

order_total : IsTotalOrder by_order
order_total = on_total (λ (s : ScoreStmt). s.what) what_total

abbrev turns : List ScoreStmt → List ScoreStmt
turns section = filter (λ s. has_turn s.what) section

put_is : (s : ScoreStmt) (us : List ScoreStmt) → put s us ≡ inserted by_order s us
unfolding put
put_is s [] = refl
put_is s (u ∷ us) = ap (λ rest. if is_lt (order_of u.what s.what) then u ∷ rest else s ∷ u ∷ us) (put_is s us)

in_order_is : (section : List ScoreStmt) → in_order section ≡ sorted by_order (turns section)
unfolding in_order
in_order_is [] = refl
in_order_is (s ∷ later) =
    by (has_turn s.what) (put_is s (in_order later) ∙ ap (inserted by_order s) (in_order_is later)) (in_order_is later)
  where
    by : (b : Bool) → put s (in_order later) ≡ inserted by_order s (sorted by_order (turns later))
        → in_order later ≡ sorted by_order (turns later)
        → (if b then put s (in_order later) else in_order later) ≡ sorted by_order
        (cond b (s ∷ turns later) (turns later))
    by true here more = here
    by false here more = more

module _ {X : Type 0} (R : X → X → Ordering) (o : IsTotalOrder R) where
  -- if two items are equal to a third, neither comes before the other
  none_before : (x s u : X) → is_lt (R u s) ≡ true → is_eq (R x u) ≡ true → is_eq (R x s) ≡ true → ⊥
  none_before x s u low a b = clash (R u s) low (ap is_eq (sym (o.congr x u s (equal (R x u) a))) ∙ b)
    where
      equal : (r : Ordering) → is_eq r ≡ true → r ≡ Equal
      equal Less h = absurd (cc)
      equal Equal h = refl
      equal Greater h = absurd (cc)

      clash : (r : Ordering) → is_lt r ≡ true → is_eq r ≡ true → ⊥
      clash Less l e = absurd (cc)
      clash Equal l e = absurd (cc)
      clash Greater l e = absurd (cc)

  abbrev like : X → X → Bool
  like x u = is_eq (R x u)

  -- an inserted item comes before all items that are equal to it
  like_inserted : (x s : X) (us : List X) → filter (like x) (inserted R s us) ≡ filter (like x) (s ∷ us)
  like_inserted x s [] = refl
  like_inserted x s (u ∷ us) =
      by_test (is_lt (R u s)) (λ low. rw low
      (past (like x u) (like x s) (like_inserted x s us) (none_before x s u low))) (λ high. rw high refl)
    where
      past : (b c : Bool) → filter (like x) (inserted R s us) ≡ cond c (s ∷ filter (like x) us) (filter (like x) us)
          → (b ≡ true → c ≡ true → ⊥)
          → cond b (u ∷ filter (like x) (inserted R s us)) (filter (like x) (inserted R s us))
          ≡ cond c (s ∷ cond b (u ∷ filter (like x) us) (filter (like x) us))
          (cond b (u ∷ filter (like x) us) (filter (like x) us))
      past true true e apart = absurd (apart refl refl)
      past true false e apart = ap (λ rest. u ∷ rest) e
      past false true e apart = e
      past false false e apart = e

  like_sorted : (x : X) (xs : List X) → filter (like x) (sorted R xs) ≡ filter (like x) xs
  like_sorted x [] = refl
  like_sorted x (y ∷ ys) =
      like_inserted x y (sorted R ys) ∙ ap (λ rest. cond (like x y) (y ∷ rest) rest) (like_sorted x ys)

  rising_pairs : (xs : List X) → Rising R o xs → AllPairs (λ x y. is_lt (R y x) ≡ false) xs
  rising_pairs [] r i j d l m = absurd (omega arith)
  rising_pairs (x ∷ xs) r zero zero d l m = absurd (omega arith)
  rising_pairs (x ∷ xs) r zero (suc j) d l m = All-from_recursion (λ y. is_lt (R y x) ≡ false) xs r.0 j d (omega arith)
  rising_pairs (x ∷ xs) r (suc i) zero d l m = absurd (omega arith)
  rising_pairs (x ∷ xs) r (suc i) (suc j) d l m = rising_pairs xs r.1 i j d (omega arith) (omega arith)

pub in_order_rises : (section : List ScoreStmt)
    → AllPairs (λ s u. is_lt (order_of u.what s.what) ≡ false) (in_order section)
in_order_rises section =
    rw (in_order_is section) (rising_pairs by_order order_total (sorted by_order (turns section))
    (rising_sorted by_order order_total (turns section)))

pub equal_keep_order : (section : List ScoreStmt) (s : ScoreStmt)
    → filter (λ u. is_eq (order_of s.what u.what)) (in_order section) ≡ filter (λ u. is_eq (order_of s.what u.what))
    (turns section)
equal_keep_order section s =
    ap (filter (λ u. is_eq (order_of s.what u.what))) (in_order_is section)
    ∙ like_sorted by_order order_total s (turns section)
