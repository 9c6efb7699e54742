-- What tries change: more notes are found, and no further note is owed.
use Rattle.std.proofs.Common.{◌≡◌, ◌≢◌, ℕ, zero, suc, ◌+◌, ◌<◌, ◌≤◌, ◌⊎◌, ⊎_elim, List, [], ◌∷◌, ◌++◌, length, Bool}
use Rattle.std.proofs.Common.{true, false, Option, Some, None, refl, sym, ap, ◌∙◌, subst, arith, slice_get, IfNone}
use Rattle.std.proofs.Common.{is_some}
use Rattle.std.proofs.lemmas.Bool.{cases_eq}
use Rattle.cs_board.specs.{Board.IsIdle, Board.IsViewOf, Board.FoundSince, Board.SameSeat, Counts.times}
use Rattle.cs_board.specs.{Counts.without, Facts.owed, Views.began, Views.missed, declared.view.Plan.Plan}
use Rattle.cs_board.specs.declared.view.View.{View}
use Rattle.cs_board.specs.inner.Sittings.{HasTried, Tries, AllTried, tried}
use Rattle.cs_cells.specs.Meaning.{Meaning}
use Rattle.cs_board.proofs.Lists.{times-without_le, times-without_same, empty_from_times}

get_longer : {X : Type 0} (xs ys : List X) (i : ℕ) (x : X) → slice_get xs i ≡ Some x → slice_get (xs ++ ys) i ≡ Some x
get_longer [] ys i x e = absurd (cc)
get_longer (z ∷ xs) ys zero x e = e
get_longer (z ∷ xs) ys (suc i) x e = get_longer xs ys i x e

get_last : {X : Type 0} (xs : List X) (x : X) → slice_get (xs ++ x ∷ []) (length xs) ≡ Some x
get_last [] x = refl
get_last (z ∷ xs) x = get_last xs x

module _ {J : Type 0} where
  pub same_seat : (u v w : View J) → SameSeat u v → SameSeat v w → SameSeat u w
  same_seat u v w a b = record {
    first = b.first ∙ a.first;
    number = b.number ∙ a.number;
    out = b.out ∙ a.out;
    made = b.made ∙ a.made;
  }

  pub tries_join : (u v w : View J) → Tries u v → Tries v w → Tries u w
  tries_join u v w a b = record {
    more = omega (arith, a.more, b.more);
    found = λ n t h. b.found n t (a.found n t h);
    owes = λ t. omega (arith, a.owes t, b.owes t);
    mine = b.mine ∙ a.mine;
    seat = record {
      first = b.seat.first ∙ a.seat.first;
      number = b.seat.number ∙ a.seat.number;
      out =
          b.seat.out ∙ a.seat.out;
      made = b.seat.made ∙ a.seat.made;
    };
  }

  -- tries of one range of notes and then of another
  pub all_join : (u v w : View J) (a b c d : ℕ) → Tries u v → Tries v w → AllTried u v a b → AllTried v w c d → (t : ℕ)
      → ((a ≤ t) × (t < b)) ⊎ ((c ≤ t) × (t < d)) → FoundSince u.tries w t × (owed t w ≡ 0)
  all_join u v w a b c d p q x y t h = ⊎_elim
      (λ l. let r = x t l.0 l.1 in (q.found u.tries t r.0, omega (arith, r.1, q.owes t)))
      (λ l. let r = y t l.0 l.1 in ((r.0.0, r.0.1, r.0.2, omega (arith, r.0.3, p.more)), r.1)) h

module _ {J : Type 0} (M : Meaning J) where
  pub tries_more : (u v : View J) (b : Bool) (t : ℕ) → Tries u v → Tries u (tried M b v t)
  tries_more u v true t h =
      tries_join u v (began M v t) h (record {
        more = omega arith;
        found = λ n x q. q;
        owes = λ x. times-without_le x t v.owes;
        mine = refl;
        seat =
            record { first = refl; number = refl; out = refl; made = refl };
      })
  tries_more u v false t h = tries_join u v (missed v t) h (record {
    more = omega arith;
    found = λ n x q. (q.0, q.1, get_longer v.found ((t, v.tries + 1) ∷ []) q.0 (x, q.1) q.2, q.3);
    owes = λ x. times-without_le x t v.owes;
    mine = refl;
    seat = record { first = refl; number = refl; out = refl; made = refl };
  })

  pub all_more : (u v : View J) (from t : ℕ) → Tries u v → AllTried u v from t → AllTried u (missed v t) from (t + 1)
  all_more u v from t h a x low high = ⊎_elim
      (λ (e : x ≡ t). (
        (
          length v.found,
          v.tries + 1,
          subst
              (λ z. slice_get (v.found ++ (t, v.tries + 1) ∷ []) (length v.found) ≡ Some (z, v.tries + 1)) (sym e)
              (get_last v.found (t, v.tries + 1)),
          omega (arith, h.more),
        ),
        ap (λ z. times z (without t v.owes)) e ∙ times-without_same t v.owes,
      ))
      (λ (n : x ≢ t). let r = a x low (omega arith) in (
        (r.0.0, r.0.1, get_longer v.found ((t, v.tries + 1) ∷ []) r.0.0 (x, r.0.1) r.0.2, r.0.3),
        omega (arith, r.1, times-without_le x t v.owes),
      ))
      (cases_eq x t)

  pub idle_missed : (v : View J) (t : ℕ) → IsIdle v → IsIdle (missed v t)
  idle_missed v t h = record { doing = h.doing; closing = h.closing; moving = h.moving }

module _ {J : Type 0} (k : Plan J) where
  -- failed tries after failed tries
  pub tried_again : (u v w : View J) → HasTried k u v → HasTried k v w → HasTried k u w
  tried_again u v w a b = record {
    idle = b.idle;
    owes = b.owes;
    more = omega (arith, a.more, b.more);
    tried = λ t l. let r = b.tried t l in (r.0, r.1, r.2, omega (arith, a.more, r.3));
    mine = b.mine ∙ a.mine;
    same = same_seat u v w a.same b.same;
  }

-- a view that owes no try for any note owes nothing
pub owes_none : {J : Type 0} (k : Plan J) (v : View J) → IsViewOf k v → ((t : ℕ) → t < k.notes → owed t v ≡ 0)
    → v.owes ≡ []
owes_none k v h none = empty_from_times v.owes
    (λ x. ⊎_elim (λ z. z) (λ n. absurd (n (none x (h.owes_in x (omega arith))))) (cases_eq (times x v.owes) 0))

pub if_none_map : {X : Type 0} (o : Option X) (P Q : Type 0) → (P → Q) → IfNone o P → IfNone o Q
if_none_map None P Q f h = f h
if_none_map (Some x) P Q f h = h

pub at_none : {X : Type 0} (o : Option X) (P : Type 0) → is_some o ≡ false → IfNone o P → P
at_none None P e h = h
at_none (Some x) P e h = absurd (cc)

pub not_none : {X : Type 0} (o : Option X) (P : Type 0) → is_some o ≡ true → IfNone o P
not_none None P e = absurd (cc)
not_none (Some x) P e = tt
