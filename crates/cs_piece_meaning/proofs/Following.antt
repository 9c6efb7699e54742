-- The notes of a cycle are the notes of the previous cycle that stay, and the notes that start.
use Rattle.std.proofs.Common.{◌≡◌, ◌⊎◌, inl, inr, ⊎_elim, ℕ, zero, suc, ◌+◌, ◌-◌, ◌<◌, ◌≤◌, ◌==◌, Bool, true, false}
use Rattle.std.proofs.Common.{not, nat_lt, cond, List, [], ◌∷◌, refl, sym, ap, subst, ◌∙◌, arith, true≢false, Contains}
use Rattle.std.proofs.Common.{if◌then◌else◌}
use Rattle.std.specs.{Prelude.filter, List.AllZip}
use Rattle.std.proofs.lemmas.Bool.Decides.{nat_tests}
use Rattle.std.proofs.lemmas.List.Elements.{All-contains, All-contains_itself, All-filter, Contains-append_cases}
use Rattle.std.proofs.lemmas.List.Elements.{Contains-append_left, Contains-append_right}
use Rattle.cs_meaning.specs.{Core.Block, Notes.Note, Plain.Plain}
use Rattle.cs_piece_meaning.specs.Course.{begins, moment_at, played_in, still}
use Rattle.cs_piece_meaning.specs.Moments.{Active, Composition, Moment, at_most, placed}
use Rattle.cs_piece_meaning.specs.{Starts.Start, Starts.joined, Orders.IsSameNote, Orders.notes_in}
use Rattle.cs_piece_meaning.proofs.{Standing.in_order, Standing.same_notes, Steps.Fact, Steps.Keeps, Steps.begins_keeps}

module _ {A : Type 0} where
  here : (x : A) (xs : List A) → Contains (x ∷ xs) x
  here x xs = (0, omega arith, refl)

  behind : (y : A) (xs : List A) (a : A) → Contains xs a → Contains (y ∷ xs) a
  behind y xs a (k, lt, e) = (suc k, omega (arith, lt), e)

  either : (x : A) (xs : List A) (a : A) → Contains (x ∷ xs) a → (x ≡ a) ⊎ Contains xs a
  either x xs a (zero, lt, e) = inl e
  either x xs a (suc k, lt, e) = inr (k, omega (arith, lt), e)

  -- an item of a list that passes a test is among the items that pass
  among : (p : A → Bool) (x : A) (xs : List A) (a : A) (b : Bool) → p x ≡ b → p a ≡ true
      → (x ≡ a) ⊎ Contains (filter p xs) a → Contains (cond b (x ∷ filter p xs) (filter p xs)) a
  among p x xs a true e is (inl same) = subst (λ y. Contains (x ∷ filter p xs) y) same (here x (filter p xs))
  among p x xs a true e is (inr rest) = behind x (filter p xs) a rest
  among p x xs a false e is (inl same) = absurd (true≢false (sym is ∙ (ap p (sym same) ∙ e)))
  among p x xs a false e is (inr rest) = rest

  passes : (p : A → Bool) (xs : List A) (a : A) → p a ≡ true → Contains xs a → Contains (filter p xs) a
  passes p [] a is h = absurd (let lt = h.1 in omega (arith, lt))
  passes p (x ∷ xs) a is h =
      among p x xs a (p x) refl is (⊎_elim (λ e. inl e) (λ rest. inr (passes p xs a is rest)) (either x xs a h))

  passed : (p : A → Bool) (xs : List A) (a : A) → Contains (filter p xs) a → Contains xs a
  passed p xs a h = All-contains (Contains xs) (filter p xs) a (All-filter p (Contains xs) xs (All-contains_itself xs))
      h

-- When a note is placed, all other notes remain.
still_among : (n : Active) (active : List Active) (a : Active) → Contains active a → Contains (placed n active) a
still_among n active a h = by (low a) refl
  where
    low : Active → Bool
    low x = at_most x.number n.number

    by : (b : Bool) → at_most a.number n.number ≡ b → Contains (placed n active) a
    by true e =
        Contains-append_left (filter (λ (x : Active). at_most x.number n.number) active)
        (n ∷ filter (λ (x : Active). not (at_most x.number n.number)) active) a
        (passes (λ (x : Active). at_most x.number n.number) active a e h)
    by false e =
        Contains-append_right (filter (λ (x : Active). at_most x.number n.number) active)
        (n ∷ filter (λ (x : Active). not (at_most x.number n.number)) active) a
        (behind n (filter (λ (x : Active). not (at_most x.number n.number)) active) a
        (passes (λ (x : Active). not (at_most x.number n.number)) active a (ap not e) h))

new_or_old : (n : Active) (active : List Active) (a : Active) → Contains (placed n active) a
    → (n ≡ a) ⊎ Contains active a
new_or_old n active a h =
    ⊎_elim (λ l. inr (passed (λ (x : Active). at_most x.number n.number) active a l))
    (λ r. ⊎_elim (λ e. inl e) (λ q. inr (passed (λ (x : Active). not (at_most x.number n.number)) active a q))
    (either n (filter (λ (x : Active). not (at_most x.number n.number)) active) a r))
    (Contains-append_cases (filter (λ (x : Active). at_most x.number n.number) active)
    (n ∷ filter (λ (x : Active). not (at_most x.number n.number)) active) a h)

-- The notes that played before stay, and all other notes were started after the first `base` starts.
record Grown (old : List Active) (base : ℕ) (active : List Active) (count : ℕ) : Type 0 where
  pub low : base ≤ count
  pub stay : (a : Active) → Contains old a → Contains active a
  pub come : (a : Active) → Contains active a → Contains old a ⊎ (base ≤ a.age)

module _ (old : List Active) (base : ℕ) where
  joined_grows : (now : ℕ) (s : Start) (body : Block) (t : Note Plain) (active : List Active) (age : ℕ)
      → Grown old base active age → Grown old base (joined now s body t active age) (age + 1)
  joined_grows now s body t active age h = by (s.cycles == 0)
    where
      n : Active
      n = record { number = s.number; age = age; ends = now + s.cycles; fields = s.fields; body = body; note = t }

      old_age : (a : Active) → n ≡ a → base ≤ a.age
      old_age a e = subst (λ (x : Active). base ≤ x.age) e h.low

      by : (b : Bool) → Grown old base (if b then active else placed n active) (age + 1)
      by true = record { low = (let l = h.low in omega (arith, l)); stay = h.stay; come = h.come }
      by false = record {
        low = (let l = h.low in omega (arith, l));
        stay = λ a k. still_among n active a (h.stay a k);
        come = λ a k. ⊎_elim (λ e. inr (old_age a e)) (λ q. h.come a q) (new_or_old n active a k);
      }

later : (x y : ℕ) → x < y → nat_lt x y ≡ true
later x y h = grind (arith, nat_tests)

module _ (c : Composition) where
  abbrev Growing : List Active → ℕ → Fact
  Growing old base x active count w = Grown old base active count

  growing : (now : ℕ) (old : List Active) (base : ℕ) → Keeps c now (Growing old base)
  growing now old base = record {
    join = λ x s body t active age w there on room h. joined_grows old base now s body t active age h;
    add = λ x active count w time a h. h;
    take = λ x active count w d rest is h. h;
  }

  grows : (now : ℕ) (m : Moment) → Grown (still now m).active m.started (begins c now m).active (begins c now m).started
  grows now m =
      (begins_keeps c now (Growing (still now m).active m.started) (growing now (still now m).active m.started) m
      (record { low = omega arith; stay = λ a h. h; come = λ a h. inl h })).1

  pub stays : (n : ℕ) (a : Active) → Contains (played_in c n) a → a.note.world.ended ≡ false → suc n < a.ends
      → Contains (notes_in c (suc n)) a
  stays n a played on before =
      let m : Moment = moment_at c (suc n) in
      let left : Contains m.active a =
      passes (λ (x : Active). not x.note.world.ended) (played_in c n) a (ap not on) played in
      (grows (suc n) m).stay a
      (passes (λ (x : Active). nat_lt (suc n) x.ends) m.active a (later (suc n) a.ends before) left)

  pub comes : (n : ℕ) (a : Active) → Contains (notes_in c (suc n)) a
      → Contains (played_in c n) a ⊎ ((moment_at c (suc n)).started ≤ a.age)
  comes n a h =
      let m : Moment = moment_at c (suc n) in
      ⊎_elim (λ k. inl (passed (λ (x : Active). not x.note.world.ended) (played_in c n) a
      (passed (λ (x : Active). nat_lt (suc n) x.ends) m.active a k))) (λ l. inr l) ((grows (suc n) m).come a h)

-- OVER MANY CYCLES

same_trans : (a b d : Active) → IsSameNote a b → IsSameNote b d → IsSameNote a d
same_trans a b d e f = record {
  number = f.number ∙ e.number;
  age = f.age ∙ e.age;
  ends = f.ends ∙ e.ends;
  fields = f.fields ∙ e.fields;
  body = f.body ∙ e.body;
}

-- the note of the first list that corresponds to a note of the second list
partner : (xs ys : List Active) (b : Active) → AllZip IsSameNote xs ys → Contains ys b
    → (d : Active) × Contains xs d × IsSameNote d b
partner xs [] b same (k, lt, e) = absurd (omega (arith, lt))
partner [] (y ∷ ys) b same h = absurd same
partner (x ∷ xs) (y ∷ ys) b same h =
    ⊎_elim (λ e. (x, here x xs, subst (λ z. IsSameNote x z) e same.0))
    (λ rest. let r = partner xs ys b same.1 rest in (r.0, behind x xs r.0 r.1, r.2)) (either y ys b h)

-- The notes of each cycle: a note of the next cycle that was started before corresponds to a note of this
-- cycle.
module _ (notes : ℕ → List Active) (count : ℕ → ℕ) (rising : (n : ℕ) → count n ≤ count (suc n))
    (down : (k : ℕ) (b : Active) → Contains (notes (suc k)) b → b.age < count (suc k)
    → (d : Active) × Contains (notes k) d × IsSameNote d b) where
  more : (n m : ℕ) → count n ≤ count (m + n)
  more n zero = let e : zero + n ≡ n = omega arith in subst (λ q. count n ≤ count q) (sym e) (omega arith)
  more n (suc m) =
      let r = more n m in
      let l = rising (m + n) in
      let e : suc m + n ≡ suc (m + n) = omega arith in
      subst (λ q. count n ≤ count q) (sym e) (omega (arith, r, l))

  rises : (n k : ℕ) → n ≤ k → count n ≤ count k
  rises n k le = let e : (k - n) + n ≡ k = omega (arith, le) in subst (λ q. count n ≤ count q) e (more n (k - n))

  stretch : (i : ℕ) (m k j : ℕ) (b : Active) → k ≡ m + j → i ≤ j → b.age < count (suc i) → Contains (notes k) b
      → (d : Active) × Contains (notes j) d × IsSameNote d b
  stretch i zero k j b e le early h =
      let same : k ≡ j = omega (arith, e) in (
        b,
        subst (λ q. Contains (notes q) b) same h,
        record { number = refl; age = refl; ends = refl; fields = refl; body = refl },
      )
  stretch i (suc m) zero j b e le early h = absurd (omega (arith, e))
  stretch i (suc m) (suc k) j b e le early h =
      let up = rises (suc i) (suc k) (omega (arith, e, le)) in
      let d = down k b h (omega (arith, early, up)) in
      let age = d.2.age in
      let r = stretch i m k j d.0 (omega (arith, e)) le (omega (arith, age, early)) d.1 in
      (r.0, r.1, same_trans r.0 d.0 b r.2 d.2)

  over_all : (i j k : ℕ) (a b : Active) → i ≤ j → j ≤ k → a.age < count (suc i) → Contains (notes k) b → b.age ≡ a.age
      → (d : Active) × Contains (notes j) d × IsSameNote d b
  over_all i j k a b low high old last age =
      stretch i (k - j) k j b (omega (arith, high)) low (omega (arith, old, age)) last

module _ (c : Composition) where
  down : (k : ℕ) (b : Active) → Contains (notes_in c (suc k)) b → b.age < (moment_at c (suc k)).started
      → (d : Active) × Contains (notes_in c k) d × IsSameNote d b
  down k b h early =
      ⊎_elim (λ p. partner (notes_in c k) (played_in c k) b (same_notes c k) p) (λ l. absurd (omega (arith, l, early)))
      (comes c k b h)

  pub one_stretch : (i j k : ℕ) (a b : Active) → i ≤ j → j ≤ k → Contains (notes_in c i) a → Contains (notes_in c k) b
      → b.age ≡ a.age → (d : Active) × Contains (notes_in c j) d × IsSameNote d b
  one_stretch i j k a b low high first last age =
      let old : a.age < (moment_at c (suc i)).started =
      All-contains (λ (x : Active). x.age < (moment_at c (suc i)).started) (notes_in c i) a (in_order c i).started
      first in
      over_all (notes_in c) (λ n. (moment_at c n).started) (λ n. (grows c n (moment_at c n)).low) down i j k a b low
      high old last age
