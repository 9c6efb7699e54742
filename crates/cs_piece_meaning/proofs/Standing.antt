-- Notes remain in order through the steps of a cycle.
use Rattle.std.proofs.Common.{◌≡◌, ◌≢◌, ◌∙◌, ◌⊎◌, inl, inr, ⊎_elim, ℕ, ℤ, zero, suc, ◌+◌, ◌<◌, ◌≤◌, ◌<ℤ◌, ◌≤ℤ◌, ◌==◌}
use Rattle.std.proofs.Common.{Bool, true, false, not, nat_lt, List, [], ◌∷◌, length, get_or, Some, refl, sym, arith}
use Rattle.std.proofs.Common.{if◌then◌else◌}
use Rattle.std.specs.{Prelude.All, Prelude.AllPairs, Prelude.filter, List.AllZip}
use Rattle.std.proofs.lemmas.{Bool.Decides.nat_tests, Int.by_lt_z, Int.ints, List.Filters.length-filter_both}
use Rattle.std.proofs.lemmas.{List.Kept.AllPairs-filter, Slice.Zip.AllZip-long}
use Rattle.std.proofs.lemmas.List.Elements.{All-filter, All-weaker, filter_passes}
use Rattle.cs_base.specs.{Limits.most_notes, declared.resource.Res.Res}
use Rattle.cs_ir.specs.Waves.{Wave}
use Rattle.cs_meaning.specs.{Core.Block, Notes.Note, Plain.Plain}
use Rattle.cs_piece_meaning.specs.Course.{begins, moment_at, next, performed, played_in, serial, still, turned_off}
use Rattle.cs_piece_meaning.specs.Moments.{Active, Composition, Moment, at_most, placed}
use Rattle.cs_piece_meaning.specs.Starts.{Start, joined}
use Rattle.cs_piece_meaning.specs.Orders.{AreInOrder, IsSameNote, PlaysIn, StandsBefore}
use Rattle.cs_piece_meaning.proofs.Lists.{between_all, between_long, between_pairs, pairs_across}
use Rattle.cs_piece_meaning.proofs.Steps.{Fact, Keeps, Roomy, begins_keeps}

abbrev HaveOtherAges : Active → Active → Type 0
HaveOtherAges a b = a.age ≢ b.age

-- Notes are in order and satisfy P, after `count` starts.
pub record InOrder (P : Active → Type 0) (notes : List Active) (count : ℕ) : Type 0 where
  pub order : AllPairs StandsBefore notes
  pub ages : AllPairs HaveOtherAges notes
  pub started : All (λ (a : Active). a.age < count) notes
  pub each : All P notes
  pub few : length notes ≤ most_notes

-- ONE MORE NOTE

not_above : (x y : ℤ) → at_most x y ≡ true → (x <ℤ y) ⊎ (x ≡ y)
not_above x y h = by_lt_z x y (λ l. inl l) (λ m. inr (omega (arith, ints, not_below x y h, m)))
  where
    not_below : (x y : ℤ) → at_most x y ≡ true → x ≤ℤ y
    not_below x y h = grind (arith, ints)

above : (x y : ℤ) → not (at_most x y) ≡ true → y <ℤ x
above x y h = grind (arith, ints)

chain : (x y z : ℤ) → (x <ℤ y) ⊎ (x ≡ y) → y <ℤ z → x <ℤ z
chain x y z (inl l) m = omega (arith, ints)
chain x y z (inr e) m = omega (arith, ints)

module _ (n : Active) where
  abbrev pub low : Active → Bool
  low a = at_most a.number n.number

  abbrev pub high : Active → Bool
  high a = not (at_most a.number n.number)

  is_low : (a : Active) → low a ≡ true → a.age < n.age → StandsBefore a n
  is_low a h older = ⊎_elim (λ l. inl l) (λ e. inr (e, older)) (not_above a.number n.number h)

  is_across : (a b : Active) → low a ≡ true → high b ≡ true → StandsBefore a b
  is_across a b h k = inl (chain a.number n.number b.number (not_above a.number n.number h) (above b.number n.number k))

  other_ages : (a b : Active) → HaveOtherAges a b → HaveOtherAges b a
  other_ages a b h e = h (sym e)

  -- a note that was started after all others is placed in order
  pub placed_stands : (P : Active → Type 0) (active : List Active) → InOrder P active n.age → P n
      → length active < most_notes → InOrder P (placed n active) (n.age + 1)
  placed_stands P active h this room =
      let older : All (λ (a : Active). a.age < n.age) (filter low active) =
      All-filter low (λ (a : Active). a.age < n.age) active h.started in
      let younger : All (λ (a : Active). a.age < n.age) (filter high active) =
      All-filter high (λ (a : Active). a.age < n.age) active h.started in
      let lows : All (λ a. low a ≡ true) (filter low active) = filter_passes low active in
      let highs : All (λ a. high a ≡ true) (filter high active) = filter_passes high active in
      record {
        order = between_pairs low n active StandsBefore
            (λ k d lt. is_low (get_or (filter low active) k d) (lows k d lt) (older k d lt))
            (λ k d lt. inl (above (get_or (filter high active) k d).number n.number (highs k d lt)))
            (λ i d lt j e within. is_across (get_or (filter low active) i d) (get_or (filter high active) j e)
            (lows i d lt) (highs j e within)) h.order;
        ages = between_pairs low n active HaveOtherAges
            (λ k d lt e. let l = older k d lt in omega (arith, l, e))
            (λ k d lt e. let l = younger k d lt in omega (arith, l, e))
            (pairs_across HaveOtherAges low other_ages active h.ages)
            h.ages;
        started = between_all low n active (λ (a : Active). a.age < n.age + 1) (omega arith)
            (All-weaker (λ (a : Active). a.age < n.age) (λ (a : Active). a.age < n.age + 1) (λ a l. omega (arith, l))
            active h.started);
        each = between_all low n active P this h.each;
        few = (let long = between_long low n active in omega (arith, long, room));
      }

-- FEWER NOTES

pub filtered_stands : (P : Active → Type 0) (p : Active → Bool) (active : List Active) (count : ℕ)
    → InOrder P active count → InOrder P (filter p active) count
filtered_stands P p active count h = record {
  order = AllPairs-filter StandsBefore p active h.order;
  ages = AllPairs-filter HaveOtherAges p active h.ages;
  started = All-filter p (λ (a : Active). a.age < count) active h.started;
  each = All-filter p P active h.each;
  few = (let both = length-filter_both p (λ z. not (p z)) (λ z. refl) active in let most =
      h.few in omega (arith, both, most));
}

-- the notes satisfy another property
pub other_kind : (P Q : Active → Type 0) (active : List Active) (count : ℕ) → All Q active → InOrder P active count
    → InOrder Q active count
other_kind P Q active count all h =
    record { order = h.order; ages = h.ages; started = h.started; each = all; few = h.few }

-- A START

module _ (c : Composition) (now : ℕ) where
  abbrev pub Stand : Moment → Type 0
  Stand m = InOrder (PlaysIn c now) m.active m.started

  joined_stands : (s : Start) (body : Block) (t : Note Plain) (active : List Active) (age : ℕ)
      → c.instrument s.number ≡ Some body → t.world.ended ≡ false → Roomy s active → InOrder (PlaysIn c now) active age
      → InOrder (PlaysIn c now) (joined now s body t active age) (age + 1)
  joined_stands s body t active age there on room h = by (s.cycles == 0) refl
    where
      n : Active
      n = record { number = s.number; age = age; ends = now + s.cycles; fields = s.fields; body = body; note = t }

      none : InOrder (PlaysIn c now) active (age + 1)
      none = record {
        order = h.order;
        ages = h.ages;
        started = All-weaker (λ (a : Active). a.age < age) (λ (a : Active). a.age < age + 1) (λ a l. omega (arith, l))
            active h.started;
        each = h.each;
        few = h.few;
      }

      by : (b : Bool) → (s.cycles == 0) ≡ b → InOrder (PlaysIn c now) (if b then active else placed n active) (age + 1)
      by true e = none
      by false e =
          let some : 0 < s.cycles = grind (arith, nat_tests) in
          let place : length active < most_notes = ⊎_elim (λ z. absurd (omega (arith, z, some))) (λ l. l) room in
          placed_stands n (PlaysIn c now) active h
          (record { body = there; before_its_end = omega (arith, some); not_turned_off = on }) place

  -- the notes that play in the cycle are in order
  abbrev Ordered : Fact
  Ordered x active count w = InOrder (PlaysIn c now) active count

  ordered : Keeps c now Ordered
  ordered = record {
    join = λ x s body t active age w there on room h. joined_stands s body t active age there on room h;
    add = λ x active count w time a h. h;
    take = λ x active count w d rest is h. h;
  }

  -- a note of the performance: it belongs to its instrument, and isn't turned off
  abbrev pub Playing : Active → Type 0
  Playing a = (c.instrument a.number ≡ Some a.body) × (a.note.world.ended ≡ false)

  still_stands : (m : Moment) → InOrder Playing m.active m.started → Stand (still now m)
  still_stands m h =
      let keeps : Active → Bool = λ a. nat_lt now a.ends in
      let last : All (λ (a : Active). nat_lt now a.ends ≡ true) (filter (λ a. nat_lt now a.ends) m.active) =
      filter_passes (λ (a : Active). nat_lt now a.ends) m.active in
      let fewer : InOrder Playing (filter (λ a. nat_lt now a.ends) m.active) m.started =
      filtered_stands Playing (λ (a : Active). nat_lt now a.ends) m.active m.started h in
      other_kind Playing (PlaysIn c now) (filter (λ a. nat_lt now a.ends) m.active) m.started (λ k d lt. record {
        body = (fewer.each k d lt).0;
        before_its_end = later now (get_or (filter (λ (a : Active). nat_lt now a.ends) m.active) k d).ends
            (last k d lt);
        not_turned_off = (fewer.each k d lt).1;
      }) fewer
    where
      later : (x y : ℕ) → nat_lt x y ≡ true → x < y
      later x y h = grind (arith, nat_tests)

  pub begins_stands : (m : Moment) → InOrder Playing m.active m.started → Stand (begins c now m)
  begins_stands m h = (begins_keeps c now Ordered ordered m (still_stands m h)).1

-- THE NOTES ARE PERFORMED

pub zip_at : {A B : Type 0} (R : A → B → Type 0) (xs : List A) (ys : List B) (k : ℕ) (d : A) (e : B) → AllZip R xs ys
    → k < length ys → R (get_or xs k d) (get_or ys k e)
zip_at R xs [] k d e all lt = absurd (omega arith)
zip_at R [] (y ∷ ys) k d e all lt = absurd all
zip_at R (x ∷ xs) (y ∷ ys) zero d e all lt = all.0
zip_at R (x ∷ xs) (y ∷ ys) (suc k) d e all lt = zip_at R xs ys k d e all.1 (omega arith)

before_too : (a b x y : Active) → IsSameNote a x → IsSameNote b y → StandsBefore a b → StandsBefore x y
before_too a b x y e f h = rw (e.number, f.number, e.age, f.age) h

pub serial_same : (c : Composition) (made : List ℕ) (shared : Res → Wave) (notes : List Active)
    → AllZip IsSameNote notes (serial c made shared notes).0
serial_same c made shared [] = tt
serial_same c made shared (a ∷ rest) =
    let now : Active = next c made shared a in (
      record { number = refl; age = refl; ends = refl; fields = refl; body = refl },
      serial_same c made now.note.world.shared rest,
    )

module _ (c : Composition) (P Q : Active → Type 0) (keep : (a b : Active) → IsSameNote a b → P a → Q b) where
  same_stands : (xs ys : List Active) (count : ℕ) → AllZip IsSameNote xs ys → InOrder P xs count → InOrder Q ys count
  same_stands xs ys count same h =
      let long : length xs ≡ length ys = sym (AllZip-long IsSameNote xs ys same) in
      record {
        order = λ i j d lt within. before_too (get_or xs i d) (get_or xs j d) (get_or ys i d) (get_or ys j d)
            (zip_at IsSameNote xs ys i d d same (omega (arith, lt, within))) (zip_at IsSameNote xs ys j d d same within)
            (h.order i j d lt (omega (arith, within, long)));
        ages = λ i j d lt within e. h.ages i j d lt (omega (arith, within, long))
            (sym (zip_at IsSameNote xs ys i d d same (omega (arith, lt, within))).age
            ∙ (e ∙ (zip_at IsSameNote xs ys j d d same within).age));
        started = λ k d lt. (let is = (zip_at IsSameNote xs ys k d d same lt).age in let l =
            h.started k d (omega (arith, lt, long)) in omega (arith, is, l));
        each = λ k d lt. keep (get_or xs k d) (get_or ys k d) (zip_at IsSameNote xs ys k d d same lt)
            (h.each k d (omega (arith, lt, long)));
        few = (let most = h.few in omega (arith, long, most));
      }

module _ (c : Composition) where
  abbrev OfInstrument : Active → Type 0
  OfInstrument a = c.instrument a.number ≡ Some a.body

  of_instrument : (a b : Active) → IsSameNote a b → OfInstrument a → OfInstrument b
  of_instrument a b same h = rw (same.number, same.body) h

  cycle_stands : (n : ℕ) (m : Moment) → InOrder (PlaysIn c n) m.active m.started
      → InOrder (Playing c n) (turned_off (performed c m)).active (turned_off (performed c m)).started
  cycle_stands n m h =
      let after : List Active = (performed c m).active in
      let stands : InOrder OfInstrument after m.started =
      same_stands c (PlaysIn c n) OfInstrument (λ a b same p. of_instrument a b same p.body) m.active after m.started
      (serial_same c m.made m.shared m.active) h in
      let fewer : InOrder OfInstrument (filter (λ (a : Active). not a.note.world.ended) after) m.started =
      filtered_stands OfInstrument (λ (a : Active). not a.note.world.ended) after m.started stands in
      let on = filter_passes (λ (a : Active). not a.note.world.ended) after in
      other_kind OfInstrument (Playing c n) (filter (λ (a : Active). not a.note.world.ended) after) m.started
      (λ k d lt. (
        fewer.each k d lt,
        negated (get_or (filter (λ (a : Active). not a.note.world.ended) after) k d).note.world.ended (on k d lt),
      )) fewer
    where
      negated : (b : Bool) → not b ≡ true → b ≡ false
      negated true h = absurd cc
      negated false h = refl

  pub moment_stands : (n : ℕ) → InOrder (Playing c n) (moment_at c n).active (moment_at c n).started
  moment_stands zero = record {
    order = λ i j d lt within. absurd (omega arith);
    ages = λ i j d lt within. absurd (omega arith);
    started = λ k d lt. absurd (omega arith);
    each = λ k d lt. absurd (omega arith);
    few = omega arith;
  }
  moment_stands (suc n) = cycle_stands n (begins c n (moment_at c n))
      (begins_stands c n (moment_at c n) (moment_stands n))

  pub in_order : (n : ℕ) → AreInOrder c n (begins c n (moment_at c n))
  in_order n =
      let h = begins_stands c n (moment_at c n) (moment_stands n) in
      record { order = h.order; ages = h.ages; started = h.started; playing = h.each; few = h.few }

  pub same_notes : (n : ℕ) → AllZip IsSameNote (begins c n (moment_at c n)).active (played_in c n)
  same_notes n =
      let m : Moment = begins c n (moment_at c n) in
      serial_same c m.made m.shared m.active
