-- The levels of footprints are the turns of notes.
use Rattle.std.proofs.lemmas.{Grind.common_steps, Bool.cases_lt, Slice.Zip.AllZip-long}
use Rattle.std.proofs.Common.{◌≡◌, ◌⊎◌, ℕ, zero, suc, ◌+◌, ◌<◌, ◌≤◌, Bool, true, false, List, [], ◌∷◌, ◌++◌, length}
use Rattle.std.proofs.Common.{get_or, map, max, refl, sym, subst, ap, ◌∙◌, arith, append_assoc, inl, inr, ⊎_elim}
use Rattle.std.proofs.{Common.if◌then◌else◌, Math.Nat.eq-zero-or-pos, Math.Seq.get_or-append_seam}
use Rattle.std.specs.List.{AllZip}
use Rattle.std.proofs.lemmas.List.{get_or_append_left, length-append, length-map}
use Rattle.cs_cells.specs.{declared.footprint.Area.Area, declared.footprint.Footprint.Footprint}
use Rattle.cs_piece_meaning.specs.Moments.{Active, Composition}
use Rattle.cs_graph.specs.{Conflict.foot, Graph.IsLevelled}
use Rattle.cs_ir.specs.Resources.{Stock}
use Rattle.cs_meaning.specs.Core.{Block}
use Rattle.cs_rwset.specs.Footprints.{stock_of}
use Rattle.cs_turns.specs.Turns.{AreOver, IsFootOf, Touched, conflict, stock_in, touched, turn_behind, turns_behind}
use Rattle.cs_turns.specs.Turns.{turns_in, turns_of}
use Rattle.cs_turns.proofs.Clashes.{IsFootFor, clashes, conflicts}

-- a note with its turn
abbrev pub Turn : Type 0
Turn = Touched × ℕ

abbrev pub nothing : Touched
nothing = record { uses = []; writes = [] }

abbrev pub at : List Turn → ℕ → Turn
at notes p = get_or notes p (nothing, 0)

-- ONE NOTE after others

bound : (notes : List Turn) (t : Touched) (p : ℕ) → p < length notes → conflict (at notes p).0 t ≡ true
    → (at notes p).1 + 1 ≤ turn_behind notes t
bound [] t p l h = absurd (omega arith)
bound (x ∷ notes) t zero l h = grind (arith, common_steps, max)
bound (x ∷ notes) t (suc p) l h = grind (arith, common_steps, max, bound notes t p (omega arith) h)

-- the turn is 0 or one more than the turn of some note with which it conflicts
abbrev IsReached : List Turn → Touched → ℕ → Type 0
IsReached notes t n = (n ≡ 0)
    ⊎ ((p : ℕ) × (p < length notes) × (conflict (at notes p).0 t ≡ true) × (n ≡ (at notes p).1 + 1))

-- the higher of two turns is reached if it is reached by itself
later_turn : (x : Turn) (notes : List Turn) (t : Touched) (m n : ℕ) → m ≤ n → IsReached notes t n
    → IsReached (x ∷ notes) t (max m n)
later_turn x notes t m n low (inl none) = inl (omega (arith, low, none))
later_turn x notes t m n low (inr r) =
    inr (suc r.0, (let l = r.1 in omega arith), r.2, (let e = r.3 in omega (arith, low, e)))

first_turn : (x : Turn) (notes : List Turn) (t : Touched) (n : ℕ) → conflict x.0 t ≡ true → n ≤ x.1 + 1
    → IsReached (x ∷ notes) t (max (x.1 + 1) n)
first_turn x notes t n e high = inr (zero, omega arith, e, omega (arith, high))

reached : (notes : List Turn) (t : Touched) → IsReached notes t (turn_behind notes t)
reached [] t = inl refl
reached (x ∷ notes) t = by (conflict x.0 t) refl (cases_lt (x.1 + 1) (turn_behind notes t)) (reached notes t)
  where
    by : (b : Bool) → conflict x.0 t ≡ b → (x.1 + 1 < turn_behind notes t) ⊎ (turn_behind notes t ≤ x.1 + 1)
        → IsReached notes t (turn_behind notes t)
        → IsReached (x ∷ notes) t (max (if b then x.1 + 1 else 0) (turn_behind notes t))
    by false e size more = later_turn x notes t 0 (turn_behind notes t) (omega arith) more
    by true e (inl low) more = later_turn x notes t (x.1 + 1) (turn_behind notes t) (omega (arith, low)) more
    by true e (inr high) more = first_turn x notes t (turn_behind notes t) e high

-- a number above the turns of all notes with which a note conflicts is its turn if it is reached
turn_is : (notes : List Turn) (t : Touched) (n : ℕ)
    → ((p : ℕ) → p < length notes → conflict (at notes p).0 t ≡ true → (at notes p).1 < n)
    → IsReached notes t n → n ≡ turn_behind notes t
turn_is notes t n above is = grind (arith, common_steps, bound, reached)

-- ALL NOTES, each after those before it

-- what is known of a note among all
pub record IsTurnAt (notes : List Turn) (k : ℕ) : Type 0 where
  pub above : (p : ℕ) → p < k → conflict (at notes p).0 (at notes k).0 ≡ true → (at notes p).1 < (at notes k).1
  pub reached : ((at notes k).1 ≡ 0)
      ⊎ ((p : ℕ) × (p < k) × (conflict (at notes p).0 (at notes k).0 ≡ true) × ((at notes k).1 ≡ (at notes p).1 + 1))

-- the same for equal notes
moves : (a b x y : Turn) → a ≡ b → x ≡ y → (conflict a.0 x.0 ≡ true → a.1 < x.1) → conflict b.0 y.0 ≡ true → b.1 < y.1
moves a b x y e f h = rw (← e, ← f) h

moved : (a b x y : Turn) → a ≡ b → x ≡ y → (conflict a.0 x.0 ≡ true) × (x.1 ≡ a.1 + 1)
    → (conflict b.0 y.0 ≡ true) × (y.1 ≡ b.1 + 1)
moved a b x y e f h = rw (← e, ← f) h

here : (earlier : List Turn) (x : Turn) (all : List Turn) → ((p : ℕ) → p < length earlier → at all p ≡ at earlier p)
    → at all (length earlier) ≡ x → IsTurnAt all (length earlier) → x.1 ≡ turn_behind earlier x.0
here earlier x all before seam h =
    turn_is earlier x.0 x.1
    (λ p l. moves (at all p) (at earlier p) (at all (length earlier)) x (before p l) seam (h.above p l))
    (⊎_elim (λ none. inl (subst (λ (y : Turn). y.1 ≡ 0) seam none))
    (λ r. let one = moved (at all r.0) (at earlier r.0) (at all (length earlier)) x (before r.0 r.1) seam
    (r.2, r.3) in inr (r.0, r.1, one.0, one.1))
    h.reached)

along : (earlier later : List Turn) → ((k : ℕ) → k < length later → IsTurnAt (earlier ++ later) (length earlier + k))
    → map (λ (x : Turn). x.1) later ≡ turns_behind earlier (map (λ (x : Turn). x.0) later)
along earlier [] h = refl
along earlier (x ∷ later) h =
    let none : length earlier + 0 ≡ length earlier = omega arith in
    let first : x.1 ≡ turn_behind earlier x.0 =
    here earlier x (earlier ++ x ∷ later) (get_or_append_left earlier (x ∷ later) (nothing, 0))
    (get_or-append_seam earlier x later (nothing, 0))
    (subst (IsTurnAt (earlier ++ x ∷ later)) none (h 0 (omega arith))) in
    let rest = along (earlier ++ x ∷ []) later (λ k l. next k (h (suc k) (omega arith))) in
    ap (λ (ns : List ℕ). x.1 ∷ ns) rest
    ∙ ap (λ (n : ℕ). n ∷ turns_behind (earlier ++ (x.0, n) ∷ []) (map (λ (y : Turn). y.0) later)) first
  where
    next : (k : ℕ) → IsTurnAt (earlier ++ x ∷ later) (length earlier + suc k)
        → IsTurnAt ((earlier ++ x ∷ []) ++ later) (length (earlier ++ x ∷ []) + k)
    next k h =
        let long : length earlier + suc k ≡ length (earlier ++ x ∷ []) + k =
        omega (arith, length-append earlier (x ∷ [])) in
        subst (IsTurnAt ((earlier ++ x ∷ []) ++ later)) long
        (subst (λ l. IsTurnAt l (length earlier + suc k)) (sym (append_assoc earlier (x ∷ []) later)) h)

-- NOTES AND LEVELS side by side

paired : List Touched → List ℕ → List Turn
paired [] ns = []
paired (t ∷ ts) [] = []
paired (t ∷ ts) (n ∷ ns) = (t, n) ∷ paired ts ns

paired_notes : (ts : List Touched) (ns : List ℕ) → length ns ≡ length ts → map (λ (x : Turn). x.0) (paired ts ns) ≡ ts
unfolding paired
paired_notes [] ns e = refl
paired_notes (t ∷ ts) [] e = absurd (omega (arith, e))
paired_notes (t ∷ ts) (n ∷ ns) e = ap (λ (l : List Touched). t ∷ l) (paired_notes ts ns (omega (arith, e)))

paired_turns : (ts : List Touched) (ns : List ℕ) → length ns ≡ length ts → map (λ (x : Turn). x.1) (paired ts ns) ≡ ns
unfolding paired
paired_turns [] [] e = refl
paired_turns [] (n ∷ ns) e = absurd (omega (arith, e))
paired_turns (t ∷ ts) [] e = absurd (omega (arith, e))
paired_turns (t ∷ ts) (n ∷ ns) e = ap (λ (l : List ℕ). n ∷ l) (paired_turns ts ns (omega (arith, e)))

paired_at : (ts : List Touched) (ns : List ℕ) (k : ℕ) → length ns ≡ length ts → k < length ts
    → at (paired ts ns) k ≡ (get_or ts k nothing, get_or ns k 0)
unfolding paired
paired_at [] ns k e l = absurd (omega arith)
paired_at (t ∷ ts) [] k e l = absurd (omega (arith, e))
paired_at (t ∷ ts) (n ∷ ns) zero e l = refl
paired_at (t ∷ ts) (n ∷ ns) (suc k) e l = paired_at ts ns k (omega (arith, e)) (omega arith)

zip_at : {A B : Type 0} (R : A → B → Type 0) (xs : List A) (ys : List B) (k : ℕ) (d : A) (e : B) → AllZip R xs ys
    → k < length xs → R (get_or xs k d) (get_or ys k e)
zip_at R [] ys k d e h l = absurd (omega arith)
zip_at R (x ∷ xs) [] k d e h l = absurd h
zip_at R (x ∷ xs) (y ∷ ys) zero d e h l = h.0
zip_at R (x ∷ xs) (y ∷ ys) (suc k) d e h l = zip_at R xs ys k d e h.1 (omega arith)

module _ (areas zones : List Area) (over : AreOver areas zones) (ts : List Touched) (feet : List Footprint)
    (levels : List ℕ)
    (are : AllZip (IsFootFor areas zones) ts feet)
    (long : length levels ≡ length feet) (levelled : IsLevelled feet levels) where
  same_length : length ts ≡ length feet
  same_length = sym (AllZip-long (IsFootFor areas zones) ts feet are)

  turn : ℕ → Turn
  turn k = (get_or ts k nothing, get_or levels k 0)

  is_turn : (k : ℕ) → k < length ts → at (paired ts levels) k ≡ turn k
  unfolding turn
  is_turn k l = paired_at ts levels k (long ∙ sym same_length) l

  foot_at : (k : ℕ) → k < length ts → IsFootFor areas zones (get_or ts k nothing) (foot feet k)
  foot_at k l = zip_at (IsFootFor areas zones) ts feet k nothing (record { uses = []; writes = [] }) are l

  turn_above : (p k : ℕ) → p < k → k < length ts → conflict (turn p).0 (turn k).0 ≡ true → (turn p).1 < (turn k).1
  unfolding turn
  turn_above p k l m c = levelled.above p k (record {
    earlier = l;
    within = omega (arith, m, same_length);
    clash = clashes areas zones over (get_or ts p nothing) (get_or ts k nothing) (foot feet p) (foot feet k)
        (foot_at p (omega (arith, l, m))) (foot_at k m) c;
  })

  turn_reached : (k : ℕ) → k < length ts
      → ((turn k).1 ≡ 0) ⊎ ((p : ℕ) × (p < k) × (conflict (turn p).0 (turn k).0 ≡ true) × ((turn k).1 ≡ (turn p).1 + 1))
  unfolding turn
  turn_reached k m =
      ⊎_elim (λ none. inl none)
      (λ some. let r = levelled.greatest k (omega (arith, m, same_length)) some in
      let l = r.1.earlier in
      inr (
        r.0,
        l,
        conflicts areas zones over (get_or ts r.0 nothing) (get_or ts k nothing) (foot feet r.0)
            (foot feet k) (foot_at r.0 (omega (arith, l, m))) (foot_at k m) r.1.clash,
        r.2,
      )) (eq-zero-or-pos (get_or levels k 0))

  turn_at : (k : ℕ) → k < length ts → IsTurnAt (paired ts levels) k
  turn_at k m = record {
    above = λ p l. moves (turn p) (at (paired ts levels) p) (turn k) (at (paired ts levels) k)
        (sym (is_turn p (omega (arith, l, m)))) (sym (is_turn k m)) (turn_above p k l m);
    reached = ⊎_elim (λ none. inl (subst (λ (x : Turn). x.1 ≡ 0) (sym (is_turn k m)) none))
        (λ r. let one = moved (turn r.0) (at (paired ts levels) r.0) (turn k) (at (paired ts levels) k)
        (sym (is_turn r.0 (let l = r.1 in omega (arith, l, m)))) (sym (is_turn k m)) (r.2, r.3) in
        inr (r.0, r.1, one.0, one.1)) (turn_reached k m);
  }

  pub levels_are : levels ≡ turns_of ts
  levels_are =
      let e : length levels ≡ length ts = long ∙ sym same_length in
      let notes = paired_notes ts levels e in
      sym (paired_turns ts levels e)
      ∙ (along [] (paired ts levels) (λ k l. at_zero k (turn_at k (shorter k l notes))) ∙ ap (turns_behind []) notes)
    where
      at_zero : (k : ℕ) → IsTurnAt (paired ts levels) k → IsTurnAt (paired ts levels) (0 + k)
      at_zero k h = let none : k ≡ 0 + k = omega arith in subst (IsTurnAt (paired ts levels)) none h

      shorter : (k : ℕ) → k < length (paired ts levels) → map (λ (x : Turn). x.0) (paired ts levels) ≡ ts
          → k < length ts
      shorter k l notes = let long : length (map (λ (x : Turn). x.0) (paired ts levels)) ≡ length ts =
          ap (λ (xs : List Touched). length xs) notes in
          omega (arith, l, long, length-map (paired ts levels) (λ (x : Turn). x.0))

-- a footprint of statements belongs to what they touch
pub foot_for : (areas zones : List Area) (body : Block) (f : Footprint) → IsFootOf areas zones body f
    → IsFootFor areas zones (touched (stock_of areas) body) f
foot_for areas zones body f h = record { uses = h.uses; writes = h.writes; there = h.there; places = h.places }

-- so do the footprints of notes that play
feet_for : (areas zones : List Area) (stock : Stock) (notes : List Active) (feet : List Footprint)
    → stock_of areas ≡ stock → AllZip (λ (a : Active) (f : Footprint). IsFootOf areas zones a.body f) notes feet
    → AllZip (IsFootFor areas zones) (map (λ (a : Active). touched stock a.body) notes) feet
feet_for areas zones stock [] [] e h = h
feet_for areas zones stock [] (f ∷ feet) e h = h
feet_for areas zones stock (a ∷ notes) [] e h = h
feet_for areas zones stock (a ∷ notes) (f ∷ feet) e h =
    grind (arith, common_steps, foot_for, feet_for areas zones stock notes feet e h.1)

pub turns_are : (c : Composition) (areas zones : List Area) (notes : List Active) (feet : List Footprint)
    (levels : List ℕ) → AreOver areas zones → stock_of areas ≡ stock_in c
    → AllZip (λ (a : Active) (f : Footprint). IsFootOf areas zones a.body f) notes feet
    → length levels ≡ length feet → IsLevelled feet levels → levels ≡ turns_in c notes
turns_are c areas zones notes feet levels over e h long levelled =
    levels_are areas zones over (map (λ (a : Active). touched (stock_in c) a.body) notes) feet levels
    (feet_for areas zones (stock_in c) notes feet e h) long levelled
