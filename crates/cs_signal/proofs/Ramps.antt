-- A straight line by additions alone: the parts of a number and of a sum, and the quotient from the parts.
use Rattle.std.proofs.Common.{◌≡◌, ℕ, zero, suc, ◌+◌, ◌-◌, ◌*◌, ◌<◌, ◌≤◌, inl, inr, List, [], ◌∷◌, ◌++◌, length, map, ℤ}
use Rattle.std.proofs.Common.{pos, ◌+ℤ◌, ◌-ℤ◌, ◌*ℤ◌, refl, set, unsigned_abs, ◌^◌, ap, sym, ◌∙◌, subst, replicate}
use Rattle.std.proofs.Common.{arith, Bool, false, ◌==◌, ◌%◌, if◌then◌else◌}
use Rattle.std.proofs.lemmas.{Bool.Decides.nat_tests, Int.ints, Int.unsigned_abs-mul, Nat.mul-le, List.take_more_set}
use Rattle.std.proofs.lemmas.{List.length-set, List.take_all, List.FromFn.map-range_with_len_more}
use Rattle.std.proofs.{Math.Nat.mod_self, Math.Nat.mod-eq_of_lt, Math.IntN.*ℤ_comm, Math.IntN.suc_ℤ-*ℤ}
use Rattle.cs_base.specs.Numbers.{clamp, floor_div}
use Rattle.cs_base.proofs.Quotients.{quotient_of_parts}
use Rattle.cs_signal.specs.inner.Ramp.{IsParted, IsAdvanced, HasRamped, ramp_of}
use Rattle.cs_signal.specs.{Interp.InterpState, Interp.interp_step, Line.LineState, Line.line_step, Line.part_way}
use Rattle.cs_signal.specs.{Operands.argument, inner.Pieces.IsPlace, Pace.number_after, Pace.last_number, Steps.run}
use Rattle.std.specs.{Prelude.slice_index, List.range_with_len}
use Rattle.cs_signal.specs.Linseg.{LinsegState, linseg_step, on_pieces}
use Rattle.cs_signal.proofs.{Pieces.HasPassed-later, Pieces.last_value, Pieces.on_piece, Walks.led}

pub floor_is : (z q : ℤ) (d r : ℕ) → IsParted z d q r → floor_div z (pos d) ≡ q
floor_is z q d r h = quotient_of_parts z q d r h.sum h.below

pub once_more : (z : ℤ) (d : ℕ) → z *ℤ pos (suc d) ≡ (z *ℤ pos d) +ℤ z
once_more z d = *ℤ_comm z (pos (suc d)) ∙ suc_ℤ-*ℤ (pos d) z ∙ ap (λ w. w +ℤ z) (*ℤ_comm (pos d) z)

-- the product of a number within m and a number within n is within m * n
pub product_within : (x y : ℤ) (m n : ℕ) → unsigned_abs x ≤ m → unsigned_abs y ≤ n → unsigned_abs (x *ℤ y) ≤ m * n
product_within x y m n p q =
    let e = unsigned_abs-mul x y in
    let h : unsigned_abs x * unsigned_abs y ≤ m * n = mul-le (unsigned_abs x) (unsigned_abs y) m n p q in
    omega (arith, e, h)

-- a sum times a number is the sum of the products
pub spread : (x y : ℤ) (d : ℕ) → (x +ℤ y) *ℤ pos d ≡ (x *ℤ pos d) +ℤ (y *ℤ pos d)
spread x y zero = omega (arith, ints)
spread x y (suc d) =
    let ih = spread x y d in let ex = once_more x d in let ey = once_more y d in
    let es = once_more (x +ℤ y) d in omega (arith, ints)

pub advanced : (x y w v w' : ℤ) (d r s r' : ℕ) → IsParted x d w r → IsParted y d v s → IsAdvanced d w r v s w' r'
    → IsParted (x +ℤ y) d w' r'
advanced x y w v w' d r s r' p q (inl a) =
    let sx = p.sum in let sy = q.sum in
    let ew : w' *ℤ pos d ≡ (w *ℤ pos d) +ℤ (v *ℤ pos d) = ap (λ z. z *ℤ pos d) a.1 ∙ spread w v d in
    let er = a.2 in
    let low = a.0 in
    record { sum = omega (arith, ints); below = omega arith }
advanced x y w v w' d r s r' p q (inr a) =
    let sx = p.sum in let sy = q.sum in
    let ew : w' *ℤ pos d ≡ ((w *ℤ pos d) +ℤ (v *ℤ pos d)) +ℤ pos d =
    ap (λ z. z *ℤ pos d) a.1 ∙ spread (w +ℤ v) (pos 1) d ∙ ap (λ z. z +ℤ (pos 1 *ℤ pos d)) (spread w v d)
    ∙ omega (arith, ints) in
    let er = a.2 in
    let low = a.0 in
    let p' = p.below in let q' = q.below in
    record { sum = omega (arith, ints); below = omega arith }

pub HasRamped_none : (from to : ℤ) (n d count : ℕ) (whole : ℤ) (rest : ℕ) (out : List ℤ) → length out ≡ count →
    IsParted ((to -ℤ from) *ℤ pos n) d whole rest → unsigned_abs whole ≤ 2 ^ 111
    → HasRamped from to n d count 0 whole rest out
HasRamped_none from to n d count whole rest out long parts bound = record {
  long = long;
  done = refl;
  parts = subst (λ m. IsParted ((to -ℤ from) *ℤ pos m) d whole rest) (omega arith) parts;
  bound = omega arith;
}

pub HasRamped_more : (from to : ℤ) (n d count j : ℕ) (whole whole' by : ℤ) (rest rest' by_rest : ℕ) (out : List ℤ)
    (y : ℤ) → HasRamped from to n d count j whole rest out → j < count → IsParted (to -ℤ from) d by by_rest →
    y ≡ clamp (from +ℤ whole) → IsAdvanced d whole rest by by_rest whole' rest'
    → unsigned_abs whole' ≤ unsigned_abs whole + 2 ^ 49 → HasRamped from to n d count (j + 1) whole' rest' (set out j y)
HasRamped_more from to n d count j whole whole' by rest rest' by_rest out y h inside step ey next bound =
    let f : ℕ → ℤ = λ i. clamp (part_way from to i d) in
    let long = h.long in
    let far = h.bound in
    let value : y ≡ f (n + j) =
    ey ∙ ap (λ q. clamp (from +ℤ q)) (sym (floor_is ((to -ℤ from) *ℤ pos (n + j)) whole d rest h.parts)) in
    let place : n + (j + 1) ≡ suc (n + j) = omega arith in
    record {
      long = length-set out j y ∙ long;
      done = take_more_set out j y (omega arith) ∙ ap (λ l. l ++ y ∷ []) h.done
          ∙ ap (λ z. map f (range_with_len n j) ++ z ∷ []) value ∙ sym (map-range_with_len_more f n j (n + j) refl);
      parts = subst (λ z. IsParted z d whole' rest')
          (sym (ap (λ m. (to -ℤ from) *ℤ pos m) place ∙ once_more (to -ℤ from) (n + j)))
          (advanced ((to -ℤ from) *ℤ pos (n + j)) (to -ℤ from) whole by whole' d rest by_rest rest' h.parts step next);
      bound = omega arith;
    }

pub HasRamped_all : (from to : ℤ) (n d count j : ℕ) (whole : ℤ) (rest : ℕ) (out : List ℤ)
    → HasRamped from to n d count j whole rest out → count ≤ j → j ≤ count → out ≡ ramp_of from to n d count
HasRamped_all from to n d count j whole rest out h p q =
    let long = h.long in
    let e : j ≡ count = omega arith in
    sym (take_all j out (omega arith)) ∙ h.done ∙ ap (ramp_of from to n d) e

-- the same line, and the same linseg, before another step
abbrev line_at_step : LineState → ℕ → LineState
line_at_step s m = record { from = s.from; to = s.to; way = s.way; number = m }

abbrev linseg_at_step : LinsegState → ℕ → LinsegState
linseg_at_step s m = record { values = s.values; lengths = s.lengths; number = m }

-- the results of a line are a ramp, as long as its step number stays below its end
pub line_ramp : (at : ℕ → List ℤ) (s : LineState) (j n : ℕ) → s.number + n ≤ last_number →
    run line_step at s j n ≡ (line_at_step s (s.number + n), ramp_of s.from s.to s.number s.way n)
line_ramp at s j zero h = ap (λ m. (line_at_step s m, [])) (omega arith)
line_ramp at s j (suc n) h =
    let t : LineState = line_at_step s (s.number + 1) in
    let e : number_after (s.number + 1) ≡ s.number + 1 = omega arith in
    let value : ℤ = clamp (part_way s.from s.to s.number s.way) in
    let sum : (s.number + 1) + n ≡ s.number + suc n = omega arith in
    ap (λ m. led value (run line_step at (line_at_step s m) (j + 1) n)) e
    ∙ ap (led value) (line_ramp at t (j + 1) n (omega arith))
    ∙ ap (λ m. (line_at_step s m, value ∷ ramp_of s.from s.to (s.number + 1) s.way n)) sum

pub not_zero : (n : ℕ) → (suc n == 0) ≡ false
not_zero n = grind (arith, nat_tests)

-- the results of the rest of an interp's cycle are a ramp
pub interp_ramp : (s : InterpState) (x : ℤ) (j n : ℕ) → s.sample + suc n ≡ s.ksmps →
    run interp_step (λ j. x ∷ []) s j (suc n) ≡ (
      record { ksmps = s.ksmps; before = x; sample = 0 },
      ramp_of s.before x (s.sample + 1) s.ksmps (suc n),
    )
interp_ramp s x j zero e =
    let value : ℤ = clamp (part_way s.before x (s.sample + 1) s.ksmps) in
    let round : (s.sample + 1) % s.ksmps ≡ 0 = ap (λ k. k % s.ksmps) (omega (arith, e)) ∙ mod_self s.ksmps in
    ap (λ k. (record { ksmps = s.ksmps; before = if k == 0 then x else s.before; sample = k }, value ∷ [])) round
interp_ramp s x j (suc n) e =
    let t : InterpState = record { ksmps = s.ksmps; before = s.before; sample = suc s.sample } in
    let value : ℤ = clamp (part_way s.before x (s.sample + 1) s.ksmps) in
    let next : (s.sample + 1) % s.ksmps ≡ suc s.sample =
    ap (λ k. k % s.ksmps) (omega arith) ∙ mod-eq_of_lt (omega (arith, e)) in
    let at : ℕ → Bool → InterpState = λ k new. record {
      ksmps = s.ksmps;
      before = if new then x else s.before;
      sample = k;
    } in
    ap (λ k. led value (run interp_step (λ j. x ∷ []) (at k (k == 0)) (j + 1) (suc n))) next
    ∙ ap (λ b. led value (run interp_step (λ j. x ∷ []) (at (suc s.sample) b) (j + 1) (suc n))) (not_zero s.sample)
    ∙ ap (led value) (interp_ramp t x (j + 1) n (omega (arith, e)))
    ∙ ap (λ k. (record { ksmps = s.ksmps; before = x; sample = 0 }, value ∷ ramp_of s.before x k s.ksmps (suc n)))
    (omega arith)

one_on : (lengths : List ℕ) (n k begin d : ℕ) → IsPlace lengths n k begin → d ≡ slice_index lengths k
    → n + 1 < begin + d → IsPlace lengths (n + 1) k begin
one_on lengths n k begin d p e room =
    let real = p.real in
    record {
      come = HasPassed-later lengths n (n + 1) k begin p.come (omega arith);
      real = real;
      inside = λ h. omega arith;
    }

-- the results of a linseg within one segment are a ramp
pub linseg_ramp : (at : ℕ → List ℤ) (s : LinsegState) (j n k begin d : ℕ) (here next : ℤ)
    → IsPlace s.lengths s.number k begin → k < length s.lengths → d ≡ slice_index s.lengths k →
    s.number + n ≤ begin + d → here ≡ argument s.values k → next ≡ argument s.values (k + 1)
    → s.number + n ≤ last_number → run linseg_step at s j n
    ≡ (linseg_at_step s (s.number + n), ramp_of here next (s.number - begin) d n)
linseg_ramp at s j zero k begin d here next p inside ed room eh en h =
    ap (λ m. (linseg_at_step s m, [])) (omega arith)
linseg_ramp at s j (suc zero) k begin d here next p inside ed room eh en h =
    let known : clamp (on_pieces s.values s.lengths s.number) ≡ clamp (part_way here next (s.number - begin) d) =
    sym (on_piece s.values s.lengths s.number k begin d here next p inside ed eh en) in
    ap (λ m. (linseg_at_step s m, clamp (on_pieces s.values s.lengths s.number) ∷ [])) (omega arith)
    ∙ ap (λ z. (linseg_at_step s (s.number + 1), z ∷ [])) known
linseg_ramp at s j (suc (suc n)) k begin d here next p inside ed room eh en h =
    let t : LinsegState = linseg_at_step s (s.number + 1) in
    let e : number_after (s.number + 1) ≡ s.number + 1 = omega arith in
    let value : ℤ = clamp (on_pieces s.values s.lengths s.number) in
    let come = p.come.come in
    let sum : (s.number + 1) + suc n ≡ s.number + suc (suc n) = omega arith in
    let known : value ≡ clamp (part_way here next (s.number - begin) d) =
    sym (on_piece s.values s.lengths s.number k begin d here next p inside ed eh en) in
    let on : (s.number + 1) - begin ≡ (s.number - begin) + 1 = omega arith in
    ap (λ m. led value (run linseg_step at (linseg_at_step s m) (j + 1) (suc n))) e
    ∙ ap (led value) (linseg_ramp at t (j + 1) (suc n) k begin d here next
    (one_on s.lengths s.number k begin d p ed (omega arith)) inside ed (omega arith) eh en (omega arith))
    ∙ ap (λ m. (linseg_at_step s m, value ∷ ramp_of here next ((s.number + 1) - begin) d (suc n))) sum
    ∙ ap (λ m. (linseg_at_step s (s.number + suc (suc n)), value ∷ ramp_of here next m d (suc n))) on ∙ ap (λ z. (
      linseg_at_step s (s.number + suc (suc n)),
      z ∷ ramp_of here next ((s.number - begin) + 1) d (suc n),
    )) known

-- the results after the last segment are the last value
pub linseg_holds : (at : ℕ → List ℤ) (s : LinsegState) (j n k begin : ℕ) (z : ℤ) → IsPlace s.lengths s.number k begin
    → length s.lengths ≤ k → z ≡ argument s.values k → s.number + n ≤ last_number →
    run linseg_step at s j n ≡ (linseg_at_step s (s.number + n), replicate n (clamp z))
linseg_holds at s j zero k begin z p over e h = ap (λ m. (linseg_at_step s m, [])) (omega arith)
linseg_holds at s j (suc n) k begin z p over e h =
    let t : LinsegState = linseg_at_step s (s.number + 1) in
    let after : number_after (s.number + 1) ≡ s.number + 1 = omega arith in
    let value : ℤ = clamp (on_pieces s.values s.lengths s.number) in
    let real = p.real in
    let later : IsPlace s.lengths (s.number + 1) k begin = record {
      come = HasPassed-later s.lengths s.number (s.number + 1) k begin p.come (omega arith);
      real = real;
      inside = λ l. absurd (omega arith);
    } in
    ap (λ m. led value (run linseg_step at (linseg_at_step s m) (j + 1) n)) after
    ∙ ap (led value) (linseg_holds at t (j + 1) n k begin z later over e (omega arith))
    ∙ ap (λ m. (linseg_at_step s m, value ∷ replicate n (clamp z))) (omega arith)
    ∙ ap (λ y. (linseg_at_step s (s.number + suc n), y ∷ replicate n (clamp z)))
    (sym (last_value s.values s.lengths s.number k begin z p over e))
