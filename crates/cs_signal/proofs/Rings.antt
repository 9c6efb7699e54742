-- A list in a ring: while it is filled, and after a new value replaced the oldest one.
use Rattle.std.proofs.Common.{◌≡◌, ℕ, zero, suc, ◌+◌, ◌-◌, ◌<◌, ◌≤◌, ◌⊎◌, inl, inr, List, [], ◌∷◌, ◌++◌, length, map}
use Rattle.std.proofs.Common.{take, drop, replicate, ℤ, pos, refl, ap, sym, ◌∙◌, subst, arith, append_assoc}
use Rattle.std.proofs.{Common.length-append, Common.length-drop, Math.ListN.drop_of_length-le}
use Rattle.std.specs.List.{range_with_len}
use Rattle.std.proofs.lemmas.List.{append-nil, drop-drop, drop_more, length-take-le, take_all, take-append-drop}
use Rattle.std.proofs.lemmas.List.FromFn.{length-map-range_with_len}
use Rattle.std.proofs.Math.Seq.{drop-append_seam, take-append_seam}
use Rattle.cs_signal.specs.{Delay.delay_step, Operands.argument, Operands.operand_at, Steps.run, Walk.HasRun}
use Rattle.cs_signal.specs.declared.operand.Operand.TheVariants.{Held}
use Rattle.cs_signal.specs.inner.Ring.{IsWrapped, in_order, line_in}
use Rattle.cs_signal.proofs.Walks.{HasRun_none, led}

-- if a line begins with `old` and there is one step for each of its values, these values are the results, and
-- the inputs are appended after the values that stay
leave : (x : ℕ → ℤ) (old stays : List ℤ) (j : ℕ) → run delay_step (λ j. x j ∷ []) (old ++ stays) j (length old)
    ≡ (stays ++ map x (range_with_len j (length old)), old)
leave x [] stays j = ap (λ l. (l, [])) (sym (append-nil stays))
leave x (o ∷ old) stays j =
    let next : List ℤ = stays ++ x j ∷ [] in
    let more : List ℤ = map x (range_with_len (j + 1) (length old)) in
    ap (λ l. led o (run delay_step (λ j. x j ∷ []) l (j + 1) (length old))) (append_assoc old stays (x j ∷ []))
    ∙ ap (led o) (leave x old next (j + 1)) ∙ ap (λ l. (l, o ∷ old)) (append_assoc stays (x j ∷ []) more)

-- the length of a list in which some items were replaced
pub spliced : (l new : List ℤ) (place count : ℕ) → place + count ≤ length l → length new ≡ count →
    length (take place l ++ (new ++ drop (place + count) l)) ≡ length l
spliced l new place count room long =
    let first : length (take place l) ≡ place = length-take-le place l (omega arith) in
    let left = length-drop (place + count) l in
    let more = length-append new (drop (place + count) l) in
    length-append (take place l) (new ++ drop (place + count) l) ∙ omega (arith, first, left, more, long)

-- a ring in order: `count` items from a place on, followed by all other items in order
parted : (ring : List ℤ) (place count : ℕ) → in_order ring place
    ≡ take count (drop place ring) ++ (drop (place + count) ring ++ take place ring)
parted ring place count =
    ap (λ l. l ++ take place ring) (sym (take-append-drop count (drop place ring))
    ∙ ap (λ l. take count (drop place ring) ++ l) (drop-drop count place ring))
    ∙ append_assoc (take count (drop place ring)) (drop (place + count) ring) (take place ring)

-- a ring in order, from the place after the values that were exchanged
exchanged_from : (ring new : List ℤ) (place count : ℕ) → place + count ≤ length ring → length new ≡ count →
    in_order (take place ring ++ (new ++ drop (place + count) ring)) (place + count)
    ≡ (drop (place + count) ring ++ take place ring) ++ new
exchanged_from ring new place count room long =
    let before : List ℤ = take place ring in
    let behind : List ℤ = drop (place + count) ring in
    let first : length before ≡ place = length-take-le place ring (omega arith) in
    let size : length (before ++ new) ≡ place + count = length-append before new ∙ omega (arith, first, long) in
    ap (λ l. in_order l (place + count)) (sym (append_assoc before new behind))
    ∙ ap (λ l. l ++ take (place + count) ((before ++ new) ++ behind))
    (ap (λ n. drop n ((before ++ new) ++ behind)) (sym size) ∙ drop-append_seam (before ++ new) behind)
    ∙ ap (λ l. behind ++ l) (ap (λ n. take n ((before ++ new) ++ behind)) (sym size)
    ∙ take-append_seam (before ++ new) behind) ∙ sym (append_assoc behind before new)

-- `count` steps of a delay in a ring
pub passed : (x : ℕ → ℤ) (ring : List ℤ) (place count j : ℕ) → place + count ≤ length ring →
    run delay_step (λ j. x j ∷ []) (in_order ring place) j count ≡ (
      in_order (take place ring ++ (map x (range_with_len j count) ++ drop (place + count) ring)) (place + count),
      take count (drop place ring),
    )
passed x ring place count j room =
    let old : List ℤ = take count (drop place ring) in
    let stays : List ℤ = drop (place + count) ring ++ take place ring in
    let rest = length-drop place ring in
    let long : length old ≡ count = length-take-le count (drop place ring) (omega (arith, rest)) in
    let new : length (map x (range_with_len j count)) ≡ count = length-map-range_with_len x j count in
    ap (λ l. run delay_step (λ j. x j ∷ []) l j count) (parted ring place count)
    ∙ ap (λ n. run delay_step (λ j. x j ∷ []) (old ++ stays) j n) (sym long) ∙ leave x old stays j
    ∙ ap (λ n. (stays ++ map x (range_with_len j n), old)) long
    ∙ ap (λ l. (l, old)) (sym (exchanged_from ring (map x (range_with_len j count)) place count room new))

-- after its last place a ring begins again
pub wraps : (ring : List ℤ) (place next : ℕ) → IsWrapped place (length ring) next
    → in_order ring place ≡ in_order ring next
wraps ring place next (inl h) = ap (in_order ring) (sym h.1)
wraps ring place next (inr h) =
    ap (in_order ring) h.0 ∙ ap (λ l. l ++ take (length ring) ring) (drop_of_length-le ring (omega arith))
    ∙ take_all (length ring) ring (omega arith) ∙ sym (append-nil ring) ∙ ap (in_order ring) (sym h.1)

pub inside_ring : (place len next : ℕ) → place ≤ len → 0 < len → IsWrapped place len next → next < len
inside_ring place len next h some (inl n) = let off = n.0 in omega (arith, n.1, off, h)
inside_ring place len next h some (inr n) = omega (arith, n.1, some)

-- the values of a held operand at the frames of a run
pub held_run : (value : ℤ) (from count : ℕ)
    → replicate count value ≡ map (operand_at (Held value)) (range_with_len from count)
held_run value from zero = refl
held_run value from (suc count) = ap (λ l. value ∷ l) (held_run value (from + 1) count)

pub row_run : (values : List ℤ) (from count : ℕ) → from + count ≤ length values
    → take count (drop from values) ≡ map (argument values) (range_with_len from count)
row_run values from zero h = refl
row_run values from (suc count) h =
    ap (take (suc count)) (drop_more values from (pos 0) (omega arith))
    ∙ ap (λ l. argument values from ∷ l) (row_run values (from + 1) count (omega arith))

-- a vector of which all items were written
pub written : (n : ℕ) (new old : List ℤ) → length new ≡ n → length old ≡ n → take n (new ++ drop (length new) old) ≡ new
written n new old e f =
    let none : drop (length new) old ≡ [] = drop_of_length-le old (omega (arith, e, f)) in
    ap (λ l. take n (new ++ l)) none ∙ ap (take n) (append-nil new) ∙ take_all n new (omega (arith, e))

-- a ring in which nothing is stored yet, and a ring that is full
pub none_yet : (count : ℕ) → line_in count [] 0 ≡ replicate count (pos 0)
none_yet count =
    let e : count - 0 ≡ count = omega arith in
    ap (λ k. replicate k (pos 0) ++ []) e ∙ append-nil (replicate count (pos 0))

pub full_line : (count : ℕ) (ring : List ℤ) (oldest : ℕ) → count ≤ length ring
    → line_in count ring oldest ≡ in_order ring oldest
full_line count ring oldest h =
    let e : count - length ring ≡ 0 = omega arith in
    ap (λ k. replicate k (pos 0) ++ in_order ring oldest) e

-- a step of a delay whose ring is being filled
pub fills : (count : ℕ) (ring : List ℤ) (x : ℤ) → length ring < count →
    (line_in count (ring ++ x ∷ []) 0, pos 0) ≡ delay_step (line_in count ring 0) (x ∷ [])
fills count ring x h =
    let k : ℕ = count - length (ring ++ x ∷ []) in
    let z : List ℤ = replicate k (pos 0) in
    let long = length-append ring (x ∷ []) in
    let e : count - length ring ≡ suc k = omega (arith, long) in
    let more : z ++ ((ring ++ x ∷ []) ++ []) ≡ (z ++ (ring ++ [])) ++ x ∷ [] =
    ap (λ l. z ++ l) (append-nil (ring ++ x ∷ [])) ∙ sym (append_assoc z ring (x ∷ []))
    ∙ ap (λ l. (z ++ l) ++ x ∷ []) (sym (append-nil ring)) in
    ap (λ l. (l, pos 0)) more ∙ ap (λ n. delay_step (replicate n (pos 0) ++ (ring ++ [])) (x ∷ [])) (sym e)

-- all steps of a block during which the ring becomes full
pub goes_round : (at : ℕ → List ℤ) (count oldest filled n next : ℕ) (ring full turned out out' : List ℤ) →
    oldest ≡ 0 → count ≤ length full → length turned ≡ length full →
    HasRun delay_step at (line_in count ring 0) n filled (line_in count full 0) out →
    ((first : List ℤ) → HasRun delay_step at first (length out) filled (in_order full 0) out
    → (in_order turned next, out') ≡ run delay_step at first 0 (length out)) →
    (line_in count turned next, out') ≡ run delay_step at (line_in count ring oldest) 0 n
goes_round at count oldest filled n next ring full turned out out' e long same done later =
    let on : (first : List ℤ) → HasRun delay_step at first n filled (in_order full 0) out
    → (in_order turned next, out') ≡ run delay_step at first 0 n =
    subst (λ m. (first : List ℤ) → HasRun delay_step at first m filled (in_order full 0) out
    → (in_order turned next, out') ≡ run delay_step at first 0 m) done.long later in
    ap (λ l. (l, out')) (full_line count turned next (omega (arith, long, same))) ∙ on (line_in count ring 0)
    (subst (λ l. HasRun delay_step at (line_in count ring 0) n filled l out) (full_line count full 0 long) done)
    ∙ ap (λ o. run delay_step at (line_in count ring o) 0 n) (sym e)

-- all steps of a block that begins with a full ring
pub round : (at : ℕ → List ℤ) (count oldest n next : ℕ) (full turned out out' : List ℤ) →
    length out ≡ n → count ≤ length full → length turned ≡ length full →
    ((first : List ℤ) → HasRun delay_step at first n 0 (in_order full oldest) out
    → (in_order turned next, out') ≡ run delay_step at first 0 n) →
    (line_in count turned next, out') ≡ run delay_step at (line_in count full oldest) 0 n
round at count oldest n next full turned out out' size long same later =
    let first : List ℤ = line_in count full oldest in
    ap (λ l. (l, out')) (full_line count turned next (omega (arith, long, same)))
    ∙ later first (subst (λ l. HasRun delay_step at first n 0 l out) (full_line count full oldest long)
    (HasRun_none delay_step at first n out size))

-- a ring that isn't full is being filled from its first place on
pub being_filled : (count len memory oldest : ℕ) → (count ≤ len) ⊎ ((oldest ≡ 0) × (count ≤ memory)) → len < count →
    (oldest ≡ 0) × (count ≤ memory)
being_filled count len memory oldest (inl h) below = absurd (omega (arith, h, below))
being_filled count len memory oldest (inr h) below = h
