-- Sums of voices, one voice after another.
use Rattle.std.proofs.Common.{◌≡◌, ℕ, zero, suc, ℤ, pos, ◌+◌, ◌<◌, ◌+ℤ◌, List, [], ◌∷◌, ◌++◌, length, get_or, take}
use Rattle.std.proofs.Common.{nat_lt, refl, sym, ◌∙◌, ap, subst, arith, ltb-true}
use Rattle.std.proofs.Math.IntN.{+ℤ_assoc, +ℤ_idl, +ℤ_idr}
use Rattle.std.proofs.lemmas.{Int.ints, List.get_or_past, List.take_more}
use Rattle.cs_base.proofs.Tests.{by_test}
use Rattle.cs_base.specs.{Limits.most_notes, Numbers.IsRaw}
use Rattle.cs_machine.specs.Outputs.{outs}
use Rattle.cs_machine.proofs.Frames.{at_or_past}
use Rattle.cs_wav.specs.Wav.{TakesMore, added}
use Rattle.cs_voice.specs.{VoiceData.VoiceData, Mixing.sum_at}
use Rattle.cs_row.specs.Heard.{IsSumOf}

-- one more voice
pub sum_more : (voices : List VoiceData) (v : VoiceData) (frame channel : ℕ)
    → sum_at (voices ++ v ∷ []) frame channel ≡ sum_at voices frame channel +ℤ outs v.outs channel frame
sum_more [] v frame channel = +ℤ_idr (outs v.outs channel frame) ∙ sym (+ℤ_idl (outs v.outs channel frame))
sum_more (x ∷ voices) v frame channel =
    let here : ℤ = outs x.outs channel frame in
    ap (λ z. here +ℤ z) (sum_more voices v frame channel)
    ∙ sym (+ℤ_assoc here (sum_at voices frame channel) (outs v.outs channel frame))

pub one_more : (n : ℕ) (x z : ℤ) → IsSumOf n x → IsRaw z → IsSumOf (n + 1) (x +ℤ z)
one_more n x z s r = record { low = omega (arith, ints, s.low, r.0); high = omega (arith, ints, s.high, r.1) }

-- A sum of fewer voices than the highest number of notes has room for one more.
pub room_for_more : (n : ℕ) (xs : List ℤ) → n < most_notes → ((j : ℕ) → j < length xs → IsSumOf n (get_or xs j (pos 0)))
    → (j : ℕ) → TakesMore (get_or xs j (pos 0))
room_for_more n xs few sums j = by_test (nat_lt j (length xs))
    (λ yes. let s = sums j (ltb-true j (length xs) yes) in
    (omega (arith, ints, few, s.low), omega (arith, ints, few, s.high)))
    (λ no. subst TakesMore (sym (get_or_past xs j (pos 0) (at_or_past j (length xs) no))) nothing_taken)
  where
    nothing_taken : TakesMore (pos 0)
    nothing_taken = (omega (arith, ints), omega (arith, ints))

-- what was added, index by index
pub added_at : (xs ys : List ℤ) (j : ℕ) → length ys ≡ length xs
    → get_or (added xs ys) j (pos 0) ≡ get_or xs j (pos 0) +ℤ get_or ys j (pos 0)
added_at [] [] j long = sym (+ℤ_idl (pos 0))
added_at (x ∷ xs) (y ∷ ys) zero long = refl
added_at (x ∷ xs) (y ∷ ys) (suc j) long = added_at xs ys j (omega (arith, long))
added_at xs ys j long = absurd (omega (arith, long))

pub added_long : (xs ys : List ℤ) → length ys ≡ length xs → length (added xs ys) ≡ length xs
added_long [] [] long = refl
added_long (x ∷ xs) (y ∷ ys) long = let e : length (added xs ys) ≡ length xs =
    added_long xs ys (omega (arith, long)) in ap suc e
added_long xs ys long = absurd (omega (arith, long))

pub nothing_raw : IsRaw (pos 0)
nothing_raw = (omega (arith, ints), omega (arith, ints))

-- the voices so far, and one more
pub sum_so_far : (voices : List VoiceData) (k : ℕ) (v : VoiceData) (frame channel : ℕ) → k < length voices
    → v ≡ get_or voices k v
    → sum_at (take (k + 1) voices) frame channel ≡ sum_at (take k voices) frame channel +ℤ outs v.outs channel frame
sum_so_far voices k v frame channel low is =
    ap (λ l. sum_at l frame channel) (take_more voices k v low ∙ ap (λ x. take k voices ++ x ∷ []) (sym is))
    ∙ sum_more (take k voices) v frame channel
