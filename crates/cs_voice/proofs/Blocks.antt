-- The sums of voices, by indexes of a block and by frames and channels.
use Rattle.std.proofs.Common.{◌≡◌, ℕ, zero, suc, ℤ, pos, ◌+◌, ◌*◌, ◌/◌, ◌%◌, ◌<◌, ◌+ℤ◌, List, [], ◌∷◌, length, get_or}
use Rattle.std.proofs.Common.{nat_lt, refl, ap, sym, ◌∙◌, subst, arith, ltb-true, zero-add}
use Rattle.std.proofs.Math.Nat.{div-lt_iff_lt-mul, mod-lt}
use Rattle.std.proofs.lemmas.{Int.ints, List.get_or_past, List.Elements.All-head, List.Elements.All-tail}
use Rattle.std.proofs.lemmas.List.FromFn.{get_or-map-range_with_len, length-map-range_with_len}
use Rattle.std.proofs.lemmas.Nat.{div-add-mod', div-mul-add, mod-mul-add}
use Rattle.std.specs.List.{All}
use Rattle.cs_base.proofs.Tests.{by_test}
use Rattle.cs_machine.proofs.Frames.{at_or_past}
use Rattle.cs_machine.specs.Outputs.{outs}
use Rattle.cs_row.specs.Heard.{AreSumsOf, IsSumOf, sums}
use Rattle.cs_voice.proofs.Columns.{all_frames, within}
use Rattle.cs_voice.specs.{Mixing.gives, Mixing.mixed, Mixing.shape, Mixing.sum_at, VoiceData.VoiceData}
use Rattle.cs_row.specs.Heard as row

module _ (frames channels : ℕ) where
  -- the voice has these numbers of frames and channels
  abbrev pub Fits : VoiceData → Type 0
  Fits v = shape v ≡ (frames, channels)

  one_at : (v : VoiceData) (j d : ℕ) → Fits v → d < channels → gives v (j * channels + d) ≡ outs v.outs d j
  one_at v j d is low =
      let at : ℕ = j * channels + d in
      ap (λ (n : ℕ). outs v.outs (at % n) (at / n)) (ap (λ (s : ℕ × ℕ). s.1) is)
      ∙ ap (λ (k : ℕ). outs v.outs k (at / channels)) (mod-mul-add j channels d low)
      ∙ ap (λ (k : ℕ). outs v.outs d k) (div-mul-add j channels d low)

  all_at : (vs : List VoiceData) (j d : ℕ) → All Fits vs → d < channels
      → row.sum_at gives vs (j * channels + d) ≡ sum_at vs j d
  all_at [] j d all low = refl
  all_at (v ∷ vs) j d all low =
      ap (λ (z : ℤ). z +ℤ row.sum_at gives vs (j * channels + d)) (one_at v j d (All-head Fits v vs all) low)
      ∙ ap (λ (z : ℤ). outs v.outs d j +ℤ z) (all_at vs j d (All-tail Fits v vs all) low)

  pub sums_are_mixed : (vs : List VoiceData) → All Fits vs
      → sums gives (frames * channels) vs ≡ mixed frames channels vs
  sums_are_mixed vs all =
      all_frames channels (sum_at vs) frames (sums gives (frames * channels) vs)
      (length-map-range_with_len (row.sum_at gives vs) 0 (frames * channels))
      (λ j d low column.
      get_or-map-range_with_len (row.sum_at gives vs) 0 (frames * channels) (j * channels + d) (j * channels + d)
      (pos 0) (within channels frames j d low column) (zero-add (j * channels + d)) ∙ all_at vs j d all column)

  pub first_fits : (vs : List VoiceData) (v : VoiceData) → All Fits vs → 0 < length vs → v ≡ get_or vs 0 v → Fits v
  first_fits vs v all some is = subst Fits (sym is) (all 0 v some)

  -- the sums as the sum of a row
  pub heard_as : (vs : List VoiceData) (k n len : ℕ) (block : List ℤ) → All Fits vs → k ≡ frames → n ≡ channels
      → len ≡ frames * channels → block ≡ mixed k n vs → block ≡ sums gives len vs
  heard_as vs k n len block all ek en long is =
      is ∙ ap (λ (f : ℕ). mixed f n vs) ek ∙ ap (λ (c : ℕ). mixed frames c vs) en
      ∙ sym (sums_are_mixed vs all) ∙ ap (λ (m : ℕ). sums gives m vs) (sym long)

  -- an index of the block belongs to a frame and a channel
  small_at : (vs : List VoiceData) (m at : ℕ) → All Fits vs → at < frames * channels
      → ((j c : ℕ) → j < frames → c < channels → IsSumOf m (sum_at vs j c)) → IsSumOf m (row.sum_at gives vs at)
  small_at vs m at all low small =
      let some : 0 < channels = some_channel channels low in
      let d : ℕ = at % channels in
      let j : ℕ = at / channels in
      let column : d < channels = mod-lt at some in
      let in_rows : j < frames = (div-lt_iff_lt-mul some).1 low in
      subst (λ (k : ℕ). IsSumOf m (row.sum_at gives vs k)) (div-add-mod' at channels)
      (subst (IsSumOf m) (sym (all_at vs j d all column)) (small j d in_rows column))
    where
      some_channel : (c : ℕ) → at < frames * c → 0 < c
      some_channel zero l = absurd (let none : frames * 0 ≡ 0 = omega arith in omega (arith, l, none))
      some_channel (suc c) l = omega arith

  pub small_as : (vs : List VoiceData) (m len : ℕ) (block : List ℤ) → All Fits vs → len ≡ frames * channels
      → block ≡ sums gives len vs → ((j c : ℕ) → j < frames → c < channels → IsSumOf m (sum_at vs j c))
      → AreSumsOf m block
  small_as vs m len block all long is small at =
      subst (IsSumOf m) (sym (ap (λ (l : List ℤ). get_or l at (pos 0)) is)) (by_test (nat_lt at len)
      (λ yes. let low : at < len = ltb-true at len yes in
      subst (IsSumOf m) (sym (get_or-map-range_with_len (row.sum_at gives vs) 0 len at at (pos 0) low (zero-add at)))
      (small_at vs m at all (subst (λ (k : ℕ). at < k) long low) small))
      (λ no. subst (IsSumOf m) (sym (get_or_past (sums gives len vs) at (pos 0)
      (omega (arith, at_or_past at len no, length-map-range_with_len (row.sum_at gives vs) 0 len)))) (no_sum m)))
    where
      no_sum : (k : ℕ) → IsSumOf k (pos 0)
      no_sum k = record { low = omega (arith, ints); high = omega (arith, ints) }
