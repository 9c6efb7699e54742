-- The bytes of a sample, and the positions at which they are written.
use Rattle.std.proofs.lemmas.{Grind.common_steps, Int.ints, List.Concat.flat_map-append}
use Rattle.std.proofs.Common.{◌≡◌, ◌≤◌, ◌<◌, ◌≤ℤ◌, ℕ, suc, ◌+◌, ◌-◌, ◌*◌, ◌^◌, ◌%◌, ℤ, pos, negsuc, List, ◌++◌}
use Rattle.std.proofs.Common.{length, take, drop, get_or, of_z, w64, refl, arith}
use Rattle.std.proofs.lemmas.List.{take_rest, take_more, length-take-le, length-drop, drop-drop, append-nil}
use Rattle.std.proofs.{Math.ListN.drop_of_length-le, Math.Nat.mul-le-mul_left}
use Rattle.std.proofs.Math.Seq.{take-append-add, take-append_seam}
use borrow.Rule.Slice.PartMut.{put_mid}
use Rattle.cs_base.specs.{Widths.bytes_of, Widths.greatest_of, Widths.least_of, declared.width.SampleWidth.SampleWidth}
use Rattle.cs_wav.specs.Wav.{complement, sample_bytes, samples_of}
use Rattle.cs_base.specs.declared.width.SampleWidth.TheVariants as width

-- writing some bytes from index `at` on
pub put_mid-front : (xs bs : List ℕ) (at n : ℕ) → at + n ≤ length xs
    → put_mid at (length xs - at) xs (bs ++ drop n (take (length xs - at) (drop at xs))) ≡ take at xs
    ++ (bs ++ drop (at + n) xs)
put_mid-front xs bs at n h =
    grind (arith, common_steps, append-nil, drop-drop, drop_of_length-le, length-drop, take_rest)

-- the range of samples is within the range of 24 bits
pub least_is : (w : SampleWidth) → negsuc 8388607 ≤ℤ least_of w
least_is width.TwoBytes = omega (arith, ints)
least_is width.ThreeBytes = omega (arith, ints)

pub greatest_is : (w : SampleWidth) → greatest_of w ≤ℤ pos 8388607
greatest_is width.TwoBytes = omega (arith, ints)
greatest_is width.ThreeBytes = omega (arith, ints)

pub range_is : (w : SampleWidth) → least_of w ≤ℤ greatest_of w
range_is width.TwoBytes = omega (arith, ints)
range_is width.ThreeBytes = omega (arith, ints)

-- the lowest bytes of a number in range are its two's complement
pub low_bytes_are : (w : SampleWidth) (z : ℤ) → least_of w ≤ℤ z → z ≤ℤ greatest_of w
    → of_z w64 z % 2 ^ (8 * bytes_of w) ≡ complement (bytes_of w) z
low_bytes_are width.TwoBytes (pos n) l g = let e : of_z w64 (pos n) ≡ n = refl in omega (arith, ints)
low_bytes_are width.TwoBytes (negsuc n) l g = let e : of_z w64 (negsuc n) ≡ 2 ^ 64 - suc n = refl in omega (arith, ints)
low_bytes_are width.ThreeBytes (pos n) l g = let e : of_z w64 (pos n) ≡ n = refl in omega (arith, ints)
low_bytes_are width.ThreeBytes (negsuc n) l g = let e : of_z w64 (negsuc n) ≡ 2 ^ 64 - suc n =
    refl in omega (arith, ints)

-- a sample has as many bytes as its width states
pub length-sample_bytes : (w : SampleWidth) (dbfs mix : ℤ) → length (sample_bytes w dbfs mix) ≡ bytes_of w
length-sample_bytes width.TwoBytes dbfs mix = refl
length-sample_bytes width.ThreeBytes dbfs mix = refl

-- one more sample
pub sound_more : (w : SampleWidth) (dbfs : ℤ) (mix : List ℤ) (i : ℕ) → i < length mix
    → samples_of w dbfs (take (i + 1) mix) ≡ samples_of w dbfs (take i mix)
    ++ sample_bytes w dbfs (get_or mix i (pos 0))
unfolding samples_of
sound_more w dbfs mix i h = grind (arith, common_steps, append-nil, flat_map-append, take_more)

-- a sample written after the samples so far
pub take-written : (w : SampleWidth) (dbfs : ℤ) (mix : List ℤ) (out now : List ℕ) (i : ℕ) → i < length mix
    → length out ≡ length mix * bytes_of w
    → take (i * bytes_of w) out ≡ samples_of w dbfs (take i mix)
    → now ≡ take (i * bytes_of w) out
    ++ (sample_bytes w dbfs (get_or mix i (pos 0)) ++ drop (i * bytes_of w + bytes_of w) out)
    → take ((i + 1) * bytes_of w) now ≡ samples_of w dbfs (take (i + 1) mix)
take-written w dbfs mix out now i h long before e =
    grind (
      arith,
      common_steps,
      length-sample_bytes,
      length-take-le,
      mul-le-mul_left,
      sound_more,
      take-append-add,
      take-append_seam,
    )
