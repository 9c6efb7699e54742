-- The file of a mix, for the layers that write it piece by piece.
use Rattle.std.proofs.lemmas.List.Concat.{flat_map-append}
use Rattle.std.proofs.Common.{◌≡◌, ℤ, List, [], ◌++◌, refl}
use Rattle.cs_base.specs.declared.width.SampleWidth.{SampleWidth}
use Rattle.cs_wav.specs.Wav.{sample_bytes, samples_of}

-- without mix values there are no samples
pub samples_of-nil : (w : SampleWidth) (dbfs : ℤ) → samples_of w dbfs [] ≡ []
unfolding samples_of
samples_of-nil w dbfs = refl

-- the samples of two parts of the mix, one after the other
pub samples_of-append : (w : SampleWidth) (dbfs : ℤ) (xs ys : List ℤ)
    → samples_of w dbfs (xs ++ ys) ≡ samples_of w dbfs xs ++ samples_of w dbfs ys
unfolding samples_of
samples_of-append w dbfs xs ys = flat_map-append (sample_bytes w dbfs) xs ys
