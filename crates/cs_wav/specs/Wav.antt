-- The sound file of a mix. `width` is always the width of its samples.
use Rattle.std.specs.Prelude.{◌≤ℤ◌, ℕ, suc, ◌+◌, ◌-◌, ◌*◌, ◌%◌, ◌^◌, ℤ, pos, negsuc, neg_ℤ, int_lt, ◌+ℤ◌, ◌*ℤ◌, Bool}
use Rattle.std.specs.Prelude.{◌||◌, List, [], ◌∷◌, ◌++◌, length, codes, replicate}
use Rattle.std.specs.{Int.int_max, Int.int_min, Int.int_div_euclid, Int.bytes_low_first, List.flat_map}
use Rattle.cs_base.specs.Widths.{bytes_of, greatest_of, least_of}
use Rattle.cs_base.specs.{declared.head.Head.Head, declared.width.SampleWidth.SampleWidth}

-- full scale: half of the number of values that the bytes of a sample can represent
abbrev pub full_scale : SampleWidth → ℤ
full_scale width = pos (2 ^ (8 * bytes_of width - 1))

-- the mix value in steps of a sample, rounded down, before clipping
abbrev pub level : SampleWidth → ℤ → ℤ → ℤ
level width dbfs mix = int_div_euclid (mix *ℤ full_scale width) dbfs

-- the sample: the level, clipped to the range of samples
abbrev pub sample : SampleWidth → ℤ → ℤ → ℤ
sample width dbfs mix = int_max (least_of width) (int_min (level width dbfs mix) (greatest_of width))

-- whether the level is outside the range of samples
abbrev pub is_out_of_range : SampleWidth → ℤ → ℤ → Bool
is_out_of_range width dbfs mix =
    int_lt (level width dbfs mix) (least_of width) || int_lt (greatest_of width) (level width dbfs mix)

-- the lowest `bytes` bytes of a number, the lowest first
abbrev pub little_bytes : ℕ → ℕ → List ℕ
little_bytes bytes number = bytes_low_first 0 bytes number

-- a signed number in the two's complement of `bytes` bytes
abbrev pub complement : ℕ → ℤ → ℕ
complement bytes (pos n) = n
complement bytes (negsuc n) = 2 ^ (8 * bytes) - suc n

-- the bytes of a sample in the file
abbrev pub sample_bytes : SampleWidth → ℤ → ℤ → List ℕ
sample_bytes width dbfs mix = little_bytes (bytes_of width) (complement (bytes_of width) (sample width dbfs mix))

-- the bytes of the samples of these mix values, in order
unfoldable pub samples_of : SampleWidth → ℤ → List ℤ → List ℕ
samples_of width dbfs mix = flat_map (sample_bytes width dbfs) mix

-- the size of the samples of `frames` frames, in bytes
abbrev pub size_of : SampleWidth → ℕ → Head → ℕ
size_of width frames head = frames * head.nchnls * bytes_of width

-- the length of a header in bytes
abbrev pub header_len : ℕ
header_len = 44

-- the first part of the header; its size field counts everything after the first eight bytes, including the
-- byte 0 after an odd number of sample bytes
abbrev pub riff_part : ℕ → List ℕ
riff_part size = codes "RIFF" ++ little_bytes 4 (header_len - 8 + size + size % 2) ++ codes "WAVE"

-- the format, in 16 bytes: PCM (1), channels, frames per second, bytes per second, bytes per frame, bits per
-- sample
abbrev pub format_part : SampleWidth → Head → List ℕ
format_part width head =
    codes "fmt " ++ little_bytes 4 16 ++ little_bytes 2 1 ++ little_bytes 2 head.nchnls
    ++ little_bytes 4 head.sr ++ little_bytes 4 (head.sr * head.nchnls * bytes_of width)
    ++ little_bytes 2 (head.nchnls * bytes_of width) ++ little_bytes 2 (8 * bytes_of width)

-- the start of the data part: the size of the samples
abbrev pub data_part : ℕ → List ℕ
data_part size = codes "data" ++ little_bytes 4 size

-- the header before samples of `size` bytes
unfoldable pub header_bytes : SampleWidth → ℕ → Head → List ℕ
header_bytes width size head = riff_part size ++ format_part width head ++ data_part size

-- the file of these mix values, frame by frame, with the channels of a frame in order; an odd number of
-- sample bytes is followed by one byte 0
unfoldable pub wav_of : List ℤ → Head → SampleWidth → List ℕ
wav_of mix head width =
    let size = length mix * bytes_of width in
    header_bytes width size head ++ samples_of width head.dbfs mix ++ replicate (size % 2) 0

-- the range of sums of notes to which any one number can be added
abbrev pub TakesMore : ℤ → Type 0
TakesMore z = (neg_ℤ (pos 71916856549572608) ≤ℤ z) × (z ≤ℤ pos 71916856549572608)

-- two lists of the same length, added value by value
abbrev pub added : List ℤ → List ℤ → List ℤ
added (x ∷ xs) (y ∷ ys) = (x +ℤ y) ∷ added xs ys
added xs ys = []
