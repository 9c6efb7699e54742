-- The sound of a performance.
use Rattle.std.specs.Prelude.{ℕ, ℤ, List, length, map, sum}
use Rattle.std.specs.List.{flat_map, range_with_len}
use Rattle.cs_base.specs.Numbers.{total}
use Rattle.cs_piece_meaning.specs.{Moments.Composition, Moments.Active, Course.played_in}

-- the sum of all notes' output to a channel at a frame, which isn't clamped
abbrev pub sum_at : List Active → ℕ → ℕ → ℤ
sum_at notes frame channel = total (map (λ a. a.note.world.outs channel frame) notes)

-- the frames of a cycle, each with its channels in order
abbrev pub mix_in : Composition → ℕ → List ℤ
mix_in c n = flat_map (λ frame. map (sum_at (played_in c n) frame) (range_with_len 0 c.head.nchnls))
    (range_with_len 0 c.head.ksmps)

-- the frames of the first n cycles
abbrev pub frames_before : Composition → ℕ → List ℤ
frames_before c n = flat_map (mix_in c) (range_with_len 0 n)

-- the frames of the complete performance
abbrev pub frames_of : Composition → List ℤ
frames_of c = frames_before c c.cycles

-- the number of notes that are performed in the first n cycles; each note is counted once for each of its
-- cycles
abbrev pub notes_before : Composition → ℕ → ℕ
notes_before c n = sum (map (λ k. length (played_in c k)) (range_with_len 0 n))
