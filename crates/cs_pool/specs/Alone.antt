-- Which cycles of a performance the caller runs without helpers.
use Rattle.std.specs.Prelude.{ℕ, ◌^◌, min}

-- the highest number of them in succession
abbrev pub most_alone : ℕ
most_alone = 128

-- the number of values that the notes of a cycle must produce for it to be offered, once a cycle was shared
abbrev pub few_values : ℕ
few_values = 512

-- how many of them follow a cycle that was offered and that no helper began, by the number of such cycles in
-- succession before it: 1, 2, 4 .. 128
abbrev pub alone_after : ℕ → ℕ
alone_after misses = min (2 ^ misses) most_alone
