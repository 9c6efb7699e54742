use Rattle.std.specs.Prelude.{ℕ, ℤ, List, length, take}
use Rattle.cs_edge.specs.declared.fakes.mirror.MirrorTap.{MirrorTap}

-- the number of values that a mirror has room for
abbrev pub room_of : MirrorTap → ℕ
room_of t = length t.block.items

-- the values that a mirror has stored
abbrev pub kept_of : MirrorTap → List ℤ
kept_of t = take t.used t.block.items

-- the number of values that a mirror has taken
abbrev pub count_of : MirrorTap → ℕ
count_of t = t.count
