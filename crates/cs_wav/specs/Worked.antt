-- Files and samples worked out by hand.
use Rattle.std.specs.Prelude.{ℕ, ◌≡◌, ◌*◌, ℤ, pos, List, [], ◌∷◌, ◌++◌, codes}
use Rattle.cs_base.specs.declared.head.Head.{Head}

-- the full scale 32,768, in 65,536ths
abbrev pub at_32768 : ℤ
at_32768 = pos (65536 * 32768)

-- one channel, at `sr` frames per second, with full scale 32,768
abbrev pub IsOneChannel : ℕ → Head → Type 0
IsOneChannel sr head = (head.sr ≡ sr) × (head.nchnls ≡ 1) × (head.dbfs ≡ at_32768)

-- the file of eight frames of 100, at 8 frames per second, in samples of 16 bits
abbrev pub eight_of_100 : List ℕ
eight_of_100 =
    codes "RIFF" ++ 52 ∷ 0 ∷ 0 ∷ 0 ∷ codes "WAVEfmt " ++ 16 ∷ 0 ∷ 0 ∷ 0 ∷ 1 ∷ 0 ∷ 1 ∷ 0 ∷ 8 ∷ 0 ∷ 0 ∷ 0 ∷ 16 ∷ 0 ∷ 0 ∷ 0
    ∷ 2 ∷ 0 ∷ 16 ∷ 0 ∷ codes "data" ++ 16 ∷ 0 ∷ 0 ∷ 0 ∷ 100 ∷ 0 ∷ 100 ∷ 0 ∷ 100 ∷ 0 ∷ 100 ∷ 0 ∷ 100 ∷ 0 ∷ 100 ∷ 0 ∷ 100
    ∷ 0 ∷ 100 ∷ 0 ∷ []
