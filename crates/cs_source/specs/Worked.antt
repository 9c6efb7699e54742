-- Sound files worked out by hand from docs/MEANING.md: one channel with eight frames a second, two frames of
-- 100. And a file with both texts.
use Rattle.std.specs.Prelude.{ℕ, List, [], ◌∷◌, ◌++◌, codes}

-- samples of 16 bits: after the header of 44 bytes come the two bytes of each sample, the lower one first
abbrev pub narrow_file : List ℕ
narrow_file =
    codes "RIFF" ++ 40 ∷ 0 ∷ 0 ∷ 0 ∷ codes "WAVEfmt " ++ 16 ∷ 0 ∷ 0 ∷ 0 ∷ 1 ∷ 0 ∷ 1 ∷ 0 ∷ 8 ∷ 0 ∷ 0 ∷ 0 ∷ 16 ∷ 0 ∷ 0 ∷ 0
    ∷ 2 ∷ 0 ∷ 16 ∷ 0 ∷ codes "data" ++ 4 ∷ 0 ∷ 0 ∷ 0 ∷ 100 ∷ 0 ∷ 100 ∷ 0 ∷ []

-- samples of 24 bits: each is 256 times as large, in three bytes
abbrev pub wide_file : List ℕ
wide_file =
    codes "RIFF" ++ 42 ∷ 0 ∷ 0 ∷ 0 ∷ codes "WAVEfmt " ++ 16 ∷ 0 ∷ 0 ∷ 0 ∷ 1 ∷ 0 ∷ 1 ∷ 0 ∷ 8 ∷ 0 ∷ 0 ∷ 0 ∷ 24 ∷ 0 ∷ 0 ∷ 0
    ∷ 3 ∷ 0 ∷ 24 ∷ 0 ∷ codes "data" ++ 6 ∷ 0 ∷ 0 ∷ 0 ∷ 0 ∷ 100 ∷ 0 ∷ 0 ∷ 100 ∷ 0 ∷ []

-- a file with `<CsInstruments>` in line 3, and with a byte in the next line that begins no token
abbrev pub fault_in_line_4 : List ℕ
fault_in_line_4 = codes "; one\n<CsoundSynthesizer>\n<CsInstruments>\n@\n</CsInstruments>\n</CsoundSynthesizer>\n"
